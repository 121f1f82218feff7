use Rattle.std.proofs.Common.{◌≡◌, ◌≤◌, ◌+◌, ◌∙◌, true, false, length, sym, subst, rules, arith}
use Rattle.std.specs.List.{AllWithin}
use Rattle.jo_prog.specs.SiteOrder.{is_before}
use Rattle.jo_prog.proofs.SiteLemmas.{begins_there, ends_there}
use Rattle.jo_prog.proofs.sites.site_of.Goals as goal

pub loop-number-init : goal.loop-number-init
loop-number-init c =
    let same : c.from.result ≡ c.args.pc = search rules in
    begins_there c.args.sites.now c.args.method c.args.pc c.args.raised c.count_before-first.result c.count_before-first.ensures.bound
    (subst (λ p. AllWithin (λ site. is_before c.args.method p site ≡ true) c.args.sites.now 0 c.count_before-first.result) same c.count_before-first.ensures.point.0)

pub returns : goal.returns
returns c =
    let same : c.from-2.result ≡ c.args.pc = search rules in
    let past : c.count_before-end.result ≤ c.loop-number.number = omega (arith, c.loop-number-test.false) in
    sym (ends_there c.args.sites.now c.args.method c.args.pc c.args.raised c.count_before-end.result c.loop-number.number past
    (subst (λ p. AllWithin (λ site. is_before c.args.method (p + 1) site ≡ false) c.args.sites.now c.count_before-end.result (length c.args.sites.now)) same c.count_before-end.ensures.point.1))
    ∙ c.loop-number.invariant
