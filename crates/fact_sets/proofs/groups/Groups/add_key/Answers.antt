use Rattle.std.proofs.Common.{◌≡◌, OnOk, Contains, subst, sym}
use Rattle.fact_sets.specs.Groups.{AddsUnder}
use Rattle.fact_sets.proofs.GroupLemmas.{first_kept_is, first_under_is}
use Rattle.fact_sets.proofs.groups.Groups.add_key.Goals as goal
use Rattle.fact_sets.proofs.groups.Groups.add_key.Goals.{in-Ok, in-Err}

pub invariant_of-self-in-Ok : goal.invariant_of-self-in-Ok
invariant_of-self-in-Ok g c =
    let same : (c.self.inside.keys, c.self.inside.lists.items) ≡ c.args.self.now = cc in
    first_kept_is c.self.inside.keys c.push_new.new.self c.self.inside.lists.items c.push.new.self.items c.in_ok-first.first c.args.key c.args.item
    c.in_ok-push_new.ensures.ok c.in-Ok.ensures.items c.in_ok-first.ensures
    (λ there. c.requires (subst (λ p. Contains p.0 c.args.key) same there)) c.self.invariant

pub returns-clause-ok : goal.returns-clause-ok
returns-clause-ok g c =
    let same : (c.self.inside.keys, c.self.inside.lists.items) ≡ c.args.self.now = cc in
    elim c.match-push.branch [
      | in-Ok w ↦ subst (λ r. OnOk r (AddsUnder c.args.self.now c.match-push.self c.args.key c.args.item)) (sym w.result-is)
          (first_under_is c.args.self.now c.match-push.self c.self.inside.keys c.push_new.new.self c.self.inside.lists.items c.push.new.self.items c.in_ok-first.first c.args.key c.args.item
          same (sym w.self-is) c.in_ok-push_new.ensures.ok w.in-Ok.ensures.items c.in_ok-first.ensures c.self.invariant)
      | in-Err w ↦ subst (λ r. OnOk r (AddsUnder c.args.self.now c.match-push.self c.args.key c.args.item)) (sym w.result-is) tt
    ]
