use Rattle.std.specs.Prelude.{◌↔◌}
use Rattle.std.proofs.Common.{◌≡◌, true, IsTrue, sym, ◌∙◌, ap, subst}
use Rattle.std.proofs.lemmas.Option.{same_Some}
use Rattle.jo_prog.specs.TypingPaths.{HasHeightAt}
use Rattle.jo_prog.specs.declared.sites.Cause.TheVariants.{ZeroDivisor, NegativeLength}
use Rattle.jo_prog.specs.Sites.{may_raise}
use Rattle.dependence.specs.MayBeNull.{constant_at}
use Rattle.dependence.specs.FlowGraph.{IsUnlike, is_not_zero, is_not_negative}
use Rattle.instance_flows.proofs.NullLemmas.{kind_says}
use Rattle.instance_flows.proofs.UseLemmas.{constant_is, operand_zero, operand_rest}
use Rattle.instance_flows.proofs.raising.operand_raises.Goals as goal

pub returns-then-zero_raises : goal.returns-then-zero_raises
returns-then-zero_raises c = λ d at.
    let program = c.args.program.now in
    let m = c.args.method in
    let from = c.args.u.now.from in
    let node = c.node.result.now in
    let kind = same_Some node.kind d (sym (kind_says c.args.wide.now from node c.node.ensures) ∙ at) in
    let same : c.constant_at-constant.result ≡ constant_at program m d =
    c.constant_at-constant.ensures ∙ constant_is program m (HasHeightAt program m) c.args.wide.now c.requires.graph from node c.node.ensures ∙ ap (constant_at program m) kind
    in
    operand_zero program (HasHeightAt program m) m c.args.op d c.args.u.now.place c.zero_raises.result c.if-zero_raises.true
    (subst (λ k. IsTrue c.zero_raises.result ↔ ((may_raise ZeroDivisor c.args.op ≡ true) × IsUnlike k is_not_zero)) same c.zero_raises.ensures)

pub returns : goal.returns
returns c = λ d at.
    let program = c.args.program.now in
    let m = c.args.method in
    let from = c.args.u.now.from in
    let node = c.node.result.now in
    let kind = same_Some node.kind d (sym (kind_says c.args.wide.now from node c.node.ensures) ∙ at) in
    let same : c.constant_at-constant.result ≡ constant_at program m d =
    c.constant_at-constant.ensures ∙ constant_is program m (HasHeightAt program m) c.args.wide.now c.requires.graph from node c.node.ensures ∙ ap (constant_at program m) kind
    in
    operand_rest program (HasHeightAt program m) m c.args.op d c.args.u.now.place c.null_raises.result c.zero_raises.result c.negative_raises.result c.if-null_raises.false (c.null_raises.ensures d at) c.if-zero_raises.false
    (subst (λ k. IsTrue c.zero_raises.result ↔ ((may_raise ZeroDivisor c.args.op ≡ true) × IsUnlike k is_not_zero)) same c.zero_raises.ensures)
    (subst (λ k. IsTrue c.negative_raises.result ↔ ((may_raise NegativeLength c.args.op ≡ true) × IsUnlike k is_not_negative)) same c.negative_raises.ensures)
