use Rattle.std.proofs.Common.{[], List, ℕ, get_or, sym, subst, arith}
use Rattle.std.proofs.lemmas.List.{take_all}
use Rattle.dependence.specs.Listed.{AddsExactly}
use Rattle.flow_graph.proofs.AddingLemmas.{same_item}
use Rattle.instance_flows.proofs.KeepLemmas.{AllowedAmong, edges_are, allowed_none, allowed_more, allowed_all}
use Rattle.instance_flows.proofs.keeping.kept_ends.Goals as goal

pub loop-end-init : goal.loop-end-init
loop-end-init c = subst (λ (ends : List ℕ). AddsExactly (AllowedAmong c.args.wide.now c.args.keeps.now []) [] ends) (sym c.new-ends.ensures) (allowed_none c.args.wide.now c.args.keeps.now)

pub add_if_allowed-requires : goal.add_if_allowed-requires
add_if_allowed-requires c = c.successors-successors.ensures.inside c.loop-end.end-index 0 c.loop-end-test.true

pub loop-end-preserved : goal.loop-end-preserved
loop-end-preserved c =
    let ends = c.successors-successors.result.now in
    let i = c.loop-end.end-index in
    allowed_more c.args.wide.now c.args.keeps.now ends i (get_or ends i 0) c.loop-end.ends c.add_if_allowed.new.ends c.successors-successors.ensures.once c.loop-end-test.true (same_item ends i 0 c.loop-end-test.true)
    c.loop-end.invariant c.in_ok-add_if_allowed.ensures

pub returns : goal.returns
returns c =
    let ends = c.successors-successors.result.now in
    allowed_all c.args.wide.now c.args.keeps.now c.args.n ends c.loop-end.ends (edges_are c.args.wide.now c.args.n ends c.successors-successors.ensures.successors)
    (subst (λ (xs : List ℕ). AddsExactly (AllowedAmong c.args.wide.now c.args.keeps.now xs) [] c.loop-end.ends) (take_all c.loop-end.end-index ends (omega (arith, c.loop-end-test.false))) c.loop-end.invariant)
