use Rattle.std.proofs.Common.{◌≡◌, List, get_or, take, sym, subst, arith}
use Rattle.std.proofs.lemmas.List.{take_more, take_all}
use Rattle.dep_nodes.specs.declared.kinds.NodeKind.{NodeKind}
use Rattle.dep_nodes.specs.declared.kinds.NodeKind.TheVariants.{Entry}
use Rattle.flow_graph.specs.Exploring.{AddsAll}
use Rattle.flow_graph.proofs.ExploreLemmas.{adds_next}
use Rattle.flow_graph.proofs.exploring.add_all.Goals as goal

pub loop-kind-preserved : goal.loop-kind-preserved
loop-kind-preserved c =
    let kinds = c.args.kinds.now in
    let i = c.loop-kind.kind-index in
    let kind : NodeKind = get_or kinds i Entry in
    subst (λ (ks : List NodeKind). AddsAll ks c.args.nodes.now c.add_node.new.nodes) (sym (take_more kinds i Entry c.loop-kind-test.true))
    (adds_next (take i kinds) c.args.nodes.now c.loop-kind.nodes c.add_node.new.nodes kind c.loop-kind.invariant c.in_ok-add_node.ensures)

pub returns : goal.returns
returns c = subst (λ (ks : List NodeKind). AddsAll ks c.args.nodes.now c.loop-kind.nodes) (take_all c.loop-kind.kind-index c.args.kinds.now (omega (arith, c.loop-kind-test.false))) c.loop-kind.invariant
