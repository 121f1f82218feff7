use Rattle.std.proofs.Common.{rules, ◌≡◌, List, get_or, subst, arith}
use Rattle.std.proofs.lemmas.List.{take_all}
use Rattle.dep_nodes.specs.declared.kinds.NodeKind.{NodeKind}
use Rattle.dep_nodes.specs.declared.kinds.NodeKind.TheVariants.{Entry}
use Rattle.flow_graph.specs.Adding.{HasThose}
use Rattle.flow_graph.specs.Rows.{AddsNumber, IsNumberAmong}
use Rattle.flow_graph.proofs.AddingLemmas.{same_item}
use Rattle.flow_graph.proofs.NumberLemmas.{number_step}
use Rattle.flow_graph.proofs.wide.numbers_as_they_come.Goals as goal

pub loop-kind-preserved : goal.loop-kind-preserved
loop-kind-preserved c =
    let kinds = c.args.kinds.now in
    let i = c.loop-kind.kind-index in
    let kind : NodeKind = get_or kinds i Entry in
    number_step c.args.nodes.now kinds i kind c.loop-kind.numbers.items c.add_number.new.numbers.items c.requires.nodes c.loop-kind-test.true (same_item kinds i Entry c.loop-kind-test.true) c.in_ok-add_number.ensures c.loop-kind.invariant

pub returns : goal.returns
returns c =
    subst (λ (ks : List NodeKind). HasThose (IsNumberAmong c.args.nodes.now ks) c.loop-kind.numbers.items) (take_all c.loop-kind.kind-index c.args.kinds.now (omega (arith, c.loop-kind-test.false))) c.loop-kind.invariant
