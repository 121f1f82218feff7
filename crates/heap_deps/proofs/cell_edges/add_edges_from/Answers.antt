use Rattle.std.proofs.Common.{Contains, sym, subst, arith}
use Rattle.std.proofs.lemmas.List.Elements.{Contains-get_or}
use Rattle.heap_deps.specs.CellEdges.{heap_to}
use Rattle.heap_deps.proofs.GrowLemmas.{same_count, over_item}
use Rattle.heap_deps.proofs.cell_edges.add_edges_from.Goals as goal

pub add_heap_edge-requires-clause-begins : goal.add_heap_edge-requires-clause-begins
add_heap_edge-requires-clause-begins c =
    let among : Contains c.args.readers.now c.to-item.result = subst (Contains c.args.readers.now) (sym c.to-item.is) (Contains-get_or c.args.readers.now c.loop-to.to-index c.to-item.result c.loop-to-test.true) in
    omega (arith, (c.requires c.to-item.result among).0, same_count c.args.graph.now c.loop-to.graph c.loop-to.invariant.frames)

pub add_heap_edge-requires-clause-ends : goal.add_heap_edge-requires-clause-ends
add_heap_edge-requires-clause-ends c =
    let among : Contains c.args.readers.now c.to-item.result = subst (Contains c.args.readers.now) (sym c.to-item.is) (Contains-get_or c.args.readers.now c.loop-to.to-index c.to-item.result c.loop-to-test.true) in
    omega (arith, (c.requires c.to-item.result among).1, same_count c.args.graph.now c.loop-to.graph c.loop-to.invariant.frames)

pub loop-to-preserved : goal.loop-to-preserved
loop-to-preserved c =
    over_item c.args.readers.now (heap_to c.args.from) c.args.graph.now c.loop-to.graph c.add_heap_edge.new.graph c.loop-to.to-index c.to-item.result c.loop-to-test.true c.to-item.is c.loop-to.invariant c.in_ok-add_heap_edge.ensures
