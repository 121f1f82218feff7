use Rattle.std.proofs.lemmas.Result.{on_ok_weaker}
use Rattle.dep_nodes.specs.declared.kinds.EdgeKind.TheVariants.{Heap}
use Rattle.heap_deps.specs.Items.{edge}
use Rattle.heap_deps.proofs.ItemLemmas.{edge_grows, one_more_or_stops}
use Rattle.heap_deps.proofs.additions.add_heap_edge.Goals as goal

pub returns : goal.returns
returns c =
    let old = c.args.graph.now in
    let new = c.add_edge.new.self in
    one_more_or_stops c.add_edge.result old new (edge c.args.from Heap c.args.to) (on_ok_weaker c.add_edge.result (edge_grows old new c.args.from Heap c.args.to) c.add_edge.ensures.ok) c.add_edge.ensures.err c.add_edge.ensures.limit
