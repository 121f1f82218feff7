use Rattle.std.proofs.Common.{List, Contains, subst}
use Rattle.heap_deps.specs.declared.cell_edges.CellEnds.{CellEnds}
use Rattle.heap_deps.specs.Adds.{From}
use Rattle.heap_deps.specs.Items.{GrowsOrStops}
use Rattle.heap_deps.specs.CellEdges.{IsHeapItem, EdgesBetween}
use Rattle.heap_deps.proofs.GrowLemmas.{or_stops_alike}
use Rattle.heap_deps.proofs.CellEdgeLemmas.{edges_told, ends_inside, both_sides}
use Rattle.heap_deps.proofs.cell_edges.add_cell_edges.Goals as goal

pub add_edges_of-requires : goal.add_edges_of-requires
add_edges_of-requires c ends from to among leads =
    ends_inside c.args.graph.now c.cells.result.now c.cells.ensures c.in-Ok.all c.in-Ok.ensures ends from to (subst (λ (ys : List CellEnds). Contains ys ends) c.as_slice.ensures among) leads

pub returns : goal.returns
returns c =
    let stops : GrowsOrStops c.add_edges_of.result c.args.graph.now c.add_edges_of.new.graph (From c.in-Ok.all EdgesBetween) =
    subst (λ (ys : List CellEnds). GrowsOrStops c.add_edges_of.result c.args.graph.now c.add_edges_of.new.graph (From ys EdgesBetween)) c.as_slice.ensures c.add_edges_of.ensures in
    or_stops_alike c.add_edges_of.result c.args.graph.now c.add_edges_of.new.graph (From c.in-Ok.all EdgesBetween) (IsHeapItem c.args.graph.now) stops
    (λ x. both_sides (edges_told c.args.graph.now c.cells.result.now c.cells.ensures c.in-Ok.all c.in-Ok.ensures x))
