use Rattle.std.proofs.Common.{◌∙◌}
use Rattle.slicer.specs.Slices.{IsStepTo}
use Rattle.slicer.proofs.SearchLemmas.{appends_then, edges_all}
use Rattle.slicer.proofs.search.follow_edges.Goals as goal

pub loop-edge-preserved : goal.loop-edge-preserved
loop-edge-preserved c =
    let nodes = c.args.graph.now in
    let mid = c.loop-edge.finds.found in
    let new = c.go_back.new.finds.found in
    record {
      count = c.go_back.ensures.count ∙ c.loop-edge.invariant.count;
      more = appends_then (IsStepTo nodes c.args.number c.args.place.now) c.args.finds.now.found mid new c.loop-edge.invariant.more c.go_back.ensures.more;
      all = edges_all nodes c.edges_into-edges.result.now c.args.number c.args.place.now mid new c.loop-edge.edge-index c.edge-item.result c.loop-edge-test.true c.edge-item.is c.go_back.ensures.more c.loop-edge.invariant.all c.go_back.ensures.all;
    }
