use Rattle.std.proofs.Common.{◌≡◌, ℕ, Some, slice_get, option_map, subst}
use Rattle.std.proofs.lemmas.Result.{on_ok_weaker}
use Rattle.dep_nodes.specs.declared.dependence_graph.GraphNode.{GraphNode}
use Rattle.thread_regions.proofs.SpotLemmas.{node_adds}
use Rattle.thread_regions.proofs.search.add_node.Goals as goal

pub returns-clause-adds : goal.returns-clause-adds
returns-clause-adds c =
    let nodes = c.args.graph.now in
    let flows = c.flows_from.result.now in
    let edges = c.edges_into.result.now in
    let name = c.node.result.now in
    on_ok_weaker c.add_return.result
    (λ last. node_adds nodes c.args.n flows edges name
    (subst (λ (k : ℕ). option_map (λ (x : GraphNode). x.flows) (slice_get nodes k) ≡ Some flows) c.of.ensures c.flows_from.ensures.flows)
    (subst (λ (k : ℕ). option_map (λ (x : GraphNode). x.edges) (slice_get nodes k) ≡ Some edges) c.of-2.ensures c.edges_into.ensures.edges)
    (subst (λ (k : ℕ). option_map (λ (x : GraphNode). x.name) (slice_get nodes k) ≡ Some name) c.of-3.ensures c.node.ensures)
    c.args.ends.now c.args.calls.now c.args.search.now c.add_flows.new.search c.add_edges.new.search c.add_return.new.search
    c.in_ok-add_flows.ensures c.in_ok-add_edges.ensures last)
    c.add_return.ensures
