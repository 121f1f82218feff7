use Rattle.std.proofs.Common.{◌≡◌, ◌+◌, slice_set, subst, refl, ◌<◌, length, Contains, ap, arith, inr, sym, ◌∙◌}
use Rattle.dep_nodes.specs.declared.accesses.Access.{Access}
use Rattle.dep_nodes.specs.declared.dependence_graph.GraphNode.{GraphNode}
use Rattle.dep_nodes.specs.OneForm.{plain_cell}
use Rattle.dep_nodes.specs.AccessTables.{ListsAccess}
use Rattle.dep_nodes.specs.GrowingGraphs.{AddsAccess, IsInside}
use Rattle.dep_nodes.proofs.OneFormLemmas.{plain_again}
use Rattle.dep_nodes.proofs.CellLemmas.{table_grows}
use Rattle.dep_nodes.proofs.GrowingLemmas.{IsAt, is_at, lacks, access_added, size_set, one_more, all_found, inside_set}
use Rattle.dep_nodes.proofs.dependence_graph.DependenceGraph.add_access.Goals as goal

pub returns-in-Ok-clause-ok : goal.returns-in-Ok-clause-ok
returns-in-Ok-clause-ok c =
    let nodes = c.self.inside.nodes.items in
    let node = c.index_mut-node.result.now in
    let n = c.number.result in
    let below : n < length nodes = omega (arith, ap length c.self.view_is, c.requires, c.number.ensures) in
    let at : IsAt nodes c.args.self.now n c.args.node node = is_at nodes c.args.self.now n c.args.node node c.self.view_is c.number.ensures below c.index_mut-node.ensures.value in
    let access : Access = record { cell = c.in_one_form.result; write = c.args.write } in
    let same : c.in_one_form.result ≡ plain_cell c.args.cell = c.in_one_form.ensures in
    let new : Contains node.accesses access → ⊥ = lacks c.has.result node.accesses node.accesses access refl c.has.ensures c.if-has.false in
    subst (λ cell. AddsAccess c.args.self.now (slice_set nodes n (record node { accesses = c.add_to_both.new.accesses })) c.args.node (record { cell = cell; write = c.args.write })) same (access_added nodes c.args.self.now n c.args.node node at access c.add_to_both.new.accesses (inr (new, c.in-Ok.ensures.node)))

pub invariant_of-self-in-Ok : goal.invariant_of-self-in-Ok
invariant_of-self-in-Ok c =
    let nodes = c.self.inside.nodes.items in
    let node = c.index_mut-node.result.now in
    let n = c.number.result in
    let below : n < length nodes = omega (arith, ap length c.self.view_is, c.requires, c.number.ensures) in
    let at : IsAt nodes c.args.self.now n c.args.node node = is_at nodes c.args.self.now n c.args.node node c.self.view_is c.number.ensures below c.index_mut-node.ensures.value in
    let access : Access = record { cell = c.in_one_form.result; write = c.args.write } in
    let more : GraphNode = record node { accesses = c.add_to_both.new.accesses } in
    let new : Contains node.accesses access → ⊥ = lacks c.has.result node.accesses node.accesses access refl c.has.ensures c.if-has.false in
    let plain : plain_cell access.cell ≡ access.cell = subst (λ x. plain_cell x ≡ x) (sym c.in_one_form.ensures) (plain_again c.args.cell) in
    let there : IsInside (length nodes) node = all_found (IsInside (length nodes)) nodes n node c.self.invariant.inside at.found in
    let lists : ListsAccess c.self.inside.cells c.add_to_both.new.cells access.cell (record { node = n; write = c.args.write }) =
    subst (λ k. ListsAccess c.self.inside.cells c.add_to_both.new.cells access.cell (record { node = k; write = c.args.write })) (sym c.number.ensures) c.in-Ok.ensures.cell in
    record {
      nodes_within = c.self.invariant.nodes_within;
      counted = ap (λ k. k + 1) c.self.invariant.counted ∙ sym (size_set nodes c.args.self.now n c.args.node node more at (omega (arith, one_more node.accesses c.add_to_both.new.accesses access c.in-Ok.ensures.node)));
      edges_within = omega (arith, c.if-self-ge-MOST_EDGES.false);
      inside = inside_set nodes n more c.self.invariant.inside (record { edges = there.edges; flows = there.flows });
      table = table_grows nodes n node more c.self.inside.cells c.add_to_both.new.cells access c.self.invariant.table at.found c.in-Ok.ensures.node new plain lists;
    }

pub add_to_both-requires : goal.add_to_both-requires
add_to_both-requires c = let node = c.index_mut-node.result.now in lacks c.has.result node.accesses node.accesses (record { cell = c.in_one_form.result; write = c.args.write }) refl c.has.ensures c.if-has.false
