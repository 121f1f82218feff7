use Rattle.std.proofs.Common.{rules, ◌≡◌, ◌<◌, ◌^◌, List, length, sym, subst, arith}
use Rattle.dependence.specs.declared.flows.FlowRow.{FlowRow}
use Rattle.dependence.specs.GraphsAsData.{IsWideGraph}
use Rattle.flow_graph.specs.NodeUses.{HeightIs}
use Rattle.flow_graph.specs.Rows.{IsRowOf}
use Rattle.flow_graph.proofs.RowLemmas.{zip_length, is_wide_graph, is_flow}
use Rattle.flow_graph.proofs.CountLemmas.{no_more_nodes}
use Rattle.flow_graph.proofs.wide.wide_of.Goals as goal

pub of-requires : goal.of-requires
of-requires c =
    let program = c.args.program.now in
    let typed = c.args.typed.now in
    let nodes = c.in-Ok.nodes in
    let rows = c.in_ok-rows.rows.items in
    let counted : c.in_ok-rows.rows.len ≡ length rows = search rules in
    let same = zip_length (IsRowOf program c.args.method typed nodes) nodes rows c.in_ok-rows.ensures in
    let few : c.in_ok-rows.rows.len < 2 ^ 32 = omega (arith, counted, same, c.in-Ok.ensures.few) in
    is_flow program c.args.method typed nodes rows c.in-Ok.ensures.nodes c.in_ok-rows.ensures c.in_ok-rows.rows.len few

pub returns-clause-graph : goal.returns-clause-graph
returns-clause-graph c =
    let program = c.args.program.now in
    let typed = c.args.typed.now in
    subst (λ (rows : List FlowRow). IsWideGraph program c.args.method (HeightIs typed) rows) (sym c.of.ensures)
    (is_wide_graph program c.args.method typed c.in-Ok.nodes c.in_ok-rows.rows.items c.in-Ok.ensures.nodes c.in_ok-rows.ensures)

pub returns-clause-few : goal.returns-clause-few
returns-clause-few c = no_more_nodes c.args.program.now c.args.method c.in-Ok.nodes c.in-Ok.ensures.nodes c.in-Ok.ensures.few
