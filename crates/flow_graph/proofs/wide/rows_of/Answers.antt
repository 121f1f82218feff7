use Rattle.std.specs.List.{AllZip}
use Rattle.std.proofs.Common.{rules, ◌≡◌, ◌≤◌, ◌+◌, List, [], ◌∷◌, ◌++◌, length, take, sym, ap, subst, arith}
use Rattle.std.proofs.lemmas.List.{take_all}
use Rattle.dep_nodes.specs.declared.kinds.NodeKind.{NodeKind}
use Rattle.dep_nodes.proofs.OnceLemmas.{contains_at}
use Rattle.dependence.specs.declared.flows.FlowRow.{FlowRow}
use Rattle.flow_graph.specs.Rows.{IsRowOf}
use Rattle.flow_graph.proofs.RowLemmas.{zip_next}
use Rattle.flow_graph.proofs.wide.rows_of.Goals as goal

pub row_of-requires-clause-there : goal.row_of-requires-clause-there
row_of-requires-clause-there c =
    let kind = c.kind_at-kind.result in
    (c.requires.nodes.each kind).0 (contains_at c.args.nodes.now c.loop-done.done kind c.kind_at-kind.ensures)

pub loop-done-preserved : goal.loop-done-preserved
loop-done-preserved c =
    let nodes = c.args.nodes.now in
    let kind = c.kind_at-kind.result in
    let row : FlowRow = c.in_ok-row.row in
    let made : c.push.new.self.items ≡ c.loop-done.rows.items ++ row ∷ [] = search rules in
    subst (λ (rows : List FlowRow). AllZip (IsRowOf c.args.program.now c.args.method c.args.typed.now nodes) (take (c.loop-done.done + 1) nodes) rows) (sym made)
    (zip_next (IsRowOf c.args.program.now c.args.method c.args.typed.now nodes) nodes c.loop-done.rows.items c.loop-done.done kind row c.kind_at-kind.ensures c.loop-done.invariant c.in_ok-row.ensures)

pub returns : goal.returns
returns c =
    let nodes = c.args.nodes.now in
    let over : length nodes ≤ c.loop-done.done = omega (arith, c.loop-done-test.false, ap length c.as_slice.ensures.items) in
    subst (λ (ks : List NodeKind). AllZip (IsRowOf c.args.program.now c.args.method c.args.typed.now nodes) ks c.loop-done.rows.items) (take_all c.loop-done.done nodes over) c.loop-done.invariant
