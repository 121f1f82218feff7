use Rattle.std.specs.List.{AllZip}
use Rattle.std.proofs.Common.{rules, ◌≡◌, ◌≤◌, ◌+◌, ℕ, List, [], ◌∷◌, ◌++◌, length, take, sym, ap, subst, arith}
use Rattle.std.proofs.lemmas.List.{take_all}
use Rattle.dep_nodes.proofs.OnceLemmas.{contains_at}
use Rattle.dependence.specs.declared.flows.FlowRow.{FlowRow}
use Rattle.flow_graph.proofs.RowLemmas.{zip_next}
use Rattle.instance_flows.specs.Parts.{IsPartRow}
use Rattle.instance_flows.proofs.parts.rows_of.Goals as goal

pub row_of-requires-clause-there : goal.row_of-requires-clause-there
row_of-requires-clause-there c = c.requires.there c.number_at-number.result (contains_at c.args.numbers.now c.loop-done.done c.number_at-number.result c.number_at-number.ensures)

pub loop-done-preserved : goal.loop-done-preserved
loop-done-preserved c =
    let numbers = c.args.numbers.now in
    let R : ℕ → FlowRow → Type 0 = IsPartRow c.args.flow.now c.args.kept.now numbers in
    let number = c.number_at-number.result in
    let row : FlowRow = c.in_ok-row.row in
    let made : c.push.new.self.items ≡ c.loop-done.rows.items ++ row ∷ [] = search rules in
    subst (λ (rows : List FlowRow). AllZip R (take (c.loop-done.done + 1) numbers) rows) (sym made)
    (zip_next R numbers c.loop-done.rows.items c.loop-done.done number row c.number_at-number.ensures c.loop-done.invariant c.in_ok-row.ensures)

pub returns : goal.returns
returns c =
    let numbers = c.args.numbers.now in
    let over : length numbers ≤ c.loop-done.done = omega (arith, c.loop-done-test.false, ap length c.as_slice.ensures.items) in
    subst (λ (ks : List ℕ). AllZip (IsPartRow c.args.flow.now c.args.kept.now numbers) ks c.loop-done.rows.items) (take_all c.loop-done.done numbers over) c.loop-done.invariant
