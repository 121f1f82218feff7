use Rattle.std.proofs.Common.{◌≡◌, ℕ, ◌<◌, inl, inr, Some, slice_get, length, sym, ◌∙◌, ap, refl, subst, arith}
use Rattle.std.proofs.lemmas.Bool.{cases_eq}
use Rattle.std.proofs.lemmas.Option.{slice_get_within, slice_get_read}
use Rattle.dep_nodes.specs.declared.access_table.CellAccesses.{CellAccesses}
use Rattle.thread_regions.proofs.FirstLemmas.{some_same}
use Rattle.conflicts.specs.Clashes.{AreClashing}
use Rattle.conflicts.proofs.finding.data_among.Goals as goal

pub loop-cell-preserved : goal.loop-cell-preserved
loop-cell-preserved c = λ k at less is a b clash. elim (cases_eq k c.loop-cell.cell-index) [
  | inl same ↦
      let cells = c.args.cells.now in
      let there : slice_get cells c.loop-cell.cell-index ≡ Some c.cell-item.result =
      slice_get_read cells (length cells) c.loop-cell.cell-index c.cell-item.result refl c.loop-cell-test.true c.cell-item.is in
      let one : at ≡ c.cell-item.result = some_same (sym is ∙ ap (λ (i : ℕ). slice_get cells i) same ∙ there) in
      c.in_default.ensures a b (subst (λ (x : CellAccesses). AreClashing c.args.regions.now c.args.leads.now x.accessors a b) one clash)
  | inr other ↦ c.loop-cell.invariant k at (omega (arith, less, other)) is a b clash
]

pub returns : goal.returns
returns c = λ k at is a b clash.
    let below = slice_get_within c.args.cells.now k at is in
    let done : k < c.loop-cell.cell-index = omega (arith, below, c.loop-cell-test.false) in
    c.loop-cell.invariant k at done is a b clash
