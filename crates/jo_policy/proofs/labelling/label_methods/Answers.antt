use Rattle.std.proofs.Common.{◌≡◌, ◌<◌, List, length, sym, ap, ◌∙◌, subst, arith}
use Rattle.std.specs.List.{AllByRecursion}
use Rattle.jo_prog.specs.declared.program.Method.{Method}
use Rattle.jo_policy.specs.Labelling.{Item}
use Rattle.jo_prog.specs.Labels.{label_among}
use Rattle.jo_policy.proofs.Tables.{placed_below, table_of-length}
use Rattle.jo_policy.proofs.labelling.label_methods.Goals as goal

pub by_method-requires : goal.by_method-requires
by_method-requires c =
    subst (λ (ms : List Method). AllByRecursion (λ (item : Item). item.0 < length ms) c.in_ok-placed.placed) (sym c.as_slice.ensures)
    (placed_below c.args.program.now c.args.labels.now c.in_ok-placed.placed c.in_ok-placed.ensures)

pub list_labels-requires : goal.list_labels-requires
list_labels-requires c =
    let len = ap length (c.as_slice-4.ensures.value ∙ c.in_ok-table.ensures.table.labels) ∙ table_of-length (label_among c.in_ok-table.table.placed) 0 (length c.as_slice.result.now) in
    let same : length c.as_slice.result.now ≡ length c.args.program.now.methods = ap length c.as_slice.ensures in
    omega (arith, len, same, c.requires.few)
