use Rattle.std.proofs.Common.{◌≡◌, ◌+◌, false, length, replicate, sym, subst, rules}
use Rattle.std.specs.Prelude.{List}
use Rattle.std.specs.List.{AllByRecursion}
use Rattle.jo_insn.specs.declared.jumps.Placed.{Placed}
use Rattle.jo_insn.specs.Jumps.{IsPlacedIn}
use Rattle.class_dis.proofs.InsnSteps.{all_placed}
use Rattle.class_dis.proofs.LabelMarks.{labels_are}
use Rattle.class_dis.proofs.labels.labels.Goals as goal

pub mark_jumps-requires : goal.mark_jumps-requires
mark_jumps-requires c =
    let code = c.args.code.now.bytes in
    rw c.as_slice-bytes.ensures (subst (λ (insns : List Placed). AllByRecursion (IsPlacedIn code) insns) (sym c.requires.insns) (all_placed code (length code) 0))

pub returns : goal.returns
returns c =
    let code = c.args.code.now in
    let jumps = rw c.as_slice-bytes.ensures at c.in_ok-mark_jumps.ensures in
    let rows = rw c.as_slice.ensures at c.mark_rows.ensures in
    let none : c.in_ok-marks.marks ≡ replicate (length code.bytes + 1) false = search rules in
    labels_are code c.in_ok-marks.marks c.mark_jumps.new.marks c.mark_rows.new.marks none (rw c.requires.insns at jumps) rows
