use Rattle.std.proofs.Common.{rules, ◌∷◌, replicate, w32}
use Rattle.std.specs.Int.RustNames.{FitsSigned}
use Rattle.std.proofs.lemmas.Int.{to_z-of_z}
use Rattle.jo_insn.specs.Instructions.{padding_at, s4}
use Rattle.jo_insn.proofs.EncodedSwitch.{three_numbers}
use Rattle.jo_insn.proofs.encoder.encode.Goals as goal

pub returns-in-TableSwitch-clause-ok : goal.returns-in-TableSwitch-clause-ok
returns-in-TableSwitch-clause-ok c =
    let arm = c.in-TableSwitch in
    let fits_other : FitsSigned w32 arm.other = search rules in
    let fits_low : FitsSigned w32 arm.low = search rules in
    let fits_high : FitsSigned w32 arm.high = search rules in
    let added = rw (to_z-of_z w32 arm.other fits_other, to_z-of_z w32 arm.low fits_low, to_z-of_z w32 arm.high fits_high) at c.add_switch.ensures.ok in
    rw arm.is (rw (three_numbers (170 ∷ replicate (padding_at c.args.pc) 0) (s4 arm.other) (s4 arm.low) (s4 arm.high) c.args.table.now) at added)
