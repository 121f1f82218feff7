use Rattle.std.proofs.Common.{ℕ, drop, arith, w32}
use Rattle.std.proofs.lemmas.Int.{to_z-of_z}
use Rattle.std.proofs.lemmas.List.{length-drop}
use Rattle.jo_insn.specs.declared.instructions.Insn.TheVariants.{TableSwitch}
use Rattle.jo_insn.specs.Instructions.{offsets_between}
use Rattle.jo_insn.proofs.SpelledFromDecoded.{decoded_is_spelled}
use Rattle.jo_insn.proofs.SwitchTables.{all_bytes, offsets_end, count_is, four_apart}
use Rattle.resolved_insns.proofs.SwitchLemmas.{keys_fit}
use Rattle.resolved_insns.proofs.resolving.table_switch.Goals as goal

pub cases_in_row-requires-clause-keys : goal.cases_in_row-requires-clause-keys
cases_in_row-requires-clause-keys c =
    let code = c.args.code.now in
    let bytes = λ (k : ℕ). (c.type_inv.code k).fits in
    let read = decoded_is_spelled code c.args.pc c.args.next (TableSwitch c.args.other c.args.low c.args.high c.args.at) (all_bytes code bytes) c.requires.placed in
    let count = count_is code bytes c.args.pc c.args.next c.args.other c.args.low c.args.high c.args.at c.requires.placed in
    rw (c.from-count.ensures, c.abs_diff.ensures, count, to_z-of_z w32 c.args.low read.3.1) (keys_fit c.args.low c.args.high read.3.1 read.3.2 read.3.3)

pub cases_in_row-requires-clause-offsets : goal.cases_in_row-requires-clause-offsets
cases_in_row-requires-clause-offsets c =
    let code = c.args.code.now in
    let bytes = λ (k : ℕ). (c.type_inv.code k).fits in
    let end = offsets_end code bytes c.args.pc c.args.next c.args.other c.args.low c.args.high c.args.at c.requires.placed in
    let count = count_is code bytes c.args.pc c.args.next c.args.other c.args.low c.args.high c.args.at c.requires.placed in
    let left = length-drop c.args.at code in
    rw (c.behind.ensures, c.from-count.ensures, c.abs_diff.ensures, count) (four_apart (offsets_between c.args.low c.args.high) (drop c.args.at code) (omega (arith, end.0, end.1)))
