use Rattle.std.proofs.Common.{ℕ, ◌+◌, drop, arith}
use Rattle.std.proofs.lemmas.List.{length-drop}
use Rattle.jo_insn.specs.Instructions.{offsets_between}
use Rattle.jo_insn.proofs.SwitchTables.{offsets_end, count_is, pairs_end, four_apart, eight_apart}
use Rattle.jo_insn.proofs.jumps.targets_of.Goals as goal

pub add_offsets-requires : goal.add_offsets-requires
add_offsets-requires c =
    let is = rw c.in-TableSwitch.is at c.requires in
    let bytes = λ (k : ℕ). (c.type_inv.code k).fits in
    let end = offsets_end c.args.code.now bytes c.args.placed.now.pc c.args.placed.now.next c.in-TableSwitch.other c.in-TableSwitch.low c.in-TableSwitch.high c.in-TableSwitch.at is in
    let count = count_is c.args.code.now bytes c.args.placed.now.pc c.args.placed.now.next c.in-TableSwitch.other c.in-TableSwitch.low c.in-TableSwitch.high c.in-TableSwitch.at is in
    let left = length-drop c.in-TableSwitch.at c.args.code.now in
    rw (c.behind.ensures, c.from-count.ensures, c.abs_diff.ensures, count) (four_apart (offsets_between c.in-TableSwitch.low c.in-TableSwitch.high) (drop c.in-TableSwitch.at c.args.code.now) (omega (arith, end.0, end.1)))

pub add_offsets-requires-in-LookupSwitch : goal.add_offsets-requires-in-LookupSwitch
add_offsets-requires-in-LookupSwitch c =
    let end = pairs_end c.args.code.now (λ k. (c.type_inv.code k).fits) c.args.placed.now.pc c.args.placed.now.next c.in-LookupSwitch.other c.in-LookupSwitch.pairs c.in-LookupSwitch.at (rw c.in-LookupSwitch.is at c.requires) in
    let left = length-drop (c.in-LookupSwitch.at + 4) c.args.code.now in
    rw (c.behind-table.ensures, c.from.ensures) (eight_apart c.in-LookupSwitch.pairs (drop (c.in-LookupSwitch.at + 4) c.args.code.now) (omega (arith, end.0, end.1)))
