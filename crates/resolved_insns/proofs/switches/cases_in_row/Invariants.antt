use Rattle.std.proofs.Common.{◌≡◌, ◌++◌, ◌-◌, map}
use Rattle.std.specs.Prelude.{pos, ◌+ℤ◌}
use Rattle.jo_insn.specs.Jumps.{AreOffsets, offsets_of}
use Rattle.machine.specs.Instructions.{cases_of, keys_from}
use Rattle.jvm_values.specs.Resolved.{case_of}
use Rattle.resolved_insns.proofs.switches.cases_in_row.Given as goal

abbrev pub invariant-loop-place : goal.invariant-loop-place
invariant-loop-place l = record {
  there : AreOffsets (l.count - l.place) 4 l.table;
  so_far : map case_of l.cases ++ cases_of l.pc (keys_from (l.low +ℤ pos l.place) (l.count - l.place)) (offsets_of (l.count - l.place) 4 l.table)
      ≡ cases_of l.pc (keys_from l.low l.count) (offsets_of l.count 4 l.fn.table);
}
