use Rattle.std.proofs.Common.{◌≡◌, ◌++◌, ◌-◌, map}
use Rattle.jo_insn.specs.Instructions.{keys_of}
use Rattle.jo_insn.specs.Jumps.{AreOffsets, offsets_of}
use Rattle.machine.specs.Instructions.{cases_of}
use Rattle.jvm_values.specs.Resolved.{case_of}
use Rattle.resolved_insns.proofs.switches.cases_of_pairs.Given as goal

abbrev pub invariant-loop : goal.invariant-loop
invariant-loop l = record {
  keys : AreOffsets (l.count - l.counter) 8 l.keys;
  offsets : AreOffsets (l.count - l.counter) 8 l.offsets;
  so_far : map case_of l.cases ++ cases_of l.pc (keys_of (l.count - l.counter) l.keys) (offsets_of (l.count - l.counter) 8 l.offsets)
      ≡ cases_of l.pc (keys_of l.count l.fn.keys) (offsets_of l.count 8 l.fn.offsets);
}
