use Rattle.std.proofs.Common.{◌≡◌, ◌-◌, ◌++◌}
use Rattle.std.specs.Prelude.{ℤ, pos, ◌+ℤ◌, map}
use Rattle.jo_insn.specs.Jumps.{AreOffsets, offsets_of}
use Rattle.jo_insn.proofs.jumps.add_offsets.Given as goal

abbrev pub invariant-loop : goal.invariant-loop
invariant-loop l = record {
  there : AreOffsets (l.count - l.counter) l.step l.table;
  so_far : l.targets.items ++ map (λ (by : ℤ). pos l.pc +ℤ by) (offsets_of (l.count - l.counter) l.step l.table)
      ≡ l.fn.targets.items ++ map (λ (by : ℤ). pos l.pc +ℤ by) (offsets_of l.count l.step l.fn.table);
}
