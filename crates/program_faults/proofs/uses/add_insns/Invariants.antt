use Rattle.std.proofs.Common.{◌-◌, length}
use Rattle.program_faults.proofs.UseLemmas.{AddsOn}
use Rattle.program_faults.proofs.uses.add_insns.Given as goal

abbrev pub invariant-loop-insn : goal.invariant-loop-insn
invariant-loop-insn l = AddsOn l.bytes l.initial.uses l.uses l.pc

abbrev pub decreases-loop-insn : goal.decreases-loop-insn
decreases-loop-insn l = length l.bytes - l.pc
