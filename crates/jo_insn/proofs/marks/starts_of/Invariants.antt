use Rattle.std.proofs.Common.{◌≡◌, drop}
use Rattle.std.specs.Prelude.{pos, map}
use Rattle.jo_insn.specs.declared.jumps.Placed.{Placed}
use Rattle.jo_insn.specs.Marks.{marked, starts_of}
use Rattle.jo_insn.proofs.marks.starts_of.Given as goal

abbrev pub invariant-loop-placed : goal.invariant-loop-placed
invariant-loop-placed l = marked l.starts (map (λ (placed : Placed). pos placed.pc) (drop l.placed-index l.insns)) ≡ starts_of l.size l.insns
