use Rattle.std.proofs.Common.{◌≡◌, drop}
use Rattle.jo_prog.specs.Starts.{first_start_from, first_start}
use Rattle.jo_policy.proofs.threads.first_start.Given as goal

-- the methods that are left decide
abbrev pub invariant-loop-i : goal.invariant-loop-i
invariant-loop-i l = first_start_from l.program l.i (drop l.i l.program.methods) ≡ first_start l.program
