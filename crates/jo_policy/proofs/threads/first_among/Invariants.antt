use Rattle.std.proofs.Common.{◌≡◌, drop}
use Rattle.jo_policy.specs.Threads.{first_among}
use Rattle.jo_policy.proofs.threads.first_among.Given as goal

-- the instructions that are left decide
abbrev pub invariant-loop-placed : goal.invariant-loop-placed
invariant-loop-placed l = first_among l.program l.current (drop l.placed-index l.insns) ≡ first_among l.program l.current l.insns
