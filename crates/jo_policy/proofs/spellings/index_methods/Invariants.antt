use Rattle.std.proofs.Common.{drop}
use Rattle.jo_policy.specs.FileMethods.{entries_in}
use Rattle.jo_policy.proofs.MethodEntries.{IsSoFar}
use Rattle.jo_policy.proofs.spellings.index_methods.Given as goal

-- the methods before this one are indexed
abbrev pub invariant-loop-i : goal.invariant-loop-i
invariant-loop-i l = IsSoFar l.program (entries_in l.index) l.i (drop l.i l.program.methods)
