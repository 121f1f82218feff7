use Rattle.std.proofs.Common.{◌≡◌, drop}
use Rattle.jo_policy.specs.Labelling.{unlabelled_from, table_at}
use Rattle.jo_policy.proofs.labelling.none_unlabelled.Given as goal

-- no method before this one is an unlabelled native
abbrev pub invariant-loop-i : goal.invariant-loop-i
invariant-loop-i l =
    unlabelled_from l.program (table_at l.labels) l.i (drop l.i l.program.methods) ≡ unlabelled_from l.program (table_at l.labels) 0 l.program.methods
