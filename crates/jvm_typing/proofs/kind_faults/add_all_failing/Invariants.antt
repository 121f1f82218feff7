use Rattle.std.proofs.Common.{Contains, take}
use Rattle.typing_heights.specs.Adds.{Adds, From}
use Rattle.jvm_typing.specs.KindFaults.{FailsBy, IsAskedAt}
use Rattle.typing_heights.specs.Subjects.{program_of, typable_of}
use Rattle.jvm_typing.proofs.kind_faults.add_all_failing.Given as goal

abbrev pub invariant-loop-fact : goal.invariant-loop-fact
invariant-loop-fact l = record {
  asked : IsAskedAt (program_of l.subject) (typable_of l.subject) l.asked.pc l.asked;
  adds : Adds (Contains l.initial.found.items) (Contains l.found.items) (From (take l.fact-index l.facts) (FailsBy (program_of l.subject) (typable_of l.subject)));
}
