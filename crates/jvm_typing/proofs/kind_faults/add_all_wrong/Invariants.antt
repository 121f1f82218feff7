use Rattle.std.proofs.Common.{Contains}
use Rattle.typing_heights.specs.Adds.{Adds, FromBelow}
use Rattle.jvm_typing.specs.KindFaults.{WrongAt}
use Rattle.typing_heights.specs.Subjects.{program_of, typable_of}
use Rattle.jvm_typing.proofs.kind_faults.add_all_wrong.Given as goal

abbrev pub invariant-loop-place : goal.invariant-loop-place
invariant-loop-place l = Adds (Contains l.initial.found.items) (Contains l.found.items) (FromBelow l.place (WrongAt (program_of l.subject) (typable_of l.subject) l.heights))
