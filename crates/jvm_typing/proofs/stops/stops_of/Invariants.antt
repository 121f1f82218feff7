use Rattle.typing_heights.specs.Subjects.{program_of, typable_of}
use Rattle.jvm_typing.proofs.StopLemmas.{StopsBelow}
use Rattle.jvm_typing.proofs.stops.stops_of.Given as goal

abbrev pub invariant-loop-place : goal.invariant-loop-place
invariant-loop-place l = StopsBelow (program_of l.subject) (typable_of l.subject) l.heights l.place l.stops.items
