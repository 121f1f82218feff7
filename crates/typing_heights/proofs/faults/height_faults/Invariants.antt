use Rattle.std.proofs.Common.{Contains, take}
use Rattle.typing_heights.specs.Adds.{Adds, From}
use Rattle.typing_heights.specs.Moves.{FaultBehind}
use Rattle.typing_heights.specs.Subjects.{program_of, typable_of}
use Rattle.typing_heights.proofs.faults.height_faults.Given as goal

abbrev pub invariant-loop-step : goal.invariant-loop-step
invariant-loop-step l =
    Adds (Contains l.initial.found.items) (Contains l.found.items) (From (take l.step-index l.moves) (FaultBehind (program_of l.subject) (typable_of l.subject) l.heights))
