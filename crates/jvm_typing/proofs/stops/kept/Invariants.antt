use Rattle.std.proofs.Common.{[], take, Contains}
use Rattle.typing_heights.specs.declared.moves.Move.{Move}
use Rattle.typing_heights.specs.Adds.{Adds, From}
use Rattle.jvm_typing.specs.Stops.{LeadsOn}
use Rattle.jvm_typing.proofs.stops.kept.Given as goal

abbrev pub invariant-loop-step : goal.invariant-loop-step
invariant-loop-step l = Adds (Contains {X = Move} []) (Contains l.kept.items) (From (take l.step-index l.moves) (LeadsOn l.heights))
