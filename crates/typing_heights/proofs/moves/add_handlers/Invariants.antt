use Rattle.std.proofs.Common.{Contains}
use Rattle.typing_heights.specs.Adds.{Adds, FromBelow}
use Rattle.typing_heights.specs.Moves.{HandlerMove}
use Rattle.typing_heights.proofs.moves.add_handlers.Given as goal

abbrev pub invariant-loop-place : goal.invariant-loop-place
invariant-loop-place l = Adds (Contains l.initial.moves.items) (Contains l.moves.items) (FromBelow l.place (HandlerMove l.rows l.from))
