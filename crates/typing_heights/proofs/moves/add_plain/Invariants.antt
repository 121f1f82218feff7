use Rattle.std.proofs.Common.{◌≡◌, take, Contains}
use Rattle.typing_heights.specs.Adds.{Adds, From}
use Rattle.typing_heights.specs.Moves.{plain_move}
use Rattle.typing_heights.proofs.moves.add_plain.Given as goal

abbrev pub invariant-loop-to : goal.invariant-loop-to
invariant-loop-to l = Adds (Contains l.initial.moves.items) (Contains l.moves.items) (From (take l.to-index l.targets) (λ to m. m ≡ plain_move l.from l.height to))
