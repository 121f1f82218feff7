use Rattle.std.proofs.Common.{Contains, []}
use Rattle.typing_heights.specs.declared.moves.Move.{Move}
use Rattle.typing_heights.specs.Adds.{Adds, FromBelow}
use Rattle.typing_heights.specs.Moves.{LeavesAt}
use Rattle.typing_heights.specs.Searches.{height_at}
use Rattle.typing_heights.specs.Subjects.{program_of, typable_of}
use Rattle.typing_heights.proofs.moves.moves_of.Given as goal

abbrev pub invariant-loop-place : goal.invariant-loop-place
invariant-loop-place l =
    Adds (Contains {X = Move} []) (Contains l.moves.items) (FromBelow l.place (λ pc. LeavesAt (program_of l.subject) (typable_of l.subject) pc (height_at l.heights pc)))
