use Rattle.std.proofs.Common.{◌-◌, [], length, Contains}
use Rattle.summary_edges.specs.Adds.{Adds, FromBelow}
use Rattle.summary_edges.specs.Levels.{JoinsOut}
use Rattle.summary_edges.proofs.joins.joins.Given as goal

abbrev pub invariant-loop-k : goal.invariant-loop-k
invariant-loop-k l = Adds (Contains []) (Contains l.joins.items) (FromBelow l.k (λ k. JoinsOut l.graph l.sides (length l.graph - 1 - k)))
