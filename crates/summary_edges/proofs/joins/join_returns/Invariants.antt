use Rattle.std.proofs.Common.{Contains, take}
use Rattle.summary_edges.specs.Adds.{Adds, From}
use Rattle.summary_edges.specs.Levels.{JoinsInside}
use Rattle.summary_edges.proofs.joins.join_returns.Given as goal

abbrev pub invariant-loop-to : goal.invariant-loop-to
invariant-loop-to l = Adds (Contains l.initial.joins.items) (Contains l.joins.items) (From (take l.to-index l.to-items) (JoinsInside l.graph l.sides l.out))
