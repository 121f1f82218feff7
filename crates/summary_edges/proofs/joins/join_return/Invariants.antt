use Rattle.std.proofs.Common.{Contains, take}
use Rattle.summary_edges.specs.Adds.{Adds, From}
use Rattle.summary_edges.specs.Levels.{JoinsFrom}
use Rattle.summary_edges.proofs.joins.join_return.Given as goal

abbrev pub invariant-loop-from : goal.invariant-loop-from
invariant-loop-from l = Adds (Contains l.initial.joins.items) (Contains l.joins.items) (From (take l.from-index l.from-items) (JoinsFrom l.graph l.sides l.out l.to))
