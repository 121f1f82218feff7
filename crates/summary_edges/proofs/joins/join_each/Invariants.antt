use Rattle.std.proofs.Common.{◌≡◌, Contains, take}
use Rattle.summary_edges.specs.Adds.{Adds, From}
use Rattle.summary_edges.specs.Levels.{joined}
use Rattle.summary_edges.proofs.joins.join_each.Given as goal

abbrev pub invariant-loop-into : goal.invariant-loop-into
invariant-loop-into l = Adds (Contains l.initial.joins.items) (Contains l.joins.items) (From (take l.into-index l.intos) (λ into j. j ≡ joined l.from into l.out l.to))
