use Rattle.std.proofs.Common.{◌≡◌, take}
use Rattle.std.specs.List.{filter}
use Rattle.summary_edges.specs.Pairs.{pairs_with}
use Rattle.summary_edges.proofs.pairs.found_beginnings.Given as goal

abbrev pub invariant-loop-from : goal.invariant-loop-from
invariant-loop-from l = l.row ≡ filter (pairs_with l.graph l.found l.to) (take l.from-index l.members)
