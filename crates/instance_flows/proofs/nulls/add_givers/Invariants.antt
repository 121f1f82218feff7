use Rattle.std.proofs.Common.{◌≡◌, ◌+◌, length}
use Rattle.instance_flows.proofs.NullLemmas.{GivenSoFar}
use Rattle.instance_flows.proofs.nulls.add_givers.Given as goal

abbrev pub invariant-loop-n : goal.invariant-loop-n
invariant-loop-n l = record {
  edges : GivenSoFar l.wide l.initial.graph l.n l.graph;
  room : length l.graph ≡ length l.wide + 1;
}
