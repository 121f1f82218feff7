use Rattle.std.proofs.Common.{◌≡◌, ◌+◌, length, take}
use Rattle.jo_prog.specs.TypingPaths.{HasHeightAt}
use Rattle.instance_flows.proofs.NullLemmas.{MovedSoFar}
use Rattle.instance_flows.proofs.nulls.add_moves.Given as goal

abbrev pub invariant-loop-u : goal.invariant-loop-u
invariant-loop-u l = record {
  edges : MovedSoFar l.program l.method (HasHeightAt l.program l.method) l.wide l.initial.graph (take l.u-index l.uses) l.graph;
  room : length l.graph ≡ length l.wide + 1;
}
