use Rattle.std.proofs.Common.{◌≡◌, length}
use Rattle.instance_flows.specs.Raising.{AlwaysAt}
use Rattle.instance_flows.proofs.MarkLemmas.{Marks, Below}
use Rattle.instance_flows.proofs.raising.mark_always.Given as goal

abbrev pub invariant-loop-n : goal.invariant-loop-n
invariant-loop-n l = record {
  same : length l.raising ≡ length l.wide;
  each : Marks l.initial.raising l.raising (Below l.n (AlwaysAt l.wide));
}
