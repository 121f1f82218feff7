use Rattle.std.proofs.Common.{◌≡◌, length, take}
use Rattle.jo_prog.specs.TypingPaths.{HasHeightAt}
use Rattle.instance_flows.specs.BySite.{BySite}
use Rattle.instance_flows.specs.Raising.{AlwaysAt, UseRaises}
use Rattle.instance_flows.proofs.MarkLemmas.{UsesMarked}
use Rattle.instance_flows.proofs.raising.raising_of.Given as goal

abbrev pub invariant-loop-u : goal.invariant-loop-u
invariant-loop-u g l = record {
  same : length l.raising ≡ length l.wide;
  each : UsesMarked (AlwaysAt l.wide) (UseRaises l.program (BySite l.facts l.instance) (HasHeightAt l.program l.method) l.method l.wide) (take l.u-index l.uses) l.raising;
}
