use Rattle.std.proofs.Common.{[], take}
use Rattle.dependence.specs.Listed.{AddsExactly}
use Rattle.instance_flows.proofs.KeepLemmas.{AllowedAmong}
use Rattle.instance_flows.proofs.keeping.kept_ends.Given as goal

abbrev pub invariant-loop-end : goal.invariant-loop-end
invariant-loop-end l = AddsExactly (AllowedAmong l.wide l.keeps (take l.end-index l.successors)) [] l.ends
