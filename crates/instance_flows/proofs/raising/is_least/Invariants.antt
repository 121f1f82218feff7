use Rattle.std.proofs.Common.{take}
use Rattle.instance_flows.specs.Bases.{IsLeastOf}
use Rattle.instance_flows.proofs.raising.is_least.Given as goal

abbrev pub invariant-loop-other : goal.invariant-loop-other
invariant-loop-other l = IsLeastOf (take l.other-index l.places) l.place
