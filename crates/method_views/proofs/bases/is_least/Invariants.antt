use Rattle.std.proofs.Common.{take}
use Rattle.method_views.specs.Bases.{IsLeastOf}
use Rattle.method_views.proofs.bases.is_least.Given as goal

abbrev pub invariant-loop-other : goal.invariant-loop-other
invariant-loop-other l = IsLeastOf (take l.other-index l.places) l.place
