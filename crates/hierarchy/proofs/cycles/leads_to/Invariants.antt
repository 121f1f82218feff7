use Rattle.std.proofs.Common.{◌≡◌, length, take}
use Rattle.hierarchy.specs.Cycles.{LeadsTo}
use Rattle.hierarchy.proofs.cycles.leads_to.Given as goal

abbrev pub invariant-loop-parent : goal.invariant-loop-parent
invariant-loop-parent l = record {
  found : length l.found ≡ length l.graph;
  work : l.work ≡ length l.graph;
  none : LeadsTo l.graph (take l.parent-index l.parents) l.number → ⊥;
}
