use Rattle.std.proofs.Common.{take}
use Rattle.sdg.specs.Growth.{From, AddsLinks}
use Rattle.sdg.specs.TargetLinks.{TargetLink}
use Rattle.sdg.proofs.target_links.add_targets.Given as goal

abbrev pub invariant-loop-target : goal.invariant-loop-target
invariant-loop-target l = AddsLinks l.initial.graph l.graph (From (take l.target-index l.targets) (TargetLink l.node))
