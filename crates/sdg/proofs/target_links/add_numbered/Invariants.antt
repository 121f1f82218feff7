use Rattle.std.proofs.Common.{take}
use Rattle.sdg.specs.Growth.{From, AddsLinks}
use Rattle.sdg.specs.TargetLinks.{LinkAt}
use Rattle.sdg.proofs.target_links.add_numbered.Given as goal

abbrev pub invariant-loop-number : goal.invariant-loop-number
invariant-loop-number g l = AddsLinks l.initial.graph l.graph (From (take l.number l.initial.graph.nodes) (LinkAt l.facts.facts))
