use Rattle.std.proofs.Common.{take}
use Rattle.sdg.specs.Growth.{From, AddsLinks}
use Rattle.sdg.specs.FlowLinks.{FlowStepLink}
use Rattle.sdg.proofs.flow_links.add_steps.Given as goal

abbrev pub invariant-loop-to : goal.invariant-loop-to
invariant-loop-to l = AddsLinks l.initial.graph l.graph (From (take l.to-index l.successors) (FlowStepLink l.flow l.instance l.from))
