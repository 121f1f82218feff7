use Rattle.sdg.specs.Growth.{FromBelow, AddsLinks}
use Rattle.sdg.specs.FlowLinks.{FlowFrom}
use Rattle.sdg.proofs.flow_links.add_numbered.Given as goal

abbrev pub invariant-loop-from : goal.invariant-loop-from
invariant-loop-from l = AddsLinks l.initial.graph l.graph (FromBelow l.from (FlowFrom l.flow l.instance))
