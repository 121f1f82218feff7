use Rattle.std.proofs.Common.{◌≡◌, ◌++◌, drop}
use Rattle.std.specs.List.{flat_map}
use Rattle.dep_nodes.specs.Graphs.{links_of}
use Rattle.chain_report.specs.Report.{step_line}
use Rattle.chain_report.proofs.chains.push_steps.Given as goal

-- the lines so far and those of the steps that are left are those of all
abbrev pub invariant-loop-step : goal.invariant-loop-step
invariant-loop-step l =
    l.out.items ++ flat_map (step_line l.program) (links_of l.graph (drop l.step-index l.steps)) ≡ l.fn.out.items ++ flat_map (step_line l.program) (links_of l.graph l.steps)
