use Rattle.std.proofs.Common.{◌≡◌, ◌++◌, drop}
use Rattle.std.specs.List.{flat_map}
use Rattle.chain_report.specs.Report.{named_links, step_line}
use Rattle.chain_report.proofs.reports.push_steps.Given as goal

-- the lines so far and those of the steps that are left are those of all
abbrev pub invariant-loop-step : goal.invariant-loop-step
invariant-loop-step l =
    l.out.items ++ flat_map (step_line l.program) (named_links l.graph (drop l.step-index l.steps)) ≡ l.fn.out.items ++ flat_map (step_line l.program) (named_links l.graph l.steps)
