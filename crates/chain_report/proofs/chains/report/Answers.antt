use Rattle.std.specs.Prelude.{codes}
use Rattle.std.specs.List.{flat_map}
use Rattle.dep_nodes.specs.Graphs.{links_of}
use Rattle.chain_report.specs.Report.{heading, line, node_line, step_line}
use Rattle.chain_report.proofs.ReportLines.{chained}
use Rattle.chain_report.proofs.chains.report.Goals as goal

-- the pieces in their order are the lines of the report
pub returns : goal.returns
returns c from at_start =
    chained (heading (codes "chain") c.args.labels.now c.args.observer) (node_line c.args.program.now (codes "from") from)
    (flat_map (step_line c.args.program.now) (links_of c.args.graph.now c.args.chain.now.steps)) (line (codes "end"))
    c.new-out.result.items c.push_heading.new.out.items c.push_start.new.out.items c.push_steps.new.out.items c.extend_from_slice.new.self.items
    c.new-out.ensures.items c.in_ok-push_heading.ensures (c.in_ok-push_start.ensures from at_start) (rw c.as_slice.ensures at c.in_ok-push_steps.ensures)
    c.in_ok-extend_from_slice.ensures.items
