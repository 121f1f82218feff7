use Rattle.std.specs.Prelude.{codes}
use Rattle.chain_report.specs.Report.{body_lines, heading, line, refused_words}
use Rattle.chain_report.proofs.ReportLines.{ended}
use Rattle.chain_report.proofs.reports.print_report.Goals as goal

-- the pieces in their order are the lines of the report
pub returns : goal.returns
returns c =
    ended (heading (refused_words c.args.report.now.body) c.args.labels.now c.args.report.now.observer) (body_lines c.args.program.now c.args.graph.now c.args.report.now.body) (line (codes "end"))
    c.new-out.result.items c.push_heading.new.out.items c.push_body.new.out.items c.extend_from_slice.new.self.items
    c.new-out.ensures.items (rw c.refused.ensures at c.in_ok-push_heading.ensures) c.in_ok-push_body.ensures c.in_ok-extend_from_slice.ensures.items
