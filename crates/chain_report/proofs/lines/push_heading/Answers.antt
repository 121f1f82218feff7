use Rattle.std.specs.Prelude.{codes, [], ◌∷◌}
use Rattle.chain_report.specs.Report.{level_name}
use Rattle.chain_report.proofs.ReportLines.{headed}
use Rattle.chain_report.proofs.lines.push_heading.Goals as goal

pub returns : goal.returns
returns c =
    headed (10 ∷ []) (codes "joana report 1") (codes "refused ") (codes "observer ") c.args.refused.now (level_name c.args.labels.now c.args.observer)
    c.args.out.now.items c.extend_from_slice.new.self.items c.extend_from_slice-2.new.self.items c.extend_from_slice-3.new.self.items c.push_level.new.out.items c.push.new.self.items
    c.in_ok-extend_from_slice.ensures.items c.in_ok-extend_from_slice-2.ensures.items c.in_ok-extend_from_slice-3.ensures.items c.in_ok-push_level.ensures c.in_ok-push.ensures.items
