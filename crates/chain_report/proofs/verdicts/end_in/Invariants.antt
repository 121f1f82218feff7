use Rattle.std.proofs.Common.{◌≡◌, None, drop}
use Rattle.chain_report.specs.NodeTexts.{number_by}
use Rattle.chain_report.specs.Verify.{end_in}
use Rattle.chain_report.proofs.verdicts.end_in.Given as goal

abbrev pub invariant-loop-line : goal.invariant-loop-line
invariant-loop-line l = end_in (number_by l.texts) l.end (drop l.line-index l.lines) ≡ end_in (number_by l.texts) None l.lines
