use Rattle.std.proofs.Common.{◌≡◌, drop}
use Rattle.chain_report.specs.NodeTexts.{number_by}
use Rattle.chain_report.specs.Verify.{start_in}
use Rattle.chain_report.proofs.verdicts.start_in.Given as goal

abbrev pub invariant-loop-line : goal.invariant-loop-line
invariant-loop-line l = start_in (number_by l.texts) (drop l.line-index l.lines) ≡ start_in (number_by l.texts) l.lines
