use Rattle.std.proofs.Common.{◌≡◌, ◌+◌, drop}
use Rattle.chain_report.specs.NodeTexts.{number_by}
use Rattle.chain_report.specs.Progress.{progress_of}
use Rattle.chain_report.specs.Verify.{beginning, first_unchained}
use Rattle.chain_report.proofs.chain_checks.first_unchained.Given as goal

-- what goes wrong first from this line on goes wrong first of all
abbrev pub invariant-loop-k : goal.invariant-loop-k
invariant-loop-k l = first_unchained l.graph (number_by l.texts) (progress_of l.reading) (l.k + 1) (drop l.k l.lines) ≡ first_unchained l.graph (number_by l.texts) beginning 1 l.lines
