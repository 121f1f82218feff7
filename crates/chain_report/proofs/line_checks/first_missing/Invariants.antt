use Rattle.std.proofs.Common.{ℕ, ◌+◌, Option, None, drop}
use Rattle.chain_report.specs.NodeTexts.{number_by}
use Rattle.chain_report.specs.Verify.{IsFirstMissing}
use Rattle.chain_report.proofs.line_checks.first_missing.Given as goal

-- what is missing first from this line on is missing first of all
abbrev pub invariant-loop-k : goal.invariant-loop-k
invariant-loop-k l = (missing : Option ℕ) → IsFirstMissing l.graph (number_by l.texts) l.before (l.k + 1) (drop l.k l.lines) missing → IsFirstMissing l.graph (number_by l.texts) None 1 l.lines missing
