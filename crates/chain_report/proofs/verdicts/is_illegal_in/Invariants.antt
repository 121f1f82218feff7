use Rattle.std.proofs.Common.{◌≡◌, drop}
use Rattle.chain_report.specs.Verify.{observer_in}
use Rattle.chain_report.proofs.verdicts.is_illegal_in.Given as goal

abbrev pub invariant-loop-line : goal.invariant-loop-line
invariant-loop-line l = observer_in (drop l.line-index l.lines) ≡ observer_in l.lines
