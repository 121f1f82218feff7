use Rattle.std.proofs.Common.{◌≡◌, drop}
use Rattle.chain_report.specs.Verify.{is_on_chain}
use Rattle.chain_report.proofs.verdicts.is_on_chain.Given as goal

abbrev pub invariant-loop-line : goal.invariant-loop-line
invariant-loop-line l = is_on_chain (drop l.line-index l.lines) ≡ is_on_chain l.lines
