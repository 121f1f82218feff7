use Rattle.std.proofs.Common.{◌+◌, Some}
use Rattle.chain_report.specs.NodeTexts.{number_by}
use Rattle.chain_report.proofs.LineLemmas.{missing_here}
use Rattle.chain_report.proofs.line_checks.first_missing.Goals as goal

pub returns-then-not-is_there : goal.returns-then-not-is_there
returns-then-not-is_there c =
    c.loop-k.invariant (Some (c.loop-k.k + 1))
    (missing_here c.args.graph.now (number_by c.args.texts.now) c.loop-k.before c.loop-k.k c.args.lines.now c.index-lines-k.result c.loop-k-test.true c.index-lines-k.is
    (λ there. let e = c.is_there.ensures.1 there in absurd (cc)))
