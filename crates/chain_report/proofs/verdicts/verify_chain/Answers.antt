use Rattle.chain_report.proofs.VerdictLemmas.{verdict_found}
use Rattle.chain_report.proofs.verdicts.verify_chain.Goals as goal

pub returns-in-Ok : goal.returns-in-Ok
returns-in-Ok c =
    verdict_found c.args.program.now c.args.labels.now c.args.graph.now c.in-Ok.texts c.as_slice.result.now c.args.text.now c.verdict_by.result c.in-Ok.ensures c.as_slice.ensures c.verdict_by.ensures
