use Rattle.std.proofs.Common.{subst}
use Rattle.jo_prog.specs.declared.labels.Labels.{Labels}
use Rattle.joana_top.specs.Check.{IsDecision}
use Rattle.joana_top.proofs.Outcomes.{refused_check, decided}
use Rattle.joana_top.proofs.commands.check.check_program.Goals as goal

pub returns-in-Err : goal.returns-in-Err
returns-in-Err c = refused_check c.args.program.now c.args.policy.now c.in-Err.stop c.in-Err.ensures.stop

pub decide-requires-clause-well : goal.decide-requires-clause-well
decide-requires-clause-well c =
    let gives = c.in-Ok-labelled.ensures.labels in
    rw c.labels.ensures (c.policies_label_well.ensures c.args.program.now gives.tree c.in-Ok-labelled.policy.labels gives.contexts gives.is_policy)

pub returns-in-Ok-decide : goal.returns-in-Ok-decide
returns-in-Ok-decide c =
    let gives = c.in-Ok-labelled.ensures.labels in
    let well = c.policies_label_well.ensures c.args.program.now gives.tree c.in-Ok-labelled.policy.labels gives.contexts gives.is_policy in
    let Decided : Labels → Type 0 = λ labels. IsDecision c.args.program.now labels c.in-Ok-decide.decision in
    decided c.args.program.now c.args.policy.now c.in-Ok-labelled.ensures.typed c.in-Ok-labelled.policy.labels gives well c.in-Ok-decide.decision c.shown.result (subst Decided c.labels.ensures c.in-Ok-decide.ensures) c.shown.ensures
