use Rattle.joana_top.proofs.Outcomes.{refused_run, refused_run_file}
use Rattle.joana_top.proofs.commands.run.run_program.Goals as goal

pub returns-in-Err : goal.returns-in-Err
returns-in-Err c = refused_run c.args.program.now c.args.policy.now c.args.run_file.now c.in-Err.stop c.in-Err.ensures.stop

pub returns-in-Err-plan_for : goal.returns-in-Err-plan_for
returns-in-Err-plan_for c =
    refused_run_file c.args.program.now c.args.policy.now c.in-Ok-labelled.policy.labels c.args.run_file.now c.in-Ok-labelled.ensures.typed c.in-Ok-labelled.ensures.labels c.in-Err-plan_for.stop c.in-Err-plan_for.ensures.stop
