use Rattle.toml.specs.View.{table_view}
use Rattle.run_plans.proofs.RunAnswers.{run_fault}
use Rattle.run_plans.proofs.run_file.read_run.Goals as goal

pub returns-in-Ok-clause-fault : goal.returns-in-Ok-clause-fault
returns-in-Ok-clause-fault c =
    run_fault c.args.program.now c.args.policy.now.labels c.args.text.now (table_view c.in-Ok.tree) c.from_tree.result
    (record { utf8 = c.in-Ok.ensures.ok.0; parsed = c.in-Ok.ensures.ok.1 }) c.from_tree.ensures
