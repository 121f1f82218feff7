use Rattle.joana_top.proofs.StopLemmas.{run_file_stopped}
use Rattle.joana_top.proofs.commands.stops.plan_for.Goals as goal

pub returns-in-Err-clause-stop : goal.returns-in-Err-clause-stop
returns-in-Err-clause-stop c = rw c.run_file_stop.ensures (run_file_stopped c.args.program.now c.args.policy.now.labels c.args.text.now c.in-Err.fault c.in-Err.ensures.fault)
