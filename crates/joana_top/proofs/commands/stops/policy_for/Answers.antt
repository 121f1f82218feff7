use Rattle.joana_top.proofs.StopLemmas.{policy_stopped}
use Rattle.joana_top.proofs.commands.stops.policy_for.Goals as goal

pub returns-in-Err-clause-stop : goal.returns-in-Err-clause-stop
returns-in-Err-clause-stop c = policy_stopped c.args.program.now c.args.text.now c.in-Err.fault c.policy_stop.result c.in-Err.ensures.fault c.policy_stop.ensures
