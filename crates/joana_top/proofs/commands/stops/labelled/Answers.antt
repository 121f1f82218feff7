use Rattle.joana_top.proofs.Outcomes.{typing_labelling, policy_labelling}
use Rattle.joana_top.proofs.commands.stops.labelled.Goals as goal

pub returns-in-Err-clause-stop : goal.returns-in-Err-clause-stop
returns-in-Err-clause-stop c = typing_labelling c.args.program.now c.args.text.now c.in-Err.untyped c.in-Err.ensures.stop

pub returns-in-Err-policy_for-clause-stop : goal.returns-in-Err-policy_for-clause-stop
returns-in-Err-policy_for-clause-stop c = policy_labelling c.args.program.now c.args.text.now c.in-Ok.ensures.typed c.in-Err-policy_for.stop c.in-Err-policy_for.ensures.stop
