use Rattle.joana_top.proofs.StopLemmas.{has_parents, link_stopped}
use Rattle.joana_top.proofs.commands.stops.linked.Goals as goal

pub returns-in-Ok-clause-parents : goal.returns-in-Ok-clause-parents
returns-in-Ok-clause-parents c = has_parents c.args.classes.items c.in-Ok.program c.in-Ok.ensures.program

pub returns-in-Err-clause-stop : goal.returns-in-Err-clause-stop
returns-in-Err-clause-stop c = rw c.link_stop.ensures (link_stopped c.args.classes.items c.in-Err.fault c.in-Err.ensures.fault)
