use Rattle.conflicts.proofs.ClashLemmas.{inside_writes, clash_of_both}
use Rattle.conflicts.proofs.clashes.clash.Goals as goal

pub returns-in-Some : goal.returns-in-Some
returns-in-Some c =
    let both = c.in-Some.both in
    inside_writes c.args.regions.now c.args.leads.now c.args.accessors.now both.0 both.1 c.in-Some.ensures

pub returns-in-None : goal.returns-in-None
returns-in-None c =
    clash_of_both c.args.regions.now c.args.leads.now c.args.accessors.now c.on_both-in-None.result c.in-None.ensures c.on_both-in-None.ensures
