use Rattle.fact_rules.proofs.KeptLemmas.{runs_told}
use Rattle.fact_rules.proofs.call_rules.runs.Goals as goal

pub returns-in-Some : goal.returns-in-Some
returns-in-Some g c = runs_told c.args.facts.now c.in-Some.instance c.args.key.now c.reached.result c.names_once.ensures c.in-Some.ensures.found c.reached.ensures
