use Rattle.fact_rules.proofs.KeptLemmas.{stalls_told}
use Rattle.fact_rules.proofs.call_rules.stalls.Goals as goal

pub returns-in-Some : goal.returns-in-Some
returns-in-Some g c = stalls_told c.args.facts.now c.in-Some.instance c.args.key.now c.stalls.result c.names_once.ensures c.in-Some.ensures.found c.stalls.ensures
