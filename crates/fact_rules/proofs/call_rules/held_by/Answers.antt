use Rattle.fact_rules.proofs.KeptLemmas.{held_told}
use Rattle.fact_rules.proofs.call_rules.held_by.Goals as goal

pub returns-in-Some-clause-each : goal.returns-in-Some-clause-each
returns-in-Some-clause-each g c = held_told c.args.facts.now c.held.result.now c.in-Some.instance c.args.key.now c.args.kind c.names_once.ensures c.in-Some.ensures.found c.held.ensures.each
