use Rattle.fact_sets.specs.FactLists.{held}
use Rattle.fact_sets.proofs.facts.name_held.Goals as goal

pub returns-clause-says : goal.returns-clause-says
returns-clause-says g c = held c.in_ok-instance.instance c.in_ok-held.held c.args.kind c.args.key.now c.args.object.now c.in_ok-instance.ensures.is c.in_ok-held.ensures.is
