use Rattle.std.proofs.Common.{rules}
use Rattle.fact_rules.proofs.FirstLemmas.{told_by_count, none_of_count}
use Rattle.fact_rules.proofs.first_rules.has_parameter.Goals as goal

pub returns-in-Some : goal.returns-in-Some
returns-in-Some c = told_by_count c.args.program.now c.args.method c.in-Some.count (search rules)

pub returns-in-None : goal.returns-in-None
returns-in-None c = none_of_count c.args.program.now c.args.method (search rules)
