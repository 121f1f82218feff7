use Rattle.std.proofs.lemmas.Result.{on_ok_weaker}
use Rattle.fact_rules.proofs.ListLevel.{listed_one}
use Rattle.fact_rules.proofs.additions.add_fact.Goals as goal

pub returns : goal.returns
returns g c = on_ok_weaker c.add.result (λ adds list tells. listed_one list c.args.following.now.items c.add.new.following.items c.args.fact adds) c.add.ensures
