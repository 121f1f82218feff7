use Rattle.std.proofs.Common.{Some}
use Rattle.std.proofs.lemmas.Result.{on_ok_weaker}
use Rattle.fact_sets.specs.Seen.{Listed, instance_seen}
use Rattle.fact_rules.specs.Places.{instance_of}
use Rattle.fact_rules.specs.ValueSteps.{IsMade, MakesAt}
use Rattle.fact_rules.proofs.AddsLemmas.{adds_alike}
use Rattle.fact_rules.proofs.value_rules.add_made.Goals as goal

pub returns : goal.returns
returns g c =
    let list = g.X.Contexts.list in
    let i = instance_seen list (instance_of c.args.view.now.method c.args.context) in
    on_ok_weaker c.add_fact.result
    (λ adds. adds_alike (Listed list c.args.following.now.items) (Listed list c.add_fact.new.following.items) (IsMade list i c.args.pc (Some c.in-Some.object))
    (MakesAt c.args.view.now.program.now (g.X.Contexts.policy c.args.contexts.now) i c.args.pc) (adds list g.met.X.Contexts.equal_lists) c.in-Some.ensures)
    c.add_fact.ensures
