use Rattle.std.proofs.Common.{◌≡◌, ◌↔◌, ◌⊎◌, subst}
use Rattle.fact_sets.specs.FactLists.{HasFact, lists_of}
use Rattle.fact_sets.proofs.SayLemmas.{facts_exact}
use Rattle.fact_sets.proofs.facts.Facts.add.Goals as goal

pub returns-in-Ok-clause-exact : goal.returns-in-Ok-clause-exact
returns-in-Ok-clause-exact g c = λ f.
    let same : lists_of c.self.inside.table c.self.inside.instances c.self.inside.objects ≡ c.args.self.now = cc in
    subst (λ lists. HasFact (lists_of c.add_named.new.table c.add_named.new.instances c.add_named.new.objects) f ↔ (HasFact lists f ⊎ (f ≡ c.args.fact.now))) same
    (facts_exact c.self.inside.table c.add_named.new.table c.self.inside.instances c.self.inside.objects c.add_named.new.instances c.add_named.new.objects c.in-Ok.ensures.ok.numbered c.args.fact.now
    c.self.invariant c.add_named.ensures.grows c.add_named.ensures.grows_too c.in-Ok.ensures.ok.says c.in-Ok.ensures.ok.facts f)
