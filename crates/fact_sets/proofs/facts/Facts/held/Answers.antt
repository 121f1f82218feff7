use Rattle.std.proofs.Common.{◌≡◌, ◌↔◌, ◌<◌, length, Contains, subst}
use Rattle.fact_sets.specs.declared.numbered.NumberedFact.TheVariants.{Holds}
use Rattle.fact_sets.specs.FactLists.{lists_of}
use Rattle.fact_sets.proofs.SayLemmas.{held_within}
use Rattle.fact_sets.proofs.facts.Facts.held.Goals as goal

pub returns-clause-each : goal.returns-clause-each
returns-clause-each g c = λ o.
    let same : lists_of c.self.inside.table c.self.inside.instances c.self.inside.objects ≡ c.args.self.now = cc in
    subst (λ lists. Contains c.held.result.now o ↔ Contains lists.facts (Holds c.args.holder.now o)) same (c.held.ensures.each o)

pub returns-clause-there : goal.returns-clause-there
returns-clause-there g c = λ o there.
    let same : lists_of c.self.inside.table c.self.inside.instances c.self.inside.objects ≡ c.args.self.now = cc in
    subst (λ lists. o < length lists.objects) same
    (held_within (length c.self.inside.instances) (length c.self.inside.objects) c.args.holder.now o (c.self.invariant.within (Holds c.args.holder.now o) ((c.held.ensures.each o).0 there)))
