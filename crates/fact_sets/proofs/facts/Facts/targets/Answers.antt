use Rattle.std.proofs.Common.{◌≡◌, ◌↔◌, ◌<◌, length, Contains, subst}
use Rattle.fact_sets.specs.declared.numbered.NumberedFact.TheVariants.{Calls}
use Rattle.fact_sets.specs.FactLists.{lists_of}
use Rattle.fact_sets.proofs.facts.Facts.targets.Goals as goal

pub returns-clause-each : goal.returns-clause-each
returns-clause-each g c = λ t.
    let same : lists_of c.self.inside.table c.self.inside.instances c.self.inside.objects ≡ c.args.self.now = cc in
    subst (λ lists. Contains c.called.result.now t ↔ Contains lists.facts (Calls (record { instance = c.args.instance; pc = c.args.pc }) t.instance t.fork)) same (c.called.ensures.each t)

pub returns-clause-there : goal.returns-clause-there
returns-clause-there g c = λ t there.
    let same : lists_of c.self.inside.table c.self.inside.instances c.self.inside.objects ≡ c.args.self.now = cc in
    subst (λ lists. t.instance < length lists.instances) same
    ((c.self.invariant.within (Calls (record { instance = c.args.instance; pc = c.args.pc }) t.instance t.fork) ((c.called.ensures.each t).0 there)).1)
