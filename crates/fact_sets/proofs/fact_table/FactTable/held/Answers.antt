use Rattle.std.proofs.Common.{◌≡◌, ◌↔◌, Contains, subst}
use Rattle.fact_sets.specs.declared.numbered.NumberedFact.TheVariants.{Holds}
use Rattle.fact_sets.proofs.TableLemmas.{both_ways}
use Rattle.fact_sets.proofs.fact_table.FactTable.held.Goals as goal

pub returns-clause-each : goal.returns-clause-each
returns-clause-each c = λ o.
    let same : c.self.inside.all ≡ c.args.self.now = cc in
    subst (λ all. Contains c.under.result.now o ↔ Contains all (Holds c.args.holder.now o)) same
    (both_ways (c.under.ensures.each o) (c.self.invariant.held_is c.args.holder.now o))
