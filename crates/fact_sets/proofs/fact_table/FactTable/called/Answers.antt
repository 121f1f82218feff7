use Rattle.std.proofs.Common.{◌≡◌, ◌↔◌, Contains, subst}
use Rattle.fact_sets.specs.declared.numbered.NumberedFact.TheVariants.{Calls}
use Rattle.fact_sets.proofs.TableLemmas.{both_ways}
use Rattle.fact_sets.proofs.fact_table.FactTable.called.Goals as goal

pub returns-clause-each : goal.returns-clause-each
returns-clause-each c = λ t.
    let same : c.self.inside.all ≡ c.args.self.now = cc in
    subst (λ all. Contains c.under.result.now t ↔ Contains all (Calls c.args.call.now t.instance t.fork)) same
    (both_ways (c.under.ensures.each t) (c.self.invariant.called_is c.args.call.now t))
