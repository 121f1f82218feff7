use Rattle.std.proofs.Common.{OnOk, sym, subst}
use Rattle.fact_rules.specs.Adds.{Adds}
use Rattle.fact_rules.specs.CycleRules.{HasPair, IsPairFrom}
use Rattle.fact_rules.proofs.cycle_rules.add_from.Goals as goal

pub returns-in-Target-clause-pairs : goal.returns-in-Target-clause-pairs
returns-in-Target-clause-pairs g c =
    subst (λ fact. OnOk c.add_target.result (Adds (HasPair c.args.calls.now) (HasPair c.add_target.new.calls) (IsPairFrom c.args.facts.now.instances c.args.count fact)))
    (sym c.in-Target.is) c.add_target.ensures.pairs
