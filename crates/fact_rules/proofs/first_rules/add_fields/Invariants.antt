use Rattle.fact_sets.specs.Seen.{Listed}
use Rattle.fact_rules.specs.Adds.{Adds, FromBelow}
use Rattle.fact_rules.specs.FirstRules.{FieldGives}
use Rattle.fact_rules.proofs.first_rules.add_fields.Given as goal

abbrev pub invariant-loop-number : goal.invariant-loop-number
invariant-loop-number g l = Adds (Listed g.X.Contexts.list l.initial.following.items) (Listed g.X.Contexts.list l.following.items) (FromBelow l.number (FieldGives l.program))
