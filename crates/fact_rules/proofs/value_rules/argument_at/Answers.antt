use Rattle.std.proofs.Common.{ℕ, Some, Contains, sym, ◌∙◌, ap, subst}
use Rattle.dep_nodes.specs.declared.kinds.NodeKind.TheVariants.{Arg}
use Rattle.fact_rules.proofs.PlaceLemmas.{argument_number}
use Rattle.fact_rules.proofs.value_rules.argument_at.Goals as goal

pub returns-in-Stack : goal.returns-in-Stack
returns-in-Stack c = λ low k there least among e.
    ap (λ (n : ℕ). Some (Arg c.args.pc n)) c.from.ensures
    ∙ argument_number c.args.places.now low k c.in-Stack.height c.lowest.result c.args.pc there least (subst (λ w. Contains c.args.places.now w) c.in-Stack.is among) (sym c.in-Stack.is ∙ e) c.lowest.ensures.there c.lowest.ensures.least
