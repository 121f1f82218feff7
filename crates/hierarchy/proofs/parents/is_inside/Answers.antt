use Rattle.std.proofs.Common.{◌∙◌, ℕ, List, sym, subst}
use Rattle.std.specs.List.{Contains}
use Rattle.std.proofs.lemmas.Bool.{false≢true}
use Rattle.hierarchy.proofs.ParentLemmas.{inside_by_parts, interfaces_inside, superclass_inside}
use Rattle.hierarchy.proofs.parents.is_inside.Goals as goal

pub returns-then-not-superclass_below : goal.returns-then-not-superclass_below
returns-then-not-superclass_below c = (
  λ t. absurd (false≢true t),
  λ inside. absurd (false≢true (sym c.if-not-superclass_below.true ∙ c.superclass_below.ensures.1 (λ s e. superclass_inside c.args.count c.args.class.now s e inside))),
)

pub returns : goal.returns
returns c = (
  λ t. inside_by_parts c.args.count c.args.class.now (λ p among. c.all_below.ensures.0 t p (subst (λ (ys : List ℕ). Contains ys p) (sym c.as_slice.ensures) among))
      (c.superclass_below.ensures.0 c.if-not-superclass_below.false),
  λ inside. c.all_below.ensures.1 (λ p among. interfaces_inside c.args.count c.args.class.now inside p (subst (λ (ys : List ℕ). Contains ys p) c.as_slice.ensures among)),
)
