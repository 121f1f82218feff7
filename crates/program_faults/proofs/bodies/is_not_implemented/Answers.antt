use Rattle.std.proofs.Common.{◌∙◌, refl, sym, inl, inr}
use Rattle.std.proofs.lemmas.Bool.{false≢true}
use Rattle.program_faults.proofs.BodyLemmas.{uses, is_using}
use Rattle.program_faults.proofs.bodies.is_not_implemented.Goals as goal

pub returns-then-lacks_body : goal.returns-then-lacks_body
returns-then-lacks_body c = (λ t. inl (c.lacks_body.ensures.0 c.if-lacks_body.true), λ l. refl)

pub returns : goal.returns
returns c = (
  λ t. inr (uses c.args.program.now c.args.class (sym c.in_ok-uses.ensures ∙ t)),
  λ either. elim either [
    | inl l ↦ absurd (false≢true (sym c.if-lacks_body.false ∙ c.lacks_body.ensures.1 l))
    | inr u ↦ c.in_ok-uses.ensures ∙ is_using c.args.program.now c.args.class u
  ],
)
