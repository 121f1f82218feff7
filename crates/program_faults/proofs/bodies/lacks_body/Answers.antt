use Rattle.std.proofs.Common.{◌∙◌, sym}
use Rattle.std.proofs.lemmas.Bool.{false≢true}
use Rattle.program_faults.proofs.BodyLemmas.{lacks, is_lacking}
use Rattle.program_faults.proofs.bodies.lacks_body.Goals as goal

pub returns-then-is_abstract : goal.returns-then-is_abstract
returns-then-is_abstract c = (
  λ t. absurd (false≢true t),
  λ l. absurd (false≢true (sym l.concrete ∙ sym c.is_abstract.ensures ∙ c.if-is_abstract.true)),
)

pub returns : goal.returns
returns c = (
  λ t. lacks c.args.program.now c.args.class c.supertypes-above.result.now (λ b among. (c.supertypes-above.ensures b).0 among) (sym c.is_abstract.ensures ∙ c.if-is_abstract.false)
      (sym c.some_unselected_above.ensures ∙ t),
  λ l. c.some_unselected_above.ensures ∙ is_lacking c.args.program.now c.args.class c.supertypes-above.result.now (λ b above. (c.supertypes-above.ensures b).1 above) l,
)
