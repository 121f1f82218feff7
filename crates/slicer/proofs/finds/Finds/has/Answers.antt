use Rattle.std.proofs.Common.{inl, inr, sym, ◌∙◌, ap}
use Rattle.std.proofs.lemmas.Bool.{both_ways}
use Rattle.jo_ids.specs.Rows.{has_number}
use Rattle.slicer.proofs.FindLemmas.{has_answer}
use Rattle.slicer.proofs.finds.Finds.has.Goals as goal

pub returns-then-has : goal.returns-then-has
returns-then-has c =
    let s = c.self.inside in
    has_answer s.first s.second s.places.items c.args.self.now.found s.end c.number.result c.args.node c.has.result c.self.invariant (ap (λ v. v.found) c.self.view_is) c.number.ensures
    (λ is. inl (sym c.has.ensures ∙ is)) (λ _. c.if-has.true)

pub returns-else-has : goal.returns-else-has
returns-else-has c =
    let s = c.self.inside in
    has_answer s.first s.second s.places.items c.args.self.now.found s.end c.number-else-has.result c.args.node c.has-else-has.result c.self.invariant (ap (λ v. v.found) c.self.view_is)
    c.number-else-has.ensures (λ is. inr (sym c.has-else-has.ensures ∙ is))
    (λ either. elim either [
      | inl in_first ↦ absurd (both_ways c.has.result c.if-has.false (c.has.ensures ∙ ap (has_number s.first) (c.number.ensures ∙ sym c.number-else-has.ensures) ∙ in_first))
      | inr in_second ↦ c.has-else-has.ensures ∙ in_second
    ])
