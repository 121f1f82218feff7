-- Faults of kinds, as they are added to a list.
use Rattle.std.proofs.Common.{◌≡◌, ℕ, true, false, List, length, Option, None, refl, sym, ◌∙◌, ap}
use Rattle.std.specs.Prelude.{is_some}
use Rattle.jo_prog.specs.declared.program.Program.{Program}
use Rattle.jo_prog.specs.declared.typed.TypeFault.{TypeFault}
use Rattle.jo_prog.specs.TypingPaths.{Typable, effect_at}
use Rattle.jvm_typing.specs.declared.facts.Fact.{Fact}
use Rattle.jvm_typing.specs.declared.kind_faults.Asked.{Asked}
use Rattle.typing_heights.specs.Adds.{Adds, From, FromBelow}
use Rattle.typing_effects.specs.Kinds.{kind_in}
use Rattle.jvm_typing.specs.KindFaults.{place_fails, is_wrong, kind_fault, FailsBy, IsAskedAt, WrongAt, IsKindFault}
use Rattle.typing_heights.specs.Searches.{height_at}
use Rattle.typing_heights.proofs.AddsLemmas.{adds_none, adds_alike, adds_more}

module _ (program : Program) (t : Typable) where
  pub asks_there : (pc : ℕ) (asked : Asked) → IsAskedAt program t pc asked → IsAskedAt program t asked.pc asked
  asks_there pc asked is = record { at_pc = refl; same_effect = is.same_effect ∙ ap (effect_at program t) (sym is.at_pc) }

  pub not_failing : (S : TypeFault → Type 0) (fact : Fact) → place_fails program t.code.max_locals (effect_at program t fact.pc) fact.place (kind_in fact.kind) ≡ false → Adds S S (FailsBy program t fact)
  not_failing S fact e = adds_none S (FailsBy program t fact) (λ f h. absurd (let g = h.0 in cc))

  pub failing_added : (S T : TypeFault → Type 0) (fact : Fact) → place_fails program t.code.max_locals (effect_at program t fact.pc) fact.place (kind_in fact.kind) ≡ true → Adds S T (λ f. f ≡ kind_fault fact.pc)
      → Adds S T (FailsBy program t fact)
  failing_added S T fact e adds = adds_alike S T (λ f. f ≡ kind_fault fact.pc) (FailsBy program t fact) adds (λ f. (λ is. (e, is), λ h. h.1))

  pub not_reached : (S : TypeFault → Type 0) (heights : List (Option ℕ)) (pc : ℕ) → height_at heights pc ≡ None → Adds S S (WrongAt program t heights pc)
  not_reached S heights pc none = adds_none S (WrongAt program t heights pc) (λ f h. absurd (let g : is_some (height_at heights pc) ≡ true = h.0 in let k : is_some (height_at heights pc) ≡ false = ap (λ (o : Option ℕ). is_some o) none in cc))

  pub not_wrong : (S : TypeFault → Type 0) (heights : List (Option ℕ)) (pc : ℕ) → is_wrong program t pc ≡ false → Adds S S (WrongAt program t heights pc)
  not_wrong S heights pc e = adds_none S (WrongAt program t heights pc) (λ f h. absurd (let g = h.1 in cc))

  pub wrong_added : (S T : TypeFault → Type 0) (heights : List (Option ℕ)) (pc : ℕ) → is_some (height_at heights pc) ≡ true → is_wrong program t pc ≡ true → Adds S T (λ f. f ≡ kind_fault pc)
      → Adds S T (WrongAt program t heights pc)
  wrong_added S T heights pc reached e adds = adds_alike S T (λ f. f ≡ kind_fault pc) (WrongAt program t heights pc) adds (λ f. (λ is. (reached, e, is), λ h. h.2))

  pub all_added : (R S T : TypeFault → Type 0) (heights : List (Option ℕ)) (facts : List Fact) → Adds R S (From facts (FailsBy program t)) → Adds S T (FromBelow (length heights) (WrongAt program t heights))
      → Adds R T (IsKindFault program t heights facts)
  all_added R S T heights facts first second =
      adds_more R S T (From facts (FailsBy program t)) (FromBelow (length heights) (WrongAt program t heights)) (IsKindFault program t heights facts) first second (λ f. (λ h. h, λ h. h))
