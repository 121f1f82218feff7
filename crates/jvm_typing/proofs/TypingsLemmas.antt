-- Typings of the methods of a program, one after the other.
use Rattle.std.proofs.Common.{◌≡◌, ◌↔◌, ℕ, ◌+◌, ◌<◌, List, [], ◌∷◌, ◌++◌, length, get_or, Option, Some, refl, sym, ◌∙◌, ap, subst, inl, inr, arith}
use Rattle.std.proofs.lemmas.Bool.{cases_eq}
use Rattle.std.proofs.lemmas.List.{length-append, get_or_append_left, get_or-append-add}
use Rattle.jo_prog.specs.declared.program.Program.{Program}
use Rattle.jo_prog.specs.TypingPaths.{IsTypedMethod, HasHeightAt}
use Rattle.typing_heights.specs.FirstPaths.{HasFirstPaths}
use Rattle.typing_heights.specs.Searches.{height_at}
use Rattle.jvm_typing.specs.Typings.{AreTypings}

pub none_typed : (program : Program) → AreTypings program 0 []
none_typed program = record { count = refl; typed = λ m below. absurd (omega arith); first_paths = λ m below. absurd (omega arith); heights = λ m below. absurd (omega arith) }

pub typings_more : (program : Program) (n : ℕ) (old : List (List (Option ℕ))) (typed : List (Option ℕ)) → AreTypings program n old → IsTypedMethod program n → HasFirstPaths program n
    → ((pc h : ℕ) → (height_at typed pc ≡ Some h) ↔ HasHeightAt program n pc h) → AreTypings program (n + 1) (old ++ typed ∷ [])
typings_more program n old typed are is firsts heights = record {
  count = length-append old (typed ∷ []) ∙ ap (λ k. k + 1) are.count;
  typed = λ m below. elim (cases_eq m n) [
    | inl same ↦ subst (λ (k : ℕ). IsTypedMethod program k) (sym same) is
    | inr other ↦ are.typed m (omega (arith, below, other))
  ];
  first_paths = λ m below. elim (cases_eq m n) [
    | inl same ↦ subst (λ (k : ℕ). HasFirstPaths program k) (sym same) firsts
    | inr other ↦ are.first_paths m (omega (arith, below, other))
  ];
  heights = λ m below. elim (cases_eq m n) [
    | inl same ↦
        subst (λ (k : ℕ). (pc h : ℕ) → (height_at (get_or (old ++ typed ∷ []) k []) pc ≡ Some h) ↔ HasHeightAt program k pc h) (sym same)
        (subst (λ (l : List (Option ℕ)). (pc h : ℕ) → (height_at l pc ≡ Some h) ↔ HasHeightAt program n pc h) (sym last) heights)
    | inr other ↦
        let low : m < n = omega (arith, below, other) in
        subst (λ (l : List (Option ℕ)). (pc h : ℕ) → (height_at l pc ≡ Some h) ↔ HasHeightAt program m pc h)
        (sym (get_or_append_left old (typed ∷ []) [] m (let c = are.count in omega arith))) (are.heights m low)
  ];
}
  where
    last : get_or (old ++ typed ∷ []) n [] ≡ typed
    last = let at : length old + 0 ≡ n = (let c = are.count in omega arith) in ap (λ k. get_or (old ++ typed ∷ []) k []) (sym at) ∙ get_or-append-add old (typed ∷ []) 0 []
