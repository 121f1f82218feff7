-- Tables of what decides at pcs.
use Rattle.std.proofs.Common.{◌≡◌, ℕ, ◌+◌, ◌<◌, ◌≤◌, Bool, true, false, List, [], ◌∷◌, ◌++◌, length, get_or, Option, Some, None, ltb, refl, sym, ◌∙◌, ap, subst, inl, inr, arith}
use Rattle.std.proofs.lemmas.Bool.{cases_eq, ltb-true, ltb-false}
use Rattle.std.proofs.lemmas.List.{length-append, get_or_past, get_or_append_left, get_or-append-add}
use Rattle.jo_prog.specs.declared.program.Program.{Program}
use Rattle.jo_prog.specs.TypingPaths.{Typable}
use Rattle.typing_heights.specs.declared.gauges.Gauge.{Gauge}
use Rattle.typing_heights.specs.Gauges.{IsGaugeIf, AreGauges}

module _ (program : Program) (t : Typable) where
  pub gauges_none : AreGauges program t []
  gauges_none pc = tt

  pub gauges_more : (end : ℕ) (gauges new : List (Option Gauge)) (gauge : Option Gauge) → length gauges ≡ end → AreGauges program t gauges → IsGaugeIf program t end gauge → new ≡ gauges ++ gauge ∷ [] → AreGauges program t new
  gauges_more end gauges new gauge long are is made pc =
      subst (λ (l : List (Option Gauge)). IsGaugeIf program t pc (get_or l pc None)) (sym made) (elim (cases_eq pc end) [
        | inl same ↦
            subst (λ (x : ℕ). IsGaugeIf program t x (get_or (gauges ++ gauge ∷ []) x None)) (sym same)
            (subst (λ (o : Option Gauge). IsGaugeIf program t end o) (sym last_is) is)
        | inr other ↦ by_test other (ltb pc end) refl
      ])
    where
      last_is : get_or (gauges ++ gauge ∷ []) end None ≡ gauge
      last_is = ap (λ n. get_or (gauges ++ gauge ∷ []) n None) (let f : end ≡ length gauges + 0 = omega (arith, long) in f) ∙ get_or-append-add gauges (gauge ∷ []) 0 None

      by_test : (pc ≡ end → ⊥) → (b : Bool) → ltb pc end ≡ b → IsGaugeIf program t pc (get_or (gauges ++ gauge ∷ []) pc None)
      by_test other true low =
          let below = ltb-true pc end low in
          subst (λ (o : Option Gauge). IsGaugeIf program t pc o) (sym (get_or_append_left gauges (gauge ∷ []) None pc (omega (arith, below, long)))) (are pc)
      by_test other false high =
          let far = ltb-false pc end high in
          let more = length-append gauges (gauge ∷ []) in
          subst (λ (o : Option Gauge). IsGaugeIf program t pc o) (sym (get_or_past (gauges ++ gauge ∷ []) pc None (omega (arith, far, other, long, more)))) tt

  pub length_more : (end : ℕ) (gauges new : List (Option Gauge)) (gauge : Option Gauge) → length gauges ≡ end → new ≡ gauges ++ gauge ∷ [] → length new ≡ end + 1
  length_more end gauges new gauge long made = let more = length-append gauges (gauge ∷ []) in ap (λ (l : List (Option Gauge)). length l) made ∙ more ∙ omega (arith, long)
