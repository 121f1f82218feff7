-- `flows_by` is the reflexive and transitive closure of its pairs.
use Rattle.std.proofs.Common.{◌≡◌, ℕ, zero, suc, ◌<◌, true, ◌&&◌, List, [], ◌∷◌, length, get_or, refl, sym, subst, arith, inl, inr, ap}
use Rattle.std.proofs.lemmas.Bool.{eqb-true, eq-eqb, or_cases, or_left, or_right, and_parts, and_from}
use Rattle.jo_ids.specs.Path.{stays, goes}
use Rattle.jo_ids.specs.Closure.{Closure}
use Rattle.jo_ids.proofs.PathLemmas.{path_on, path_in}
use Rattle.jo_prog.specs.Labels.{flows_by}

-- a path by fewer pairs is a path by more
along_more : (pair : ℕ × ℕ) (pairs : List (ℕ × ℕ)) {a b : ℕ} → Closure pairs a b → Closure (pair ∷ pairs) a b
along_more pair pairs = path_in (λ a. a) (λ a b among. (suc among.0, omega (arith, among.1), among.2))

pub along_from_flows : (pairs : List (ℕ × ℕ)) (a b : ℕ) → flows_by pairs a b ≡ true → Closure pairs a b
along_from_flows [] a b h = subst (λ x. Closure [] a x) (eqb-true a b h) (stays a)
along_from_flows (pair ∷ pairs) a b h =
    elim (or_cases (flows_by pairs a b) (flows_by pairs a pair.0 && flows_by pairs pair.1 b) h) [
      | inl e ↦ along_more pair pairs (along_from_flows pairs a b e)
      | inr e ↦
          let both = and_parts (flows_by pairs a pair.0) (flows_by pairs pair.1 b) e in
          let first = along_more pair pairs (along_from_flows pairs a pair.0 both.0) in
          let last = along_more pair pairs (along_from_flows pairs pair.1 b both.1) in
          path_on first (goes pair.0 pair.1 b (0, omega arith, refl) last)
    ]

flows_by-self : (pairs : List (ℕ × ℕ)) (a : ℕ) → flows_by pairs a a ≡ true
flows_by-self [] a = eq-eqb a a refl
flows_by-self (pair ∷ pairs) a = or_left _ _ (flows_by-self pairs a)

flows_by-pair : (pairs : List (ℕ × ℕ)) (a b k : ℕ) → k < length pairs → get_or pairs k (a, b) ≡ (a, b) → flows_by pairs a b ≡ true
flows_by-pair [] a b k h e = absurd (omega (arith, h))
flows_by-pair (pair ∷ pairs) a b zero h e =
    or_right (flows_by pairs a b) _ (and_from _ _ (subst (λ x. flows_by pairs a x ≡ true) (sym (ap (λ (p : ℕ × ℕ). p.0) e)) (flows_by-self pairs a)) (subst (λ x. flows_by pairs x b ≡ true) (sym (ap (λ (p : ℕ × ℕ). p.1) e)) (flows_by-self pairs b)))
flows_by-pair (pair ∷ pairs) a b (suc k) h e = or_left _ _ (flows_by-pair pairs a b k (omega (arith, h)) e)

flows_by-on : (pairs : List (ℕ × ℕ)) (a b c : ℕ) → flows_by pairs a b ≡ true → flows_by pairs b c ≡ true → flows_by pairs a c ≡ true
flows_by-on [] a b c h k = let e = eqb-true a b h in let f = eqb-true b c k in eq-eqb a c (omega arith)
flows_by-on (pair ∷ pairs) a b c h k =
    let p = pair.0 in let q = pair.1 in
    let F = flows_by pairs in
    elim (or_cases (F a b) (F a p && F q b) h) [
      | inl first ↦ elim (or_cases (F b c) (F b p && F q c) k) [
        | inl next ↦ or_left (F a c) _ (flows_by-on pairs a b c first next)
        | inr next ↦
            let both = and_parts (F b p) (F q c) next in
            or_right (F a c) _ (and_from (F a p) (F q c) (flows_by-on pairs a b p first both.0) both.1)
      ]
      | inr first ↦
          let start = and_parts (F a p) (F q b) first in
          elim (or_cases (F b c) (F b p && F q c) k) [
            | inl next ↦ or_right (F a c) _ (and_from (F a p) (F q c) start.0 (flows_by-on pairs q b c start.1 next))
            | inr next ↦
                let both = and_parts (F b p) (F q c) next in
                or_right (F a c) _ (and_from (F a p) (F q c) start.0 both.1)
          ]
    ]

pub flows_from_along : (pairs : List (ℕ × ℕ)) {a b : ℕ} → Closure pairs a b → flows_by pairs a b ≡ true
flows_from_along pairs (stays a) = flows_by-self pairs a
flows_from_along pairs (goes a b c among on) =
    flows_by-on pairs a b c (flows_by-pair pairs a b among.0 among.1 among.2) (flows_from_along pairs on)
