-- Levels with different names that don't flow to each other, by the order that they give.
use Rattle.std.proofs.Common.{◌≡◌, ℕ, suc, ◌<◌, ◌≤◌, Bool, true, false, nat_lt, List, [], ◌∷◌, Some, slice_get, refl, sym, ◌∙◌, arith, inl, inr}
use Rattle.std.specs.List.{AllByRecursion}
use Rattle.std.proofs.lemmas.Bool.{ltb-true, ltb-false}
use Rattle.std.proofs.lemmas.Option.{slice_get_within}
use Rattle.jo_order.specs.Orders.{IsCycle, AreDistinct, AreKnown}
use Rattle.jo_prog.specs.Labels.{flows_by}
use Rattle.jo_prog.proofs.Flows.{along_from_flows}

pub names_apart : (names : List (List ℕ)) → AreDistinct names → (j k : ℕ) (name : List ℕ) → slice_get names j ≡ Some name → slice_get names k ≡ Some name → j ≡ k
names_apart names apart j k name a b = by_order (nat_lt j k) (nat_lt k j) refl refl
  where
    by_order : (less more : Bool) → nat_lt j k ≡ less → nat_lt k j ≡ more → j ≡ k
    by_order true more e f = absurd (apart k (record { inside = slice_get_within names k name b; earlier = (j, ltb-true j k e, a ∙ sym b) }))
    by_order false true e f = absurd (apart j (record { inside = slice_get_within names j name a; earlier = (k, ltb-true k j f, b ∙ sym a) }))
    by_order false false e f = omega (arith, ltb-false j k e, ltb-false k j f)

pub no_mutual : (pairs : List (ℕ × ℕ)) → ((a b : ℕ) → IsCycle pairs a b → ⊥) → (a b : ℕ) → flows_by pairs a b ≡ true → flows_by pairs b a ≡ true → a ≡ b
no_mutual pairs none a b up down = by_order (nat_lt a b) (nat_lt b a) refl refl
  where
    by_order : (less more : Bool) → nat_lt a b ≡ less → nat_lt b a ≡ more → a ≡ b
    by_order true more e f = absurd (none a b (record { below = ltb-true a b e; up = along_from_flows pairs a b up; down = along_from_flows pairs b a down }))
    by_order false true e f = absurd (none b a (record { below = ltb-true b a f; up = along_from_flows pairs b a down; down = along_from_flows pairs a b up }))
    by_order false false e f = omega (arith, ltb-false a b e, ltb-false b a f)

below_or : (n count : ℕ) (b : Bool) → nat_lt n count ≡ b → ((count ≤ n) → ⊥) → n < count
below_or n count true e f = ltb-true n count e
below_or n count false e f = absurd (f (ltb-false n count e))

pub pairs_known : (count : ℕ) (pairs : List (ℕ × ℕ)) → AreKnown count pairs → AllByRecursion (λ (pair : ℕ × ℕ). (pair.0 < count) × (pair.1 < count)) pairs
pairs_known count [] known = tt
pairs_known count (pair ∷ pairs) known = (
  (
    below_or pair.0 count (nat_lt pair.0 count) refl (λ past. known 0 (record { pair = pair; there = refl; past = inl past })),
    below_or pair.1 count (nat_lt pair.1 count) refl (λ past. known 0 (record { pair = pair; there = refl; past = inr past })),
  ),
  pairs_known count pairs (λ place unknown. known (suc place) (record { pair = unknown.pair; there = unknown.there; past = unknown.past })),
)
