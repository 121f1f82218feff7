-- The set of the names that a search has passed.
use Rattle.std.proofs.Common.{◌≡◌, ℕ, ◌++◌, ◌∷◌, [], Bool, true, false, cond, List, Contains, Bor, sym, ◌∙◌, ap, subst, arith, inl, inr}
use Rattle.std.specs.declared.cmp.Ordering.{Ordering}
use Rattle.std.specs.BTreeSet as sorted
use Rattle.std.specs.BTreeSet.{BTreeSet}
use Rattle.std.specs.Cmp.Lexicographic.{slice_cmp}
use Rattle.std.specs.Ordering.{nat_cmp}
use Rattle.std.specs.Str.{bytes_eq}
use Rattle.std.proofs.lemmas.Bool.{cases_Bool, both_ways}
use Rattle.std.proofs.lemmas.Bool.Decides.{not_from_Decides}
use Rattle.std.proofs.lemmas.List.Elements.{Contains-append_left, Contains-push, Contains-push_cases}
use Rattle.std.proofs.lemmas.Map.Text.{is_eq-slice_cmp}
use Rattle.std.proofs.lemmas.Slice.Eq.{bytes_eq-Decides}

-- the order of the set's keys
abbrev pub key_cmp : Bor (List ℕ) → Bor (List ℕ) → Ordering
key_cmp x y = slice_cmp nat_cmp x.now y.now

-- the set has a text exactly where it is one of the names
pub record HasSeen (names : List (List ℕ)) (seen : BTreeSet (Bor (List ℕ))) : Type 0 where
  pub among : (q : Bor (List ℕ)) → sorted.contains key_cmp seen q ≡ true → Contains names q.now
  pub has : (q : Bor (List ℕ)) → Contains names q.now → sorted.contains key_cmp seen q ≡ true

pub seen_none : (seen : BTreeSet (Bor (List ℕ))) → seen.keys ≡ [] → HasSeen [] seen
seen_none seen e = record {
  among = λ q h. absurd (both_ways (sorted.contains key_cmp seen q) (ap (λ ks. sorted.contains key_cmp (record { keys = ks }) q) e) h);
  has = λ q c. absurd (omega (arith, c.1));
}

pub seen_more : (names : List (List ℕ)) (old new : BTreeSet (Bor (List ℕ))) (key : Bor (List ℕ)) → HasSeen names old → sorted.Updates key_cmp old new key true
    → HasSeen (names ++ key.now ∷ []) new
seen_more names old new key so_far updates = record { among = among; has = has }
  where
    is : (q : Bor (List ℕ)) (b : Bool) → bytes_eq key.now q.now ≡ b → sorted.contains key_cmp new q ≡ cond b true (sorted.contains key_cmp old q)
    is q b e = updates.0 q ∙ ap (λ t. cond t true (sorted.contains key_cmp old q)) (is_eq-slice_cmp key.now q.now ∙ e)

    among : (q : Bor (List ℕ)) → sorted.contains key_cmp new q ≡ true → Contains (names ++ key.now ∷ []) q.now
    among q h = elim (cases_Bool (bytes_eq key.now q.now)) [
      | inl same ↦ subst (λ n. Contains (names ++ key.now ∷ []) n) ((bytes_eq-Decides key.now q.now).0 same) (Contains-push names key.now)
      | inr other ↦ Contains-append_left names (key.now ∷ []) q.now (so_far.among q (sym (is q false other) ∙ h))
    ]

    has : (q : Bor (List ℕ)) → Contains (names ++ key.now ∷ []) q.now → sorted.contains key_cmp new q ≡ true
    has q c = elim (cases_Bool (bytes_eq key.now q.now)) [
      | inl same ↦ is q true same
      | inr other ↦ elim (Contains-push_cases names key.now q.now c) [
        | inl before ↦ is q false other ∙ so_far.has q before
        | inr e ↦ absurd (not_from_Decides (bytes_eq key.now q.now) (bytes_eq-Decides key.now q.now) other e)
      ]
    ]
