-- The numbers of nodes, in order and each once.
use Rattle.std.specs.Prelude.{◌↔◌, ◌⊎◌, slice_get}
use Rattle.std.specs.List.{dedup}
use Rattle.std.specs.List.Sorted.{IsStrictlyIncreasing, IsSorted, IsPermutation}
use Rattle.std.specs.Ordering.{nat_cmp}
use Rattle.std.proofs.Common.{inl, inr, ◌≡◌, ℕ, ◌+◌, ◌<◌, ◌≤◌, eqb, List, [], ◌∷◌, ◌++◌, length, get_or, take, Some, Contains, refl, sym, ◌∙◌, ap, subst, arith}
use Rattle.std.proofs.lemmas.Bool.{cases_lt}
use Rattle.std.proofs.lemmas.Option.{slice_get_within, get_or_from_slice_get}
use Rattle.std.proofs.lemmas.List.{take_all}
use Rattle.std.proofs.lemmas.List.Elements.{Contains-append_left, Contains-push, Contains-push_cases}
use Rattle.std.proofs.lemmas.List.Sorted.{Contains-permutation, IsPermutation-sym}
use Rattle.std.proofs.lemmas.List.Kept.{AllPairs-from_increasing, Contains-dedup_nat, Contains-from_dedup}
use Rattle.std.proofs.lemmas.Map.Keys.{IsStrictlyIncreasing-dedup}
use Rattle.jo_prog.proofs.WalkLemmas.{none_there}
use Rattle.dep_nodes.specs.declared.kinds.NodeKind.{NodeKind}
use Rattle.dep_nodes.specs.OnceLists.{IsOnceEach}
use Rattle.dep_nodes.proofs.OnceLemmas.{contains_at}
use Rattle.dependence.proofs.ListedLemmas.{taken_more}
use Rattle.flow_graph.specs.Adding.{HasThose}
use Rattle.flow_graph.specs.Rows.{AddsNumber, IsNumberAmong}

module _ (nodes kinds : List NodeKind) where
  pub no_numbers : HasThose (IsNumberAmong nodes (take 0 kinds)) []
  no_numbers x = (λ c. absurd (none_there x c), λ among. absurd (none_there among.0 among.1))

  pub number_added : (i number : ℕ) (kind : NodeKind) (old new : List ℕ) → IsOnceEach nodes → i < length kinds → kind ≡ get_or kinds i kind → slice_get nodes number ≡ Some kind → new ≡ old ++ number ∷ []
      → HasThose (IsNumberAmong nodes (take i kinds)) old → HasThose (IsNumberAmong nodes (take (i + 1) kinds)) new
  number_added i number kind old new once below is at made has x = (there, back)
    where
      early : Contains old x → IsNumberAmong nodes (take (i + 1) kinds) x
      early c = let among = (has x).0 c in (among.0, (taken_more kinds i kind among.0 below is).1 (inl among.1), among.2)

      there : Contains new x → IsNumberAmong nodes (take (i + 1) kinds) x
      there c = elim (Contains-push_cases old number x (subst (λ xs. Contains xs x) made c)) [
        | inl before ↦ early before
        | inr same ↦ (kind, (taken_more kinds i kind kind below is).1 (inr refl), ap (slice_get nodes) (sym same) ∙ at)
      ]

      last : (n : NodeKind) → n ≡ kind → slice_get nodes x ≡ Some n → Contains (old ++ number ∷ []) x
      last n same stands = subst (λ k. Contains (old ++ number ∷ []) k) (once number x n (at ∙ ap (λ k. Some k) (sym same)) stands) (Contains-push old number)

      back : IsNumberAmong nodes (take (i + 1) kinds) x → Contains new x
      back (n, among, stands) = subst (λ xs. Contains xs x) (sym made) (elim ((taken_more kinds i kind n below is).0 among) [
        | inl before ↦ Contains-append_left old (number ∷ []) x ((has x).1 (n, before, stands))
        | inr same ↦ last n same stands
      ])

  pub number_absent : (i : ℕ) (kind : NodeKind) (old : List ℕ) → i < length kinds → kind ≡ get_or kinds i kind → (Contains nodes kind → ⊥)
      → HasThose (IsNumberAmong nodes (take i kinds)) old → HasThose (IsNumberAmong nodes (take (i + 1) kinds)) old
  number_absent i kind old below is absent has x = (there, back)
    where
      there : Contains old x → IsNumberAmong nodes (take (i + 1) kinds) x
      there c = let among = (has x).0 c in (among.0, (taken_more kinds i kind among.0 below is).1 (inl among.1), among.2)

      back : IsNumberAmong nodes (take (i + 1) kinds) x → Contains old x
      back (n, among, stands) = elim ((taken_more kinds i kind n below is).0 among) [
        | inl before ↦ (has x).1 (n, before, stands)
        | inr same ↦ absurd (absent (subst (λ k. Contains nodes k) same (contains_at nodes x n stands)))
      ]

  pub number_step : (i : ℕ) (kind : NodeKind) (old new : List ℕ) → IsOnceEach nodes → i < length kinds → kind ≡ get_or kinds i kind → AddsNumber nodes kind old new
      → HasThose (IsNumberAmong nodes (take i kinds)) old → HasThose (IsNumberAmong nodes (take (i + 1) kinds)) new
  number_step i kind old new once below is (inl (number, at, made)) has = number_added i number kind old new once below is at made has
  number_step i kind old new once below is (inr (absent, same)) has = subst (HasThose (IsNumberAmong nodes (take (i + 1) kinds))) (sym same) (number_absent i kind old below is absent has)

once_rising : (xs : List ℕ) → IsStrictlyIncreasing xs → IsOnceEach xs
once_rising xs up i j x at_i at_j = elim (cases_lt i j) [
  | inl less ↦ absurd (less_not i j less at_i at_j)
  | inr from ↦ elim (cases_lt j i) [
    | inl more ↦ absurd (less_not j i more at_j at_i)
    | inr upto ↦ omega (arith, from, upto)
  ]
]
  where
    less_not : (a b : ℕ) → a < b → slice_get xs a ≡ Some x → slice_get xs b ≡ Some x → ⊥
    less_not a b less at_a at_b =
        let below = AllPairs-from_increasing xs up a b 0 less (slice_get_within xs b x at_b) in
        let first = get_or_from_slice_get xs a x 0 at_a in
        let second = get_or_from_slice_get xs b x 0 at_b in
        omega (arith, below, first, second)

-- in order and each once
pub numbers_sorted : (P : ℕ → Type 0) (xs sorted ys : List ℕ) → HasThose P xs → IsPermutation xs sorted → IsSorted nat_cmp sorted → ys ≡ dedup eqb sorted → HasThose P ys × IsOnceEach ys
numbers_sorted P xs sorted ys has moved in_order once =
    (subst (HasThose P) (sym once) (λ x. (there x, back x)), subst IsOnceEach (sym once) (once_rising (dedup eqb sorted) (IsStrictlyIncreasing-dedup sorted in_order)))
  where
    there : (x : ℕ) → Contains (dedup eqb sorted) x → P x
    there x c = (has x).0 (Contains-permutation sorted xs x (IsPermutation-sym xs sorted moved) (Contains-from_dedup eqb sorted x c))

    back : (x : ℕ) → P x → Contains (dedup eqb sorted) x
    back x p = Contains-dedup_nat sorted x (Contains-permutation xs sorted x moved ((has x).1 p))
