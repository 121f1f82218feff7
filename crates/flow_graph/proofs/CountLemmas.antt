-- A list that has each thing once isn't longer than one that has them all.
use Rattle.std.specs.List.{list_any, AllByRecursion, IsDistinct}
use Rattle.std.specs.Prelude.{slice_get}
use Rattle.std.proofs.Common.{◌≡◌, ℕ, zero, suc, ◌+◌, ◌<◌, ◌≤◌, Bool, true, false, eqb, List, [], ◌∷◌, length, Some, Contains, refl, sym, ◌∙◌, ap, subst, arith, inl, inr}
use Rattle.std.proofs.lemmas.Bool.{or_cases, eqb-true, ne_eqb}
use Rattle.std.proofs.lemmas.Option.{same_Some, slice_get_read}
use Rattle.std.proofs.lemmas.Map.Steps.{length-le_from_distinct_below}
use Rattle.jo_prog.specs.declared.program.Program.{Program}
use Rattle.jo_prog.proofs.WalkLemmas.{here, behind, head_or_behind, none_there, at_recursion}
use Rattle.dep_nodes.specs.declared.kinds.NodeKind.{NodeKind}
use Rattle.dep_nodes.specs.OnceLists.{IsOnceEach}
use Rattle.dep_nodes.proofs.OnceLemmas.{contains_at}
use Rattle.dependence.specs.WideGraph.{IsWideNode}
use Rattle.dependence.specs.GraphsAsData.{HasMoreNodes}
use Rattle.flow_graph.specs.Exploring.{AreWideNodes}

any_of : (ys : List ℕ) (q : ℕ) → list_any (eqb q) ys ≡ true → Contains ys q
any_of [] q h = absurd (cc)
any_of (y ∷ ys) q h = elim (or_cases (eqb q y) (list_any (eqb q) ys) h) [
  | inl same ↦ subst (λ z. Contains (y ∷ ys) z) (sym (eqb-true q y same)) (here y ys)
  | inr more ↦ behind y ys q (any_of ys q more)
]

apart_from : (p : ℕ) (qs : List ℕ) → ((q : ℕ) → Contains qs q → p ≡ q → ⊥) → AllByRecursion (λ q. eqb p q ≡ false) qs
apart_from p [] apart = tt
apart_from p (q ∷ qs) apart = (ne_eqb p q (apart q (here q qs)), apart_from p qs (λ r c. apart r (behind q qs r c)))

once_rest : {A : Type 0} (x : A) (xs : List A) → IsOnceEach (x ∷ xs) → IsOnceEach xs
once_rest x xs once i j y at_i at_j = let same : suc i ≡ suc j = once (suc i) (suc j) y at_i at_j in omega (arith, same)

not_behind : {A : Type 0} (x : A) (xs : List A) → IsOnceEach (x ∷ xs) → Contains xs x → ⊥
not_behind x xs once c = let same : 0 ≡ suc c.0 = once 0 (suc c.0) x refl (slice_get_read xs (length xs) c.0 x refl c.1 (sym c.2)) in omega (arith, same)

module _ {A : Type 0} (ys : List A) where
  abbrev places : (xs : List A) → ((x : A) → Contains xs x → Contains ys x) → List ℕ
  places [] within = []
  places (x ∷ xs) within = (within x (here x xs)).0 ∷ places xs (λ y c. within y (behind x xs y c))

  as_many : (xs : List A) (within : (x : A) → Contains xs x → Contains ys x) → length (places xs within) ≡ length xs
  as_many [] within = refl
  as_many (x ∷ xs) within = ap suc (as_many xs (λ y c. within y (behind x xs y c)))

  stands_at : (x : A) (c : Contains ys x) → slice_get ys c.0 ≡ Some x
  stands_at x c = slice_get_read ys (length ys) c.0 x refl c.1 (sym c.2)

  below : (xs : List A) (within : (x : A) → Contains xs x → Contains ys x) → AllByRecursion (λ q. q < length ys) (places xs within)
  below [] within = tt
  below (x ∷ xs) within = ((within x (here x xs)).1, below xs (λ y c. within y (behind x xs y c)))

  stands : (xs : List A) (within : (x : A) → Contains xs x → Contains ys x) (q : ℕ) → Contains (places xs within) q → (x : A) × Contains xs x × (slice_get ys q ≡ Some x)
  stands [] within q c = absurd (none_there q c)
  stands (x ∷ xs) within q c = elim (head_or_behind (within x (here x xs)).0 (places xs (λ y d. within y (behind x xs y d))) q c) [
    | inl e ↦ (x, here x xs, ap (slice_get ys) (sym e) ∙ stands_at x (within x (here x xs)))
    | inr more ↦ let at = stands xs (λ y d. within y (behind x xs y d)) q more in (at.0, behind x xs at.0 at.1, at.2)
  ]

  distinct : (xs : List A) (within : (x : A) → Contains xs x → Contains ys x) → IsOnceEach xs → IsDistinct eqb (places xs within)
  unfolding IsDistinct
  distinct [] within once = tt
  distinct (x ∷ xs) within once =
      let rest : (y : A) → Contains xs y → Contains ys y = λ y c. within y (behind x xs y c) in (
        apart_from (within x (here x xs)).0 (places xs rest) (λ q c same.
            let at = stands xs rest q c in
            let is : x ≡ at.0 = same_Some x at.0 (sym (stands_at x (within x (here x xs))) ∙ ap (slice_get ys) same ∙ at.2) in
            not_behind x xs once (subst (λ z. Contains xs z) (sym is) at.1)),
        distinct xs rest (once_rest x xs once),
      )

  pub not_longer : (xs : List A) → IsOnceEach xs → ((x : A) → Contains xs x → Contains ys x) → length xs ≤ length ys
  not_longer xs once within =
      let most = length-le_from_distinct_below (places xs within) (length ys) (distinct xs within once) (λ q h. at_recursion (λ p. p < length ys) (places xs within) q (below xs within) (any_of (places xs within) q h)) in
      let same = as_many xs within in
      omega (arith, most, same)

pub no_more_nodes : (program : Program) (m : ℕ) (nodes : List NodeKind) → AreWideNodes program m nodes → length nodes ≤ 16384 → HasMoreNodes program m 16384 → ⊥
no_more_nodes program m nodes are few (others, many, reached, once) =
    let most = not_longer nodes others once (λ x c. (are.each x).1 (reached c.0 x (stands_at others x c))) in
    omega (arith, most, few, many)
