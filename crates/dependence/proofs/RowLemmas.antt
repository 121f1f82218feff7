-- The first row that catches, by the machine's search over the rows and by the places of the rows.
use Rattle.std.proofs.Common.{rules, refl, arith, ◌≡◌, ◌↔◌, ℕ, zero, suc, ◌+◌, ◌<◌, ◌≤◌, Bool, true, false, ◌&&◌, nat_le, nat_lt, if◌then◌else◌, List, [], ◌∷◌, Option, Some, None, slice_get, sym, ◌∙◌, ap, subst}
use Rattle.std.proofs.lemmas.Option.{slice_get_past}
use Rattle.std.proofs.lemmas.Bool.{and_parts, and_from, leb-true, le-leb, ltb-true, lt-ltb}
use Rattle.jo_ids.specs.declared.ObjKey.{ObjKey}
use Rattle.jo_prog.specs.declared.program.Program.{Program}
use Rattle.jo_prog.specs.declared.program.Code.{Code}
use Rattle.jo_prog.specs.declared.program.Row.{Row}
use Rattle.jo_prog.specs.declared.program.TypeRef.{TypeRef}
use Rattle.jo_prog.specs.declared.program.TypeRef.TheVariants.{Class as OfClass}
use Rattle.jo_prog.specs.Program.{code_at}
use Rattle.jo_prog.specs.Rows.{catches_class, catches_at, row_from, row_for}
use Rattle.jo_prog.specs.Types.{type_fits}
use Rattle.dependence.specs.FlowGraph.{type_of_object, RowFits, Catches, CatchesFirst, PassesAll}
use Rattle.dependence.specs.WideGraph.{row_at}

-- ---- the search, by a test of rows

private_same : {A : Type 0} (x y : A) → Some x ≡ Some y → x ≡ y
private_same x y e = cc

not_both : {B : Type 0} (b : Bool) → b ≡ true → b ≡ false → B
not_both b t f = absurd (differ (sym t ∙ f))
  where
    differ : true ≡ false → ⊥
    differ e = cc

none_in : {B : Type 0} (i : ℕ) (r : Row) → slice_get [] i ≡ Some r → B
none_in i r at = absurd (differ (sym (slice_get_past [] i (omega arith)) ∙ at))
  where
    differ : None ≡ Some r → ⊥
    differ e = cc

-- what was found, or that nothing was
data Found (test : Row → Bool) (rows : List Row) (n : ℕ) : Option (ℕ × Row) → Type 0 where
  first_at : (j : ℕ) (row : Row) → slice_get rows j ≡ Some row → test row ≡ true
      → ((i : ℕ) (r : Row) → i < j → slice_get rows i ≡ Some r → test r ≡ false) → Found test rows n (Some (n + j, row))
  nowhere : ((i : ℕ) (r : Row) → slice_get rows i ≡ Some r → test r ≡ false) → Found test rows n None

module _ (test : Row → Bool) (row : Row) (rows : List Row) (n : ℕ) where
  earlier : (j : ℕ) → ((i : ℕ) (r : Row) → i < j → slice_get rows i ≡ Some r → test r ≡ false) → test row ≡ false
      → (i : ℕ) (r : Row) → i < suc j → slice_get (row ∷ rows) i ≡ Some r → test r ≡ false
  earlier j below fails zero r less at = subst (λ (x : Row). test x ≡ false) (private_same row r at) fails
  earlier j below fails (suc i) r less at = below i r (omega (arith, less)) at

  never : ((i : ℕ) (r : Row) → slice_get rows i ≡ Some r → test r ≡ false) → test row ≡ false
      → (i : ℕ) (r : Row) → slice_get (row ∷ rows) i ≡ Some r → test r ≡ false
  never all fails zero r at = subst (λ (x : Row). test x ≡ false) (private_same row r at) fails
  never all fails (suc i) r at = all i r at

  go_on : test row ≡ false → (o : Option (ℕ × Row)) → Found test rows (suc n) o → Found test (row ∷ rows) n o
  go_on fails _ (first_at j found is passes below) =
      subst (λ (k : ℕ). Found test (row ∷ rows) n (Some (k, found))) (omega arith) (first_at (suc j) found is passes (earlier j below fails))
  go_on fails _ (nowhere all) = nowhere (never all fails)

  none_before : (i : ℕ) (r : Row) → i < 0 → slice_get (row ∷ rows) i ≡ Some r → test r ≡ false
  none_before i r less found = absurd (omega (arith, less))

  by_test : (b : Bool) → test row ≡ b → (o : Option (ℕ × Row)) → Found test rows (suc n) o → Found test (row ∷ rows) n (if b then Some (n, row) else o)
  by_test true is o later = subst (λ (k : ℕ). Found test (row ∷ rows) n (Some (k, row))) (omega arith) (first_at zero row refl is none_before)
  by_test false is o later = go_on is o later

module _ (program : Program) (pc c : ℕ) where
  finds : (n : ℕ) (rows : List Row) → Found (catches_at program pc c) rows n (row_from program pc c n rows)
  finds n [] = nowhere (λ i r at. none_in i r at)
  finds n (row ∷ rows) = by_test (catches_at program pc c) row rows n (catches_at program pc c row) refl (row_from program pc c (suc n) rows) (finds (suc n) rows)

-- ---- the rows of a method

module _ (program : Program) (m pc c : ℕ) (o : ObjKey (List ℕ)) (code : Code) (found : code_at program m ≡ Some code) (typed : type_of_object program o ≡ Some (OfClass c)) where
  abbrev test : Row → Bool
  test = catches_at program pc c

  row_there : (k : ℕ) → row_at program m k ≡ slice_get code.rows k
  row_there k = rw found refl

  fits : (catches : Option TypeRef) → catches_class program catches c ≡ true → RowFits program catches o
  fits None is = tt
  fits (Some type) is = (OfClass c, typed, is)

  fitting : (catches : Option TypeRef) → RowFits program catches o → catches_class program catches c ≡ true
  fitting None is = refl
  fitting (Some type) (own, is_own, is) = subst (λ (t : TypeRef). type_fits program t type ≡ true) (private_same own (OfClass c) (sym is_own ∙ typed)) is

  catching : (k : ℕ) (row : Row) → slice_get code.rows k ≡ Some row → test row ≡ true → Catches program m pc k o
  catching k row at is =
      let parts = and_parts _ _ is in
      let inside = and_parts _ _ parts.0 in
      (row, row_there k ∙ at, leb-true _ _ inside.0, ltb-true _ _ inside.1, fits row.catches parts.1)

  caught : (k : ℕ) (row : Row) → slice_get code.rows k ≡ Some row → Catches program m pc k o → test row ≡ true
  caught k row at (other, is, begins, ends, fits_it) = subst (λ (r : Row). test r ≡ true) (private_same other row (sym is ∙ row_there k ∙ at)) tested
    where
      tested : test other ≡ true
      tested = and_from _ _ (and_from _ _ (le-leb _ _ begins) (lt-ltb _ _ ends)) (fitting other.catches fits_it)

  caught_row : (k : ℕ) → Catches program m pc k o → (row : Row) × (slice_get code.rows k ≡ Some row) × (test row ≡ true)
  caught_row k is = (is.0, sym (row_there k) ∙ is.1, caught k is.0 (sym (row_there k) ∙ is.1) is)

  pub passes_all : row_for program code.rows pc c ≡ None → PassesAll program m pc o
  passes_all none k is = by_search (row_for program code.rows pc c) none (finds program pc c 0 code.rows)
    where
      by_search : (s : Option (ℕ × Row)) → s ≡ None → Found test code.rows zero s → ⊥
      by_search _ e (first_at j row there passes below) = absurd (cc)
      by_search _ e (nowhere all) = let it = caught_row k is in not_both (test it.0) it.2 (all k it.0 it.1)

  pub none_for : PassesAll program m pc o → row_for program code.rows pc c ≡ None
  none_for passes = by_search (row_for program code.rows pc c) (finds program pc c 0 code.rows)
    where
      by_search : (s : Option (ℕ × Row)) → Found test code.rows zero s → s ≡ None
      by_search _ (first_at j row there is below) = absurd (passes j (catching j row there is))
      by_search _ (nowhere all) = refl

  pub first_catches : (k : ℕ) (row : Row) → row_for program code.rows pc c ≡ Some (k, row) → CatchesFirst program m pc k o × (row_at program m k ≡ Some row)
  first_catches k row is = by_search (row_for program code.rows pc c) is (finds program pc c 0 code.rows)
    where
      plain : (j : ℕ) → 0 + j ≡ j
      plain j = omega arith

      first_of : (j : ℕ) (r : Row) → k ≡ j → row ≡ r → slice_get code.rows j ≡ Some r → test r ≡ true
          → ((i : ℕ) (x : Row) → i < j → slice_get code.rows i ≡ Some x → test x ≡ false) → CatchesFirst program m pc k o × (row_at program m k ≡ Some row)
      first_of j r here same there passes below = (
        record {
          catches = subst (λ (n : ℕ). Catches program m pc n o) (sym here) (catching j r there passes);
          first = λ i less is_caught. let it = caught_row i is_caught in not_both (test it.0) it.2 (below i it.0 (omega (arith, less, here)) it.1);
        },
        row_there k ∙ ap (slice_get code.rows) here ∙ there ∙ ap (λ (x : Row). Some x) (sym same),
      )

      by_search : (s : Option (ℕ × Row)) → s ≡ Some (k, row) → Found test code.rows zero s → CatchesFirst program m pc k o × (row_at program m k ≡ Some row)
      by_search _ e (first_at j r there passes below) = let pair = private_same (0 + j, r) (k, row) e in first_of j r (sym (ap (λ (p : ℕ × Row). p.0) pair) ∙ plain j) (sym (ap (λ (p : ℕ × Row). p.1) pair)) there passes below
      by_search _ e (nowhere all) = absurd (cc)

  pub row_is_first : (k : ℕ) (row : Row) → CatchesFirst program m pc k o × (row_at program m k ≡ Some row) → row_for program code.rows pc c ≡ Some (k, row)
  row_is_first k row (is, there) = by_search (row_for program code.rows pc c) (finds program pc c 0 code.rows)
    where
      here : slice_get code.rows k ≡ Some row
      here = sym (row_there k) ∙ there

      same_place : (j : ℕ) (r : Row) → slice_get code.rows j ≡ Some r → test r ≡ true
          → ((i : ℕ) (x : Row) → i < j → slice_get code.rows i ≡ Some x → test x ≡ false) → j ≡ k
      same_place j r at_j passes below = between (not_less k j (λ less. not_both (test row) (caught k row here is.catches) (below k row less here))) (not_less j k (λ less. is.first j less (catching j r at_j passes)))
        where
          not_less : (a b : ℕ) → (a < b → ⊥) → b ≤ a
          not_less a b never_less = omega (arith, never_less)

          between : j ≤ k → k ≤ j → j ≡ k
          between low high = omega (arith, low, high)

      by_search : (s : Option (ℕ × Row)) → Found test code.rows zero s → s ≡ Some (k, row)
      by_search _ (first_at j r at_j passes below) =
          let same = same_place j r at_j passes below in
          let row_is : r ≡ row = private_same r row (sym at_j ∙ ap (slice_get code.rows) same ∙ here) in
          ap (λ (p : ℕ × Row). Some p) (pair_is j r same row_is)
        where
          plain : (j : ℕ) → 0 + j ≡ j
          plain j = omega arith

          pair_is : (j : ℕ) (r : Row) → j ≡ k → r ≡ row → ◌≡◌ {A = ℕ × Row} (0 + j, r) (k, row)
          pair_is j r same row_is = ap (λ (n : ℕ). (n, r)) (plain j ∙ same) ∙ ap (λ (x : Row). (k, x)) row_is
      by_search _ (nowhere all) = not_both (test row) (caught k row here is.catches) (all k row here)
