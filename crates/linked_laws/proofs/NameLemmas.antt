-- Where the names in an array's descriptor are known, so is that of its elements' class.
use Rattle.std.proofs.Common.{◌≡◌, ◌∙◌, ℕ, zero, suc, ◌+◌, ◌-◌, Bool, true, false, ◌&&◌, ◌||◌, List, [], ◌∷◌, ◌++◌, length, take, drop, replicate, Some, None, refl, sym, subst, ap, arith}
use Rattle.std.specs.Prelude.{◌==◌, codes, if◌then◌else◌}
use Rattle.std.specs.List.{AllByRecursion}
use Rattle.std.proofs.lemmas.Bool.{eqb-true, eq-eqb, false_from_ne_true}
use Rattle.jo_text.specs.Descriptors.{is_one_of, IsClassName}
use Rattle.jo_text.specs.Scan.{breaks_name, names_on}
use Rattle.jo_text.proofs.DescriptorNames.{any_false, class_name_again, guard_true}
use Rattle.linker.specs.NeededClasses.{names_there_from, names_there}

and_both : (a b : Bool) → (a && b) ≡ true → (a ≡ true) × (b ≡ true)
and_both true b h = (refl, h)
and_both false b h = absurd (cc)

-- ---- a class's name has no semicolon

no_semicolon : (empty : Bool) (name : List ℕ) → names_on empty name ≡ true → AllByRecursion (λ b. (b == 59) ≡ false) name
unfolding names_on
no_semicolon empty [] is = tt
no_semicolon empty (b ∷ bs) is =
    let both = guard_true (breaks_name empty b) (names_on (b == 47) bs) is in
    (other_byte (any_false (b == 47 && empty) (is_one_of (codes ".;[") b) both.0).1, no_semicolon (b == 47) bs both.1)
  where
    other_byte : is_one_of (codes ".;[") b ≡ false → (b == 59) ≡ false
    other_byte none =
        let rest = any_false (46 == b) (59 == b || (91 == b || false)) none in
        false_from_ne_true (b == 59) (λ same. differ (sym (any_false (59 == b) (91 == b || false) rest.1).0 ∙ eq-eqb 59 b (sym (eqb-true b 59 same))))
      where
        differ : false ≡ true → ⊥
        differ e = absurd (cc)

-- ---- lists

drop_brackets : (d : ℕ) (b : ℕ) (xs : List ℕ) → drop (suc d) (replicate d 91 ++ b ∷ xs) ≡ xs
drop_brackets zero b xs = refl
drop_brackets (suc d) b xs = drop_brackets d b xs

take_front : (xs ys : List ℕ) → take (length xs) (xs ++ ys) ≡ xs
take_front [] ys = refl
take_front (x ∷ xs) ys = ap (λ (rest : List ℕ). x ∷ rest) (take_front xs ys)

-- ---- along a descriptor

module _ (there : List ℕ → Bool) (whole : List ℕ) where
  past_brackets : (rest : List ℕ) (d p : ℕ) → names_there_from there whole p None (replicate d 91 ++ rest) ≡ true → names_there_from there whole (p + d) None rest ≡ true
  past_brackets rest zero p is = subst (λ (q : ℕ). names_there_from there whole q None rest ≡ true) (omega arith) is
  past_brackets rest (suc d) p is = subst (λ (q : ℕ). names_there_from there whole q None rest ≡ true) (omega arith) (past_brackets rest d (p + 1) is)

  at_semicolon : (start : ℕ) (name rest : List ℕ) (place : ℕ) → AllByRecursion (λ b. (b == 59) ≡ false) name → names_there_from there whole place (Some start) (name ++ 59 ∷ rest) ≡ true
      → there (take (place + length name - start) (drop start whole)) ≡ true
  at_semicolon start [] rest place none is = subst (λ (n : ℕ). there (take (n - start) (drop start whole)) ≡ true) (omega arith) (and_both (there (take (place - start) (drop start whole))) _ is).0
  at_semicolon start (b ∷ bs) rest place none is =
      subst (λ (n : ℕ). there (take (n - start) (drop start whole)) ≡ true) (one_more (length bs))
      (at_semicolon start bs rest (place + 1) none.1 (by_test (b == 59) none.0 is))
    where
      one_more : (n : ℕ) → place + 1 + n ≡ place + suc n
      one_more n = omega arith

      by_test : (same : Bool) → same ≡ false
          → ((if same then there (take (place - start) (drop start whole)) else true) && names_there_from there whole (place + 1) (if same then None else Some start) (bs ++ 59 ∷ rest)) ≡ true
          → names_there_from there whole (place + 1) (Some start) (bs ++ 59 ∷ rest) ≡ true
      by_test true e h = absurd (cc)
      by_test false e h = h

pub element_known : (there : List ℕ → Bool) (d : ℕ) (name : List ℕ) → IsClassName name → names_there there (replicate d 91 ++ (76 ∷ name ++ 59 ∷ [])) ≡ true → there name ≡ true
element_known there d name named is =
    let letter : names_there_from there (replicate d 91 ++ (76 ∷ name ++ 59 ∷ [])) d None (76 ∷ name ++ 59 ∷ []) ≡ true =
    subst (λ (q : ℕ). names_there_from there (replicate d 91 ++ (76 ∷ name ++ 59 ∷ [])) q None (76 ∷ name ++ 59 ∷ []) ≡ true) no_more
    (past_brackets there (replicate d 91 ++ (76 ∷ name ++ 59 ∷ [])) (76 ∷ name ++ 59 ∷ []) d 0 is) in
    let behind_letter : names_there_from there (replicate d 91 ++ (76 ∷ name ++ 59 ∷ [])) (d + 1) (Some (d + 1)) (name ++ 59 ∷ []) ≡ true = letter in
    let known = at_semicolon there (replicate d 91 ++ (76 ∷ name ++ 59 ∷ [])) (d + 1) name [] (d + 1) (no_semicolon true name (class_name_again name named)) behind_letter in
    ap there (sym (ap (λ (n : ℕ). take n (drop (d + 1) (replicate d 91 ++ (76 ∷ name ++ 59 ∷ [])))) (count (length name)) ∙ ap (take (length name)) (dropped d) ∙ take_front name (59 ∷ []))) ∙ known
  where
    no_more : 0 + d ≡ d
    no_more = omega arith

    count : (n : ℕ) → d + 1 + n - (d + 1) ≡ n
    count n = omega arith

    dropped : (k : ℕ) → drop (k + 1) (replicate k 91 ++ (76 ∷ name ++ 59 ∷ [])) ≡ name ++ 59 ∷ []
    dropped k =
        let one_more : k + 1 ≡ suc k = omega arith in
        ap (λ (n : ℕ). drop n (replicate k 91 ++ (76 ∷ name ++ 59 ∷ []))) one_more ∙ drop_brackets k 76 (name ++ 59 ∷ [])
