-- Numbers that are cut off at 2^32.
use Rattle.std.proofs.Common.{◌≡◌, ℕ, ◌+◌, ◌-◌, ◌*◌, ◌<◌, ◌≤◌, ◌^◌, Bool, true, false, ◌==◌, nat_lt, nat_le, min, List, [], ◌∷◌, length, drop, get_or, add-one, drop-cons, refl, sym, ap, ◌∙◌, arith}
use Rattle.std.proofs.lemmas.Bool.Decides.{nat_tests}
use Rattle.asm_text.specs.declared.statements.Number.TheVariants.{TooLarge}
use Rattle.asm_text.specs.Words.{magnitude_from, number_of}

at_least : (m : ℕ) (digits : List ℕ) → m ≤ magnitude_from m digits
at_least m [] = omega arith
at_least m (d ∷ ds) =
    let more : m * 10 + (d - 48) ≤ magnitude_from (m * 10 + (d - 48)) ds = at_least (m * 10 + (d - 48)) ds in
    omega arith

-- what is past the end stays there
pub capped_from : (m n : ℕ) (digits : List ℕ) → m ≡ min n (2 ^ 32) → min (magnitude_from m digits) (2 ^ 32) ≡ min (magnitude_from n digits) (2 ^ 32)
capped_from m n digits h = by_test (nat_le n (2 ^ 32)) refl
  where
    by_test : (v : Bool) → nat_le n (2 ^ 32) ≡ v → min (magnitude_from m digits) (2 ^ 32) ≡ min (magnitude_from n digits) (2 ^ 32)
    by_test true is =
        let small : n ≤ 2 ^ 32 = grind (arith, nat_tests) in
        let same : m ≡ n = omega arith in
        ap (λ k. min (magnitude_from k digits) (2 ^ 32)) same
    by_test false is =
        let large : 2 ^ 32 < n = grind (arith, nat_tests) in
        let first : m ≤ magnitude_from m digits = at_least m digits in
        let second : n ≤ magnitude_from n digits = at_least n digits in
        omega arith

front : (i : ℕ) (digits : List ℕ) → i < length digits → drop i digits ≡ get_or digits i 0 ∷ drop (i + 1) digits
front i digits h = rw (add-one, drop-cons digits i 0) refl

-- one digit more
pub next_digit : (high next i : ℕ) (digits : List ℕ) → i < length digits → next ≡ min (high * 10 + (get_or digits i 0 - 48)) (2 ^ 32)
    → min (magnitude_from next (drop (i + 1) digits)) (2 ^ 32) ≡ min (magnitude_from high (drop i digits)) (2 ^ 32)
next_digit high next i digits h e =
    capped_from next (high * 10 + (get_or digits i 0 - 48)) (drop (i + 1) digits) e ∙ sym (ap (λ ds. min (magnitude_from high ds) (2 ^ 32)) (front i digits h))

too_large : (negative : Bool) (n : ℕ) → 2 ^ 31 < n → number_of negative n ≡ TooLarge
too_large false n h =
    let is : nat_lt n (2 ^ 31) ≡ false = grind (arith, nat_tests) in
    rw is refl
too_large true n h =
    let is : nat_le n (2 ^ 31) ≡ false = grind (arith, nat_tests) in
    rw is refl

pub capped_number : (negative : Bool) (n : ℕ) → number_of negative (min n (2 ^ 32)) ≡ number_of negative n
capped_number negative n = by_test (nat_le n (2 ^ 32)) refl
  where
    by_test : (v : Bool) → nat_le n (2 ^ 32) ≡ v → number_of negative (min n (2 ^ 32)) ≡ number_of negative n
    by_test true is =
        let small : n ≤ 2 ^ 32 = grind (arith, nat_tests) in
        let same : min n (2 ^ 32) ≡ n = omega arith in
        ap (number_of negative) same
    by_test false is =
        let large : 2 ^ 32 < n = grind (arith, nat_tests) in
        too_large negative (min n (2 ^ 32)) (omega arith) ∙ sym (too_large negative n (omega arith))

pub capped_zero : (n : ℕ) → (min n (2 ^ 32) == 0) ≡ (n == 0)
capped_zero n = grind (arith, nat_tests)
