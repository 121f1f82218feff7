-- Numbers in a row, one more at the end.
use Rattle.std.proofs.Common.{◌≡◌, ◌≤◌, ℕ, zero, suc, ◌+◌, ◌-◌, [], ◌∷◌, ◌++◌, refl, sym, ap, ◌∙◌, arith, add-one}
use Rattle.jo_prog.specs.Numbers.{count_from}

-- one number more is one more at the end
count_from-suc : (first n : ℕ) → count_from first (suc n) ≡ count_from first n ++ (first + n) ∷ []
count_from-suc first zero = ap (λ x. x ∷ []) (omega arith)
count_from-suc first (suc n) =
    ap (λ xs. first ∷ xs) (count_from-suc (suc first) n ∙ ap (λ x. count_from (suc first) n ++ x ∷ []) (omega arith))

pub count_from-push : (n : ℕ) → count_from 0 (n + 1) ≡ count_from 0 n ++ n ∷ []
count_from-push n = rw add-one (count_from-suc 0 n ∙ ap (λ x. count_from 0 n ++ x ∷ []) (omega arith))

-- none from a number up to itself
pub none_yet : (first : ℕ) → [] ≡ count_from first (first - first)
none_yet first = let none : 0 ≡ first - first = omega arith in ap (count_from first) none

-- one number more of those from a first one on
pub one_number : (first number : ℕ) → first ≤ number → count_from first (number + 1 - first) ≡ count_from first (number - first) ++ number ∷ []
one_number first number from =
    let more : number + 1 - first ≡ suc (number - first) = omega arith in
    let last : first + (number - first) ≡ number = omega arith in
    ap (count_from first) more ∙ count_from-suc first (number - first) ∙ ap (λ x. count_from first (number - first) ++ x ∷ []) last
