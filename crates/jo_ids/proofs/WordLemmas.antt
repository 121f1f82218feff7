-- Words as sets of the numbers below 64.
use Rattle.std.proofs.Common.{◌≡◌, ◌≢◌, ℕ, zero, suc, ◌*◌, ◌<◌, ◌^◌, ◌%◌, ◌==◌, ◌||◌, ◌&&◌, not, Bool, true, false, max, bit_or, w64, sym, ◌∙◌, ap, subst, arith, inl, inr, ◌⊎◌}
use Rattle.std.proofs.lemmas.Bool.{cases_eq, cases_Bool, and_parts, not-true}
use Rattle.std.proofs.lemmas.Nat.{or_lt}
use Rattle.std.proofs.lemmas.Bool.Decides.{nat_tests}
use Rattle.std.proofs.lemmas.Nat.Bits.{bit_at_or, bit_at-lt, bit_at-zero, bit_at_set_same, bit_at_set_other, same_from_bits_below}
use Rattle.std.specs.Int.{bit_at}
use Rattle.jo_ids.specs.Words.{in_word}

ones-max : (x y : ℕ) → x < 2 → y < 2 → (max x y == 1) ≡ (x == 1 || y == 1)
ones-max x y h k = grind (arith, nat_tests)

pub in_word-or : (a b i : ℕ) → in_word (bit_or a b) i ≡ (in_word a i || in_word b i)
in_word-or a b i = ap (λ x. x == 1) (bit_at_or a b i) ∙ ones-max (bit_at a i) (bit_at b i) (bit_at-lt a i) (bit_at-lt b i)

pub in_word-zero : (i : ℕ) → in_word 0 i ≡ false
in_word-zero i = ap (λ x. x == 1) (bit_at-zero i)

-- what `word | 1 << bit` computes
pub in_word-with_bit : (word bit : ℕ) → bit < 64 → (i : ℕ) → in_word (bit_or word (1 * 2 ^ bit % 2 ^ 64)) i ≡ (in_word word i || i == bit)
in_word-with_bit word bit h i = elim (cases_eq i bit) [
  | inl e ↦
      let same : bit_at (bit_or word (1 * 2 ^ bit % 2 ^ 64)) i ≡ 1 = subst (λ k. bit_at (bit_or word (1 * 2 ^ bit % 2 ^ 64)) k ≡ 1) (sym e) (bit_at_set_same w64 word bit h) in
      grind (arith, nat_tests)
  | inr n ↦
      let other : bit_at (bit_or word (1 * 2 ^ bit % 2 ^ 64)) i ≡ bit_at word i = bit_at_set_other w64 word bit h i n in
      grind (arith, nat_tests)
]

-- ---- a union that changes a word adds a number

-- the first number below a bound that passes a test, or none passes
first_below : (p : ℕ → Bool) (n : ℕ) → ((i : ℕ) × (i < n) × (p i ≡ true)) ⊎ ((i : ℕ) → i < n → p i ≡ false)
first_below p zero = inr (λ i h. absurd (omega (arith, h)))
first_below p (suc n) = elim (first_below p n) [
  | inl found ↦ inl (found.0, omega (arith, found.1), found.2)
  | inr none ↦ elim (cases_Bool (p n)) [
    | inl passes ↦ inl (n, omega arith, passes)
    | inr fails ↦ inr (λ i h. elim (cases_eq i n) [
      | inl e ↦ ap p e ∙ fails
      | inr ne ↦ none i (omega (arith, h, ne))
    ])
  ]
]

-- the bit of a union, where the other word has nothing more there
bit_same : (word other i : ℕ) → (in_word other i && not (in_word word i)) ≡ false → bit_at (bit_or word other) i ≡ bit_at word i
bit_same word other i h =
    bit_at_or word other i ∙ max_same (bit_at word i) (bit_at other i) (bit_at-lt word i) (bit_at-lt other i) h
  where
    max_same : (x y : ℕ) → x < 2 → y < 2 → (y == 1 && not (x == 1)) ≡ false → max x y ≡ x
    max_same x y h k e = grind (arith, nat_tests)

pub new_bit : (word other : ℕ) → word < 2 ^ 64 → other < 2 ^ 64 → bit_or word other ≢ word
    → (i : ℕ) × (i < 64) × (in_word other i ≡ true) × (in_word word i ≡ false)
new_bit word other h k changed = elim (first_below (λ i. in_word other i && not (in_word word i)) 64) [
  | inl found ↦
      let both = and_parts (in_word other found.0) (not (in_word word found.0)) found.2 in
      (found.0, found.1, both.0, not-true (in_word word found.0) both.1)
  | inr none ↦ absurd (changed (same_from_bits_below 64 (bit_or word other) word (or_lt 64 word other h k) h (λ i b. bit_same word other i (none i b))))
]
