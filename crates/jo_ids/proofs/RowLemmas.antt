-- Sets of numbers in words.
use Rattle.std.proofs.Common.{◌≡◌, ℕ, ◌/◌, ◌%◌, ◌<◌, ◌==◌, ◌||◌, Bool, true, false, List, length, get_or, set, replicate, refl, sym, ◌∙◌, ap, arith, inl, inr, length-set}
use Rattle.std.proofs.lemmas.Bool.{cases_eq, cases_lt, eq-eqb, ne_eqb, or_right}
use Rattle.std.proofs.lemmas.List.{length-replicate, ext_get_or, get_or-set_same, get_or-set_other, get_or-replicate, get_or_past}
use Rattle.std.proofs.lemmas.List.FromFn.{length-map-range_with_len, get_or-map-range_with_len}
use Rattle.jo_ids.specs.Words.{in_word}
use Rattle.jo_ids.specs.Rows.{has_number, in_words, row_of, FitsLength}
use Rattle.jo_ids.proofs.WordLemmas.{in_word-zero}

pub length-row_of : (words : List ℕ) (len : ℕ) → length (row_of words len) ≡ len
length-row_of words len = length-map-range_with_len (in_words words) 0 len

pub has_number-row_of : (words : List ℕ) (len i : ℕ) → i < len → has_number (row_of words len) i ≡ in_words words i
has_number-row_of words len i h = get_or-map-range_with_len (in_words words) 0 len i i false h (omega arith)

-- a set that has the numbers of the words is that of the words
pub row_of-is : (words : List ℕ) (len : ℕ) (row : List Bool) → length row ≡ len → ((i : ℕ) → i < len → in_words words i ≡ has_number row i) → row_of words len ≡ row
row_of-is words len row e h = ext_get_or false (row_of words len) row (length-row_of words len ∙ sym e)
    (λ i k. has_number-row_of words len i (omega (arith, k, length-row_of words len)) ∙ h i (omega (arith, k, length-row_of words len)))

-- ---- the empty set

zero_at : (n k : ℕ) → get_or {A = ℕ} (replicate n 0) k 0 ≡ 0
zero_at n k = elim (cases_lt k n) [
  | inl h ↦ get_or-replicate {A = ℕ} n k 0 0 h
  | inr h ↦ get_or_past {X = ℕ} (replicate n 0) k 0 (omega (arith, length-replicate {A = ℕ} n 0))
]

in_words-zeros : (n i : ℕ) → in_words (replicate n 0) i ≡ false
in_words-zeros n i = ap (λ w. in_word w (i % 64)) (zero_at n (i / 64)) ∙ in_word-zero (i % 64)

pub row_of-zeros : (n len : ℕ) → row_of (replicate n 0) len ≡ replicate len false
row_of-zeros n len = row_of-is (replicate n 0) len (replicate len false) (length-replicate len false)
    (λ i h. in_words-zeros n i ∙ sym (get_or-replicate len i false false h))

-- ---- one number more

-- the words in which one word has a number more
in_words-with : (words : List ℕ) (word i j : ℕ) → i / 64 < length words
    → ((k : ℕ) → in_word word k ≡ (in_word (get_or words (i / 64) 0) k || k == i % 64))
    → in_words (set words (i / 64) word) j ≡ (in_words words j || j == i)
in_words-with words word i j within each = elim (cases_eq (j / 64) (i / 64)) [
  | inl e ↦
      let same : get_or (set words (i / 64) word) (j / 64) 0 ≡ word = ap (λ k. get_or (set words (i / 64) word) k 0) e ∙ get_or-set_same words (i / 64) word 0 within in
      let here : (j % 64 == i % 64) ≡ (j == i) = elim (cases_eq j i) [
        | inl q ↦ eq-eqb (j % 64) (i % 64) (ap (λ k. k % 64) q) ∙ sym (eq-eqb j i q)
        | inr n ↦ ne_eqb (j % 64) (i % 64) (λ q. n (omega arith)) ∙ sym (ne_eqb j i n)
      ] in
      ap (λ w. in_word w (j % 64)) same ∙ each (j % 64) ∙ ap (λ k. in_word (get_or words k 0) (j % 64) || j % 64 == i % 64) (sym e) ∙ ap (λ b. in_words words j || b) here
  | inr n ↦
      let other : get_or (set words (i / 64) word) (j / 64) 0 ≡ get_or words (j / 64) 0 = get_or-set_other words (i / 64) (j / 64) word 0 n in
      let apart : (j == i) ≡ false = ne_eqb j i (λ q. n (ap (λ k. k / 64) q)) in
      ap (λ w. in_word w (j % 64)) other ∙ sym (ap (λ b. in_words words j || b) apart ∙ or_false (in_words words j))
]
  where
    or_false : (b : Bool) → (b || false) ≡ b
    or_false true = refl
    or_false false = refl

module _ (words : List ℕ) (len word i : ℕ) (fits : FitsLength words len) (below : i < len)
    (each : (k : ℕ) → in_word word k ≡ (in_word (get_or words (i / 64) 0) k || k == i % 64)) where
  within : i / 64 < length words
  within = omega (arith, fits.enough)

  pub row_of-set : row_of (set words (i / 64) word) len ≡ set (row_of words len) i true
  row_of-set = row_of-is (set words (i / 64) word) len (set (row_of words len) i true) (length-set (row_of words len) i true ∙ length-row_of words len) at
    where
      at : (j : ℕ) → j < len → in_words (set words (i / 64) word) j ≡ has_number (set (row_of words len) i true) j
      at j h = elim (cases_eq j i) [
        | inl e ↦
            in_words-with words word i j within each ∙ or_right (in_words words j) (j == i) (eq-eqb j i e)
            ∙ sym (ap (λ k. get_or (set (row_of words len) i true) k false) e ∙ get_or-set_same (row_of words len) i true false (omega (arith, below, length-row_of words len)))
        | inr n ↦
            in_words-with words word i j within each ∙ ap (λ b. in_words words j || b) (ne_eqb j i n) ∙ or_false (in_words words j)
            ∙ sym (get_or-set_other (row_of words len) i j true false n ∙ has_number-row_of words len j h)
      ]
        where
          or_false : (b : Bool) → (b || false) ≡ b
          or_false true = refl
          or_false false = refl

  pub set_fits : FitsLength (set words (i / 64) word) len
  set_fits = record {
    enough = omega (arith, fits.enough, length-set words (i / 64) word);
    no_more = omega (arith, fits.no_more, length-set words (i / 64) word);
    outside = λ j h. in_words-with words word i j within each ∙ or_both (fits.outside j h) (ne_eqb j i (λ e. absurd (omega arith)));
  }
    where
      or_both : {a b : Bool} → a ≡ false → b ≡ false → (a || b) ≡ false
      or_both e f = cc
