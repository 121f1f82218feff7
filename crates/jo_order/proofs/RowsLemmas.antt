-- Rows of levels.
use Rattle.std.proofs.Common.{◌≡◌, ℕ, ◌+◌, ◌<◌, ◌≤◌, ◌^◌, ◌==◌, ◌&&◌, ◌||◌, Bool, true, false, cond, bit_or, List, [], ◌∷◌, ◌++◌, length, get_or, set, Contains, refl, sym, ◌∙◌, ap, subst, arith, inl, inr, ◌⊎◌, length-set}
use Rattle.std.proofs.lemmas.Bool.{cases_eq, cases_lt, cases_Bool, both_ways, or_cases, or_left, or_right, eqb-true, eq-eqb, ne_eqb}
use Rattle.std.proofs.lemmas.List.{get_or-set_same, get_or-set_other, get_or_past}
use Rattle.std.proofs.lemmas.List.Elements.{Contains-append_left, Contains-push, Contains-push_cases}
use Rattle.std.proofs.lemmas.Nat.Bits.{bit_at_above}
use Rattle.jo_ids.specs.Words.{in_word}
use Rattle.jo_ids.proofs.WordLemmas.{in_word-or, in_word-zero}
use Rattle.jo_order.specs.LevelRows.{row_has, row_flows}
use Rattle.jo_order.specs.Closing.{HasPairs}

-- a word has no number from 64 on
pub in_word-past : (word i : ℕ) → word < 2 ^ 64 → 64 ≤ i → in_word word i ≡ false
in_word-past word i h k = ap (λ n. n == 1) (bit_at_above word 64 i h k)

pub row_has-past : (rows : List ℕ) (a b : ℕ) → length rows ≤ a → row_has rows a b ≡ false
row_has-past rows a b h = ap (λ w. in_word w b) (get_or_past rows a 0 h) ∙ in_word-zero b

pub row_has-below : (rows : List ℕ) (a b : ℕ) → row_has rows a b ≡ true → a < length rows
row_has-below rows a b h = elim (cases_lt a (length rows)) [ inl below ↦ below | inr past ↦ absurd (both_ways (row_has rows a b) (row_has-past rows a b past) h) ]

pub row_flows-other : (rows : List ℕ) (a b : ℕ) → (a ≡ b → ⊥) → row_has rows a b ≡ row_flows rows a b
row_flows-other rows a b n = sym (ap (λ t. t || row_has rows a b) (ne_eqb a b n))

pub row_flows-has : (rows : List ℕ) (a b : ℕ) → row_has rows a b ≡ true → row_flows rows a b ≡ true
row_flows-has rows a b h = or_right (a == b) (row_has rows a b) h

pub row_flows-cases : (rows : List ℕ) (a b : ℕ) → row_flows rows a b ≡ true → (a ≡ b) ⊎ (row_has rows a b ≡ true)
row_flows-cases rows a b h = elim (or_cases (a == b) (row_has rows a b) h) [ inl e ↦ inl (eqb-true a b e) | inr has ↦ inr has ]

-- ---- pairs

pub pairs_none : (rows : List ℕ) → HasPairs [] rows rows
pairs_none rows = record { same_length = refl; each = λ a b. (λ h. inl h, λ h. only a b h) }
  where
    only : (a b : ℕ) → (row_has rows a b ≡ true) ⊎ Contains {X = ℕ × ℕ} [] (a, b) → row_has rows a b ≡ true
    only a b (inl h) = h
    only a b (inr among) = absurd (omega (arith, among.1))

pub pairs_more : (pairs : List (ℕ × ℕ)) (old rows : List ℕ) (a b word : ℕ) → HasPairs pairs old rows → a < length rows
    → ((i : ℕ) → in_word word i ≡ (in_word (get_or rows a 0) i || i == b)) → HasPairs (pairs ++ (a, b) ∷ []) old (set rows a word)
pairs_more pairs old rows a b word so_far below each = record {
  same_length = length-set rows a word ∙ so_far.same_length;
  each = λ x y. (λ h. gives x y h, λ h. takes x y h);
}
  where
    at : (x y : ℕ) → x ≡ a → row_has (set rows a word) x y ≡ (row_has rows x y || y == b)
    at x y e =
        ap (λ k. row_has (set rows a word) k y) e ∙ ap (λ w. in_word w y) (get_or-set_same rows a word 0 below) ∙ each y
        ∙ ap (λ k. row_has rows k y || y == b) (sym e)

    apart : (x y : ℕ) → (x ≡ a → ⊥) → row_has (set rows a word) x y ≡ row_has rows x y
    apart x y n = ap (λ w. in_word w y) (get_or-set_other rows a x word 0 n)

    old_or_pair : (x y : ℕ) → row_has rows x y ≡ true → (row_has old x y ≡ true) ⊎ Contains (pairs ++ (a, b) ∷ []) (x, y)
    old_or_pair x y h = elim ((so_far.each x y).0 h) [
      | inl first ↦ inl first
      | inr among ↦ inr (Contains-append_left pairs ((a, b) ∷ []) (x, y) among)
    ]

    gives : (x y : ℕ) → row_has (set rows a word) x y ≡ true → (row_has old x y ≡ true) ⊎ Contains (pairs ++ (a, b) ∷ []) (x, y)
    gives x y h = elim (cases_eq x a) [
      | inl e ↦ elim (or_cases (row_has rows x y) (y == b) (sym (at x y e) ∙ h)) [
        | inl had ↦ old_or_pair x y had
        | inr same ↦
            inr (subst (λ p. Contains (pairs ++ (a, b) ∷ []) p) (pair_is a x b y (sym e) (sym (eqb-true y b same))) (Contains-push pairs (a, b)))
      ]
      | inr n ↦ old_or_pair x y (sym (apart x y n) ∙ h)
    ]
      where
        pair_is : (a x b y : ℕ) → a ≡ x → b ≡ y → ◌≡◌ {A = ℕ × ℕ} (a, b) (x, y)
        pair_is a x b y e f = cc

    kept : (x y : ℕ) → row_has rows x y ≡ true → row_has (set rows a word) x y ≡ true
    kept x y h = elim (cases_eq x a) [
      | inl e ↦ at x y e ∙ or_left (row_has rows x y) (y == b) h
      | inr n ↦ apart x y n ∙ h
    ]

    takes : (x y : ℕ) → (row_has old x y ≡ true) ⊎ Contains (pairs ++ (a, b) ∷ []) (x, y) → row_has (set rows a word) x y ≡ true
    takes x y (inl first) = kept x y ((so_far.each x y).1 (inl first))
    takes x y (inr among) = elim (Contains-push_cases pairs (a, b) (x, y) among) [
      | inl before ↦ kept x y ((so_far.each x y).1 (inr before))
      | inr last ↦ at x y (sym (ap (λ (p : ℕ × ℕ). p.0) last)) ∙ or_right (row_has rows x y) (y == b) (eq-eqb y b (sym (ap (λ (p : ℕ × ℕ). p.1) last)))
    ]

-- ---- one level joined into the rows that have it

-- a word with another joined to it where it has the level
abbrev pub joined : ℕ → ℕ → ℕ → ℕ
joined level through word = cond (in_word word level) (bit_or word through) word

-- the rows below an index are joined, and the others as they were
pub record JoinsBelow (index level through : ℕ) (first rows : List ℕ) : Type 0 where
  pub same_length : length rows ≡ length first
  pub done : (k : ℕ) → k < index → get_or rows k 0 ≡ joined level through (get_or first k 0)
  pub rest : (k : ℕ) → index ≤ k → get_or rows k 0 ≡ get_or first k 0

in_word-joined : (level through word b : ℕ) → in_word (joined level through word) b ≡ (in_word word b || (in_word word level && in_word through b))
in_word-joined level through word b = elim (cases_Bool (in_word word level)) [
  | inl has ↦
      ap (λ t. in_word (cond t (bit_or word through) word) b) has ∙ in_word-or word through b
      ∙ sym (ap (λ t. in_word word b || (t && in_word through b)) has)
  | inr lacks ↦
      ap (λ t. in_word (cond t (bit_or word through) word) b) lacks ∙ sym (or_false (in_word word b))
      ∙ sym (ap (λ t. in_word word b || (t && in_word through b)) lacks)
]
  where
    or_false : (t : Bool) → (t || false) ≡ t
    or_false true = refl
    or_false false = refl

pub rows_joined : (index level through : ℕ) (first rows : List ℕ) → JoinsBelow index level through first rows → length first ≤ index → through ≡ get_or first level 0
    → (a b : ℕ) → row_has rows a b ≡ (row_has first a b || (row_has first a level && row_has first level b))
rows_joined index level through first rows all end is a b = elim (cases_lt a index) [
  | inl h ↦
      ap (λ w. in_word w b) (all.done a h) ∙ in_word-joined level through (get_or first a 0) b
      ∙ ap (λ w. row_has first a b || (row_has first a level && in_word w b)) is
  | inr h ↦
      row_has-past rows a b (omega (arith, all.same_length))
      ∙ sym (ap (λ t. t || (row_has first a level && row_has first level b)) (row_has-past first a b (omega arith)) ∙ ap (λ t. t && row_has first level b) (row_has-past first a level (omega arith)))
]
