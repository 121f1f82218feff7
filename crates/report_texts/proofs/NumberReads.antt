-- A number is read whole, where no digit stands behind it.
use Rattle.std.proofs.Common.{◌≡◌, ◌⊎◌, inl, inr, ℕ, Bool, true, false, cond, List, [], ◌∷◌, ◌++◌, Ok, Err, refl, sym, ap, ◌∙◌, subst, arith}
use Rattle.std.specs.Prelude.{◌==◌, ◌&&◌, not}
use Rattle.std.specs.Int.{is_in_range}
use Rattle.std.specs.List.{list_all}
use Rattle.std.proofs.lemmas.Bool.{true≢false}
use Rattle.std.proofs.lemmas.Bool.Decides.{nat_tests}
use Rattle.report_texts.specs.NodeTexts.{is_digit, IsNumberText}
use Rattle.report_texts.specs.Reading.{digits, number}
use Rattle.report_texts.proofs.Steps.{Alike, Goes, Stops, Reads, Good, other_byte, no_more}
use Rattle.report_texts.proofs.NameReads.{Begins}

abbrev pub ends_number : ℕ → Bool
ends_number b = not (is_digit b)

not_digit : (b : ℕ) → ends_number b ≡ true → is_digit b ≡ false
not_digit b ends = by (is_digit b) refl ends
  where
    by : (v : Bool) → is_digit b ≡ v → not v ≡ true → is_digit b ≡ false
    by true is e = absurd (true≢false (sym e))
    by false is e = is

-- the digits that begin a text
record Digits (text rest : List ℕ) : Type 0 where
  front : List ℕ
  parts : text ≡ front ++ rest
  all : list_all is_digit front ≡ true
  last : Begins ends_number rest ⊎ (rest ≡ [])

both_true : (v w : Bool) → v ≡ true → w ≡ true → (v && w) ≡ true
both_true true w one other = other
both_true false w one other = one

first_true : (v w : Bool) → (v && w) ≡ true → v ≡ true
first_true true w both = refl
first_true false w both = both

second_true : (v w : Bool) → (v && w) ≡ true → w ≡ true
second_true true w both = both
second_true false w both = absurd (true≢false (sym both))

digits_read : (text : List ℕ) → Digits text (digits text)
unfolding digits
digits_read [] = record { front = []; parts = refl; all = refl; last = inr refl }
digits_read (b ∷ text) = by (is_digit b) refl (digits_read text)
  where
    by : (v : Bool) → is_digit b ≡ v → Digits text (digits text) → Digits (b ∷ text) (cond v (digits text) (b ∷ text))
    by true is d = record { front = b ∷ d.front; parts = ap (λ (t : List ℕ). b ∷ t) d.parts; all = both_true (is_digit b) (list_all is_digit d.front) is d.all; last = d.last }
    by false is d = record { front = []; parts = refl; all = refl; last = inl (ap not is) }

module _ (K : List ℕ → Type 0) (fits : (k : List ℕ) → K k → Begins ends_number k) where
  -- what begins with digits up to there has these alone
  same_digits : (x k front more rest : List ℕ) → list_all is_digit x ≡ true → K k → list_all is_digit front ≡ true → Alike more rest → Begins ends_number rest ⊎ (rest ≡ []) → x ++ k ≡ front ++ more → x ≡ front
  same_digits [] k [] more rest all h every alike last is = refl
  same_digits [] k (b ∷ front) more rest all h every alike last is =
      let ends : ends_number b ≡ true = fits (b ∷ (front ++ more)) (subst K is h) in
      absurd (true≢false (sym (first_true (is_digit b) _ every) ∙ not_digit b ends))
  same_digits (a ∷ x) k [] [] rest all h every alike last is = absurd (cc)
  same_digits (a ∷ x) k [] (c ∷ more) [] all h every alike last is = absurd alike
  same_digits (a ∷ x) k [] (c ∷ more) (d ∷ rest) all h every alike (inr none) is = absurd (cc)
  same_digits (a ∷ x) k [] (c ∷ more) (d ∷ rest) all h every alike (inl ends) is =
      let same : a ≡ c = cc in
      let digit : is_digit d ≡ true = subst (λ (n : ℕ). is_digit n ≡ true) (same ∙ alike) (first_true (is_digit a) _ all) in
      absurd (true≢false (sym digit ∙ not_digit d ends))
  same_digits (a ∷ x) k (b ∷ front) more rest all h every alike last is =
      let same : a ≡ b = cc in
      let others = same_digits x k front more rest (second_true (is_digit a) _ all) h (second_true (is_digit b) _ every) alike last (cc) in
      ap (λ (n : ℕ). n ∷ x) same ∙ ap (λ (t : List ℕ). b ∷ t) others

  module _ (b : ℕ) (text : List ℕ) where
    zero_alone : b ≡ 48 → (x k more : List ℕ) → IsNumberText x → x ++ k ≡ b ∷ more → x ≡ b ∷ []
    zero_alone zero_is [] k more p is = absurd p
    zero_alone zero_is (a ∷ x) k more (inl p) is = let same : a ≡ b = cc in ap (λ (n : ℕ). n ∷ x) same ∙ ap (λ (t : List ℕ). b ∷ t) p.1
    zero_alone zero_is (a ∷ x) k more (inr p) is = let same : a ≡ b = cc in absurd (true≢false (sym (subst (λ (n : ℕ). is_in_range 49 57 n ≡ true) (same ∙ zero_is) p.0)))

    zero_read : b ≡ 48 → Goes IsNumberText K (b ∷ text) text
    zero_read zero_is = record { front = b ∷ []; parts = refl; is = inl (zero_is, refl); alone = λ x k more alike p h is. zero_alone zero_is x k more p is }

    long_read : is_in_range 49 57 b ≡ true → (rest : List ℕ) → Digits text rest → Goes IsNumberText K (b ∷ text) rest
    long_read first rest d = record {
      front = b ∷ d.front;
      parts = ap (λ (t : List ℕ). b ∷ t) d.parts;
      is = inr (first, d.all);
      alone = λ x k more alike p h is. by x k more alike p h is;
    }
      where
        by : (x k more : List ℕ) → Alike more rest → IsNumberText x → K k → x ++ k ≡ (b ∷ d.front) ++ more → x ≡ b ∷ d.front
        by [] k more alike p h is = absurd p
        by (a ∷ x) k more alike (inl p) h is =
            let same : a ≡ b = cc in
            let wrong : is_in_range 49 57 48 ≡ true = subst (λ (n : ℕ). is_in_range 49 57 n ≡ true) (sym same ∙ p.0) first in
            absurd (true≢false (sym wrong))
        by (a ∷ x) k more alike (inr p) h is =
            let same : a ≡ b = cc in
            let others = same_digits x k d.front more rest p.1 h d.all alike d.last (cc) in
            ap (λ (n : ℕ). n ∷ x) same ∙ ap (λ (t : List ℕ). b ∷ t) others

  none_begins : (b : ℕ) (x : List ℕ) → (b == 48) ≡ false → is_in_range 49 57 b ≡ false → IsNumberText (b ∷ x) → ⊥
  none_begins b x zero_not other (inl p) = let wrong : (48 == 48) ≡ false = subst (λ (n : ℕ). (n == 48) ≡ false) p.0 zero_not in true≢false wrong
  none_begins b x zero_not other (inr p) = true≢false (sym p.0 ∙ other)

  module _ (k0 : List ℕ) (is_k0 : K k0) where
    no_number : (text : List ℕ) → ((x k more : List ℕ) → Alike more text → IsNumberText x → x ++ k ≡ more → ⊥) → Stops IsNumberText K text text
    no_number text none = record {
      front = [];
      parts = refl;
      more = 48 ∷ k0;
      goes = record { front = 48 ∷ []; rest = k0; parts = refl; first = inl (refl, refl); second = is_k0 };
      none = λ x k more alike p h is. none x k more alike p is;
    }

    number_read : (text : List ℕ) → Reads IsNumberText K text (number text)
    unfolding number
    number_read [] = no_number [] (λ x k more alike p is. by x k more alike p is)
      where
        by : (x k more : List ℕ) → Alike more [] → IsNumberText x → x ++ k ≡ more → ⊥
        by [] k more alike p is = p
        by (a ∷ x) k more alike p is = no_more more alike is
    number_read (b ∷ text) = by (b == 48) (is_in_range 49 57 b) refl refl
      where
        other : (b == 48) ≡ false → is_in_range 49 57 b ≡ false → (x k more : List ℕ) → Alike more (b ∷ text) → IsNumberText x → x ++ k ≡ more → ⊥
        other zero_not first [] k more alike p is = p
        other zero_not first (a ∷ x) k more alike p is = let same : a ≡ b = other_byte more text alike is in none_begins b x zero_not first (subst (λ (n : ℕ). IsNumberText (n ∷ x)) same p)

        by : (v w : Bool) → (b == 48) ≡ v → is_in_range 49 57 b ≡ w → Reads IsNumberText K (b ∷ text) (cond v (Ok text) (cond w (Ok (digits text)) (Err (b ∷ text))))
        by true w is first = zero_read b text (grind (arith, nat_tests))
        by false true is first = long_read b text first (digits text) (digits_read text)
        by false false is first = no_number (b ∷ text) (λ x k more alike p e. other is first x k more alike p e)

pub good_number : Good (Begins ends_number) IsNumberText number
good_number = record { some = 48 ∷ []; is_some = inl (refl, refl); reads = λ K fits k is text. number_read K fits k is text }
