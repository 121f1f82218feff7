-- The union of two lists of words, word by word.
use Rattle.std.proofs.Common.{◌≡◌, ◌≢◌, ℕ, ◌+◌, ◌*◌, ◌/◌, ◌%◌, ◌<◌, ◌≤◌, ◌^◌, ◌||◌, Bool, true, false, bit_or, List, length, get_or, set, MatchBool, refl, sym, ◌∙◌, ap, subst, arith, inl, inr, length-set}
use Rattle.std.proofs.lemmas.Bool.{cases_eq, cases_lt, both_ways, cases_Bool, MatchBool-at_true, MatchBool-at_false, or_right, or_from}
use Rattle.std.proofs.lemmas.List.{get_or-set_same, get_or-set_other, get_or_past}
use Rattle.jo_ids.specs.Words.{in_word}
use Rattle.jo_ids.specs.Rows.{has_number, in_words, row_of, FitsLength, IsUnion, IsNew, IsNewIn}
use Rattle.jo_ids.proofs.WordLemmas.{in_word-or, new_bit}
use Rattle.jo_ids.proofs.RowLemmas.{length-row_of, has_number-row_of}

-- the words below an index are joined, and the others as they were
pub record JoinsTo (index : ℕ) (first others words : List ℕ) (changed : Bool) : Type 0 where
  pub same_length : length words ≡ length first
  pub done : (k : ℕ) → k < index → get_or words k 0 ≡ bit_or (get_or first k 0) (get_or others k 0)
  pub rest : (k : ℕ) → index ≤ k → get_or words k 0 ≡ get_or first k 0
  pub news : MatchBool changed ((i : ℕ) × IsNewIn first others i) (words ≡ first)

pub joins_none : (first others : List ℕ) → JoinsTo 0 first others first false
joins_none first others = record { same_length = refl; done = λ k h. absurd (omega (arith, h)); rest = λ k _. refl; news = refl }

module _ (index : ℕ) (first others words : List ℕ) (changed : Bool) (so_far : JoinsTo index first others words changed) (word other : ℕ)
    (word_is : word ≡ get_or words index 0) (other_is : other ≡ get_or others index 0) (within : index < length words) where
  first_is : word ≡ get_or first index 0
  first_is = word_is ∙ so_far.rest index (omega arith)

  pub joins_set : word < 2 ^ 64 → other < 2 ^ 64 → bit_or word other ≢ word → JoinsTo (index + 1) first others (set words index (bit_or word other)) true
  joins_set h k differs = record {
    same_length = length-set words index (bit_or word other) ∙ so_far.same_length;
    done = done;
    rest = λ j a. get_or-set_other words index j (bit_or word other) 0 (λ e. absurd (omega arith)) ∙ so_far.rest j (omega arith);
    news = (
      64 * index + found.0,
      record {
        in_others = at found.0 found.1 others ∙ ap (λ w. in_word w found.0) (sym other_is) ∙ found.2;
        not_in_old = at found.0 found.1 first ∙ ap (λ w. in_word w found.0) (sym first_is) ∙ found.3;
      },
    );
  }
    where
      found : (i : ℕ) × (i < 64) × (in_word other i ≡ true) × (in_word word i ≡ false)
      found = new_bit word other h k differs

      at : (i : ℕ) → i < 64 → (ws : List ℕ) → in_words ws (64 * index + i) ≡ in_word (get_or ws index 0) i
      at i b ws =
          let d : (64 * index + i) / 64 ≡ index = omega arith in
          let m : (64 * index + i) % 64 ≡ i = omega arith in
          ap (λ x. in_word (get_or ws x 0) ((64 * index + i) % 64)) d ∙ ap (λ x. in_word (get_or ws index 0) x) m

      done : (j : ℕ) → j < index + 1 → get_or (set words index (bit_or word other)) j 0 ≡ bit_or (get_or first j 0) (get_or others j 0)
      done j b = elim (cases_eq j index) [
        | inl e ↦
            ap (λ x. get_or (set words index (bit_or word other)) x 0) e ∙ get_or-set_same words index (bit_or word other) 0 within
            ∙ ap (λ x. bit_or x other) first_is ∙ ap (λ x. bit_or (get_or first index 0) x) other_is
            ∙ ap (λ x. bit_or (get_or first x 0) (get_or others x 0)) (sym e)
        | inr n ↦ get_or-set_other words index j (bit_or word other) 0 n ∙ so_far.done j (omega (arith, b, n))
      ]

  pub joins_keep : bit_or word other ≡ word → JoinsTo (index + 1) first others words changed
  joins_keep same = record {
    same_length = so_far.same_length;
    done = done;
    rest = λ j a. so_far.rest j (omega arith);
    news = so_far.news;
  }
    where
      done : (j : ℕ) → j < index + 1 → get_or words j 0 ≡ bit_or (get_or first j 0) (get_or others j 0)
      done j b = elim (cases_eq j index) [
        | inl e ↦
            ap (λ x. get_or words x 0) e ∙ sym word_is ∙ sym same ∙ ap (λ x. bit_or x other) first_is ∙ ap (λ x. bit_or (get_or first index 0) x) other_is
            ∙ ap (λ x. bit_or (get_or first x 0) (get_or others x 0)) (sym e)
        | inr n ↦ so_far.done j (omega (arith, b, n))
      ]

module _ (index : ℕ) (first others words : List ℕ) (changed : Bool) (all : JoinsTo index first others words changed)
    (words_end : length first ≤ index) (others_end : length others ≤ index) where
  pub joined_words : (i : ℕ) → in_words words i ≡ (in_words first i || in_words others i)
  joined_words i = ap (λ w. in_word w (i % 64)) (each (i / 64)) ∙ in_word-or (get_or first (i / 64) 0) (get_or others (i / 64) 0) (i % 64)
    where
      each : (k : ℕ) → get_or words k 0 ≡ bit_or (get_or first k 0) (get_or others k 0)
      each k = elim (cases_lt k index) [
        | inl h ↦ all.done k h
        | inr h ↦
            all.rest k h ∙ get_or_past first k 0 (omega arith)
            ∙ sym (ap (λ x. bit_or x (get_or others k 0)) (get_or_past first k 0 (omega arith)) ∙ ap (λ x. bit_or 0 x) (get_or_past others k 0 (omega arith)))
      ]

  pub same_words : changed ≡ false → words ≡ first
  same_words e = MatchBool-at_false _ _ e all.news

  pub changed_words : changed ≡ true → (i : ℕ) × IsNewIn first others i
  changed_words e = MatchBool-at_true _ _ e all.news

  pub words_changed : (i : ℕ) × IsNewIn first others i → changed ≡ true
  words_changed new = elim (cases_Bool changed) [
    | inl is_changed ↦ is_changed
    | inr quiet ↦
        let same = ap (λ ws. in_words ws new.0) (same_words quiet) in
        absurd (both_ways (in_words words new.0) (same ∙ new.1.not_in_old) (joined_words new.0 ∙ or_right (in_words first new.0) (in_words others new.0) new.1.in_others))
  ]

-- ---- and of the sets that they are

module _ (old others new : List ℕ) (len : ℕ) (old_fits : FitsLength old len) (others_fit : FitsLength others len)
    (same_length : length new ≡ length old) (joined : (i : ℕ) → in_words new i ≡ (in_words old i || in_words others i)) where
  pub union_fits : FitsLength new len
  union_fits = record {
    enough = omega (arith, old_fits.enough, same_length);
    no_more = omega (arith, old_fits.no_more, same_length);
    outside = λ i h. joined i ∙ or_from (in_words old i) (in_words others i) (old_fits.outside i h) (others_fit.outside i h);
  }

  pub union_of_rows : IsUnion (row_of old len) (row_of others len) (row_of new len)
  union_of_rows = record { same_length = length-row_of new len ∙ sym (length-row_of old len); each = each }
    where
      each : (i : ℕ) → has_number (row_of new len) i ≡ (has_number (row_of old len) i || has_number (row_of others len) i)
      each i = elim (cases_lt i len) [
        | inl h ↦ rw (has_number-row_of new len i h, has_number-row_of old len i h, has_number-row_of others len i h) (joined i)
        | inr h ↦ rw (past new i h, past old i h, past others i h) refl
      ]
        where
          past : (ws : List ℕ) (i : ℕ) → len ≤ i → has_number (row_of ws len) i ≡ false
          past ws i h = get_or_past (row_of ws len) i false (omega (arith, length-row_of ws len))

-- a new number of the words is one of the sets, and the other way round
pub new_in_rows : (old others : List ℕ) (len : ℕ) → FitsLength others len → (i : ℕ) × IsNewIn old others i → (i : ℕ) × IsNew (row_of old len) (row_of others len) i
new_in_rows old others len fits new = (
  new.0,
  record {
    in_other = has_number-row_of others len new.0 below ∙ new.1.in_others;
    not_in_old = has_number-row_of old len new.0 below ∙ new.1.not_in_old;
  },
)
  where
    below : new.0 < len
    below = elim (cases_lt new.0 len) [ inl h ↦ h | inr h ↦ absurd (both_ways (in_words others new.0) (fits.outside new.0 h) new.1.in_others) ]

pub new_in_words : (old others : List ℕ) (len : ℕ) → (i : ℕ) × IsNew (row_of old len) (row_of others len) i → (i : ℕ) × IsNewIn old others i
new_in_words old others len new = (
  new.0,
  record {
    in_others = sym (has_number-row_of others len new.0 below) ∙ new.1.in_other;
    not_in_old = sym (has_number-row_of old len new.0 below) ∙ new.1.not_in_old;
  },
)
  where
    below : new.0 < len
    below = elim (cases_lt new.0 len) [
      | inl h ↦ h
      | inr h ↦ absurd (both_ways (has_number (row_of others len) new.0) (get_or_past (row_of others len) new.0 false (omega (arith, length-row_of others len))) new.1.in_other)
    ]

-- ---- and of the sets as their callers see them

module _ (old others new : List ℕ) (len others_len : ℕ) (self other : List Bool) (old_fits : FitsLength old len) (fits : FitsLength others others_len)
    (self_is : row_of old len ≡ self) (other_is : row_of others others_len ≡ other) (equal : length self ≡ length other) where
  lens : others_len ≡ len
  lens = sym (length-row_of others others_len) ∙ ap length other_is ∙ sym equal ∙ ap length (sym self_is) ∙ length-row_of old len

  others_fit : FitsLength others len
  others_fit = subst (λ n. FitsLength others n) lens fits

  other_at : row_of others len ≡ other
  other_at = ap (λ n. row_of others n) (sym lens) ∙ other_is

  pub words_match : length old ≡ length others
  words_match = omega (arith, old_fits.enough, old_fits.no_more, others_fit.enough, others_fit.no_more)

  pub fits_after : length new ≡ length old → ((i : ℕ) → in_words new i ≡ (in_words old i || in_words others i)) → FitsLength new len
  fits_after same joined = union_fits old others new len old_fits others_fit same joined

  pub union_after : length new ≡ length old → ((i : ℕ) → in_words new i ≡ (in_words old i || in_words others i)) → IsUnion self other (row_of new len)
  union_after same joined =
      subst (λ row. IsUnion row other (row_of new len)) self_is
      (subst (λ row. IsUnion (row_of old len) row (row_of new len)) other_at (union_of_rows old others new len old_fits others_fit same joined))

  pub new_after : (i : ℕ) × IsNewIn old others i → (i : ℕ) × IsNew self other i
  new_after found =
      subst (λ row. (i : ℕ) × IsNew row other i) self_is
      (subst (λ row. (i : ℕ) × IsNew (row_of old len) row i) other_at (new_in_rows old others len others_fit found))

  pub new_before : (i : ℕ) × IsNew self other i → (i : ℕ) × IsNewIn old others i
  new_before found =
      new_in_words old others len
      (subst (λ row. (i : ℕ) × IsNew (row_of old len) row i) (sym other_at) (subst (λ row. (i : ℕ) × IsNew row other i) (sym self_is) found))
