-- A set of the numbers below a length, as the list that says of each whether it is in the set (this project's own), and
-- how it is kept in words.
use Rattle.std.specs.Prelude.{◌≡◌, ℕ, ◌+◌, ◌*◌, ◌/◌, ◌%◌, ◌<◌, ◌≤◌, Bool, true, false, ◌||◌, List, length, map, slice_index, slice_index_or}
use Rattle.std.specs.List.{range_with_len}
use Rattle.jo_ids.specs.Words.{in_word}

-- whether the number is in the set
abbrev pub has_number : List Bool → ℕ → Bool
has_number row i = slice_index_or row i false

-- the new set is the union of the old one and the other
pub record IsUnion (old other new : List Bool) : Type 0 where
  pub same_length : length new ≡ length old
  pub each : (i : ℕ) → has_number new i ≡ (has_number old i || has_number other i)

-- a number of the other set that the old one lacks
pub record IsNew (old other : List Bool) (i : ℕ) : Type 0 where
  pub in_other : has_number other i ≡ true
  pub not_in_old : has_number old i ≡ false

-- whether the number is in the words, of which each has 64 numbers
abbrev pub in_words : List ℕ → ℕ → Bool
in_words words i = in_word (slice_index words (i / 64)) (i % 64)

-- a number of the other words that the old ones lack
pub record IsNewIn (old others : List ℕ) (i : ℕ) : Type 0 where
  pub in_others : in_words others i ≡ true
  pub not_in_old : in_words old i ≡ false

-- the set of the numbers below a length that are in the words
abbrev pub row_of : List ℕ → ℕ → List Bool
row_of words len = map (in_words words) (range_with_len 0 len)

-- just as many words as the length asks for, and nothing in them from the length on
pub record FitsLength (words : List ℕ) (len : ℕ) : Type 0 where
  pub enough : len ≤ 64 * length words
  pub no_more : 64 * length words < len + 64
  pub outside : (i : ℕ) → len ≤ i → in_words words i ≡ false
