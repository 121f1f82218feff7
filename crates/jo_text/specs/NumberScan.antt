-- What a number's text is known by before it is parsed. A private function computes this; the public contract cites
-- `Numbers` alone.
use Rattle.std.specs.Prelude.{◌≡◌, ◌≢◌, ℕ, List, length, slice_index}

-- no plus sign, no zero before other digits, no minus sign before a zero
pub record IsPlain (text : List ℕ) : Type 0 where
  pub unsigned : slice_index text 0 ≢ 43
  pub short : slice_index text 0 ≡ 48 → length text ≡ 1
  pub negative : slice_index text 0 ≡ 45 → slice_index text 1 ≢ 48
