-- The keys of a lookupswitch by their places.
use Rattle.std.specs.Prelude.{ℕ, ◌*◌, ℤ, List, drop}
use Rattle.byteorder.specs.Endian.{big_number, twos_complement}

-- the key of a pair
abbrev pub key_at : ℕ → List ℕ → ℤ
key_at pair table = twos_complement 4 (big_number 4 (drop (8 * pair) table))
