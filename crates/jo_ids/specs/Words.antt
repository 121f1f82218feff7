-- A machine word as a set of the numbers below 64 (this project's own).
use Rattle.std.specs.Prelude.{ℕ, Bool, ◌==◌}
use Rattle.std.specs.Int.{bit_at}

-- whether the number is in the word
abbrev pub in_word : ℕ → ℕ → Bool
in_word word bit = bit_at word bit == 1
