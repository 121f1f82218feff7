-- How numbers are spelled in texts (this project's own).
use Rattle.std.specs.Prelude.{◌≡◌, ℕ, ℤ, List}
use Rattle.std.specs.Int.{w32}
use Rattle.std.specs.Int.RustNames.{FitsSigned}
use Rattle.std.specs.Fmt.{signed_decimal}

-- The text is the decimal of a number of 32 bits: a minus sign where it is negative, no plus sign, no leading zero.
abbrev pub IsNumber : List ℕ → ℤ → Type 0
IsNumber text number = FitsSigned w32 number × (text ≡ signed_decimal number)
