-- Spellings read from left to right. Private functions compute these; the public contracts cite `Escapes` alone.
use Rattle.std.specs.Prelude.{◌≡◌, ℕ, ◌<◌, ◌^◌, Bool, List, ◌++◌}
use Rattle.std.specs.List.{AllByRecursion}
use Rattle.jo_text.specs.Escapes.{hex_digit, escaped_byte_where, escaped_where, is_escaped, is_escaped_in_quotes}
use Rattle.jo_text.specs.declared.escapes.Spelling.{Spelling}
use Rattle.jo_text.specs.declared.escapes.Spelling.TheVariants.{Bare, Quoted}

-- the bytes that are escaped
abbrev pub escapes_in : Spelling → ℕ → Bool
escapes_in Bare = is_escaped
escapes_in Quoted = is_escaped_in_quotes

abbrev pub IsDigitOf : ℕ → ℕ → Type 0
IsDigitOf digit n = (n < 16) × (digit ≡ hex_digit n)

abbrev pub IsNoDigit : ℕ → Type 0
IsNoDigit digit = (n : ℕ) → IsDigitOf digit n → ⊥

-- the text is the byte's spelling and the rest
abbrev pub BeginsByte : (ℕ → Bool) → List ℕ → ℕ → List ℕ → Type 0
BeginsByte escapes text byte rest = (byte < 2 ^ 8) × (text ≡ escaped_byte_where escapes byte ++ rest)

abbrev pub BeginsNoByte : (ℕ → Bool) → List ℕ → Type 0
BeginsNoByte escapes text = (byte : ℕ) (rest : List ℕ) → BeginsByte escapes text byte rest → ⊥

-- the text is the spelling of these bytes, or of some
abbrev pub IsSpellingOf : (ℕ → Bool) → List ℕ → List ℕ → Type 0
IsSpellingOf escapes text bytes = AllByRecursion (λ byte. byte < 2 ^ 8) bytes × (text ≡ escaped_where escapes bytes)

abbrev pub IsSpelling : (ℕ → Bool) → List ℕ → Type 0
IsSpelling escapes text = (bytes : List ℕ) × IsSpellingOf escapes text bytes
