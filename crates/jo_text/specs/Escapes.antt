-- How names and quoted texts are spelled (this project's own). Two sets of bytes are escaped: one in names, which stand
-- among other words of a line, and one between double quotes.
use Rattle.std.specs.Prelude.{ℕ, ◌+◌, ◌/◌, ◌%◌, Bool, ◌||◌, nat_lt, ◌==◌, if◌then◌else◌, List, [], ◌∷◌, ◌++◌, codes}
use Rattle.std.specs.List.{flat_map, list_any}

-- a digit to the base sixteen, in upper case
abbrev pub hex_digit : ℕ → ℕ
hex_digit n = if nat_lt n 10 then 48 + n else 55 + n

-- `%` and two digits
abbrev pub escape_of : ℕ → List ℕ
escape_of byte = 37 ∷ hex_digit (byte / 16) ∷ hex_digit (byte % 16) ∷ []

-- a byte's one spelling, where the set says which bytes need an escape
abbrev pub escaped_byte_where : (ℕ → Bool) → ℕ → List ℕ
escaped_byte_where escapes byte = if escapes byte then escape_of byte else byte ∷ []

-- the one spelling of bytes: escapes where a byte needs one, and only there
abbrev pub escaped_where : (ℕ → Bool) → List ℕ → List ℕ
escaped_where escapes text = flat_map (escaped_byte_where escapes) text

-- ---- names

-- a byte that a name's spelling can't hold: one outside 0x21 to 0x7e, and `%`, `,`, `]`, `@`, `!`, `#` and the double quote
abbrev pub is_escaped : ℕ → Bool
is_escaped byte = nat_lt byte 0x21 || (nat_lt 0x7e byte || list_any (λ b. b == byte) (codes "%,]@!#\""))

abbrev pub escaped_byte : ℕ → List ℕ
escaped_byte byte = escaped_byte_where is_escaped byte

abbrev pub escaped : List ℕ → List ℕ
escaped name = escaped_where is_escaped name

-- ---- texts between double quotes

-- a byte that can't stand between the quotes: one outside 0x20 to 0x7e, `%` and the double quote
abbrev pub is_escaped_in_quotes : ℕ → Bool
is_escaped_in_quotes byte = nat_lt byte 0x20 || (nat_lt 0x7e byte || list_any (λ b. b == byte) (codes "%\""))

abbrev pub quoted : List ℕ → List ℕ
quoted text = 34 ∷ escaped_where is_escaped_in_quotes text ++ 34 ∷ []
