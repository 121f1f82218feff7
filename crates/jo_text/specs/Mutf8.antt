-- Modified UTF-8 (JVM Specification SE 8, 4.4.7): each character, from 0 to 0xFFFF, in its one spelling. What lies past
-- 0xFFFF is spelled as two such characters, a pair of surrogates; here a surrogate may also stand alone.
use Rattle.std.specs.Prelude.{◌≡◌, ℕ, ◌+◌, ◌/◌, ◌%◌, ◌<◌, ◌&&◌, nat_lt, if◌then◌else◌, List, [], ◌∷◌}
use Rattle.std.specs.List.{flat_map, AllByRecursion}

-- One byte for 1 to 0x7F, two for 0 and for 0x80 to 0x7FF, three for the rest: no byte is 0, and none is 0xF0 or more.
abbrev pub mutf8_of : ℕ → List ℕ
mutf8_of c =
    if nat_lt 0 c && nat_lt c 0x80 then c ∷ []
    else if nat_lt c 0x800 then (0xC0 + c / 64) ∷ (0x80 + c % 64) ∷ []
    else (0xE0 + c / 4096) ∷ (0x80 + c / 64 % 64) ∷ (0x80 + c % 64) ∷ []

abbrev pub IsMutf8 : List ℕ → Type 0
IsMutf8 bytes = (chars : List ℕ) × AllByRecursion (λ c. c < 0x1_0000) chars × (bytes ≡ flat_map mutf8_of chars)
