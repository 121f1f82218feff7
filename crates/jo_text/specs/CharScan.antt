-- Which bytes may follow those at the front of a text. Private functions compute this; the public contracts cite `Texts` alone.
use Rattle.std.specs.Prelude.{ℕ, zero, suc, ◌≤◌, ◌↔◌, ◌==◌, if◌then◌else◌, List, [], ◌∷◌, ◌++◌, Option, Some, None, MatchOption}
use Rattle.std.specs.Int.{is_in_range}
use Rattle.jo_text.specs.Texts.{BeginsText}
use Rattle.jo_text.specs.declared.mutf8.Awaited.{Awaited}

-- so many continuation bytes
abbrev pub continued : ℕ → Awaited
continued count = record { count = count; least = 0x80; most = 0xBF }

-- so many bytes, the first from `least` to `most` and each other one a continuation byte, and then a text
abbrev pub Completes : (List ℕ → Type 0) → ℕ → ℕ → ℕ → List ℕ → Type 0
Completes IsText zero least most bytes = IsText bytes
Completes IsText (suc count) least most [] = ⊥
Completes IsText (suc count) least most (b ∷ bytes) = (least ≤ b) × (b ≤ most) × Completes IsText count 0x80 0xBF bytes

-- the texts that begin with the bytes go on with what is awaited, and some do
pub record Awaits (IsText : List ℕ → Type 0) (bytes : List ℕ) (awaited : Awaited) : Type 0 where
  pub some : awaited.least ≤ awaited.most
  pub exact : (rest : List ℕ) → IsText (bytes ++ rest) ↔ Completes IsText awaited.count awaited.least awaited.most rest

-- what is awaited behind the bytes and one more, or that no text begins so
abbrev pub GoesOn : (List ℕ → Type 0) → List ℕ → ℕ → Option Awaited → Type 0
GoesOn IsText bytes byte next = MatchOption next (BeginsText IsText (bytes ++ byte ∷ []) → ⊥) (Awaits IsText (bytes ++ byte ∷ []))

-- what is awaited behind the first byte of a character in modified UTF-8
abbrev pub mutf8_lead : ℕ → Option Awaited
mutf8_lead b =
    if is_in_range 0x01 0x7F b then Some (continued 0)
    else if b == 0xC0 then Some (record { count = 1; least = 0x80; most = 0x80 })
    else if is_in_range 0xC2 0xDF b then Some (continued 1)
    else if b == 0xE0 then Some (record { count = 2; least = 0xA0; most = 0xBF })
    else if is_in_range 0xE1 0xEF b then Some (continued 2)
    else None
