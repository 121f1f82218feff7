-- How reports spell nodes and levels, where they are read without a program (this project's own): a method, a context of
-- at most two sites, and the node's kind with its numbers.
use Rattle.std.specs.Prelude.{◌≡◌, ◌⊎◌, ℕ, ◌<◌, ◌^◌, Bool, true, List, [], ◌∷◌, length, codes}
use Rattle.std.specs.Int.{is_in_range}
use Rattle.std.specs.List.{AllByRecursion, list_all}
use Rattle.jo_text.specs.Escapes.{escaped}
use Rattle.report_texts.specs.Parts.{Is, Joined, IsOneOf}
use Rattle.report_texts.specs.declared.words.Numbers.{Numbers}
use Rattle.report_texts.specs.declared.words.Numbers.TheVariants.{Zero, One, Two}

-- any bytes, spelled as names are
abbrev pub IsNameText : List ℕ → Type 0
IsNameText text = (name : List ℕ) × AllByRecursion (λ byte. byte < 2 ^ 8) name × (text ≡ escaped name)

-- a level's name may be empty, and that of a method or a class may not
abbrev pub IsSomeName : List ℕ → Type 0
IsSomeName text = (0 < length text) × IsNameText text

abbrev pub is_digit : ℕ → Bool
is_digit byte = is_in_range 48 57 byte

-- a decimal number of any count of digits, without leading zeros
abbrev pub IsNumberText : List ℕ → Type 0
IsNumberText [] = ⊥
IsNumberText (first ∷ rest) = ((first ≡ 48) × (rest ≡ [])) ⊎ ((is_in_range 49 57 first ≡ true) × (list_all is_digit rest ≡ true))

-- ---- contexts

-- nothing, or the class that is raised at a pc
abbrev pub IsRaised : List ℕ → Type 0
IsRaised text = (text ≡ []) ⊎ Joined (Is (codes "!")) IsSomeName text

-- a method, a pc, and where a class is raised there, that
abbrev pub IsCodeSite : List ℕ → Type 0
IsCodeSite text = Joined IsSomeName (Joined (Is (codes "@")) (Joined IsNumberText IsRaised)) text

abbrev pub IsSite : List ℕ → Type 0
IsSite text = ((text ≡ codes "string") ⊎ (text ≡ codes "args")) ⊎ IsCodeSite text

abbrev pub EndsContext : List ℕ → Type 0
EndsContext text = (text ≡ codes "]") ⊎ Joined (Is (codes ",")) (Joined IsSite (Is (codes "]"))) text

-- `[]`, `[SITE]` or `[SITE,SITE]`
abbrev pub IsContext : List ℕ → Type 0
IsContext text = Joined (Is (codes "[")) (λ rest. (rest ≡ codes "]") ⊎ Joined IsSite EndsContext rest) text

-- ---- kinds

-- each kind with how many numbers it has
abbrev pub kinds : List (List ℕ × Numbers)
kinds = (codes "entry", Zero) ∷ (codes "instr", One) ∷ (codes "call", One) ∷ (codes "arg", Two) ∷ (codes "retkind", One) ∷ (codes "retval", One)
    ∷ (codes "throw", One) ∷ (codes "catch", One) ∷ (codes "poll", Two) ∷ (codes "xpoll", Two) ∷ (codes "param", One)
    ∷ (codes "kind", Zero) ∷ (codes "value", Zero) ∷ (codes "thrown", Zero) ∷ []

-- so many numbers, with a space before each
abbrev pub AreNumbers : Numbers → List ℕ → Type 0
AreNumbers Zero text = text ≡ []
AreNumbers One text = Joined (Is (codes " ")) IsNumberText text
AreNumbers Two text = Joined (Is (codes " ")) (Joined IsNumberText (Joined (Is (codes " ")) IsNumberText)) text

abbrev pub IsKind : List ℕ → Type 0
IsKind text = (kind : List ℕ × Numbers) × IsOneOf kinds kind × Joined (Is kind.0) (AreNumbers kind.1) text

-- ---- nodes

abbrev pub IsNodeText : List ℕ → Type 0
IsNodeText text = Joined IsSomeName (Joined (Is (codes " ")) (Joined IsContext (Joined (Is (codes " ")) IsKind))) text
