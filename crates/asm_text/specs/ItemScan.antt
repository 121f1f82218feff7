-- Where lines and items end. Private functions compute these; the public contracts cite `Lines` alone.
use Rattle.std.specs.Prelude.{ℕ, suc, Bool, if◌then◌else◌, List, [], ◌∷◌, Option, Some, None}
use Rattle.asm_text.specs.Lines.{is_parting, quoted_behind}

-- the length of the item that begins the text
abbrev pub item_length : Bool → List ℕ → ℕ
item_length quoted [] = 0
item_length quoted (b ∷ bs) = if is_parting quoted b then 0 else suc (item_length (quoted_behind quoted b) bs)

-- the first, and the others
abbrev pub first_of : {X : Type 0} → List X → Option (X × List X)
first_of [] = None
first_of (x ∷ xs) = Some (x, xs)
