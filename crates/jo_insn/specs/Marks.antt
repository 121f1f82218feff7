-- A mark for each pc of some code (this project's own).
use Rattle.std.specs.Prelude.{ℕ, Bool, true, false, ℤ, pos, negsuc, List, [], ◌∷◌, map, replicate, slice_index_or, slice_set}
use Rattle.jo_insn.specs.declared.jumps.Placed.{Placed}

-- the marks, with that of this pc; one past either end has none
abbrev pub marked_at : List Bool → ℤ → List Bool
marked_at marks (pos pc) = slice_set marks pc true
marked_at marks (negsuc n) = marks

-- the marks, with those of these pcs
abbrev pub marked : List Bool → List ℤ → List Bool
marked marks [] = marks
marked marks (pc ∷ more) = marked (marked_at marks pc) more

-- whether a pc is marked; none past either end is
abbrev pub is_marked : List Bool → ℤ → Bool
is_marked marks (pos pc) = slice_index_or marks pc false
is_marked marks (negsuc n) = false

-- where instructions start, in code of this size
abbrev pub starts_of : ℕ → List Placed → List Bool
starts_of size insns = marked (replicate size false) (map (λ (placed : Placed). pos placed.pc) insns)
