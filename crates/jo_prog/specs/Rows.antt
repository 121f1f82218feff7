-- Which row of an exception table catches an exception (JVM Specification SE 8, 2.10 and 4.7.3).
use Rattle.std.specs.Prelude.{ℕ, suc, Bool, true, ◌&&◌, nat_le, nat_lt, if◌then◌else◌, List, [], ◌∷◌, Option, Some, None}
use Rattle.jo_prog.specs.declared.program.Program.{Program}
use Rattle.jo_prog.specs.declared.program.Row.{Row}
use Rattle.jo_prog.specs.declared.program.TypeRef.{TypeRef}
use Rattle.jo_prog.specs.declared.program.TypeRef.TheVariants.{Class as OfClass}
use Rattle.jo_prog.specs.Types.{type_fits}

-- the pc is among those that the row covers, the last of which stands before its end
abbrev pub covers : Row → ℕ → Bool
covers row pc = nat_le row.start pc && nat_lt pc row.end

-- a row that names no class catches each exception
abbrev pub catches_class : Program → Option TypeRef → ℕ → Bool
catches_class program None class = true
catches_class program (Some type) class = type_fits program (OfClass class) type

abbrev pub catches_at : Program → ℕ → ℕ → Row → Bool
catches_at program pc class row = covers row pc && catches_class program row.catches class

-- the first row, with its number, that catches an exception of a class at a pc; the rows have numbers from a first one on
abbrev pub row_from : Program → ℕ → ℕ → ℕ → List Row → Option (ℕ × Row)
row_from program pc class first [] = None
row_from program pc class first (row ∷ rows) =
    if catches_at program pc class row then Some (first, row) else row_from program pc class (suc first) rows

abbrev pub row_for : Program → List Row → ℕ → ℕ → Option (ℕ × Row)
row_for program rows pc class = row_from program pc class 0 rows
