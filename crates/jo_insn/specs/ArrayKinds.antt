-- The kinds of `newarray` by name (JVM Specification SE 8, 6.5, newarray). Float, double and long are outside the profile.
use Rattle.std.specs.Prelude.{ℕ, ◌==◌, List, [], ◌∷◌, map, Option, codes}
use Rattle.std.specs.Map.{lookup}
use Rattle.std.specs.Str.{bytes_eq}

unfoldable pub kind_names : List (ℕ × List ℕ)
kind_names = (4, codes "boolean") ∷ (5, codes "char") ∷ (8, codes "byte") ∷ (9, codes "short") ∷ (10, codes "int") ∷ []

-- the name of a kind
unfoldable pub name_of_kind : ℕ → Option (List ℕ)
name_of_kind kind = lookup (λ k. k == kind) kind_names

-- the same table from names to kinds
abbrev pub named_kinds : List (ℕ × List ℕ) → List (List ℕ × ℕ)
named_kinds rows = map (λ row. (row.1, row.0)) rows

-- the kind of a name
unfoldable pub kind_named : List ℕ → Option ℕ
kind_named name = lookup (λ n. bytes_eq n name) (named_kinds kind_names)
