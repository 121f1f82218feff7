-- The order of sites, by methods and then by pcs, in which a search by halves finds them. Private functions compute these.
use Rattle.std.specs.Prelude.{ℕ, Bool, true, ◌||◌, ◌&&◌, ◌==◌, nat_lt, List}
use Rattle.std.specs.List.Sorted.{IsPartitionedBy}
use Rattle.jo_prog.specs.declared.sites.Site.{Site}
use Rattle.jo_prog.specs.declared.sites.Site.TheVariants.{Text, Args, Alloc, Call, Raise}

-- a pc of a method stands before the place m, place
abbrev pub comes_before : ℕ → ℕ → ℕ → ℕ → Bool
comes_before m place method pc = nat_lt method m || method == m && nat_lt pc place

abbrev pub is_before : ℕ → ℕ → Site → Bool
is_before m place Text = true
is_before m place Args = true
is_before m place (Alloc method pc) = comes_before m place method pc
is_before m place (Call method pc) = comes_before m place method pc
is_before m place (Raise method pc class) = comes_before m place method pc

-- no site before a place comes after one that isn't
abbrev pub IsInOrder : List Site → Type 0
IsInOrder sites = (m place : ℕ) → IsPartitionedBy (is_before m place) sites
