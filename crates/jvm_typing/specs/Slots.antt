-- Facts by slots: where in their list those of a place stand (this project's own), as in hashing with separate chains (Knuth, The
-- Art of Computer Programming 3, 6.4).
use Rattle.std.specs.Prelude.{◌≡◌, ℕ, ◌+◌, ◌*◌, ◌%◌, ◌<◌, List, [], length, Contains, Some, slice_get, slice_index_or}
use Rattle.jvm_typing.specs.declared.facts.Fact.{Fact}

-- the slot of a place at a pc, among so many
abbrev pub slot_of : ℕ → ℕ → ℕ → ℕ
slot_of slots pc place = (pc * 2654435761 + place % 4294967296) % slots

abbrev pub numbers_in : List (List ℕ) → ℕ → List ℕ
numbers_in slots slot = slice_index_or slots slot []

-- the slot of each fact's place has its number
pub record AreListed (facts : List Fact) (slots : List (List ℕ)) : Type 0 where
  pub some : 0 < length slots
  pub each : (n : ℕ) (fact : Fact) → slice_get facts n ≡ Some fact → Contains (numbers_in slots (slot_of (length slots) fact.pc fact.place)) n

-- the numbers of all facts of that place at that pc are among these
abbrev pub ListsPlace : List Fact → ℕ → ℕ → List ℕ → Type 0
ListsPlace facts pc place numbers = (n : ℕ) (fact : Fact) → slice_get facts n ≡ Some fact → fact.pc ≡ pc → fact.place ≡ place → Contains numbers n
