-- What a search backwards along chains has found: places in order, each once, with how a chain leads on from each. A
-- place is a node in one of two phases (after Horwitz, Reps and Binkley 1990).
use Rattle.std.specs.Prelude.{◌≡◌, ◌⊎◌, ◌↔◌, ℕ, ◌+◌, Bool, true, not, List, [], ◌∷◌, ◌++◌, length, map, take, slice_set, slice_index_or, Contains, count_by}
use Rattle.jo_ids.specs.Rows.{has_number}
use Rattle.slicer.specs.declared.finds.Phase.{Phase}
use Rattle.slicer.specs.declared.finds.Phase.TheVariants.{First, Second}
use Rattle.slicer.specs.declared.finds.Place.{Place}
use Rattle.slicer.specs.declared.finds.Found.{Found}

abbrev pub place : ℕ → Phase → Place
place node phase = record { node = node; phase = phase }

-- the place of what was found with that number, where there is such
abbrev pub place_at : List Found → ℕ → Found → Place
place_at found number d = (slice_index_or found number d).place

abbrev pub places_of : List Found → List Place
places_of found = map (λ f. f.place) found

-- the place is among what is found
abbrev pub HasPlace : List Found → Place → Type 0
HasPlace found at = Contains (places_of found) at

-- the node is among what is found, in one of the phases
abbrev pub HasNode : List Found → ℕ → Type 0
HasNode found node = (phase : Phase) × HasPlace found (place node phase)

-- the new list has the item at its end, unless the old one has its place
abbrev pub AddsFound : List Found → Found → List Found → Type 0
AddsFound old item new =
    (HasPlace old item.place × (new ≡ old)) ⊎ ((HasPlace old item.place → ⊥) × (new ≡ old ++ item ∷ []))

-- ---- how it is kept: a set of nodes for each phase, and room for each node in each phase

-- what contracts see
pub record Search : Type 0 where
  pub count : ℕ
  pub found : List Found

-- the set of a phase, where these are the sets of the two
abbrev pub row_of_phase : Phase → List Bool → List Bool → List Bool
row_of_phase First first second = first
row_of_phase Second first second = second

-- the set of the first phase named, with the node besides if the second is the same phase
abbrev pub with_node : Phase → Place → List Bool → List Bool
with_node First at row = with_first at.phase
  where
    with_first : Phase → List Bool
    with_first First = slice_set row at.node true
    with_first Second = row
with_node Second at row = with_second at.phase
  where
    with_second : Phase → List Bool
    with_second First = row
    with_second Second = slice_set row at.node true

pub record IsKept (first second : List Bool) (places : List Found) (end : ℕ) : Type 0 where
  pub same_length : length second ≡ length first
  pub room : length places ≡ length first + length second
  pub counted : end + (count_by not first + count_by not second) ≡ length places
  pub sets : (phase : Phase) (node : ℕ)
      → (has_number (row_of_phase phase first second) node ≡ true) ↔ HasPlace (take end places) (place node phase)
