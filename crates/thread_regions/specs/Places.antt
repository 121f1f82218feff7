-- The instances and the calls to which nodes belong, each by the number of its first node (this project's own).
use Rattle.std.specs.Prelude.{◌≡◌, ◌↔◌, ℕ, ◌<◌, Bool, if◌then◌else◌, List, Option, Some, None, length, slice_get, slice_index, unwrap_or}
use Rattle.dep_nodes.specs.declared.graphs.NodeName.{NodeName}
use Rattle.dep_nodes.specs.Nodes.{sites_of, pc_of}
use Rattle.thread_regions.specs.declared.places.Group.{Group}
use Rattle.thread_regions.specs.declared.places.Group.TheVariants.{Instances, Calls}
use Rattle.thread_regions.specs.declared.places.Place.{Place}
use Rattle.thread_regions.specs.contracts.places.PlacePartialEq.TheImpl as place_eq

-- the instance of a node, or its call
abbrev pub place_of : Group → NodeName → Place
place_of group name = record { method = name.method; first = slice_get (sites_of name.sites) 0; second = slice_get (sites_of name.sites) 1; pc = pc_in group }
  where
    pc_in : Group → Option ℕ
    pc_in Instances = None
    pc_in Calls = pc_of name.kind

abbrev pub same_place : Place → Place → Bool
same_place = (place_eq.ghosts).eq

-- the place has this number afterwards: the one that it had, else the given one
pub record Notes (old new : Place → Option ℕ) (place : Place) (number first : ℕ) : Type 0 where
  pub first_is : unwrap_or (old place) number ≡ first
  pub each : (q : Place) → new q ≡ (if same_place place q then Some first else old q)

-- for each place a number below their count, the same for equal places and for no others
pub record AreFirsts (places : List Place) (firsts : List ℕ) : Type 0 where
  pub same_length : length firsts ≡ length places
  pub within : (i : ℕ) → i < length places → slice_index firsts i < length places
  pub same : (i j : ℕ) (a b : Place) → slice_get places i ≡ Some a → slice_get places j ≡ Some b → (slice_index firsts i ≡ slice_index firsts j) ↔ (a ≡ b)
