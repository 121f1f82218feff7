-- What becomes of facts as others are taken in (this project's own).
use Rattle.std.specs.Prelude.{◌⊎◌, ℕ, ◌+◌, ◌<◌, ◌≤◌, List, Contains, length}
use Rattle.jo_ids.specs.declared.LimitKind.TheVariants.{M3, M4}
use Rattle.dep_nodes.specs.OnceLists.{IsOnceEach}
use Rattle.dependence.specs.declared.facts.Fact.{Fact}
use Rattle.fact_sets.specs.FactLists.{FactLists, HasFact, Grows, instances_in, objects_in}
use Rattle.fact_rules.specs.Adds.{From}
use Rattle.points_to.specs.declared.faults.SolveFault.{SolveFault}
use Rattle.points_to.specs.declared.faults.SolveFault.TheVariants.{Limit, Memory}

-- how many facts there are, and how many instances and objects have a number
abbrev pub size_of : {C : Type 0} → FactLists C → ℕ
size_of lists = length lists.facts + length lists.instances + length lists.objects

-- nothing is there that wasn't, but these facts and what they name
pub record TakesOnly {C : Type 0} (old new : FactLists C) (items : List (Fact C)) : Type 0 where
  pub facts : (f : Fact C) → HasFact new f → HasFact old f ⊎ Contains items f
  pub instances : (pair : ℕ × C) → Contains new.instances pair → Contains old.instances pair ⊎ From items (λ f p. Contains (instances_in f) p) pair
  pub objects : (pair : ℕ × C) → Contains new.objects pair → Contains old.objects pair ⊎ From items (λ f p. Contains (objects_in f) p) pair

-- the list goes on; where it is no greater, it has the same facts
pub record GoesOn {C : Type 0} (old new : FactLists C) : Type 0 where
  pub keeps : (f : Fact C) → HasFact old f → HasFact new f
  pub instances : Grows old.instances new.instances
  pub longer : size_of old ≤ size_of new
  pub still : size_of new ≤ size_of old → (f : Fact C) → HasFact new f → HasFact old f

-- it has these besides
pub record Takes {C : Type 0} (old new : FactLists C) (items : List (Fact C)) : Type 0 where
  pub goes_on : GoesOn old new
  pub has : (f : Fact C) → Contains items f → HasFact new f

-- the limits on instances and objects
pub record IsFew {C : Type 0} (lists : FactLists C) : Type 0 where
  pub instances : length lists.instances ≤ 20000
  pub objects : length lists.objects ≤ 8192

-- more than the limit have a number, each one, or memory was wanting
abbrev pub IsOver : {C : Type 0} → FactLists C → SolveFault → Type 0
IsOver lists (Limit M3) = (20000 < length lists.instances) × IsOnceEach lists.instances
IsOver lists (Limit M4) = (8192 < length lists.objects) × IsOnceEach lists.objects
IsOver lists (Limit _) = ⊥
IsOver lists Memory = Unit {0}
