-- Facts whose contexts are seen as lists of sites (this project's own form).
use Rattle.std.specs.Prelude.{◌≡◌, ℕ, List, Contains}
use Rattle.jo_ids.specs.declared.ObjKey.{ObjKey}
use Rattle.dependence.specs.declared.facts.InstKey.{InstKey}
use Rattle.dependence.specs.declared.facts.FactCell.{FactCell}
use Rattle.dependence.specs.declared.facts.FactCell.TheVariants.{Field, Elements, Static}
use Rattle.dependence.specs.declared.facts.Fact.{Fact}
use Rattle.dependence.specs.declared.facts.Fact.TheVariants.{Reached, Holds, CellHolds, Target, Fork, Throws, Stalls}
use Rattle.fact_sets.specs.FactLists.{FactLists, HasFact}

-- no two contexts have one list
abbrev pub TellsApart : {C : Type 0} → (C → List ℕ) → Type 0
TellsApart {C} list = (a b : C) → list a ≡ list b → a ≡ b

abbrev pub instance_seen : {C : Type 0} → (C → List ℕ) → InstKey C → InstKey (List ℕ)
instance_seen list key = record { method = key.method; context = list key.context }

abbrev pub object_seen : {C : Type 0} → (C → List ℕ) → ObjKey C → ObjKey (List ℕ)
object_seen list key = record { site = key.site; context = list key.context }

abbrev pub cell_seen : {C : Type 0} → (C → List ℕ) → FactCell C → FactCell (List ℕ)
cell_seen list (Field f o) = Field f (object_seen list o)
cell_seen list (Elements o) = Elements (object_seen list o)
cell_seen list (Static f) = Static f

abbrev pub fact_seen : {C : Type 0} → (C → List ℕ) → Fact C → Fact (List ℕ)
fact_seen list (Reached i) = Reached (instance_seen list i)
fact_seen list (Holds i kind o) = Holds (instance_seen list i) kind (object_seen list o)
fact_seen list (CellHolds cell o) = CellHolds (cell_seen list cell) (object_seen list o)
fact_seen list (Target i pc j) = Target (instance_seen list i) pc (instance_seen list j)
fact_seen list (Fork i pc j) = Fork (instance_seen list i) pc (instance_seen list j)
fact_seen list (Throws i) = Throws (instance_seen list i)
fact_seen list (Stalls i) = Stalls (instance_seen list i)

-- the facts that are kept
pub record Known {C : Type 0} (list : C → List ℕ) (lists : FactLists C) (g : Fact (List ℕ)) : Type 0 where
  pub fact : Fact C
  pub has : HasFact lists fact
  pub seen : fact_seen list fact ≡ g

-- the facts of a list
pub record Listed {C : Type 0} (list : C → List ℕ) (facts : List (Fact C)) (g : Fact (List ℕ)) : Type 0 where
  pub fact : Fact C
  pub there : Contains facts fact
  pub seen : fact_seen list fact ≡ g
