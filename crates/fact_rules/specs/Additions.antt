-- Facts about objects that have numbers.
use Rattle.std.specs.Prelude.{◌≡◌, ℕ, List}
use Rattle.jo_ids.specs.declared.ObjKey.{ObjKey}
use Rattle.dep_nodes.specs.declared.kinds.NodeKind.{NodeKind}
use Rattle.dependence.specs.declared.facts.InstKey.{InstKey}
use Rattle.dependence.specs.declared.facts.Fact.{Fact}
use Rattle.dependence.specs.declared.facts.Fact.TheVariants.{Holds}
use Rattle.fact_sets.specs.FactLists.{IsInstance, IsObject}
use Rattle.fact_sets.specs.Seen.{TellsApart, instance_seen, object_seen, Listed}
use Rattle.fact_rules.specs.Adds.{Adds}

-- the fact is that a node holds the object with that number
abbrev pub SaysHeld : {C : Type 0} → List (ℕ × C) → InstKey C → NodeKind → ℕ → Fact C → Type 0
SaysHeld {C} objects i kind o fact = (key : ObjKey C) × IsObject objects o key × (fact ≡ Holds i kind key)

-- ---- over lists of sites

-- the object with that number is seen so
abbrev pub IsObjectSeen : {C : Type 0} → (C → List ℕ) → List (ℕ × C) → ℕ → ObjKey (List ℕ) → Type 0
IsObjectSeen {C} list objects x o = (key : ObjKey C) × IsObject objects x key × (object_seen list key ≡ o)

-- the instance with that number is seen so
abbrev pub IsInstanceSeen : {C : Type 0} → (C → List ℕ) → List (ℕ × C) → ℕ → InstKey (List ℕ) → Type 0
IsInstanceSeen {C} list instances x i = (key : InstKey C) × IsInstance instances x key × (instance_seen list key ≡ i)

-- what is made of the object with that number
abbrev pub OfObject : {C X : Type 0} → (C → List ℕ) → List (ℕ × C) → (ObjKey (List ℕ) → X → Type 0) → ℕ → X → Type 0
OfObject list objects makes x g = (o : ObjKey (List ℕ)) × IsObjectSeen list objects x o × makes o g

-- the new facts are the old ones and these, whatever tells contexts apart
abbrev pub AddsSeen : {C : Type 0} → List (Fact C) → List (Fact C) → ((C → List ℕ) → Fact (List ℕ) → Type 0) → Type 0
AddsSeen {C} old new more = (list : C → List ℕ) → TellsApart list → Adds (Listed list old) (Listed list new) (more list)
