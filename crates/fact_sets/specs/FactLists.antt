-- Facts as a list of numbered facts, beside the instances and the objects that the numbers name, in the order of their first
-- naming (this project's own).
use Rattle.std.specs.Prelude.{◌≡◌, ℕ, ◌<◌, ◌^◌, Bool, true, false, List, [], ◌∷◌, ◌++◌, Contains, Some, length, slice_get}
use Rattle.jo_ids.specs.declared.ObjKey.{ObjKey}
use Rattle.dep_nodes.specs.GrowingGraphs.{AppendsNew}
use Rattle.dep_nodes.specs.declared.kinds.NodeKind.{NodeKind}
use Rattle.dependence.specs.declared.facts.InstKey.{InstKey}
use Rattle.dependence.specs.declared.facts.FactCell.{FactCell}
use Rattle.dependence.specs.declared.facts.FactCell.TheVariants.{Field, Elements, Static}
use Rattle.dependence.specs.declared.facts.Fact.{Fact}
use Rattle.dependence.specs.declared.facts.Fact.TheVariants.{Reached, Holds, CellHolds, Target, Fork, Throws, Stalls}
use Rattle.fact_sets.specs.declared.numbered.CellNumber.{CellNumber}
use Rattle.fact_sets.specs.declared.numbered.CellNumber.TheVariants.{Field as FieldOf, Elements as ElementsOf, Static as StaticOf}
use Rattle.fact_sets.specs.declared.numbered.Holder.TheVariants.{Node, Cell}
use Rattle.fact_sets.specs.declared.numbered.CallPlace.{CallPlace}
use Rattle.fact_sets.specs.declared.numbered.NumberedFact.{NumberedFact}
use Rattle.fact_sets.specs.declared.numbered.NumberedFact.TheVariants.{Reached as IsReached, Holds as IsHeld, Calls as IsCalled, Throws as MayThrow, Stalls as MayStall}

-- the pairs of a method, or of a site, and a context
abbrev pub Pairs : Type 0 → Type 0
Pairs C = List (ℕ × C)

pub record FactLists (C : Type 0) : Type 0 where
  pub facts : List NumberedFact
  pub instances : List (ℕ × C)
  pub objects : List (ℕ × C)

-- ---- what numbers name

abbrev pub pair_of : {C : Type 0} → InstKey C → ℕ × C
pair_of key = (key.method, key.context)

abbrev pub object_pair : {C : Type 0} → ObjKey C → ℕ × C
object_pair key = (key.site, key.context)

abbrev pub IsInstance : {C : Type 0} → List (ℕ × C) → ℕ → InstKey C → Type 0
IsInstance instances i key = slice_get instances i ≡ Some (pair_of key)

abbrev pub IsObject : {C : Type 0} → List (ℕ × C) → ℕ → ObjKey C → Type 0
IsObject objects o key = slice_get objects o ≡ Some (object_pair key)

pub data IsCell {C : Type 0} (objects : List (ℕ × C)) : CellNumber → FactCell C → Type 0 where
  of_field : (f x : ℕ) (key : ObjKey C) → IsObject objects x key → IsCell objects (FieldOf f x) (Field f key)
  of_elements : (x : ℕ) (key : ObjKey C) → IsObject objects x key → IsCell objects (ElementsOf x) (Elements key)
  of_static : (f : ℕ) → IsCell objects (StaticOf f) (Static f)

-- the call at a pc of an instance has another as its target
pub record IsCall {C : Type 0} (instances : List (ℕ × C)) (call : CallPlace) (j : ℕ) (key : InstKey C) (pc : ℕ) (to : InstKey C) : Type 0 where
  pub caller : IsInstance instances call.instance key
  pub place : call.pc ≡ pc
  pub target : IsInstance instances j to

-- the numbered fact says the fact
pub data Says {C : Type 0} (instances objects : List (ℕ × C)) : NumberedFact → Fact C → Type 0 where
  reached : (i : ℕ) (key : InstKey C) → IsInstance instances i key → Says instances objects (IsReached i) (Reached key)
  held : (i o : ℕ) (kind : NodeKind) (key : InstKey C) (object : ObjKey C) → IsInstance instances i key → IsObject objects o object
      → Says instances objects (IsHeld (Node i kind) o) (Holds key kind object)
  in_cell : (cell : CellNumber) (there : FactCell C) (o : ℕ) (object : ObjKey C) → IsCell objects cell there → IsObject objects o object
      → Says instances objects (IsHeld (Cell cell) o) (CellHolds there object)
  called : (call : CallPlace) (j pc : ℕ) (key to : InstKey C) → IsCall instances call j key pc to
      → Says instances objects (IsCalled call j false) (Target key pc to)
  forked : (call : CallPlace) (j pc : ℕ) (key to : InstKey C) → IsCall instances call j key pc to
      → Says instances objects (IsCalled call j true) (Fork key pc to)
  throws : (i : ℕ) (key : InstKey C) → IsInstance instances i key → Says instances objects (MayThrow i) (Throws key)
  stalls : (i : ℕ) (key : InstKey C) → IsInstance instances i key → Says instances objects (MayStall i) (Stalls key)

-- the fact is among the kept ones
pub record HasFact {C : Type 0} (lists : FactLists C) (fact : Fact C) : Type 0 where
  pub numbered : NumberedFact
  pub there : Contains lists.facts numbered
  pub says : Says lists.instances lists.objects numbered fact

-- the fact stands at a place of the list
pub record IsFactAt {C : Type 0} (lists : FactLists C) (place : ℕ) (fact : Fact C) : Type 0 where
  pub numbered : NumberedFact
  pub at : slice_get lists.facts place ≡ Some numbered
  pub says : Says lists.instances lists.objects numbered fact

abbrev pub lists_of : {C : Type 0} → List NumberedFact → List (ℕ × C) → List (ℕ × C) → FactLists C
lists_of facts instances objects = record { facts = facts; instances = instances; objects = objects }

-- the numbered fact says that a call has a target
pub record IsCallFact {C : Type 0} (instances : List (ℕ × C)) (numbered : NumberedFact) (key : InstKey C) (pc : ℕ) (to : InstKey C) (fork : Bool) : Type 0 where
  pub call : CallPlace
  pub target : ℕ
  pub is : numbered ≡ IsCalled call target fork
  pub is_call : IsCall instances call target key pc to

-- ---- first naming

abbrev pub instances_in : {C : Type 0} → Fact C → List (ℕ × C)
instances_in (Reached i) = pair_of i ∷ []
instances_in (Holds i _ o) = pair_of i ∷ []
instances_in (CellHolds cell o) = []
instances_in (Target i pc j) = pair_of i ∷ pair_of j ∷ []
instances_in (Fork i pc j) = pair_of i ∷ pair_of j ∷ []
instances_in (Throws i) = pair_of i ∷ []
instances_in (Stalls i) = pair_of i ∷ []

abbrev pub objects_at : {C : Type 0} → FactCell C → List (ℕ × C)
objects_at (Field f o) = object_pair o ∷ []
objects_at (Elements o) = object_pair o ∷ []
objects_at (Static f) = []

abbrev pub with_last : {C : Type 0} → List (ℕ × C) → ObjKey C → List (ℕ × C)
with_last [] o = object_pair o ∷ []
with_last (pair ∷ pairs) o = pair ∷ with_last pairs o

abbrev pub objects_in : {C : Type 0} → Fact C → List (ℕ × C)
objects_in (Holds i _ o) = object_pair o ∷ []
objects_in (CellHolds cell o) = with_last (objects_at cell) o
objects_in _ = []

-- each of these is appended in turn, unless it is there by then
abbrev pub AppendsEach : {C : Type 0} → List (ℕ × C) → List (ℕ × C) → List (ℕ × C) → Type 0
AppendsEach old [] new = new ≡ old
AppendsEach {C} old (pair ∷ pairs) new = (next : List (ℕ × C)) × AppendsNew old pair next × AppendsEach next pairs new

-- the list goes on
abbrev pub Grows : {A : Type 0} → List A → List A → Type 0
Grows {A} old new = (more : List A) × (new ≡ old ++ more)

-- ---- what is kept of them

-- each number of the fact is below the count of instances or that of objects
abbrev pub CellWithin : ℕ → CellNumber → Type 0
CellWithin objects (FieldOf f o) = o < objects
CellWithin objects (ElementsOf o) = o < objects
CellWithin objects (StaticOf f) = Unit {0}

abbrev pub FactWithin : ℕ → ℕ → NumberedFact → Type 0
FactWithin instances objects (IsReached i) = i < instances
FactWithin instances objects (IsHeld (Node i _) o) = (i < instances) × (o < objects)
FactWithin instances objects (IsHeld (Cell cell) o) = CellWithin objects cell × (o < objects)
FactWithin instances objects (IsCalled call j fork) = (call.instance < instances) × (j < instances)
FactWithin instances objects (MayThrow i) = i < instances
FactWithin instances objects (MayStall i) = i < instances

pub record AreFacts {C : Type 0} (facts : List NumberedFact) (instances objects : List (ℕ × C)) : Type 0 where
  pub within : (n : NumberedFact) → Contains facts n → FactWithin (length instances) (length objects) n
  pub few_instances : length instances < 2 ^ 32
  pub few_objects : length objects < 2 ^ 32

-- ---- adding

-- a fact is added: what it names is numbered first, and it stands at the end unless it was there
pub record AddsFact {C : Type 0} (old new : FactLists C) (fact : Fact C) : Type 0 where
  pub instances : AppendsEach old.instances (instances_in fact) new.instances
  pub objects : AppendsEach old.objects (objects_in fact) new.objects
  pub numbered : NumberedFact
  pub says : Says new.instances new.objects numbered fact
  pub facts : AppendsNew old.facts numbered new.facts
