-- Cells of objects by the one name of each (this project's own form).
use Rattle.std.specs.Prelude.{◌≡◌, ℕ, Bool, List}
use Rattle.jo_ids.specs.declared.ObjKey.{ObjKey}
use Rattle.dep_nodes.specs.declared.accesses.ObjName.{ObjName}
use Rattle.dep_nodes.specs.declared.accesses.Cell.{Cell}
use Rattle.dep_nodes.specs.declared.accesses.Cell.TheVariants.{Field as FieldCell, Elements as ElementsCell}
use Rattle.dep_nodes.specs.OneForm.{plain_list}
use Rattle.dependence.specs.FlowGraph.{AnObject}
use Rattle.fact_sets.specs.FactLists.{IsObject}
use Rattle.fact_sets.specs.Seen.{object_seen}
use Rattle.heap_deps.specs.declared.instructions.Part.{Part}
use Rattle.heap_deps.specs.declared.instructions.Part.TheVariants.{Field, Elements}
use Rattle.heap_deps.specs.Items.{Item, access}

abbrev pub name_of : AnObject → ObjName
name_of o = record { site = o.site; sites = plain_list o.context }

abbrev pub cell_of : Part → ObjName → Cell
cell_of (Field f) object = FieldCell f object
cell_of Elements object = ElementsCell object

-- a node accesses a part of an object
abbrev pub IsPartAccess : ℕ → Part → Bool → AnObject → Item → Type 0
IsPartAccess n part write o x = x ≡ access n (record { cell = cell_of part (name_of o); write = write })

-- the object with that number is seen so
abbrev pub IsObjectSeen : {C : Type 0} → (C → List ℕ) → List (ℕ × C) → ℕ → AnObject → Type 0
IsObjectSeen {C} list objects x o = (key : ObjKey C) × IsObject objects x key × (object_seen list key ≡ o)

-- what is made of the object with that number
abbrev pub OfObject : {C X : Type 0} → (C → List ℕ) → List (ℕ × C) → (AnObject → X → Type 0) → ℕ → X → Type 0
OfObject list objects makes x g = (o : ObjKey (List ℕ)) × IsObjectSeen list objects x o × makes o g
