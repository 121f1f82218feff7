-- The rules of ByCell, node by node: which cells an instruction accesses, and what it loads from them or stores into them (this
-- project's own form).
use Rattle.std.specs.Prelude.{◌≡◌, ◌↔◌, ℕ, Bool, true, false, ◌==◌, if◌then◌else◌, List, Contains, Option, Some, None}
use Rattle.jo_ids.specs.declared.ObjKey.{ObjKey}
use Rattle.jo_insn.specs.declared.instructions.Insn.{Insn}
use Rattle.jo_prog.specs.declared.program.Program.{Program}
use Rattle.jo_prog.specs.Operations.{within}
use Rattle.jo_prog.specs.Sites.{opcode_of}
use Rattle.dep_nodes.specs.declared.kinds.NodeKind.{NodeKind}
use Rattle.dep_nodes.specs.declared.kinds.NodeKind.TheVariants.{Instr}
use Rattle.dependence.specs.declared.flow.Place.{Place}
use Rattle.dependence.specs.declared.flows.FlowRow.{FlowRow}
use Rattle.dependence.specs.declared.flows.Use.{Use}
use Rattle.dependence.specs.declared.facts.InstKey.{InstKey}
use Rattle.dependence.specs.declared.facts.FactCell.{FactCell}
use Rattle.dependence.specs.declared.facts.FactCell.TheVariants.{Field as FieldOf, Elements, Static}
use Rattle.dependence.specs.declared.facts.Fact.{Fact}
use Rattle.dependence.specs.declared.facts.Fact.TheVariants.{Holds, CellHolds}
use Rattle.dependence.specs.FactRules.{BaseHolds}
use Rattle.dependence.specs.FlowGraph.{PlaceBelow, PlaceHolds}
use Rattle.dependence.specs.GraphsAsData.{kind_at}
use Rattle.dependence.specs.NodePlaces.{named_by}
use Rattle.dependence.specs.WideGraph.{resolved_field_at}
use Rattle.fact_sets.specs.declared.numbered.CellNumber.{CellNumber}
use Rattle.fact_sets.specs.declared.numbered.CellNumber.TheVariants.{Field as FieldAt, Elements as ElementsOf}
use Rattle.fact_sets.specs.declared.numbered.Holder.TheVariants.{Node}
use Rattle.fact_sets.specs.declared.numbered.NumberedFact.{NumberedFact}
use Rattle.fact_sets.specs.declared.numbered.NumberedFact.TheVariants.{Holds as IsHeld}
use Rattle.method_views.specs.Bases.{IsBelowTop}
use Rattle.fact_rules.specs.declared.cell_rules.Access.{Access}
use Rattle.fact_rules.specs.declared.cell_rules.Access.TheVariants.{OfStatic, OfField, OfElements}
use Rattle.fact_rules.specs.Additions.{IsObjectSeen}
use Rattle.fact_rules.specs.Places.{IsAtNode}

-- ---- numbers of objects

-- the definition of a use that stands so far below the top may be the object with that number
pub record UseHasNumber (typed : List (Option ℕ)) (wide : List FlowRow) (facts : List NumberedFact) (instance pc depth : ℕ) (u : Use) (x : ℕ) : Type 0 where
  pub place : IsBelowTop typed pc depth u.place
  pub d : NodeKind
  pub defines : kind_at wide u.from ≡ Some d
  pub holds : Contains facts (IsHeld (Node instance (named_by d u.place)) x)

-- an object may stand so far below the top
pub record HoldsBelow (program : Program) (facts : Fact (List ℕ) → Type 0) (H : ℕ → ℕ → Type 0) (i : InstKey (List ℕ)) (pc depth : ℕ) (o : ObjKey (List ℕ)) : Type 0 where
  pub place : Place
  pub below : PlaceBelow program i.method H pc depth place
  pub holds : PlaceHolds program facts H i pc place o

-- the numbers are those of exactly these objects
abbrev pub AreSeen : {C : Type 0} → (C → List ℕ) → List (ℕ × C) → List ℕ → (ObjKey (List ℕ) → Type 0) → Type 0
AreSeen list objects numbers P = (o : ObjKey (List ℕ)) → ((x : ℕ) × Contains numbers x × IsObjectSeen list objects x o) ↔ P o

-- the number of the cell of an object: its field, or its elements
abbrev pub number_on : Option ℕ → ℕ → CellNumber
number_on None x = ElementsOf x
number_on (Some f) x = FieldAt f x

-- ---- by opcodes

-- iaload to saload and iastore to sastore; getstatic, putstatic, getfield and putfield
abbrev pub access_of : ℕ → Option Access
access_of op =
    if within 46 53 op then Some (OfElements false)
    else if within 79 86 op then Some (OfElements true)
    else if op == 178 then Some (OfStatic false)
    else if op == 179 then Some (OfStatic true)
    else if op == 180 then Some (OfField false)
    else if op == 181 then Some (OfField true)
    else None

-- the cell of an object: its field, or its elements
abbrev pub cell_on : {C : Type 0} → Option ℕ → ObjKey C → FactCell C
cell_on None o = Elements o
cell_on (Some f) o = FieldOf f o

-- what comes of an access of a cell: a load gives what it holds to the instruction's node, a store gives it what is on top
abbrev pub CellGives : Program → (Fact (List ℕ) → Type 0) → (ℕ → ℕ → Type 0) → InstKey (List ℕ) → ℕ → Bool → FactCell (List ℕ) → Fact (List ℕ) → Type 0
CellGives program facts H i pc false cell g = (o : ObjKey (List ℕ)) × facts (CellHolds cell o) × (g ≡ Holds i (Instr pc) o)
CellGives program facts H i pc true cell g = (o : ObjKey (List ℕ)) × HoldsBelow program facts H i pc 1 o × (g ≡ CellHolds cell o)

-- the same of all objects at the base
abbrev pub BasesGive : Program → (Fact (List ℕ) → Type 0) → (ℕ → ℕ → Type 0) → InstKey (List ℕ) → ℕ → Bool → Option ℕ → Fact (List ℕ) → Type 0
BasesGive program facts H i pc store field g = (base : ObjKey (List ℕ)) × BaseHolds program facts H i pc base × CellGives program facts H i pc store (cell_on field base) g

-- the cells that an instruction accesses: by its field, and by the objects at its base
abbrev pub AccessGives : Program → (Fact (List ℕ) → Type 0) → (ℕ → ℕ → Type 0) → InstKey (List ℕ) → ℕ → Option ℕ → Access → Fact (List ℕ) → Type 0
AccessGives program facts H i pc field (OfStatic store) g = (f : ℕ) × (field ≡ Some f) × CellGives program facts H i pc store (Static f) g
AccessGives program facts H i pc field (OfField store) g =
    (f : ℕ) × (field ≡ Some f) × BasesGive program facts H i pc store (Some f) g
AccessGives program facts H i pc field (OfElements store) g = BasesGive program facts H i pc store None g

-- what a node of the wide graph gives
pub record CellsAt (program : Program) (facts : Fact (List ℕ) → Type 0) (H : ℕ → ℕ → Type 0) (i : InstKey (List ℕ)) (wide : List FlowRow) (n : ℕ) (g : Fact (List ℕ)) : Type 0 where
  pub pc : ℕ
  pub insn : Insn
  pub at : IsAtNode program i.method wide n pc insn
  pub access : Access
  pub accesses : access_of (opcode_of insn) ≡ Some access
  pub gives : AccessGives program facts H i pc (resolved_field_at program i.method pc) access g
