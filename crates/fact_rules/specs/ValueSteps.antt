-- The rules of ByValue, node by node: what an instruction makes, and what it hands on (this project's own form).
use Rattle.std.specs.Prelude.{◌≡◌, ◌⊎◌, ℕ, ◌==◌, List, Option, Some, None}
use Rattle.jo_ids.specs.declared.ObjKey.{ObjKey}
use Rattle.jo_insn.specs.declared.instructions.Insn.{Insn}
use Rattle.jo_prog.specs.declared.program.Program.{Program}
use Rattle.contexts.specs.Policies.{ContextPolicy}
use Rattle.dep_nodes.specs.declared.kinds.NodeKind.{NodeKind}
use Rattle.dep_nodes.specs.declared.kinds.NodeKind.TheVariants.{Instr, Throw, Arg, Value}
use Rattle.dependence.specs.declared.flow.Place.{Place}
use Rattle.dependence.specs.declared.flows.FlowRow.{FlowRow}
use Rattle.dependence.specs.declared.flows.Use.{Use}
use Rattle.dependence.specs.declared.facts.InstKey.{InstKey}
use Rattle.dependence.specs.declared.facts.Fact.{Fact}
use Rattle.dependence.specs.declared.facts.Fact.TheVariants.{Holds}
use Rattle.dependence.specs.MayBeNull.{is_move}
use Rattle.dependence.specs.NodePlaces.{Reads, ArgumentPlace}
use Rattle.dependence.specs.FlowGraph.{PlaceBelow, PlaceHolds}
use Rattle.dependence.specs.FactRules.{makes_object, string_object, SiteAt, MadeBy, LoadsText}
use Rattle.dependence.specs.WideGraph.{StandsWith}
use Rattle.fact_sets.specs.Seen.{object_seen}
use Rattle.fact_rules.specs.Places.{IsAtNode, HandsTo}

-- the instruction at a pc of an instance makes an object, or loads a text
pub data MakesAt (program : Program) (policy : ContextPolicy) (i : InstKey (List ℕ)) (pc : ℕ) : Fact (List ℕ) → Type 0 where
  makes : (site : ℕ) (o : ObjKey (List ℕ)) → StandsWith program i.method pc makes_object → SiteAt program i.method pc None site → MadeBy policy i site o
      → MakesAt program policy i pc (Holds i (Instr pc) o)
  loads_text : LoadsText program i.method pc → MakesAt program policy i pc (Holds i (Instr pc) string_object)

-- a node holds the object, if there is one
abbrev pub IsMade : {C : Type 0} → (C → List ℕ) → InstKey (List ℕ) → ℕ → Option (ObjKey C) → Fact (List ℕ) → Type 0
IsMade list i pc None g = ⊥
IsMade list i pc (Some o) g = g ≡ Holds i (Instr pc) (object_seen list o)

-- the node that the value of a place comes to by the instruction at a pc: by a move its own, by areturn (176) the method's value, by
-- athrow (191) the exception thrown there, by a call an argument
pub data TakenAs (program : Program) (m : ℕ) (H : ℕ → ℕ → Type 0) (pc : ℕ) (v : Place) : NodeKind → Type 0 where
  by_move : StandsWith program m pc is_move → Reads program m H (Instr pc) v → TakenAs program m H pc v (Instr pc)
  by_return : StandsWith program m pc (λ op. op == 176) → PlaceBelow program m H pc 1 v → TakenAs program m H pc v Value
  by_throw : StandsWith program m pc (λ op. op == 191) → PlaceBelow program m H pc 1 v → TakenAs program m H pc v (Throw pc)
  by_call : (k : ℕ) → ArgumentPlace program m H pc k v → TakenAs program m H pc v (Arg pc k)

-- what places hold at a pc comes to such nodes
abbrev pub HandsOver : Program → (Fact (List ℕ) → Type 0) → (ℕ → ℕ → Type 0) → InstKey (List ℕ) → ℕ → Fact (List ℕ) → Type 0
HandsOver program facts H i pc g =
    (v : Place) × (to : NodeKind) × (o : ObjKey (List ℕ)) × TakenAs program i.method H pc v to × PlaceHolds program facts H i pc v o × (g ≡ Holds i to o)

-- the same of one use
abbrev pub UseHands : Program → (Fact (List ℕ) → Type 0) → (ℕ → ℕ → Type 0) → InstKey (List ℕ) → List FlowRow → ℕ → Use → Fact (List ℕ) → Type 0
UseHands program facts H i wide pc u g = (to : NodeKind) × TakenAs program i.method H pc u.place to × HandsTo wide facts i u to g

-- what a node of the wide graph gives
abbrev pub ValuesAt : Program → ContextPolicy → (Fact (List ℕ) → Type 0) → (ℕ → ℕ → Type 0) → InstKey (List ℕ) → List FlowRow → ℕ → Fact (List ℕ) → Type 0
ValuesAt program policy facts H i wide n g =
    (pc : ℕ) × (insn : Insn) × IsAtNode program i.method wide n pc insn × (MakesAt program policy i pc g ⊎ HandsOver program facts H i pc g)
