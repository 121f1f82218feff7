-- What places hold at an instruction, use by use (this project's own form).
use Rattle.std.specs.Prelude.{◌≡◌, ℕ, List, Some}
use Rattle.jo_ids.specs.declared.ObjKey.{ObjKey}
use Rattle.jo_insn.specs.declared.instructions.Insn.{Insn}
use Rattle.jo_prog.specs.declared.program.Program.{Program}
use Rattle.dep_nodes.specs.declared.kinds.NodeKind.{NodeKind}
use Rattle.dependence.specs.declared.flows.FlowRow.{FlowRow}
use Rattle.dependence.specs.declared.flows.Use.{Use}
use Rattle.dependence.specs.declared.facts.InstKey.{InstKey}
use Rattle.dependence.specs.declared.facts.Fact.{Fact}
use Rattle.dependence.specs.declared.facts.Fact.TheVariants.{Holds}
use Rattle.dependence.specs.GraphsAsData.{kind_at}
use Rattle.dependence.specs.NodePlaces.{named_by}
use Rattle.dependence.specs.WideGraph.{insn_at, node_of_insn}

-- the instruction at a pc stands at the node with that number
pub record IsAtNode (program : Program) (m : ℕ) (wide : List FlowRow) (n pc : ℕ) (insn : Insn) : Type 0 where
  pub next : ℕ
  pub stands : insn_at program m pc ≡ Some (insn, next)
  pub node : kind_at wide n ≡ Some (node_of_insn pc insn)

-- the definition of a use may be an object
pub record UseHolds (wide : List FlowRow) (facts : Fact (List ℕ) → Type 0) (i : InstKey (List ℕ)) (u : Use) (o : ObjKey (List ℕ)) : Type 0 where
  pub d : NodeKind
  pub defines : kind_at wide u.from ≡ Some d
  pub holds : facts (Holds i (named_by d u.place) o)

-- so that a node holds it
abbrev pub HandsTo : List FlowRow → (Fact (List ℕ) → Type 0) → InstKey (List ℕ) → Use → NodeKind → Fact (List ℕ) → Type 0
HandsTo wide facts i u to g = (o : ObjKey (List ℕ)) × UseHolds wide facts i u o × (g ≡ Holds i to o)

-- an instance of a method in a context
abbrev pub instance_of : {C : Type 0} → ℕ → C → InstKey C
instance_of m context = record { method = m; context = context }
