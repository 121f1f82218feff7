-- What becomes of an object that is thrown (this project's own form).
use Rattle.std.specs.Prelude.{◌≡◌, ◌⊎◌, ℕ, List, Option, Some, None}
use Rattle.jo_ids.specs.declared.ObjKey.{ObjKey}
use Rattle.jo_prog.specs.declared.program.Program.{Program}
use Rattle.dep_nodes.specs.declared.kinds.NodeKind.{NodeKind}
use Rattle.dep_nodes.specs.declared.kinds.NodeKind.TheVariants.{Throw, Catch, Thrown}
use Rattle.dependence.specs.declared.facts.InstKey.{InstKey}
use Rattle.dependence.specs.declared.facts.Fact.{Fact}
use Rattle.dependence.specs.declared.facts.Fact.TheVariants.{Holds, Throws}
use Rattle.dependence.specs.FlowGraph.{CatchesFirst, PassesAll}

-- the first row that catches the object, if one does
abbrev pub IsCaughtBy : Program → ℕ → ℕ → Option ℕ → ObjKey (List ℕ) → Type 0
IsCaughtBy program m pc (Some k) o = CatchesFirst program m pc k o
IsCaughtBy program m pc None o = PassesAll program m pc o

-- it comes to the row's handler, or leaves the instance
abbrev pub GoesTo : InstKey (List ℕ) → Option ℕ → ObjKey (List ℕ) → Fact (List ℕ) → Type 0
GoesTo i (Some k) o g = g ≡ Holds i (Catch k) o
GoesTo i None o g = (g ≡ Holds i Thrown o) ⊎ (g ≡ Throws i)

-- what an object gives that is thrown at a pc
abbrev pub ThrownGives : Program → InstKey (List ℕ) → ℕ → ObjKey (List ℕ) → Fact (List ℕ) → Type 0
ThrownGives program i pc o g = (row : Option ℕ) × IsCaughtBy program i.method pc row o × GoesTo i row o g

-- what the objects give that a Throw holds
abbrev pub ThrowGives : Program → (Fact (List ℕ) → Type 0) → InstKey (List ℕ) → ℕ → Fact (List ℕ) → Type 0
ThrowGives program facts i pc g = (o : ObjKey (List ℕ)) × facts (Holds i (Throw pc) o) × ThrownGives program i pc o g

-- the same by the kind of a node
abbrev pub CatchGives : Program → (Fact (List ℕ) → Type 0) → InstKey (List ℕ) → NodeKind → Fact (List ℕ) → Type 0
CatchGives program facts i (Throw pc) g = ThrowGives program facts i pc g
CatchGives program facts i _ g = ⊥
