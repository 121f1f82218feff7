-- What a call does with the threads of the objects that it is made on.
use Rattle.std.specs.Prelude.{◌↔◌}
use Rattle.std.proofs.Common.{ℕ, List, Contains}
use Rattle.jo_ids.specs.declared.ObjKey.{ObjKey}
use Rattle.jo_prog.specs.declared.program.Program.{Program}
use Rattle.jo_prog.specs.declared.program.TypeRef.{TypeRef}
use Rattle.dep_nodes.specs.declared.kinds.NodeKind.TheVariants.{Arg}
use Rattle.dep_nodes.specs.OnceLists.{IsOnceEach}
use Rattle.dependence.specs.declared.facts.InstKey.{InstKey}
use Rattle.dependence.specs.declared.facts.Fact.TheVariants.{Holds}
use Rattle.dependence.specs.FlowGraph.{AnObject}
use Rattle.fact_sets.specs.declared.numbered.Holder.TheVariants.{Node}
use Rattle.fact_sets.specs.declared.numbered.NumberedFact.TheVariants.{Holds as IsHeld}
use Rattle.fact_sets.specs.FactLists.{FactLists, IsInstance}
use Rattle.fact_sets.specs.Seen.{TellsApart, instance_seen, Known}
use Rattle.heap_deps.specs.Adds.{From}
use Rattle.heap_deps.specs.Items.{Item}
use Rattle.heap_deps.specs.ObjectCells.{OfObject}
use Rattle.heap_deps.specs.Accesses.{StartsThread, StartsOn, IsStartBy, StartMakes}
use Rattle.heap_deps.proofs.HeldLemmas.{from_held}

pub start_makes_told : {C : Type 0} (list : C → List ℕ) → TellsApart list → (L : FactLists C) (i : ℕ) (key : InstKey C) → IsOnceEach L.instances → IsInstance L.instances i key
    → (program : Program) (pc op : ℕ) (named : TypeRef) (resolved n : ℕ) (objects : List ℕ) → ((x : ℕ) → Contains objects x ↔ Contains L.facts (IsHeld (Node i (Arg pc 0)) x))
    → ((o : AnObject) → StartsThread program key.method op named resolved o ↔ StartsOn program key.method pc o) → (x : Item)
    → From objects (OfObject list L.objects (IsStartBy program key.method op named resolved n)) x ↔ StartMakes program (Known list L) (instance_seen list key) pc n x
start_makes_told list tells L i key once is program pc op named resolved n objects each starts x = (there, back)
  where
    makes : AnObject → Item → Type 0
    makes = IsStartBy program key.method op named resolved n

    told : From objects (OfObject list L.objects makes) x ↔ ((o : ObjKey (List ℕ)) × Known list L (Holds (instance_seen list key) (Arg pc 0) o) × makes o x)
    told = from_held list tells L objects i key (Arg pc 0) makes once is each x

    there : From objects (OfObject list L.objects makes) x → StartMakes program (Known list L) (instance_seen list key) pc n x
    there from = let (o, known, made) = told.0 from in (o, known, ((starts o).0 made.0, made.1))

    back : StartMakes program (Known list L) (instance_seen list key) pc n x → From objects (OfObject list L.objects makes) x
    back (o, known, made) = told.1 (o, known, ((starts o).1 made.0, made.1))
