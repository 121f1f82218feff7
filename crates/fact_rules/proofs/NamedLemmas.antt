-- Nodes of wide graphs that facts name.
use Rattle.std.specs.Prelude.{option_map, slice_get}
use Rattle.std.proofs.Common.{◌≡◌, ℕ, ◌<◌, Bool, true, false, List, length, Option, Some, None, refl, Contains}
use Rattle.std.proofs.lemmas.Option.{slice_get_within}
use Rattle.jo_ids.specs.declared.ObjKey.{ObjKey}
use Rattle.jo_prog.specs.declared.program.Program.{Program}
use Rattle.dep_nodes.specs.declared.kinds.NodeKind.{NodeKind}
use Rattle.dep_nodes.specs.declared.kinds.NodeKind.TheVariants.{Call}
use Rattle.dep_nodes.specs.OnceLists.{IsOnceEach}
use Rattle.dependence.specs.declared.flows.FlowRow.{FlowRow}
use Rattle.dependence.specs.declared.facts.InstKey.{InstKey}
use Rattle.dependence.specs.declared.facts.Fact.{Fact}
use Rattle.dependence.specs.declared.facts.Fact.TheVariants.{Reached, Holds, CellHolds, Target as TargetOf, Fork, Throws, Stalls}
use Rattle.dependence.specs.WideGraph.{IsWideNode}
use Rattle.dependence.specs.FactRules.{IsTarget}
use Rattle.dependence.specs.GraphsAsData.{kind_at}
use Rattle.fact_sets.specs.declared.numbered.Holder.TheVariants.{Node}
use Rattle.fact_sets.specs.declared.numbered.NumberedFact.TheVariants.{Holds as IsHeld, Calls as IsCalled}
use Rattle.fact_sets.specs.FactLists.{FactLists, HasFact, IsInstance, held, called, forked}
use Rattle.fact_sets.specs.Seen.{TellsApart, instance_seen, fact_seen, Known}
use Rattle.fact_rules.specs.NamedNodes.{IsThere, HasItsNodes}
use Rattle.fact_rules.proofs.ListLevel.{known_held, known_target}

-- a number with a kind is one of the graph
pub kind_within : (wide : List FlowRow) (n : ℕ) (kind : NodeKind) → kind_at wide n ≡ Some kind → n < length wide
kind_within wide n kind at = by_row (slice_get wide n) refl at
  where
    by_row : (o : Option FlowRow) → slice_get wide n ≡ o → option_map (λ (row : FlowRow). row.node.kind) o ≡ Some kind → n < length wide
    by_row None none f = absurd (cc)
    by_row (Some row) found f = slice_get_within wide n row found

-- contexts don't matter for what nodes a fact names
pub seen_nodes : {C : Type 0} (list : C → List ℕ) (program : Program) (f : Fact C) → HasItsNodes program (fact_seen list f) → HasItsNodes program f
seen_nodes list program (Reached i) h = h
seen_nodes list program (Holds i spot o) h = h
seen_nodes list program (CellHolds cell o) h = h
seen_nodes list program (TargetOf i pc j) h = h
seen_nodes list program (Fork i pc j) h = h
seen_nodes list program (Throws i) h = h
seen_nodes list program (Stalls i) h = h

module _ {C : Type 0} (list : C → List ℕ) (tells : TellsApart list) (L : FactLists C) (program : Program) (named : (f : Fact C) → HasFact L f → HasItsNodes program f) where
  pub known_there : (i : ℕ) (key : InstKey C) (spot : NodeKind) (o : ObjKey (List ℕ)) → IsOnceEach L.instances → IsInstance L.instances i key
      → Known list L (Holds (instance_seen list key) spot o) → IsThere program key.method spot
  known_there i key spot o once is known =
      let one = known_held list tells L i key spot o once is known in
      let (k, at, seen) = one.seen in
      named (Holds key spot k) (record { numbered = IsHeld (Node i spot) one.x; there = one.there; says = held i one.x spot key k is at })

  called_there : (i pc j : ℕ) (fork : Bool) (key to : InstKey C) → IsInstance L.instances i key → IsInstance L.instances j to → Contains L.facts (IsCalled (record { instance = i; pc = pc }) j fork)
      → IsWideNode program key.method (Call pc)
  called_there i pc j false key to is at there =
      named (TargetOf key pc to)
      (record { numbered = IsCalled (record { instance = i; pc = pc }) j false; there = there; says = called (record { instance = i; pc = pc }) j pc key to (record { caller = is; place = refl; target = at }) })
  called_there i pc j true key to is at there =
      named (Fork key pc to)
      (record { numbered = IsCalled (record { instance = i; pc = pc }) j true; there = there; says = forked (record { instance = i; pc = pc }) j pc key to (record { caller = is; place = refl; target = at }) })

  pub known_call : (i pc : ℕ) (key : InstKey C) (j : InstKey (List ℕ)) → IsOnceEach L.instances → IsInstance L.instances i key → IsTarget (Known list L) (instance_seen list key) pc j
      → IsWideNode program key.method (Call pc)
  known_call i pc key j once is known =
      let one = known_target list tells L i pc key j once is known in
      let (to, at, seen) = one.seen in
      called_there i pc one.target.instance one.target.fork key to is at one.there
