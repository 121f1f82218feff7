-- The rules for what may never end by itself, apart by what they need: they are those of the same names of ByRule. Then the same by
-- the numbers of instances (this project's own form).
use Rattle.std.specs.Prelude.{◌≡◌, ◌⊎◌, ℕ, ◌+◌, Bool, true, false, List, Some}
use Rattle.jo_ids.specs.Path.{Path}
use Rattle.jo_graph.specs.Graphs.{HasEdge}
use Rattle.jo_prog.specs.declared.program.Program.{Program}
use Rattle.dep_nodes.specs.declared.kinds.NodeKind.{NodeKind}
use Rattle.dep_nodes.specs.declared.kinds.NodeKind.TheVariants.{Poll, XPoll}
use Rattle.dependence.specs.declared.flows.FlowRow.{FlowRow}
use Rattle.dependence.specs.declared.facts.InstKey.{InstKey}
use Rattle.dependence.specs.declared.facts.Fact.{Fact}
use Rattle.dependence.specs.declared.facts.Fact.TheVariants.{Reached, Target, Stalls}
use Rattle.dependence.specs.WideGraph.{IsWideNode}
use Rattle.dependence.specs.GraphsAsData.{kind_at}
use Rattle.dependence.specs.FactRules.{CallsInThread}
use Rattle.fact_sets.specs.FactLists.{FactLists, HasFact, IsInstance}

-- an instance whose method has a loop
pub data ByLoop (program : Program) (i : InstKey (List ℕ)) : Fact (List ℕ) → Type 0 where
  loops : (pc target : ℕ) → IsWideNode program i.method (Poll pc target) → ByLoop program i (Stalls i)
  loops_caught : (pc k : ℕ) → IsWideNode program i.method (XPoll pc k) → ByLoop program i (Stalls i)

-- one that runs, and that is called again while it does
pub data ByRecursion (facts : Fact (List ℕ) → Type 0) : Fact (List ℕ) → Type 0 where
  recurs : (i j : InstKey (List ℕ)) → facts (Reached i) → CallsInThread facts i j → Path (CallsInThread facts) j i → ByRecursion facts (Stalls i)

-- ---- a loop, by nodes

abbrev pub is_loop : NodeKind → Bool
is_loop (Poll pc target) = true
is_loop (XPoll pc k) = true
is_loop _ = false

pub record HasLoop (wide : List FlowRow) : Type 0 where
  pub number : ℕ
  pub kind : NodeKind
  pub there : kind_at wide number ≡ Some kind
  pub loops : is_loop kind ≡ true

-- ---- by numbers

-- the instance with the first number calls the one with the second, in one thread
pub record CallsAs {C : Type 0} (lists : FactLists C) (a b : ℕ) : Type 0 where
  pub key : InstKey C
  pub pc : ℕ
  pub to : InstKey C
  pub has : HasFact lists (Target key pc to)
  pub is_caller : IsInstance lists.instances a key
  pub is_target : IsInstance lists.instances b to

-- A graph in which each number stands twice: the second, above all others, has the edges of the first, and none leads there. So a
-- path from it has at least one edge.
abbrev pub IsDoubled : ℕ → ℕ → ℕ → Type 0
IsDoubled count a x = (x ≡ a) ⊎ (x ≡ count + a)

abbrev pub IsCallEdge : {C : Type 0} → FactLists C → ℕ → ℕ → ℕ → Type 0
IsCallEdge lists count x y = (a : ℕ) × CallsAs lists a y × IsDoubled count a x

abbrev pub HasPair : List (List ℕ) → ℕ × ℕ → Type 0
HasPair graph pair = HasEdge graph pair.0 pair.1

-- the edges for one call
abbrev pub IsPairOf : ℕ → ℕ → ℕ → ℕ × ℕ → Type 0
IsPairOf count a b pair = IsDoubled count a pair.0 × (pair.1 ≡ b)

abbrev pub IsTargetPair : {C : Type 0} → List (ℕ × C) → ℕ → InstKey C → InstKey C → ℕ × ℕ → Type 0
IsTargetPair instances count key to pair =
    (a : ℕ) × ((b : ℕ) × (IsInstance instances a key × (IsInstance instances b to × IsPairOf count a b pair)))

-- the edges for a fact
abbrev pub IsPairFrom : {C : Type 0} → List (ℕ × C) → ℕ → Fact C → ℕ × ℕ → Type 0
IsPairFrom instances count (Target key pc to) pair = IsTargetPair instances count key to pair
IsPairFrom instances count _ pair = ⊥

-- the instance with that number runs, and a path of the graph leads from its second number to its first
pub record RecursAt {C : Type 0} (lists : FactLists C) (graph : List (List ℕ)) (count i : ℕ) (fact : Fact C) : Type 0 where
  pub key : InstKey C
  pub is_key : IsInstance lists.instances i key
  pub runs : HasFact lists (Reached key)
  pub path : Path (HasEdge graph) (count + i) i
  pub is : fact ≡ Stalls key
