-- In this part of the graph no edge opens or closes a call, so the valid chains are the walks.
use Rattle.std.proofs.Common.{◌≡◌, ◌↔◌, ℕ, zero, suc, ◌<◌, List, [], ◌∷◌, ◌++◌, Some, Contains, length, option_map, inl, inr, refl, sym, ap, subst, ◌∙◌, arith}
use Rattle.std.specs.List.{cons_option}
use Rattle.std.proofs.lemmas.Option.{same_Some, none-some, slice_get_past}
use Rattle.std.proofs.lemmas.Bool.{cases_lt}
use Rattle.jo_prog.specs.declared.program.Program.{Program}
use Rattle.jo_prog.specs.declared.labels.Labels.{Labels}
use Rattle.dep_nodes.specs.declared.kinds.EdgeKind.{EdgeKind}
use Rattle.dep_nodes.specs.declared.kinds.EdgeKind.TheVariants.{Fork}
use Rattle.dep_nodes.specs.declared.chains.Step.{Step}
use Rattle.dep_nodes.specs.declared.chains.Word.{Word}
use Rattle.dep_nodes.specs.declared.chains.Word.TheVariants.{Edge as AnEdge, Pass}
use Rattle.dep_nodes.specs.declared.graphs.Graph.{Graph}
use Rattle.dep_nodes.specs.Nodes.{Node, node_named, CallSite}
use Rattle.dep_nodes.specs.Graphs.{edge, EdgeAt, GraphEdge, HasNoFork, graph_node, IsWalk, walk_end, WalksTo, link_to, link_of, links_of}
use Rattle.dep_nodes.specs.Chains.{adv, Matched, arrived, onwards, StepsOn, Link, IsChainFrom, IsValidChain, end_of, HasChain}
use Rattle.dependence.specs.Graph.{DependenceEdge, used, passed, shown, controlled, ended, next_input}
use Rattle.dependence.specs.GraphData.{IsDependenceGraph}
use Rattle.plain_graph.specs.Slices.{HasEdgesInside}

-- an edge never fails at the open calls
edge_opens : (program : Program) (labels : Labels) (calls : List CallSite) (a b : Node) (kind : EdgeKind) → DependenceEdge program labels a kind b → (next : List CallSite) × (adv calls a kind b ≡ Some next)
edge_opens program labels calls a b kind (used i d n v at flow reaches reads) = (calls, refl)
edge_opens program labels calls a b kind (passed i d pc k v at flow reaches place) = (calls, refl)
edge_opens program labels calls a b kind (shown i pc v at flow sink place) = (calls, refl)
edge_opens program labels calls a b kind (controlled i d n at flow controls) = (calls, refl)
edge_opens program labels calls a b kind (ended i pc next at flow found) = (calls, refl)
edge_opens program labels calls a b kind (next_input source x y first second) = ([], refl)

no_fork_by : (program : Program) (labels : Labels) (a b : Node) (kind : EdgeKind) → DependenceEdge program labels a kind b → kind ≡ Fork → ⊥
no_fork_by program labels a b kind (used i d n v at flow reaches reads) is = cc
no_fork_by program labels a b kind (passed i d pc k v at flow reaches place) is = cc
no_fork_by program labels a b kind (shown i pc v at flow sink place) is = cc
no_fork_by program labels a b kind (controlled i d n at flow controls) is = cc
no_fork_by program labels a b kind (ended i pc next at flow found) is = cc
no_fork_by program labels a b kind (next_input source x y first second) is = cc

-- ---- chains along more edges

module _ (E F : Node → EdgeKind → Node → Type 0) (more : (a b : Node) (kind : EdgeKind) → E a kind b → F a kind b) where
  matched_along : (calls : List CallSite) (a b : Node) → Matched E calls a b → Matched F calls a b
  matched_along calls a b (arrived n) = arrived n
  matched_along calls a b (onwards before next kind x y z along stays opens rest) = onwards before next kind x y z (more x y kind along) stays opens (matched_along next y z rest)

  step_along : (calls next : List CallSite) (a b : Node) (word : Word) → StepsOn E calls a word b next → StepsOn F calls a word b next
  step_along calls next a b (AnEdge kind) step = (more a b kind step.0, step.1)
  step_along calls next a b Pass step =
      let pass = step.0 in
      (record { begin = pass.begin; end = pass.end; same_call = pass.same_call; path = matched_along [] a b pass.path }, step.1)

  pub chain_along : (calls : List CallSite) (a : Node) (links : List Link) → IsChainFrom E calls a links → IsChainFrom F calls a links
  chain_along calls a [] chain = tt
  chain_along calls a (link ∷ links) (next, step, rest) = (next, step_along calls next a link.to link.word step, chain_along next link.to links rest)

-- ---- walks

-- a list with one number contains this one alone
pub only_of_one : (j n : ℕ) → Contains (j ∷ []) n → n ≡ j
only_of_one j n (zero, below, at) = sym at
only_of_one j n (suc k, below, at) = absurd (omega arith)

-- one walk behind another
walk_join : (graph : Graph) (i : ℕ) (steps more : List Step) → IsWalk graph i steps → IsWalk graph (walk_end i steps) more → IsWalk graph i (steps ++ more)
walk_join graph i [] more walk rest = rest
walk_join graph i (step ∷ steps) more walk rest = (walk.0, walk_join graph step.to steps more walk.1 rest)

walk_end_join : (i : ℕ) (steps more : List Step) → walk_end i (steps ++ more) ≡ walk_end (walk_end i steps) more
walk_end_join i [] more = refl
walk_end_join i (step ∷ steps) more = walk_end_join step.to steps more

-- a walk between two nodes
abbrev WalkBetween : Graph → ℕ → Node → Type 0
WalkBetween graph i b = (steps : List Step) × IsWalk graph i steps × (graph_node graph (walk_end i steps) ≡ Some b)

walk_further : (graph : Graph) (i : ℕ) (b c : Node) (first : WalkBetween graph i b) → WalkBetween graph (walk_end i first.0) c → WalkBetween graph i c
walk_further graph i b c first rest = (
  first.0 ++ rest.0,
  walk_join graph i first.0 rest.0 first.1 rest.1,
  ap (graph_node graph) (walk_end_join i first.0 rest.0) ∙ rest.2,
)

module _ (graph : Graph) (once : (i j : ℕ) (n : Node) → graph_node graph i ≡ Some n → graph_node graph j ≡ Some n → i ≡ j) where
  edge_is_walk : (i : ℕ) (a b : Node) (kind : EdgeKind) → graph_node graph i ≡ Some a → GraphEdge graph a kind b → WalkBetween graph i b
  edge_is_walk i a b kind at (from, to, from_at, to_at, is) =
      let same : from ≡ i = once from i a from_at at in
      ((record { word = AnEdge kind; to = to }) ∷ [], ((kind, refl, subst (λ n. EdgeAt graph n kind to) same is), tt), to_at)

  matched_is_walk : (calls : List CallSite) (a b : Node) → Matched (GraphEdge graph) calls a b → (i : ℕ) → graph_node graph i ≡ Some a → WalkBetween graph i b
  matched_is_walk calls a b (arrived n) i at = ([], tt, at)
  matched_is_walk calls a b (onwards before next kind x y z along stays opens rest) i at =
      let first = edge_is_walk i x y kind at along in
      walk_further graph i y z first (matched_is_walk next y z rest (walk_end i first.0) first.2)

  step_is_walk : (calls next : List CallSite) (a b : Node) (word : Word) → StepsOn (GraphEdge graph) calls a word b next → (i : ℕ) → graph_node graph i ≡ Some a → WalkBetween graph i b
  step_is_walk calls next a b (AnEdge kind) step i at = edge_is_walk i a b kind at step.0
  step_is_walk calls next a b Pass step i at = matched_is_walk [] a b step.0.path i at

  -- a chain is a walk
  pub chain_is_walk : (calls : List CallSite) (i : ℕ) (a : Node) (links : List Link) → graph_node graph i ≡ Some a → IsChainFrom (GraphEdge graph) calls a links → WalkBetween graph i (end_of a links)
  chain_is_walk calls i a [] at chain = ([], tt, at)
  chain_is_walk calls i a (link ∷ links) at (next, step, rest) =
      let first = step_is_walk calls next a link.to link.word step i at in
      walk_further graph i link.to (end_of link.to links) first (chain_is_walk next (walk_end i first.0) link.to links first.2 rest)

module _ (program : Program) (labels : Labels) (graph : Graph) (whole : IsDependenceGraph program labels graph) where
  -- the edges of the graph are those of the program
  pub edge_of_program : (a b : Node) (kind : EdgeKind) → GraphEdge graph a kind b → DependenceEdge program labels a kind b
  edge_of_program a b kind (i, j, at, to, is) =
      let e = whole.only_edges i j kind is in
      let from_same : e.0 ≡ a = same_Some e.0 a (sym e.2 ∙ at) in
      let to_same : e.1 ≡ b = same_Some e.1 b (sym e.3 ∙ to) in
      subst (λ n. DependenceEdge program labels n kind b) from_same (subst (λ n. DependenceEdge program labels e.0 kind n) to_same e.4)

  pub no_fork : HasNoFork graph
  no_fork i j is = let e = whole.only_edges i j Fork is in no_fork_by program labels e.0 e.1 Fork e.4 refl

  -- the links of a walk are a chain
  walk_is_chain : (calls : List CallSite) (i : ℕ) (a : Node) (steps : List Step) → graph_node graph i ≡ Some a → IsWalk graph i steps
      → IsChainFrom (GraphEdge graph) calls a (links_of graph steps) × (graph_node graph (walk_end i steps) ≡ Some (end_of a (links_of graph steps)))
  walk_is_chain calls i a [] at walk = (tt, at)
  walk_is_chain calls i a (step ∷ steps) at walk =
      let kind = walk.0.0 in
      let e = whole.only_edges i step.to kind walk.0.2 in
      let to = e.1 in
      let along : GraphEdge graph a kind to = (i, step.to, at, e.3, walk.0.2) in
      let link : Link = link_to step.word to in
      let is : link_of graph step ≡ Some link = ap (option_map (link_to step.word)) e.3 in
      let opens = edge_opens program labels calls a to kind (edge_of_program a to kind along) in
      let leads : StepsOn (GraphEdge graph) calls a step.word to opens.0 = subst (λ w. StepsOn (GraphEdge graph) calls a w to opens.0) (sym walk.0.1) (along, opens.1) in
      let rest = walk_is_chain opens.0 step.to to steps e.3 walk.1 in
      subst (λ o. IsChainFrom (GraphEdge graph) calls a (cons_option o (links_of graph steps)) × (graph_node graph (walk_end step.to steps) ≡ Some (end_of a (cons_option o (links_of graph steps))))) (sym is)
      ((opens.0, leads, rest.0), rest.1)

  -- the links of a walk are a valid chain
  pub walk_is_valid : (i : ℕ) (a : Node) (steps : List Step) → graph_node graph i ≡ Some a → IsWalk graph i steps → IsValidChain (GraphEdge graph) a (links_of graph steps)
  walk_is_valid i a steps at walk = (walk_is_chain [] i a steps at walk).0

  pub walk_ends : (i : ℕ) (a : Node) (steps : List Step) → graph_node graph i ≡ Some a → IsWalk graph i steps → graph_node graph (walk_end i steps) ≡ Some (end_of a (links_of graph steps))
  walk_ends i a steps at walk = (walk_is_chain [] i a steps at walk).1

  pub chains_are_walks : (i j : ℕ) (a b : Node) → graph_node graph i ≡ Some a → graph_node graph j ≡ Some b → HasChain (GraphEdge graph) a b ↔ WalksTo graph (j ∷ []) i
  chains_are_walks i j a b at to = (
    (λ chain.
        let walk = chain_is_walk graph whole.once [] i a chain.0 at chain.1 in
        let end : j ≡ walk_end i walk.0 = whole.once j (walk_end i walk.0) b to (walk.2 ∙ ap (λ n. Some n) chain.2) in
        (walk.0, walk.1, (0, omega arith, end))),
    (λ walk.
        let ends = walk_ends i a walk.0 at walk.1 in
        let end : walk_end i walk.0 ≡ j = only_of_one j (walk_end i walk.0) walk.2 in
        (links_of graph walk.0, walk_is_valid i a walk.0 at walk.1, same_Some (end_of a (links_of graph walk.0)) b (sym ends ∙ ap (graph_node graph) end ∙ to))),
  )

  -- the chains of the graph are those of the program
  pub chain_of_program : (calls : List CallSite) (a : Node) (links : List Link) → IsChainFrom (GraphEdge graph) calls a links ↔ IsChainFrom (DependenceEdge program labels) calls a links
  chain_of_program calls a links = (
    chain_along (GraphEdge graph) (DependenceEdge program labels) edge_of_program calls a links,
    chain_along (DependenceEdge program labels) (GraphEdge graph) whole.each_edge calls a links,
  )

-- a number with a node is one of the graph
node_inside : (graph : Graph) (i : ℕ) (n : Node) → graph_node graph i ≡ Some n → i < length graph.nodes
node_inside graph i n e = elim (cases_lt i (length graph.nodes)) [
  | inl inside ↦ inside
  | inr past ↦ absurd (none-some n (sym (ap (option_map node_named) (slice_get_past graph.nodes i past)) ∙ e))
]

-- the edges of a dependence graph are between its nodes
pub edges_inside : (program : Program) (labels : Labels) (graph : Graph) → IsDependenceGraph program labels graph → HasEdgesInside graph
edges_inside program labels graph whole i j kind is =
    let ends = whole.only_edges i j kind is in
    (node_inside graph i ends.0 ends.2, node_inside graph j ends.1 ends.3)
