-- Lists of node names that grow at the end, with each node once.
use Rattle.std.proofs.Common.{◌≡◌, ◌⊎◌, inl, inr, ℕ, zero, suc, ◌+◌, ◌*◌, ◌<◌, ◌≤◌, List, [], ◌∷◌, ◌++◌, length, Option, Some, None, Contains, slice_get, option_map, refl, sym, ap, subst, ◌∙◌, arith}
use Rattle.std.proofs.lemmas.Option.{none-some, same_Some}
use Rattle.jo_prog.specs.declared.program.Program.{Program}
use Rattle.jo_prog.specs.declared.labels.Labels.{Labels}
use Rattle.dep_nodes.specs.declared.kinds.NodeKind.{NodeKind}
use Rattle.dep_nodes.specs.declared.kinds.NodeKind.TheVariants.{Entry, Exit, Instr, Call, RetVal, Arg, Param, Kind, Thrown}
use Rattle.dep_nodes.specs.declared.kinds.EdgeKind.{EdgeKind}
use Rattle.dep_nodes.specs.declared.graphs.NodeName.{NodeName}
use Rattle.dep_nodes.specs.declared.graphs.Edge.{Edge}
use Rattle.dep_nodes.specs.Nodes.{Node, node_named}
use Rattle.dep_nodes.specs.Graphs.{edge}
use Rattle.dependence.specs.Graph.{IsNode, DependenceEdge}
use Rattle.dependence.specs.GraphData.{resolved_of}

-- ---- lists

pub slice_get-append_old : {X : Type 0} → (xs ys : List X) (j : ℕ) (y : X) → slice_get xs j ≡ Some y → slice_get (xs ++ ys) j ≡ Some y
slice_get-append_old [] ys j y e = absurd (none-some y e)
slice_get-append_old (x ∷ xs) ys zero y e = e
slice_get-append_old (x ∷ xs) ys (suc j) y e = slice_get-append_old xs ys j y e

pub slice_get-push_new : {X : Type 0} → (xs : List X) (x : X) → slice_get (xs ++ x ∷ []) (length xs) ≡ Some x
slice_get-push_new [] x = refl
slice_get-push_new (y ∷ xs) x = slice_get-push_new xs x

pub slice_get-push_cases : {X : Type 0} → (xs : List X) (x : X) (j : ℕ) (y : X) → slice_get (xs ++ x ∷ []) j ≡ Some y → (slice_get xs j ≡ Some y) ⊎ ((j ≡ length xs) × (x ≡ y))
slice_get-push_cases [] x zero y e = inr (refl, same_Some x y e)
slice_get-push_cases [] x (suc j) y e = absurd (none-some y e)
slice_get-push_cases (z ∷ xs) x zero y e = inl e
slice_get-push_cases (z ∷ xs) x (suc j) y e = elim (slice_get-push_cases xs x j y e) [ inl old ↦ inl old | inr new ↦ inr (ap suc new.0, new.1) ]

pub contains_one : {X : Type 0} → (x y : X) → Contains (x ∷ []) y → x ≡ y
contains_one x y (zero, below, at) = at
contains_one x y (suc k, below, at) = absurd (omega arith)

pub contains_none : {X : Type 0} → (y : X) → Contains [] y → ⊥
contains_none y (k, below, at) = omega arith

pub contains_first : {X : Type 0} → (x : X) (xs : List X) → Contains (x ∷ xs) x
contains_first x xs = (0, omega arith, refl)

-- ---- nodes by number

-- the node with that number in a list of names
abbrev pub node_in : List NodeName → ℕ → Option Node
node_in nodes j = option_map node_named (slice_get nodes j)

mapped : {X Y : Type 0} → (f : X → Y) (o : Option X) (y : Y) → option_map f o ≡ Some y → (x : X) × (o ≡ Some x) × (f x ≡ y)
mapped f None y e = absurd (none-some y e)
mapped f (Some x) y e = (x, refl, same_Some (f x) y e)

-- each number stands for its node still
abbrev pub NodesStay : List NodeName → List NodeName → Type 0
NodesStay old new = (j : ℕ) (n : Node) → node_in old j ≡ Some n → node_in new j ≡ Some n

pub stay-push : (nodes : List NodeName) (name : NodeName) → NodesStay nodes (nodes ++ name ∷ [])
stay-push nodes name j n e =
    let m = mapped node_named (slice_get nodes j) n e in
    ap (option_map node_named) (slice_get-append_old nodes (name ∷ []) j m.0 m.1) ∙ ap (λ x. Some x) m.2

pub node-push : (nodes : List NodeName) (name : NodeName) → node_in (nodes ++ name ∷ []) (length nodes) ≡ Some (node_named name)
node-push nodes name = ap (option_map node_named) (slice_get-push_new nodes name)

node-push_cases : (nodes : List NodeName) (name : NodeName) (j : ℕ) (n : Node) → node_in (nodes ++ name ∷ []) j ≡ Some n → (node_in nodes j ≡ Some n) ⊎ ((j ≡ length nodes) × (node_named name ≡ n))
node-push_cases nodes name j n e =
    let m = mapped node_named (slice_get (nodes ++ name ∷ []) j) n e in
    elim (slice_get-push_cases nodes name j m.0 m.1) [
      | inl old ↦ inl (ap (option_map node_named) old ∙ ap (λ x. Some x) m.2)
      | inr new ↦ inr (new.0, ap node_named new.1 ∙ m.2)
    ]

-- a number that rises with the pc
abbrev pub rank : NodeKind → ℕ
rank Entry = 0
rank Exit = 1
rank Kind = 2
rank Thrown = 3
rank (Param a) = 4
rank (Instr p) = 3 * p + 5
rank (Call p) = 3 * p + 5
rank (Arg p a) = 3 * p + 6
rank (RetVal p) = 3 * p + 7
rank _ = 0

-- nodes of the dependence graph, each once, of ranks below a bound, with what their instructions name
pub record AreNodes (program : Program) (labels : Labels) (bound : ℕ) (nodes : List NodeName) : Type 0 where
  pub only : (j : ℕ) (n : Node) → node_in nodes j ≡ Some n → IsNode program labels n
  pub once : (i j : ℕ) (n : Node) → node_in nodes i ≡ Some n → node_in nodes j ≡ Some n → i ≡ j
  pub below : (j : ℕ) (n : Node) → node_in nodes j ≡ Some n → rank n.kind < bound
  pub resolved : (j : ℕ) (name : NodeName) → slice_get nodes j ≡ Some name → name.resolved ≡ resolved_of program name

module _ (program : Program) (labels : Labels) where
  pub nodes-none : AreNodes program labels 0 []
  nodes-none = record {
    only = λ j n e. absurd (none-some n e);
    once = λ i j n e f. absurd (none-some n e);
    below = λ j n e. absurd (none-some n e);
    resolved = λ j name e. absurd (none-some name e);
  }

  -- one node more, of a rank that none has yet
  pub nodes-push : (bound : ℕ) (nodes : List NodeName) (name : NodeName) → AreNodes program labels bound nodes → IsNode program labels (node_named name) → bound ≤ rank name.kind → name.resolved ≡ resolved_of program name
      → AreNodes program labels (rank name.kind + 1) (nodes ++ name ∷ [])
  nodes-push bound nodes name h is_node fresh resolves =
      let apart : (j : ℕ) (n : Node) → node_in nodes j ≡ Some n → node_named name ≡ n → ⊥ =
      λ j n e same. let b = h.below j n e in let r : rank name.kind ≡ rank n.kind = ap (λ (x : Node). rank x.kind) same in omega arith in
      record {
        only = λ j n e. elim (node-push_cases nodes name j n e) [ inl old ↦ h.only j n old | inr here ↦ subst (λ x. IsNode program labels x) here.1 is_node ];
        once = λ i j n e f. elim (node-push_cases nodes name i n e) [
          | inl old ↦ elim (node-push_cases nodes name j n f) [ inl before ↦ h.once i j n old before | inr here ↦ absurd (apart i n old here.1) ]
          | inr here ↦ elim (node-push_cases nodes name j n f) [ inl before ↦ absurd (apart j n before here.1) | inr too ↦ here.0 ∙ sym too.0 ]
        ];
        below = λ j n e. elim (node-push_cases nodes name j n e) [
          | inl old ↦ let b = h.below j n old in omega arith
          | inr here ↦ let r : rank name.kind ≡ rank n.kind = ap (λ (x : Node). rank x.kind) here.1 in omega arith
        ];
        resolved = λ j x e. elim (slice_get-push_cases nodes name j x e) [ inl old ↦ h.resolved j x old | inr here ↦ subst (λ y. y.resolved ≡ resolved_of program y) here.1 resolves ];
      }

  pub nodes-weaker : (bound more : ℕ) (nodes : List NodeName) → AreNodes program labels bound nodes → bound ≤ more → AreNodes program labels more nodes
  nodes-weaker bound more nodes h up = record { only = h.only; once = h.once; below = λ j n e. (let b = h.below j n e in omega arith); resolved = h.resolved }

-- ---- edges by number

abbrev pub HasEdge : List NodeName → List Edge → Node → EdgeKind → Node → Type 0
HasEdge nodes edges a kind b = (i : ℕ) × (j : ℕ) × (node_in nodes i ≡ Some a) × (node_in nodes j ≡ Some b) × Contains edges (edge i kind j)

abbrev pub IsEdgeOf : Program → Labels → List NodeName → Edge → Type 0
IsEdgeOf program labels nodes e = (a : Node) × (b : Node) × (node_in nodes e.from ≡ Some a) × (node_in nodes e.to ≡ Some b) × DependenceEdge program labels a e.kind b

pub has_edge-more : (old new : List NodeName) (edges more : List Edge) (a b : Node) (kind : EdgeKind) → NodesStay old new → ((e : Edge) → Contains edges e → Contains more e) → HasEdge old edges a kind b → HasEdge new more a kind b
has_edge-more old new edges more a b kind stay grow (i, j, at, to, is) = (i, j, stay i a at, stay j b to, grow (edge i kind j) is)

pub edge_of-more : (program : Program) (labels : Labels) (old new : List NodeName) (e : Edge) → NodesStay old new → IsEdgeOf program labels old e → IsEdgeOf program labels new e
edge_of-more program labels old new e stay (a, b, at, to, is) = (a, b, stay e.from a at, stay e.to b to, is)
