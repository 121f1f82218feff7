-- What one more instruction adds to the graph and to the table of definitions.
use Rattle.std.proofs.Common.{◌≡◌, ◌≢◌, ◌⊎◌, inl, inr, ℕ, ◌+◌, ◌*◌, ◌≤◌, true, List, [], ◌∷◌, ◌++◌, length, Option, Some, None, Contains, refl, sym, ap, subst, ◌∙◌, arith}
use Rattle.std.proofs.lemmas.Bool.{cases_eq}
use Rattle.std.proofs.lemmas.Option.{same_Some, some_pair_parts}
use Rattle.std.proofs.lemmas.List.{length_push}
use Rattle.std.proofs.lemmas.List.Elements.{Contains-append_left, Contains-append_right, Contains-append_cases}
use Rattle.jo_prog.specs.declared.operations.Operation.{Operation}
use Rattle.jo_prog.specs.declared.operations.Operation.TheVariants.{Constant, Load, Store, Add, Subtract, InvokeStatic, Return, Other}
use Rattle.jo_prog.specs.declared.program.Program.{Program}
use Rattle.jo_prog.specs.declared.program.Code.{Code}
use Rattle.jo_prog.specs.declared.labels.Labels.{Labels}
use Rattle.jo_prog.specs.Labels.{label_of}
use Rattle.jo_prog.specs.Program.{operation_at, callee_at}
use Rattle.jo_prog.specs.Typing.{IsTypedCode, HasHeight}
use Rattle.jo_prog.proofs.TypingPaths.{heights_same}
use Rattle.dependence.specs.declared.flow.Place.{Place}
use Rattle.dependence.specs.declared.flow.Place.TheVariants.{Local, Stack, Pending}
use Rattle.dep_nodes.specs.declared.kinds.NodeKind.{NodeKind}
use Rattle.dep_nodes.specs.declared.kinds.NodeKind.TheVariants.{Entry, Exit, Instr, Call, RetVal, RetKind, Throw, Catch, Poll, XPoll, Arg, Param, Kind, Value, Thrown}
use Rattle.dep_nodes.specs.declared.kinds.EdgeKind.{EdgeKind}
use Rattle.dep_nodes.specs.declared.kinds.EdgeKind.TheVariants.{Data, Control, Out, Heap}
use Rattle.dep_nodes.specs.declared.graphs.NodeName.{NodeName}
use Rattle.dep_nodes.specs.declared.graphs.Edge.{Edge}
use Rattle.plain_graph.specs.declared.sdg.Definitions.{Definitions}
use Rattle.plain_graph.specs.declared.sdg.SourceResult.{SourceResult}
use Rattle.jo_ids.specs.Path.{stays}
use Rattle.dependence.specs.Flow.{node_at, FlowEdge, IsFlowNode, reads_of, writes_of, Reads, Writes, by_instr, by_result, ArgumentPlace, FlowReaches, FlowControls}
use Rattle.dependence.specs.Dependence.{one}
use Rattle.dep_nodes.specs.Nodes.{Node, node}
use Rattle.dep_nodes.specs.Graphs.{edge}
use Rattle.dependence.specs.Graph.{at_entry, IsNode, of_flow, label_at, is_source, is_sink, UsesCursor, at_result, DependenceEdge, used, passed, shown, controlled, ended, next_input}
use Rattle.plain_graph.specs.Building.{definition_of, AreWritten, name_of, use_edges, uses_edges, out_edges, control_edges}
use Rattle.plain_graph.proofs.PlainLine.{pc_or_zero, out_of, IsBehind, flow_line, reaches_flow}
use Rattle.plain_graph.proofs.PlainReaching.{position, reaches_up, reaches_next, controls_entry, entry_controls, controlled_flow, root, IsKindOf, node_kind}
use Rattle.plain_graph.proofs.NodeLists.{contains_one, contains_none, contains_first, node_in, NodesStay, stay-push, node-push, AreNodes, nodes-push, nodes-weaker, HasEdge, IsEdgeOf, has_edge-more, edge_of-more}

-- ---- what stands when the walk has come to a bound

-- the nodes, the edges and the results of sources up to this bound of positions are there, and nothing else
pub record IsBuilt (program : Program) (labels : Labels) (bound : ℕ) (nodes : List NodeName) (edges : List Edge) (results : List SourceResult) : Type 0 where
  pub nodes_right : AreNodes program labels (5 + 3 * bound) nodes
  pub few : length nodes ≤ 5 + 3 * bound
  pub each_node : (n : Node) → IsNode program labels n → position n.kind ≤ bound → (j : ℕ) × (node_in nodes j ≡ Some n)
  pub first : node_in nodes 0 ≡ Some (node (root labels) Entry)
  pub third : node_in nodes 2 ≡ Some (node (root labels) Kind)
  pub only_edges : (e : Edge) → Contains edges e → IsEdgeOf program labels nodes e
  pub each_edge : (a b : Node) (kind : EdgeKind) → DependenceEdge program labels a kind b → position a.kind ≤ bound → position b.kind ≤ bound → HasEdge nodes edges a kind b
  pub results_right : (r : SourceResult) → Contains results r → (n : Node) × (node_in nodes r.node ≡ Some n) × UsesCursor program labels r.source n
  pub each_result : (source : ℕ) (n : Node) → UsesCursor program labels source n → position n.kind ≤ bound → (j : ℕ) × (node_in nodes j ≡ Some n) × Contains results (record { source = source; node = j })

-- the table holds the definitions that reach a node
pub record IsDefined (program : Program) (labels : Labels) (at : NodeKind) (nodes : List NodeName) (definitions : Definitions) : Type 0 where
  pub right : (v : Place) (j : ℕ) → definition_of definitions v ≡ Some j → (d : NodeKind) × IsFlowNode program labels.entry d × FlowReaches program labels.entry v d at × (node_in nodes j ≡ Some (node (root labels) d))
  pub each : (v : Place) (d : NodeKind) → IsFlowNode program labels.entry d → FlowReaches program labels.entry v d at → (j : ℕ) × (definition_of definitions v ≡ Some j) × (node_in nodes j ≡ Some (node (root labels) d))

-- the edges at an instruction are there
pub record CoversEdges (program : Program) (labels : Labels) (pc : ℕ) (nodes : List NodeName) (edges : List Edge) : Type 0 where
  pub uses : (d : NodeKind) (v : Place) → IsFlowNode program labels.entry d → FlowReaches program labels.entry v d (Instr pc) → Reads program labels.entry (Instr pc) v
      → HasEdge nodes edges (node (root labels) d) Data (node (root labels) (Instr pc))
  pub passes : (d : NodeKind) (v : Place) (k : ℕ) → IsFlowNode program labels.entry d → FlowReaches program labels.entry v d (Call pc) → ArgumentPlace program labels.entry pc k v
      → HasEdge nodes edges (node (root labels) d) Data (node (root labels) (Arg pc k))
  pub shows : (v : Place) → IsFlowNode program labels.entry (Call pc) → is_sink (label_at program labels labels.entry pc) ≡ true → ArgumentPlace program labels.entry pc 0 v
      → HasEdge nodes edges (node (root labels) (Arg pc 0)) Data (node (root labels) (Call pc))
  pub controls : (n : NodeKind) → IsFlowNode program labels.entry n → position n ≡ pc + 1 → HasEdge nodes edges (node (root labels) Entry) Control (node (root labels) n)
  pub ends : (next : ℕ) → IsFlowNode program labels.entry (Instr pc) → operation_at program labels.entry pc ≡ Some (Return, next) → HasEdge nodes edges (node (root labels) (Instr pc)) Out (node (root labels) Kind)
  pub inputs : (source : ℕ) (y : Node) → UsesCursor program labels source (node (root labels) (RetVal pc)) → UsesCursor program labels source y → position y.kind ≤ pc + 1
      → HasEdge nodes edges (node (root labels) (RetVal pc)) Heap y × HasEdge nodes edges y Heap (node (root labels) (RetVal pc))

module _ (program : Program) (labels : Labels) (pc : ℕ) (nodes : List NodeName) (edges : List Edge) (cover : CoversEdges program labels pc nodes edges) where
  used_by : (d n : NodeKind) (v : Place) → IsFlowNode program labels.entry d → FlowReaches program labels.entry v d n → Reads program labels.entry n v → position d ≤ pc + 1 → position n ≤ pc + 1
      → (position d ≡ pc + 1) ⊎ (position n ≡ pc + 1) → HasEdge nodes edges (node (root labels) d) Data (node (root labels) n)
  used_by d n v flow reaches (by_instr p next height operation w found has among) low high here =
      elim (cases_eq p pc) [
        | inl same ↦ subst (λ q. HasEdge nodes edges (node (root labels) d) Data (node (root labels) (Instr q))) (sym same)
            (cover.uses d w flow (subst (λ q. FlowReaches program labels.entry w d (Instr q)) same reaches) (subst (λ q. Reads program labels.entry (Instr q) w) same (by_instr p next height operation w found has among)))
        | inr other ↦ elim here [
          | inl first ↦ elim (reaches_up program labels.entry w d (Instr p) reaches) [ inl is ↦ (let no : ⊥ = cc in absurd no) | inr up ↦ absurd (other (omega arith)) ]
          | inr second ↦ absurd (other (omega arith))
        ]
      ]

  passed_by : (d : NodeKind) (p k : ℕ) (v : Place) → IsFlowNode program labels.entry d → FlowReaches program labels.entry v d (Call p) → ArgumentPlace program labels.entry p k v → position d ≤ pc + 1 → p + 1 ≤ pc + 1
      → (position d ≡ pc + 1) ⊎ (p + 1 ≡ pc + 1) → HasEdge nodes edges (node (root labels) d) Data (node (root labels) (Arg p k))
  passed_by d p k v flow reaches place low high here =
      elim (cases_eq p pc) [
        | inl same ↦ subst (λ q. HasEdge nodes edges (node (root labels) d) Data (node (root labels) (Arg q k))) (sym same)
            (cover.passes d v k flow (subst (λ q. FlowReaches program labels.entry v d (Call q)) same reaches) (subst (λ q. ArgumentPlace program labels.entry q k v) same place))
        | inr other ↦ elim here [
          | inl first ↦ elim (reaches_up program labels.entry v d (Call p) reaches) [ inl is ↦ (let no : ⊥ = cc in absurd no) | inr up ↦ absurd (other (omega arith)) ]
          | inr second ↦ absurd (other (omega arith))
        ]
      ]

  shown_by : (p : ℕ) (v : Place) → p ≡ pc → IsFlowNode program labels.entry (Call p) → is_sink (label_at program labels labels.entry p) ≡ true → ArgumentPlace program labels.entry p 0 v
      → HasEdge nodes edges (node (root labels) (Arg p 0)) Data (node (root labels) (Call p))
  shown_by p v same flow sink place =
      subst (λ q. HasEdge nodes edges (node (root labels) (Arg q 0)) Data (node (root labels) (Call q))) (sym same)
      (cover.shows v (subst (λ q. IsFlowNode program labels.entry (Call q)) same flow) (subst (λ q. is_sink (label_at program labels labels.entry q) ≡ true) same sink) (subst (λ q. ArgumentPlace program labels.entry q 0 v) same place))

  controlled_by : (b n : NodeKind) → IsFlowNode program labels.entry b → FlowControls program labels.entry b n → (position b ≡ pc + 1) ⊎ (position n ≡ pc + 1)
      → HasEdge nodes edges (node (root labels) b) Control (node (root labels) n)
  controlled_by b n flow controls here =
      let is = controls_entry program labels.entry b n controls in
      let low : position b ≡ 0 = ap position is in
      elim here [
        | inl first ↦ absurd (omega arith)
        | inr second ↦ subst (λ k. HasEdge nodes edges (node (root labels) k) Control (node (root labels) n)) (sym is) (cover.controls n (controlled_flow program labels.entry b n flow controls) second)
      ]

  ended_by : (p next : ℕ) → p ≡ pc → IsFlowNode program labels.entry (Instr p) → operation_at program labels.entry p ≡ Some (Return, next) → HasEdge nodes edges (node (root labels) (Instr p)) Out (node (root labels) Kind)
  ended_by p next same flow found =
      subst (λ q. HasEdge nodes edges (node (root labels) (Instr q)) Out (node (root labels) Kind)) (sym same)
      (cover.ends next (subst (λ q. IsFlowNode program labels.entry (Instr q)) same flow) (subst (λ q. operation_at program labels.entry q ≡ Some (Return, next)) same found))

  pub cursor_here : (source : ℕ) (x : Node) → UsesCursor program labels source x → position x.kind ≡ pc + 1 → x ≡ node (root labels) (RetVal pc)
  cursor_here source x (at_result i p s at_entry flow callee is) here = ap (λ q. node (root labels) (RetVal q)) (let same : p ≡ pc = omega arith in same)

  edge_here : (a b : Node) (kind : EdgeKind) → DependenceEdge program labels a kind b → position a.kind ≤ pc + 1 → position b.kind ≤ pc + 1 → (position a.kind ≡ pc + 1) ⊎ (position b.kind ≡ pc + 1) → HasEdge nodes edges a kind b
  edge_here a b kind (used i d n v at_entry flow reaches reads) low high here = used_by d n v flow reaches reads low high here
  edge_here a b kind (passed i d p k v at_entry flow reaches place) low high here = passed_by d p k v flow reaches place low high here
  edge_here a b kind (shown i p v at_entry flow sink place) low high here = shown_by p v (elim here [ inl is ↦ omega arith | inr is ↦ omega arith ]) flow sink place
  edge_here a b kind (controlled i d n at_entry flow controls) low high here = controlled_by d n flow controls here
  edge_here a b kind (ended i p next at_entry flow found) low high here = ended_by p next (elim here [ inl is ↦ omega arith | inr is ↦ absurd (omega arith) ]) flow found
  edge_here a b kind (next_input source x y first second) low high here = elim here [
    | inl is ↦
        let same = cursor_here source x first is in
        subst (λ n. HasEdge nodes edges n Heap y) (sym same) (cover.inputs source y (subst (λ n. UsesCursor program labels source n) same first) second high).0
    | inr is ↦
        let same = cursor_here source y second is in
        subst (λ n. HasEdge nodes edges x Heap n) (sym same) (cover.inputs source x (subst (λ n. UsesCursor program labels source n) same second) first low).1
  ]

  -- the edges up to one more pc
  pub each_edge-more : (old : List NodeName) (before : List Edge) → NodesStay old nodes → ((e : Edge) → Contains before e → Contains edges e)
      → ((a b : Node) (kind : EdgeKind) → DependenceEdge program labels a kind b → position a.kind ≤ pc → position b.kind ≤ pc → HasEdge old before a kind b)
      → (a b : Node) (kind : EdgeKind) → DependenceEdge program labels a kind b → position a.kind ≤ pc + 1 → position b.kind ≤ pc + 1 → HasEdge nodes edges a kind b
  each_edge-more old before stay grow each a b kind is low high =
      elim (cases_eq (position a.kind) (pc + 1)) [
        | inl here ↦ edge_here a b kind is low high (inl here)
        | inr na ↦ elim (cases_eq (position b.kind) (pc + 1)) [
          | inl here ↦ edge_here a b kind is low high (inr here)
          | inr nb ↦ has_edge-more old nodes before edges a b kind stay grow (each a b kind is (omega arith) (omega arith))
        ]
      ]

-- ---- the kinds at a pc

module _ (program : Program) (labels : Labels) (code : Code) (typed : IsTypedCode program labels.entry code) where
  pub call_line : (p : ℕ) → IsFlowNode program labels.entry (Call p) → node_at program labels.entry p ≡ Call p
  call_line p flow = (flow_line program labels.entry code typed (Call p) flow).2

  pub return_line : (p : ℕ) → IsFlowNode program labels.entry (RetVal p) → node_at program labels.entry p ≡ Call p
  return_line p flow = (flow_line program labels.entry code typed (RetVal p) flow).2

  pub instr_line : (p : ℕ) → IsFlowNode program labels.entry (Instr p) → node_at program labels.entry p ≡ Instr p
  instr_line p flow = (flow_line program labels.entry code typed (Instr p) flow).2

  -- no call stands where an instruction does
  pub no_call : (p pc : ℕ) → p ≡ pc → node_at program labels.entry pc ≡ Instr pc → node_at program labels.entry p ≡ Call p → ⊥
  no_call p pc same instr call = let here : node_at program labels.entry p ≡ node_at program labels.entry pc = ap (node_at program labels.entry) same in cc

  pub kind_at_instr : (pc : ℕ) → node_at program labels.entry pc ≡ Instr pc → (k : NodeKind) → IsKindOf program labels.entry k → position k ≡ pc + 1 → k ≡ Instr pc
  kind_at_instr pc instr Entry is here = absurd (omega arith)
  kind_at_instr pc instr Exit is here = absurd (omega arith)
  kind_at_instr pc instr (Instr p) is here = ap (λ q. Instr q) (let same : p ≡ pc = omega arith in same)
  kind_at_instr pc instr (Call p) is here = absurd (no_call p pc (omega arith) instr (call_line p is))
  kind_at_instr pc instr (RetVal p) is here = absurd (no_call p pc (omega arith) instr (return_line p is))
  kind_at_instr pc instr (RetKind p) is here = absurd (omega arith)
  kind_at_instr pc instr (Throw p) is here = absurd (omega arith)
  kind_at_instr pc instr (Catch p) is here = absurd (omega arith)
  kind_at_instr pc instr (Poll p t) is here = absurd (omega arith)
  kind_at_instr pc instr (XPoll p row) is here = absurd (omega arith)
  kind_at_instr pc instr (Arg p a) is here = absurd (no_call p pc (omega arith) instr (call_line p is.0))
  kind_at_instr pc instr (Param a) is here = absurd (omega arith)
  kind_at_instr pc instr Kind is here = absurd (omega arith)
  kind_at_instr pc instr Value is here = absurd (omega arith)
  kind_at_instr pc instr Thrown is here = absurd (omega arith)

  -- the nodes at a call
  abbrev pub IsAtCall : ℕ → NodeKind → Type 0
  IsAtCall pc k = (k ≡ Call pc) ⊎ ((k ≡ RetVal pc) ⊎ ((a : ℕ) × (v : Place) × (k ≡ Arg pc a) × ArgumentPlace program labels.entry pc a v))

  pub kind_at_call : (pc : ℕ) → node_at program labels.entry pc ≡ Call pc → (k : NodeKind) → IsKindOf program labels.entry k → position k ≡ pc + 1 → IsAtCall pc k
  kind_at_call pc call Entry is here = absurd (omega arith)
  kind_at_call pc call Exit is here = absurd (omega arith)
  kind_at_call pc call (Instr p) is here = absurd (no_call pc p (omega arith) (instr_line p is) call)
  kind_at_call pc call (Call p) is here = inl (ap (λ q. Call q) (let same : p ≡ pc = omega arith in same))
  kind_at_call pc call (RetVal p) is here = inr (inl (ap (λ q. RetVal q) (let same : p ≡ pc = omega arith in same)))
  kind_at_call pc call (RetKind p) is here = absurd (omega arith)
  kind_at_call pc call (Throw p) is here = absurd (omega arith)
  kind_at_call pc call (Catch p) is here = absurd (omega arith)
  kind_at_call pc call (Poll p t) is here = absurd (omega arith)
  kind_at_call pc call (XPoll p row) is here = absurd (omega arith)
  kind_at_call pc call (Arg p a) is here = let same : p ≡ pc = omega arith in inr (inr (a, is.1.0, ap (λ q. Arg q a) same, subst (λ q. ArgumentPlace program labels.entry q a is.1.0) same is.1.1))
  kind_at_call pc call (Param a) is here = absurd (omega arith)
  kind_at_call pc call Kind is here = absurd (omega arith)
  kind_at_call pc call Value is here = absurd (omega arith)
  kind_at_call pc call Thrown is here = absurd (omega arith)

  -- the nodes up to one more pc
  pub each_node-more : (pc : ℕ) (old nodes : List NodeName) → NodesStay old nodes → ((n : Node) → IsNode program labels n → position n.kind ≤ pc → (j : ℕ) × (node_in old j ≡ Some n))
      → ((k : NodeKind) → IsKindOf program labels.entry k → position k ≡ pc + 1 → (j : ℕ) × (node_in nodes j ≡ Some (node (root labels) k)))
      → (n : Node) → IsNode program labels n → position n.kind ≤ pc + 1 → (j : ℕ) × (node_in nodes j ≡ Some n)
  each_node-more pc old nodes stay each cover n is low =
      elim (cases_eq (position n.kind) (pc + 1)) [
        | inl here ↦
            let k = node_kind program labels code typed n is in
            let new = cover n.kind k.1 here in
            (new.0, new.1 ∙ ap (λ x. Some x) (sym k.0))
        | inr other ↦ let was = each n is (omega arith) in (was.0, stay was.0 n was.1)
      ]

-- ---- edges to uses

pub contains_cons : {X : Type 0} → (x : X) (xs : List X) (y : X) → Contains (x ∷ xs) y → (x ≡ y) ⊎ Contains xs y
contains_cons x xs y h = elim (Contains-append_cases (x ∷ []) xs y h) [ inl is ↦ inl (contains_one x y is) | inr is ↦ inr is ]

pub use_right : (program : Program) (labels : Labels) (nodes : List NodeName) (j : ℕ) (o : Option ℕ) → ((d : ℕ) → o ≡ Some d → IsEdgeOf program labels nodes (edge d Data j)) → (e : Edge) → Contains (use_edges o j) e → IsEdgeOf program labels nodes e
use_right program labels nodes j None right e is = absurd (contains_none e is)
use_right program labels nodes j (Some d) right e is = subst (λ x. IsEdgeOf program labels nodes x) (contains_one (edge d Data j) e is) (right d refl)

pub uses_right : (program : Program) (labels : Labels) (nodes : List NodeName) (definitions : Definitions) (j : ℕ) (vs : List Place)
    → ((v : Place) (d : ℕ) → Contains vs v → definition_of definitions v ≡ Some d → IsEdgeOf program labels nodes (edge d Data j)) → (e : Edge) → Contains (uses_edges definitions vs j) e → IsEdgeOf program labels nodes e
uses_right program labels nodes definitions j [] right e is = absurd (contains_none e is)
uses_right program labels nodes definitions j (v ∷ vs) right e is =
    elim (Contains-append_cases (use_edges (definition_of definitions v) j) (uses_edges definitions vs j) e is) [
      | inl first ↦ use_right program labels nodes j (definition_of definitions v) (λ d def. right v d (contains_first v vs) def) e first
      | inr rest ↦ uses_right program labels nodes definitions j vs (λ w d among def. right w d (Contains-append_right (v ∷ []) vs w among) def) e rest
    ]

pub use_there : (j d : ℕ) (o : Option ℕ) → o ≡ Some d → Contains (use_edges o j) (edge d Data j)
use_there j d o e = subst (λ x. Contains (use_edges x j) (edge d Data j)) (sym e) (contains_first (edge d Data j) [])

pub uses_there : (definitions : Definitions) (j d : ℕ) (v : Place) (vs : List Place) → Contains vs v → definition_of definitions v ≡ Some d → Contains (uses_edges definitions vs j) (edge d Data j)
uses_there definitions j d v [] among e = absurd (contains_none v among)
uses_there definitions j d v (w ∷ vs) among e =
    elim (contains_cons w vs v among) [
      | inl same ↦ Contains-append_left (use_edges (definition_of definitions w) j) (uses_edges definitions vs j) (edge d Data j) (use_there j d (definition_of definitions w) (ap (definition_of definitions) same ∙ e))
      | inr rest ↦ Contains-append_right (use_edges (definition_of definitions w) j) (uses_edges definitions vs j) (edge d Data j) (uses_there definitions j d v vs rest e)
    ]

-- ---- the table of definitions

local_same : (a b : ℕ) → Local a ≡ Local b → a ≡ b
local_same a b e = cc

stack_same : (a b : ℕ) → Stack a ≡ Stack b → a ≡ b
stack_same a b e = cc

cases_place : (v w : Place) → (v ≡ w) ⊎ (v ≡ w → ⊥)
cases_place (Local a) (Local b) = elim (cases_eq a b) [ inl same ↦ inl (ap (λ k. Local k) same) | inr other ↦ inr (λ e. other (local_same a b e)) ]
cases_place (Local a) (Stack b) = inr (λ e. cc)
cases_place (Local a) Pending = inr (λ e. cc)
cases_place (Stack a) (Local b) = inr (λ e. cc)
cases_place (Stack a) (Stack b) = elim (cases_eq a b) [ inl same ↦ inl (ap (λ k. Stack k) same) | inr other ↦ inr (λ e. other (stack_same a b e)) ]
cases_place (Stack a) Pending = inr (λ e. cc)
cases_place Pending (Local b) = inr (λ e. cc)
cases_place Pending (Stack b) = inr (λ e. cc)
cases_place Pending Pending = inl refl

cases_contains : (vs : List Place) (v : Place) → Contains vs v ⊎ (Contains vs v → ⊥)
cases_contains [] v = inr (contains_none v)
cases_contains (w ∷ vs) v = elim (cases_place w v) [
  | inl same ↦ inl (subst (λ x. Contains (w ∷ vs) x) same (contains_first w vs))
  | inr other ↦ elim (cases_contains vs v) [
    | inl rest ↦ inl (Contains-append_right (w ∷ []) vs v rest)
    | inr none ↦ inr (λ is. elim (contains_cons w vs v is) [ inl same ↦ other same | inr rest ↦ none rest ])
  ]
]

-- what control leaves by writes its places, and every other definition stays
module _ (program : Program) (labels : Labels) (code : Code) (typed : IsTypedCode program labels.entry code) (pc next : ℕ) (operation : Operation) (found : operation_at program labels.entry pc ≡ Some (operation, next)) (behind : IsBehind program labels.entry code pc) where
  pub defined_next : (old nodes : List NodeName) (before after : Definitions) (places : List Place) (j : ℕ) → IsDefined program labels (node_at program labels.entry pc) old before → NodesStay old nodes → AreWritten before after places j
      → node_in nodes j ≡ Some (node (root labels) (out_of (node_at program labels.entry pc)))
      → ((v : Place) → Writes program labels.entry (out_of (node_at program labels.entry pc)) v → Contains places v) → ((v : Place) → Contains places v → Writes program labels.entry (out_of (node_at program labels.entry pc)) v)
      → IsFlowNode program labels.entry (out_of (node_at program labels.entry pc)) → FlowEdge program labels.entry (out_of (node_at program labels.entry pc)) (node_at program labels.entry next)
      → ((v : Place) (d : NodeKind) → FlowReaches program labels.entry v d (node_at program labels.entry pc) → (Writes program labels.entry (out_of (node_at program labels.entry pc)) v → ⊥) → FlowReaches program labels.entry v d (node_at program labels.entry next))
      → IsDefined program labels (node_at program labels.entry next) nodes after
  defined_next old nodes before after places j defined stay written at to from flow leads keep = record {
    right = λ v i e. elim (cases_contains places v) [
      | inl among ↦
          let same : j ≡ i = same_Some j i (sym (written.here v among) ∙ e) in
          (out_of (node_at program labels.entry pc), flow, one (node_at program labels.entry next) leads (from v among), ap (node_in nodes) (sym same) ∙ at)
      | inr none ↦
          let was = defined.right v i (sym (written.others v none) ∙ e) in
          (was.0, was.1, keep v was.0 was.2 (λ w. none (to v w)), stay i (node (root labels) was.0) was.3)
    ];
    each = λ v d flows r. elim (reaches_next program labels.entry code typed pc next operation found behind v d flows r) [
      | inl here ↦
          let among = to v (subst (λ k. Writes program labels.entry k v) here.0 here.1) in
          (j, written.here v among, at ∙ ap (λ k. Some (node (root labels) k)) (sym here.0))
      | inr before ↦
          let was = defined.each v d flows before.0 in
          (was.0, written.others v (λ is. before.1 (from v is)) ∙ was.1, stay was.0 (node (root labels) d) was.2)
    ];
  }

-- ---- edges by the words

pub control_right : (program : Program) (labels : Labels) (nodes : List NodeName) (j : ℕ) (k : NodeKind) → IsFlowNode program labels.entry k → k ≢ Entry → k ≢ Exit → node_in nodes 0 ≡ Some (node (root labels) Entry) → node_in nodes j ≡ Some (node (root labels) k)
    → (e : Edge) → Contains (control_edges j) e → IsEdgeOf program labels nodes e
control_right program labels nodes j k flow no_entry no_exit first at e is =
    subst (λ x. IsEdgeOf program labels nodes x) (contains_one (edge 0 Control j) e is)
    (node (root labels) Entry, node (root labels) k, first, at, controlled (root labels) Entry k at_entry (stays Entry) (entry_controls program labels.entry k flow no_entry no_exit))

pub cursor_flow : (program : Program) (labels : Labels) (source : ℕ) (x : Node) → UsesCursor program labels source x → IsFlowNode program labels.entry x.kind
cursor_flow program labels source x (at_result i p s at_entry flow callee is) = flow

pub cursor_callee : (program : Program) (labels : Labels) (source : ℕ) (x : Node) → UsesCursor program labels source x → (callee_at program labels.entry (pc_or_zero x.kind) ≡ Some source) × (is_source (label_of labels source) ≡ true)
cursor_callee program labels source x (at_result i p s at_entry flow callee is) = (callee, is)

pub flow_kind : (program : Program) (labels : Labels) (code : Code) (typed : IsTypedCode program labels.entry code) (k : NodeKind) → IsFlowNode program labels.entry k → IsKindOf program labels.entry k
flow_kind program labels code typed k flow = (node_kind program labels code typed (node (root labels) k) (of_flow (root labels) k at_entry flow)).1

-- ---- an instruction that is no call

out_right : (program : Program) (labels : Labels) (pc next j : ℕ) (operation : Operation) → operation_at program labels.entry pc ≡ Some (operation, next) → (nodes : List NodeName) → IsFlowNode program labels.entry (Instr pc) → node_in nodes j ≡ Some (node (root labels) (Instr pc))
    → node_in nodes 2 ≡ Some (node (root labels) Kind) → (e : Edge) → Contains (out_edges operation j) e → IsEdgeOf program labels nodes e
out_right program labels pc next j (Constant z) found nodes flow at third e is = absurd (contains_none e is)
out_right program labels pc next j (Load k) found nodes flow at third e is = absurd (contains_none e is)
out_right program labels pc next j (Store k) found nodes flow at third e is = absurd (contains_none e is)
out_right program labels pc next j Add found nodes flow at third e is = absurd (contains_none e is)
out_right program labels pc next j Subtract found nodes flow at third e is = absurd (contains_none e is)
out_right program labels pc next j (InvokeStatic k) found nodes flow at third e is = absurd (contains_none e is)
out_right program labels pc next j Return found nodes flow at third e is =
    subst (λ x. IsEdgeOf program labels nodes x) (contains_one (edge j Out 2) e is) (node (root labels) (Instr pc), node (root labels) Kind, at, third, ended (root labels) pc next at_entry flow found)
out_right program labels pc next j Other found nodes flow at third e is = absurd (contains_none e is)

module _ (program : Program) (labels : Labels) (pc next : ℕ) (operation : Operation) (found : operation_at program labels.entry pc ≡ Some (operation, next)) (h : ℕ) (has : HasHeight program labels.entry pc h) where
  reads_by : (k : NodeKind) (v : Place) → Reads program labels.entry k v → k ≡ Instr pc → Contains (reads_of operation h) v
  reads_by k v (by_instr p to height o w at high among) is =
      let same : p ≡ pc = ap pc_or_zero is in
      let o_same = (some_pair_parts o operation to next (sym at ∙ ap (operation_at program labels.entry) same ∙ found)).0 in
      let h_same = heights_same program labels.entry pc height h (subst (λ q. HasHeight program labels.entry q height) same high) has in
      subst (λ x. Contains (reads_of operation x) w) h_same (subst (λ x. Contains (reads_of x height) w) o_same among)

  writes_by : (k : NodeKind) (v : Place) → Writes program labels.entry k v → k ≡ Instr pc → Contains (writes_of operation h) v
  writes_by k v (by_instr p to height o w at high among) is =
      let same : p ≡ pc = ap pc_or_zero is in
      let o_same = (some_pair_parts o operation to next (sym at ∙ ap (operation_at program labels.entry) same ∙ found)).0 in
      let h_same = heights_same program labels.entry pc height h (subst (λ q. HasHeight program labels.entry q height) same high) has in
      subst (λ x. Contains (writes_of operation x) w) h_same (subst (λ x. Contains (writes_of x height) w) o_same among)
  writes_by k v (by_result p height arguments w high counts results place) is = (let no : ⊥ = cc in absurd no)

  pub instr_reads : (v : Place) → Reads program labels.entry (Instr pc) v → Contains (reads_of operation h) v
  instr_reads v r = reads_by (Instr pc) v r refl

  pub instr_writes : (v : Place) → Writes program labels.entry (Instr pc) v → Contains (writes_of operation h) v
  instr_writes v w = writes_by (Instr pc) v w refl

module _ (program : Program) (labels : Labels) (code : Code) (typed : IsTypedCode program labels.entry code) (pc next : ℕ) (operation : Operation) (found : operation_at program labels.entry pc ≡ Some (operation, next))
    (h : ℕ) (has : HasHeight program labels.entry pc h) (nodes : List NodeName) (edges : List Edge) (results : List SourceResult) (definitions : Definitions) (built : IsBuilt program labels pc nodes edges results)
    (defined : IsDefined program labels (node_at program labels.entry pc) nodes definitions) (instr : node_at program labels.entry pc ≡ Instr pc) (flow : IsFlowNode program labels.entry (Instr pc)) where
  pub instr_built : IsBuilt program labels (pc + 1) (nodes ++ name_of labels.entry (Instr pc) None ∷ [])
      (edges ++ control_edges (length nodes) ++ uses_edges definitions (reads_of operation h) (length nodes) ++ out_edges operation (length nodes)) results
  instr_built =
      let j = length nodes in
      let name = name_of labels.entry (Instr pc) None in
      let more = nodes ++ name ∷ [] in
      let c = control_edges j in
      let u = uses_edges definitions (reads_of operation h) j in
      let o = out_edges operation j in
      let all = edges ++ c ++ u ++ o in
      let stay = stay-push nodes name in
      let at : node_in more j ≡ Some (node (root labels) (Instr pc)) = node-push nodes name in
      let first = stay 0 (node (root labels) Entry) built.first in
      let third = stay 2 (node (root labels) Kind) built.third in
      let in_old = λ (e : Edge) (is : Contains edges e). Contains-append_left (edges ++ c ++ u) o e (Contains-append_left (edges ++ c) u e (Contains-append_left edges c e is)) in
      let no = λ (call : node_at program labels.entry pc ≡ Call pc). no_call program labels code typed pc pc refl instr call in
      let cover : CoversEdges program labels pc more all = record {
        uses = λ d v flows r reads.
            let was = defined.each v d flows (subst (λ k. FlowReaches program labels.entry v d k) (sym instr) r) in (
              was.0,
              j,
              stay was.0 (node (root labels) d) was.2,
              at,
              Contains-append_left (edges ++ c ++ u) o (edge was.0 Data j) (Contains-append_right (edges ++ c) u (edge was.0 Data j)
                  (uses_there definitions j was.0 v (reads_of operation h) (instr_reads program labels pc next operation found h has v reads) was.1)),
            );
        passes = λ d v k flows r place. absurd (no (call_line program labels code typed pc (reaches_flow program labels.entry v d (Call pc) flows r)));
        shows = λ v flows sink place. absurd (no (call_line program labels code typed pc flows));
        controls = λ n flows here.
            subst (λ k. HasEdge more all (node (root labels) Entry) Control (node (root labels) k)) (sym (kind_at_instr program labels code typed pc instr n (flow_kind program labels code typed n flows) here))
            (0, j, first, at, Contains-append_left (edges ++ c ++ u) o (edge 0 Control j) (Contains-append_left (edges ++ c) u (edge 0 Control j) (Contains-append_right edges c (edge 0 Control j) (contains_first (edge 0 Control j) []))));
        ends = λ to flows returns.
            let is = (some_pair_parts operation Return next to (sym found ∙ returns)).0 in
            (j, 2, at, third, Contains-append_right (edges ++ c ++ u) o (edge j Out 2) (subst (λ x. Contains (out_edges x j) (edge j Out 2)) (sym is) (contains_first (edge j Out 2) [])));
        inputs = λ source y mine other low. absurd (no (return_line program labels code typed pc (cursor_flow program labels source (node (root labels) (RetVal pc)) mine)));
      } in
      record {
        nodes_right = nodes-weaker program labels (3 * pc + 5 + 1) (5 + 3 * (pc + 1)) more
            (nodes-push program labels (5 + 3 * pc) nodes name built.nodes_right (of_flow (root labels) (Instr pc) at_entry flow) (omega arith) refl) (omega arith);
        few = (let l = length_push nodes name in let f = built.few in omega arith);
        each_node = each_node-more program labels code typed pc nodes more stay built.each_node (λ k is here. (j, at ∙ ap (λ x. Some (node (root labels) x)) (sym (kind_at_instr program labels code typed pc instr k is here))));
        first = first;
        third = third;
        only_edges = λ e is. elim (Contains-append_cases (edges ++ c ++ u) o e is) [
          | inl x ↦ elim (Contains-append_cases (edges ++ c) u e x) [
            | inl y ↦ elim (Contains-append_cases edges c e y) [
              | inl was ↦ edge_of-more program labels nodes more e stay (built.only_edges e was)
              | inr control ↦ control_right program labels more j (Instr pc) flow (λ z. cc) (λ z. cc) first at e control
            ]
            | inr used_here ↦ uses_right program labels more definitions j (reads_of operation h) (λ v d among def.
                let was = defined.right v d def in (
                  node (root labels) was.0,
                  node (root labels) (Instr pc),
                  stay d (node (root labels) was.0) was.3,
                  at,
                  used (root labels) was.0 (Instr pc) v at_entry was.1 (subst (λ k. FlowReaches program labels.entry v was.0 k) instr was.2) (by_instr pc next h operation v found has among),
                )) e used_here
          ]
          | inr out ↦ out_right program labels pc next j operation found more flow at third e out
        ];
        each_edge = each_edge-more program labels pc more all cover nodes edges stay in_old built.each_edge;
        results_right = λ r is. (let was = built.results_right r is in (was.0, stay r.node was.0 was.1, was.2));
        each_result = λ source n mine low. elim (cases_eq (position n.kind) (pc + 1)) [
          | inl here ↦ absurd (no (return_line program labels code typed pc (cursor_flow program labels source (node (root labels) (RetVal pc)) (subst (λ x. UsesCursor program labels source x) (cursor_here program labels pc more all cover source n mine here) mine))))
          | inr other ↦ (let was = built.each_result source n mine (omega arith) in (was.0, stay was.0 n was.1, was.2))
        ];
      }
