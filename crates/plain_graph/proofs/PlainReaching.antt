-- Reaching definitions, control and the nodes of the dependence graph in plain code.
use Rattle.std.proofs.Common.{true, ◌≡◌, ◌≢◌, ◌⊎◌, inl, inr, ℕ, ◌+◌, ◌≤◌, cond, [], Option, Some, None, refl, sym, ap, subst, ◌∙◌, arith}
use Rattle.std.proofs.lemmas.Bool.{false≢true, cond-true}
use Rattle.jo_prog.specs.declared.operations.Operation.{Operation}
use Rattle.jo_prog.specs.declared.operations.Operation.TheVariants.{Constant, Load, Store, Add, Subtract, InvokeStatic, Return, Other}
use Rattle.jo_prog.specs.declared.program.Program.{Program}
use Rattle.jo_prog.specs.declared.program.Code.{Code}
use Rattle.jo_prog.specs.declared.labels.Labels.{Labels}
use Rattle.jo_prog.specs.Program.{method_at, operation_at}
use Rattle.jo_prog.specs.Constants.{takes_arguments}
use Rattle.jo_prog.specs.Typing.{Shape, Arrives, IsTypedCode}
use Rattle.jo_prog.proofs.Decoding.{operation_at-next}
use Rattle.dependence.specs.declared.flow.Place.{Place}
use Rattle.dep_nodes.specs.declared.kinds.NodeKind.{NodeKind}
use Rattle.dep_nodes.specs.declared.kinds.NodeKind.TheVariants.{Entry, Exit, Instr, Call, RetVal, RetKind, Throw, Catch, Poll, XPoll, Arg, Param, Kind, Value, Thrown}
use Rattle.dep_nodes.specs.declared.kinds.EdgeKind.{EdgeKind}
use Rattle.jo_ids.specs.Path.{stays, goes}
use Rattle.jo_ids.proofs.PathLemmas.{path_on}
use Rattle.dependence.specs.Flow.{node_of, node_at, falls_through, FlowEdge, begins, skips, falls, leaves, calls, arrives, IsFlowNode, Writes, ArgumentPlace, FlowPath, FlowReaches, FlowControls}
use Rattle.dependence.specs.Dependence.{one, more}
use Rattle.dep_nodes.specs.Nodes.{Instance, Node, node}
use Rattle.dependence.specs.Graph.{at_entry, IsNode, of_flow, of_argument, of_kind, of_thrown, of_parameter, UsesCursor, at_result, DependenceEdge, used, passed, shown, controlled, ended, next_input}
use Rattle.plain_graph.proofs.PlainLine.{pc_or_zero, node_at_step, out_of, LineAt, flow_line, flow_on, reaches_flow, IsBehind, predecessor}

-- ---- places on the line

-- one more than the pc, or 0 for a node without one
abbrev pub position : NodeKind → ℕ
position (Instr p) = p + 1
position (Call p) = p + 1
position (RetVal p) = p + 1
position (Arg p a) = p + 1
position _ = 0

position_of : (pc : ℕ) (o : Option (Operation × ℕ)) → position (node_of pc o) ≡ pc + 1
position_of pc None = refl
position_of pc (Some (Constant z, next)) = refl
position_of pc (Some (Load k, next)) = refl
position_of pc (Some (Store k, next)) = refl
position_of pc (Some (Add, next)) = refl
position_of pc (Some (Subtract, next)) = refl
position_of pc (Some (InvokeStatic k, next)) = refl
position_of pc (Some (Return, next)) = refl
position_of pc (Some (Other, next)) = refl

pub position_at : (program : Program) (m pc : ℕ) (n : NodeKind) → node_at program m pc ≡ n → position n ≡ pc + 1
position_at program m pc n e = subst (λ k. position k ≡ pc + 1) e (position_of pc (operation_at program m pc))

no_way_out : (program : Program) (m : ℕ) (n : NodeKind) → FlowEdge program m Exit n → ⊥
no_way_out program m n e = elim e [ ]

pub no_write_at_call : (program : Program) (m p : ℕ) (v : Place) → Writes program m (Call p) v → ⊥
no_write_at_call program m p v w = elim w [ ]

-- ---- control flows up

flow_up : (program : Program) (m : ℕ) (x n : NodeKind) → FlowEdge program m x n → (n ≡ Exit) ⊎ (position x ≤ position n)
flow_up program m x n (begins y e) = inr (omega arith)
flow_up program m x n skips = inl refl
flow_up program m x n (falls p next operation y found through e) = let rises = operation_at-next program m p next operation found in inr (omega (arith, position_at program m next y e))
flow_up program m x n (leaves p next found) = inl refl
flow_up program m x n (calls p next k found native) = inr (omega arith)
flow_up program m x n (arrives p next k y found native e) = let rises = operation_at-next program m p next (InvokeStatic k) found in inr (omega (arith, position_at program m next y e))

pub reaches_up : (program : Program) (m : ℕ) (v : Place) (d n : NodeKind) → FlowReaches program m v d n → (n ≡ Exit) ⊎ (position d ≤ position n)
reaches_up program m v d n (one y e w) = flow_up program m d y e
reaches_up program m v d n (more x y r not e) =
    elim (reaches_up program m v d x r) [
      | inl is ↦ absurd (no_way_out program m y (subst (λ k. FlowEdge program m k y) is e))
      | inr first ↦ elim (flow_up program m x y e) [ inl is ↦ inl is | inr second ↦ inr (omega arith) ]
    ]

-- ---- definitions that reach a result are those that reach its call

into_return : (program : Program) (m p : ℕ) (x n : NodeKind) → FlowEdge program m x n → n ≡ RetVal p → x ≡ Call p
into_return program m p x n (begins y e) is = absurd (false≢true (node_at_step program m 0 (RetVal p) (e ∙ is)))
into_return program m p x n skips is = cc
into_return program m p x n (falls q next operation y found through e) is = absurd (false≢true (node_at_step program m next (RetVal p) (e ∙ is)))
into_return program m p x n (leaves q next found) is = cc
into_return program m p x n (calls q next k found native) is = ap (λ k. Call (pc_or_zero k)) is
into_return program m p x n (arrives q next k y found native e) is = absurd (false≢true (node_at_step program m next (RetVal p) (e ∙ is)))

reaches_return : (program : Program) (m p : ℕ) (v : Place) (d n : NodeKind) → FlowReaches program m v d n → n ≡ RetVal p → FlowReaches program m v d (Call p)
reaches_return program m p v d n (one y e w) is =
    absurd (no_write_at_call program m p v (subst (λ k. Writes program m k v) (into_return program m p d y e is) w))
reaches_return program m p v d n (more x y r not e) is = subst (λ k. FlowReaches program m v d k) (into_return program m p x y e is) r

reaches_out : (program : Program) (m : ℕ) (v : Place) (d k : NodeKind) → FlowReaches program m v d (out_of k) → FlowReaches program m v d k
reaches_out program m v d Entry r = r
reaches_out program m v d Exit r = r
reaches_out program m v d (Instr p) r = r
reaches_out program m v d (Call p) r = reaches_return program m p v d (RetVal p) r refl
reaches_out program m v d (RetVal p) r = r
reaches_out program m v d (RetKind p) r = r
reaches_out program m v d (Throw p) r = r
reaches_out program m v d (Catch p) r = r
reaches_out program m v d (Poll p t) r = r
reaches_out program m v d (XPoll p row) r = r
reaches_out program m v d (Arg p a) r = r
reaches_out program m v d (Param a) r = r
reaches_out program m v d Kind r = r
reaches_out program m v d Value r = r
reaches_out program m v d Thrown r = r

module _ (program : Program) (m : ℕ) (code : Code) (typed : IsTypedCode program m code) (pc next : ℕ) (operation : Operation) (found : operation_at program m pc ≡ Some (operation, next)) (behind : IsBehind program m code pc) where
  reaches_by : (v : Place) (d n : NodeKind) → FlowReaches program m v d n → n ≡ node_at program m next → IsFlowNode program m d
      → ((d ≡ out_of (node_at program m pc)) × Writes program m d v) ⊎ (FlowReaches program m v d (node_at program m pc) × (Writes program m (out_of (node_at program m pc)) v → ⊥))
  reaches_by v d n (one y e w) is flow =
      inl (predecessor program m code typed pc next operation found behind d flow (subst (λ k. FlowEdge program m d k) is e), w)
  reaches_by v d n (more x y r not e) is flow =
      let same = predecessor program m code typed pc next operation found behind x (reaches_flow program m v d x flow r) (subst (λ k. FlowEdge program m x k) is e) in
      inr (reaches_out program m v d (node_at program m pc) (subst (λ k. FlowReaches program m v d k) same r), subst (λ k. Writes program m k v → ⊥) same not)

  -- a definition that reaches the next node stands at this pc, or it reaches this pc and is not written over here
  pub reaches_next : (v : Place) (d : NodeKind) → IsFlowNode program m d → FlowReaches program m v d (node_at program m next)
      → ((d ≡ out_of (node_at program m pc)) × Writes program m d v) ⊎ (FlowReaches program m v d (node_at program m pc) × (Writes program m (out_of (node_at program m pc)) v → ⊥))
  reaches_next v d flow r = reaches_by v d (node_at program m next) r refl flow

-- ---- control

-- the one node to which control goes on
abbrev after_found : Program → ℕ → Option (Operation × ℕ) → NodeKind
after_found program m None = Exit
after_found program m (Some (operation, next)) = cond (falls_through operation) (node_at program m next) Exit

abbrev after_call : Program → ℕ → Option (Operation × ℕ) → NodeKind
after_call program m None = Exit
after_call program m (Some (operation, next)) = node_at program m next

abbrev successor : Program → ℕ → NodeKind → NodeKind
successor program m (Instr p) = after_found program m (operation_at program m p)
successor program m (Call p) = RetVal p
successor program m (RetVal p) = after_call program m (operation_at program m p)
successor program m _ = Exit

edge_successor : (program : Program) (m : ℕ) (b x : NodeKind) → FlowEdge program m b x → (b ≡ Entry) ⊎ (x ≡ successor program m b)
edge_successor program m b x (begins y e) = inl refl
edge_successor program m b x skips = inl refl
edge_successor program m b x (falls p next operation y found through e) =
    inr (sym e ∙ sym (ap (after_found program m) found ∙ cond-true (falls_through operation) (node_at program m next) Exit through))
edge_successor program m b x (leaves p next found) = inr (sym (ap (after_found program m) found))
edge_successor program m b x (calls p next k found native) = inr refl
edge_successor program m b x (arrives p next k y found native e) = inr (sym e ∙ sym (ap (after_call program m) found))

-- Entry alone has two successors
pub controls_entry : (program : Program) (m : ℕ) (b n : NodeKind) → FlowControls program m b n → b ≡ Entry
controls_entry program m b n c =
    elim (edge_successor program m b c.one c.to_one) [
      | inl is ↦ is
      | inr first ↦ elim (edge_successor program m b c.other c.to_other) [ inl is ↦ is | inr second ↦ absurd (c.differ (first ∙ sym second)) ]
    ]

entry_edge : (program : Program) (m : ℕ) (a b : NodeKind) → FlowEdge program m a b → a ≡ Entry → (b ≡ node_at program m 0) ⊎ (b ≡ Exit)
entry_edge program m a b (begins y e) is = inl (sym e)
entry_edge program m a b skips is = inr refl
entry_edge program m a b (falls p next operation y found through e) is = cc
entry_edge program m a b (leaves p next found) is = inr refl
entry_edge program m a b (calls p next k found native) is = cc
entry_edge program m a b (arrives p next k y found native e) is = cc

exit_path : (program : Program) (m : ℕ) (a b : NodeKind) → FlowPath program m a b → a ≡ Exit → b ≡ Exit
exit_path program m a b (stays n) is = is
exit_path program m a b (goes x y z e path) is = absurd (no_way_out program m y (subst (λ k. FlowEdge program m k y) is e))

from_entry : (program : Program) (m : ℕ) (a b : NodeKind) → FlowPath program m a b → a ≡ Entry → (b ≡ Entry) ⊎ ((b ≡ Exit) ⊎ FlowPath program m (node_at program m 0) b)
from_entry program m a b (stays n) is = inl is
from_entry program m a b (goes x y z e path) is =
    elim (entry_edge program m x y e is) [
      | inl begun ↦ inr (inr (subst (λ k. FlowPath program m k z) begun path))
      | inr out ↦ inr (inl (exit_path program m y z path out))
    ]

-- Entry controls each flow node but itself and Exit
pub entry_controls : (program : Program) (m : ℕ) (n : NodeKind) → IsFlowNode program m n → n ≢ Entry → n ≢ Exit → FlowControls program m Entry n
entry_controls program m n flow no_entry no_exit =
    elim (from_entry program m Entry n flow refl) [
      | inl is ↦ absurd (no_entry is)
      | inr rest ↦ elim rest [
        | inl is ↦ absurd (no_exit is)
        | inr path ↦ record {
          one = node_at program m 0;
          other = Exit;
          to_one = begins (node_at program m 0) refl;
          to_other = skips;
          differ = λ is. false≢true (node_at_step program m 0 Exit is);
          first = node_at program m 0;
          leads = begins (node_at program m 0) refl;
          path = path;
          no_exit = no_exit;
        }
      ]
    ]

-- ---- nodes

abbrev pub root : Labels → Instance
root labels = record { method = labels.entry; context = [] }

pub controlled_flow : (program : Program) (m : ℕ) (b n : NodeKind) → IsFlowNode program m b → FlowControls program m b n → IsFlowNode program m n
controlled_flow program m b n flow c = path_on (flow_on program m Entry b c.first flow c.leads) c.path

cursor_node : (program : Program) (labels : Labels) (source : ℕ) (a : Node) → UsesCursor program labels source a → IsNode program labels a
cursor_node program labels source a (at_result i p s reached flow callee is) = of_flow i (RetVal p) reached flow

-- the ends of an edge are nodes
pub edge_from : (program : Program) (labels : Labels) (a b : Node) (kind : EdgeKind) → DependenceEdge program labels a kind b → IsNode program labels a
edge_from program labels a b kind (used i d n v reached flow reaches reads) = of_flow i d reached flow
edge_from program labels a b kind (passed i d p k v reached flow reaches place) = of_flow i d reached flow
edge_from program labels a b kind (shown i p v reached flow sink place) = of_argument i p 0 v reached flow place
edge_from program labels a b kind (controlled i d n reached flow controls) = of_flow i d reached flow
edge_from program labels a b kind (ended i p next reached flow found) = of_flow i (Instr p) reached flow
edge_from program labels a b kind (next_input source x y first second) = cursor_node program labels source x first

pub edge_to : (program : Program) (labels : Labels) (a b : Node) (kind : EdgeKind) → DependenceEdge program labels a kind b → IsNode program labels b
edge_to program labels a b kind (used i d n v reached flow reaches reads) = of_flow i n reached (reaches_flow program i.method v d n flow reaches)
edge_to program labels a b kind (passed i d p k v reached flow reaches place) = of_argument i p k v reached (reaches_flow program i.method v d (Call p) flow reaches) place
edge_to program labels a b kind (shown i p v reached flow sink place) = of_flow i (Call p) reached flow
edge_to program labels a b kind (controlled i d n reached flow controls) = of_flow i n reached (controlled_flow program i.method d n flow controls)
edge_to program labels a b kind (ended i p next reached flow found) = of_kind i reached
edge_to program labels a b kind (next_input source x y first second) = cursor_node program labels source y second

-- what is known of a node of the graph by its kind
abbrev pub IsKindOf : Program → ℕ → NodeKind → Type 0
IsKindOf program m (Arg p a) = IsFlowNode program m (Call p) × ((v : Place) × ArgumentPlace program m p a v)
IsKindOf program m (Param a) = (a ≡ 0) × (takes_arguments (method_at program m) ≡ true)
IsKindOf program m Kind = Unit {0}
IsKindOf program m Thrown = Unit {0}
IsKindOf program m k = IsFlowNode program m k

-- a position on the line is one more than a pc at which a path arrives
abbrev pub IsPlaced : Program → ℕ → Code → NodeKind → Type 0
IsPlaced program m code k = (position k ≡ 0) ⊎ ((p : ℕ) × (s : Shape) × Arrives program m code p s × (position k ≡ p + 1))

module _ (program : Program) (labels : Labels) (code : Code) (typed : IsTypedCode program labels.entry code) where
  line_kind : (k : NodeKind) → IsFlowNode program labels.entry k → LineAt program labels.entry code k → IsKindOf program labels.entry k
  line_kind Entry flow line = flow
  line_kind Exit flow line = flow
  line_kind (Instr p) flow line = flow
  line_kind (Call p) flow line = flow
  line_kind (RetVal p) flow line = flow
  line_kind (RetKind p) flow line = flow
  line_kind (Throw p) flow line = flow
  line_kind (Catch p) flow line = flow
  line_kind (Poll p t) flow line = flow
  line_kind (XPoll p r) flow line = flow
  line_kind (Arg p a) flow line = absurd line
  line_kind (Param a) flow line = absurd line
  line_kind Kind flow line = tt
  line_kind Value flow line = flow
  line_kind Thrown flow line = tt

  line_placed : (k : NodeKind) → LineAt program labels.entry code k → IsPlaced program labels.entry code k
  line_placed Entry line = inl refl
  line_placed Exit line = inl refl
  line_placed (Instr p) line = inr (p, line.0, line.1, refl)
  line_placed (Call p) line = inr (p, line.0, line.1, refl)
  line_placed (RetVal p) line = inr (p, line.0, line.1, refl)
  line_placed (RetKind p) line = absurd line
  line_placed (Throw p) line = absurd line
  line_placed (Catch p) line = absurd line
  line_placed (Poll p t) line = absurd line
  line_placed (XPoll p r) line = absurd line
  line_placed (Arg p a) line = absurd line
  line_placed (Param a) line = absurd line
  line_placed Kind line = absurd line
  line_placed Value line = absurd line
  line_placed Thrown line = absurd line

  pub flow_placed : (k : NodeKind) → IsFlowNode program labels.entry k → IsPlaced program labels.entry code k
  flow_placed k flow = line_placed k (flow_line program labels.entry code typed k flow)

  pub node_kind : (n : Node) → IsNode program labels n → (n ≡ node (root labels) n.kind) × IsKindOf program labels.entry n.kind
  node_kind n (of_flow i k at_entry flow) = (refl, line_kind k flow (flow_line program labels.entry code typed k flow))
  node_kind n (of_argument i p a v at_entry flow place) = (refl, (flow, (v, place)))
  node_kind n (of_kind i at_entry) = (refl, tt)
  node_kind n (of_thrown i at_entry) = (refl, tt)
  node_kind n (of_parameter i at_entry takes) = (refl, (refl, takes))

  pub node_placed : (n : Node) → IsNode program labels n → IsPlaced program labels.entry code n.kind
  node_placed n (of_flow i k at_entry flow) = flow_placed k flow
  node_placed n (of_argument i p a v at_entry flow place) = flow_placed (Call p) flow
  node_placed n (of_kind i at_entry) = inl refl
  node_placed n (of_thrown i at_entry) = inl refl
  node_placed n (of_parameter i at_entry takes) = inl refl
