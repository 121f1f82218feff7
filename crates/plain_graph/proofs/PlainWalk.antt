-- The walk over plain code, from its start to its return.
use Rattle.std.proofs.Common.{◌≡◌, ◌≢◌, ◌⊎◌, inl, inr, ℕ, ◌+◌, ◌*◌, ◌-◌, ◌^◌, ◌<◌, ◌≤◌, Bool, true, false, List, [], ◌∷◌, ◌++◌, length, replicate, get_or, Option, Some, None, Contains, refl, sym, ap, subst, ◌∙◌, arith}
use Rattle.std.specs.List.{AllByRecursion}
use Rattle.std.proofs.lemmas.Bool.{cases_lt, cases_Bool, false≢true, true≢false}
use Rattle.std.proofs.lemmas.Option.{none-some}
use Rattle.std.specs.Prelude.{if◌then◌else◌}
use Rattle.std.proofs.lemmas.List.{append-nil, length-replicate, get_or-replicate, get_or_past, length_push}
use Rattle.jo_prog.specs.declared.operations.Operation.{Operation}
use Rattle.jo_prog.specs.declared.operations.Operation.TheVariants.{Constant, Load, Store, Add, Subtract, InvokeStatic, Return, Other}
use Rattle.jo_prog.specs.declared.program.Program.{Program}
use Rattle.jo_prog.specs.declared.program.Code.{Code}
use Rattle.jo_prog.specs.declared.labels.Labels.{Labels}
use Rattle.jo_prog.specs.Labels.{label_of}
use Rattle.jo_prog.specs.Program.{method_at, code_at, operation_at, callee_at}
use Rattle.jo_prog.specs.Constants.{takes_arguments}
use Rattle.jo_prog.specs.PlainCode.{IsLabelledNative, goes_on, IsPlainFrom, IsPlainProgram}
use Rattle.jo_prog.specs.Typing.{Shape, shape_after, shape_at_start, Arrives, at_start, IsTypedCode, HasHeight}
use Rattle.jo_prog.proofs.Decoding.{operation_at-next}
use Rattle.jo_prog.proofs.PlainPaths.{plain-on, plain-some}
use Rattle.dependence.specs.declared.flow.Place.{Place}
use Rattle.dependence.specs.declared.flow.Place.TheVariants.{Local, Stack, Pending}
use Rattle.dep_nodes.specs.declared.kinds.NodeKind.{NodeKind}
use Rattle.dep_nodes.specs.declared.kinds.NodeKind.TheVariants.{Entry, Exit, Instr, Call, RetVal, RetKind, Throw, Catch, Poll, XPoll, Arg, Param, Kind, Value, Thrown}
use Rattle.dep_nodes.specs.declared.kinds.EdgeKind.{EdgeKind}
use Rattle.dep_nodes.specs.declared.graphs.NodeName.{NodeName}
use Rattle.dep_nodes.specs.declared.graphs.Edge.{Edge}
use Rattle.plain_graph.specs.declared.sdg.Definitions.{Definitions}
use Rattle.plain_graph.specs.declared.sdg.SourceResult.{SourceResult}
use Rattle.plain_graph.specs.declared.sdg.Builder.{Builder}
use Rattle.jo_ids.specs.Path.{stays, goes}
use Rattle.dependence.specs.Flow.{node_of, node_at, falls_through, FlowEdge, begins, skips, falls, leaves, calls, arrives, IsFlowNode, writes_of, Reads, Writes, by_instr, by_result, FlowPath, FlowReaches}
use Rattle.dependence.specs.Dependence.{one, more}
use Rattle.dep_nodes.specs.Nodes.{Node, node}
use Rattle.dependence.specs.Graph.{at_entry, IsNode, of_flow, of_kind, of_thrown, of_parameter, is_source, is_sink, UsesCursor, at_result, DependenceEdge, used, passed, shown, controlled, ended, next_input}
use Rattle.dependence.specs.GraphData.{IsDependenceGraph}
use Rattle.plain_graph.specs.Building.{definition_of, HasPlace, name_of, start_nodes, IsStart, is_call, is_return, height_after, AddsInstruction, AddsSource, AddsSink}
use Rattle.plain_graph.proofs.PlainLine.{node_at_one, node_at_step, out_of, flow_line, flow_on, IsBehind, between, behind_next}
use Rattle.plain_graph.proofs.PlainReaching.{position, no_write_at_call, root, IsKindOf, node_kind, node_placed, edge_from, edge_to, controlled_flow}
use Rattle.plain_graph.proofs.NodeLists.{contains_one, contains_none, contains_first, node_in, NodesStay, stay-push, node-push, AreNodes, nodes-none, nodes-push, nodes-weaker}
use Rattle.plain_graph.proofs.PlainSteps.{IsBuilt, IsDefined, defined_next, instr_writes, instr_built}
use Rattle.plain_graph.proofs.PlainCalls.{source_built, sink_built, result_place}
use Rattle.plain_graph.proofs.PlainTyping.{goes_on_from, height_by, height_by_call, places_by, arrival_locals, source_call, sink_call, plain_callee}

-- ---- operations

node_instr : (pc next : ℕ) (operation : Operation) → is_call operation ≡ false → node_of pc (Some (operation, next)) ≡ Instr pc
node_instr pc next (Constant z) plain = refl
node_instr pc next (Load k) plain = refl
node_instr pc next (Store k) plain = refl
node_instr pc next Add plain = refl
node_instr pc next Subtract plain = refl
node_instr pc next (InvokeStatic k) plain = absurd (true≢false plain)
node_instr pc next Return plain = refl
node_instr pc next Other plain = refl

call_index : (operation : Operation) → is_call operation ≡ true → (k : ℕ) × (operation ≡ InvokeStatic k)
call_index (Constant z) is = absurd (false≢true is)
call_index (Load k) is = absurd (false≢true is)
call_index (Store k) is = absurd (false≢true is)
call_index Add is = absurd (false≢true is)
call_index Subtract is = absurd (false≢true is)
call_index (InvokeStatic k) is = (k, refl)
call_index Return is = absurd (false≢true is)
call_index Other is = absurd (false≢true is)

pub return_is : (operation : Operation) → is_return operation ≡ true → operation ≡ Return
return_is (Constant z) is = absurd (false≢true is)
return_is (Load k) is = absurd (false≢true is)
return_is (Store k) is = absurd (false≢true is)
return_is Add is = absurd (false≢true is)
return_is Subtract is = absurd (false≢true is)
return_is (InvokeStatic k) is = absurd (false≢true is)
return_is Return is = refl
return_is Other is = absurd (false≢true is)

pub call_no_return : (operation : Operation) → is_call operation ≡ true → operation ≡ Return → ⊥
call_no_return operation is same = true≢false (sym is ∙ ap is_call same)

pub no_return_from : (operation : Operation) → is_return operation ≡ false → operation ≡ Return → ⊥
no_return_from operation is same = true≢false (ap is_return (sym same) ∙ is)

falls_by : (labels : Labels) (callee : Option ℕ) (operation : Operation) → goes_on labels callee operation ≡ true → is_call operation ≡ false → falls_through operation ≡ true
falls_by labels callee (Constant z) on plain = refl
falls_by labels callee (Load k) on plain = refl
falls_by labels callee (Store k) on plain = refl
falls_by labels callee Add on plain = refl
falls_by labels callee Subtract on plain = refl
falls_by labels callee (InvokeStatic k) on plain = absurd (true≢false plain)
falls_by labels callee Return on plain = absurd (false≢true on)
falls_by labels callee Other on plain = absurd (false≢true on)

-- ---- the start

into_entry : (program : Program) (m : ℕ) (x n : NodeKind) → FlowEdge program m x n → n ≡ Entry → ⊥
into_entry program m x n (begins y e) is = false≢true (node_at_step program m 0 Entry (e ∙ is))
into_entry program m x n skips is = cc
into_entry program m x n (falls p next operation y found through e) is = false≢true (node_at_step program m next Entry (e ∙ is))
into_entry program m x n (leaves p next found) is = cc
into_entry program m x n (calls p next k found native) is = cc
into_entry program m x n (arrives p next k y found native e) is = false≢true (node_at_step program m next Entry (e ∙ is))

path_to_entry : (program : Program) (m : ℕ) (a b : NodeKind) → FlowPath program m a b → b ≡ Entry → a ≡ Entry
path_to_entry program m a b (stays n) is = is
path_to_entry program m a b (goes x y z e path) is = absurd (into_entry program m x y e (path_to_entry program m y z path is))

-- nothing but Entry leads to the first instruction
into_start : (program : Program) (m : ℕ) (x n : NodeKind) → FlowEdge program m x n → n ≡ node_at program m 0 → x ≡ Entry
into_start program m x n (begins y e) is = refl
into_start program m x n skips is = refl
into_start program m x n (falls p next operation y found through e) is =
    let up = operation_at-next program m p next operation found in let zero_next : next ≡ 0 = node_at_one program m next 0 (e ∙ is) in absurd (omega arith)
into_start program m x n (leaves p next found) is = absurd (false≢true (node_at_step program m 0 Exit (sym is)))
into_start program m x n (calls p next k found native) is = absurd (false≢true (node_at_step program m 0 (RetVal p) (sym is)))
into_start program m x n (arrives p next k y found native e) is =
    let up = operation_at-next program m p next (InvokeStatic k) found in let zero_next : next ≡ 0 = node_at_one program m next 0 (e ∙ is) in absurd (omega arith)

no_write_at_entry : (program : Program) (m : ℕ) (v : Place) → Writes program m Entry v → ⊥
no_write_at_entry program m v w = elim w [ ]

reaches_entry : (program : Program) (m : ℕ) (v : Place) (d n : NodeKind) → FlowReaches program m v d n → n ≡ Entry → ⊥
reaches_entry program m v d n (one y e w) is = into_entry program m d y e is
reaches_entry program m v d n (more x y r not e) is = into_entry program m x y e is

reaches_start : (program : Program) (m : ℕ) (v : Place) (d n : NodeKind) → FlowReaches program m v d n → n ≡ node_at program m 0 → ⊥
reaches_start program m v d n (one y e w) is = no_write_at_entry program m v (subst (λ k. Writes program m k v) (into_start program m d y e is) w)
reaches_start program m v d n (more x y r not e) is = reaches_entry program m v d x r (into_start program m x y e is)

module _ (program : Program) (labels : Labels) (code : Code) (typed : IsTypedCode program labels.entry code) where
  start_node : (k : NodeKind) → IsKindOf program labels.entry k → position k ≤ 0 → (j : ℕ) × (node_in (start_nodes (takes_arguments (method_at program labels.entry)) labels.entry) j ≡ Some (node (root labels) k))
  start_node Entry is low = (0, refl)
  start_node Exit is low = (1, refl)
  start_node (Instr p) is low = absurd (omega arith)
  start_node (Call p) is low = absurd (omega arith)
  start_node (RetVal p) is low = absurd (omega arith)
  start_node (RetKind p) is low = absurd (flow_line program labels.entry code typed (RetKind p) is)
  start_node (Throw p) is low = absurd (flow_line program labels.entry code typed (Throw p) is)
  start_node (Catch p) is low = absurd (flow_line program labels.entry code typed (Catch p) is)
  start_node (Poll p t) is low = absurd (flow_line program labels.entry code typed (Poll p t) is)
  start_node (XPoll p row) is low = absurd (flow_line program labels.entry code typed (XPoll p row) is)
  start_node (Arg p a) is low = absurd (omega arith)
  start_node (Param a) is low = (4, rw (is.0, is.1) refl)
  start_node Kind is low = (2, refl)
  start_node Value is low = absurd (flow_line program labels.entry code typed Value is)
  start_node Thrown is low = (3, refl)

  no_control_at_start : (n : NodeKind) → IsKindOf program labels.entry n → position n ≤ 0 → n ≢ Entry → n ≢ Exit → IsFlowNode program labels.entry n → ⊥
  no_control_at_start Entry is low no_entry no_exit flow = no_entry refl
  no_control_at_start Exit is low no_entry no_exit flow = no_exit refl
  no_control_at_start (Instr p) is low no_entry no_exit flow = (let no : ⊥ = omega arith in no)
  no_control_at_start (Call p) is low no_entry no_exit flow = (let no : ⊥ = omega arith in no)
  no_control_at_start (RetVal p) is low no_entry no_exit flow = (let no : ⊥ = omega arith in no)
  no_control_at_start (RetKind p) is low no_entry no_exit flow = flow_line program labels.entry code typed (RetKind p) flow
  no_control_at_start (Throw p) is low no_entry no_exit flow = flow_line program labels.entry code typed (Throw p) flow
  no_control_at_start (Catch p) is low no_entry no_exit flow = flow_line program labels.entry code typed (Catch p) flow
  no_control_at_start (Poll p t) is low no_entry no_exit flow = flow_line program labels.entry code typed (Poll p t) flow
  no_control_at_start (XPoll p row) is low no_entry no_exit flow = flow_line program labels.entry code typed (XPoll p row) flow
  no_control_at_start (Arg p a) is low no_entry no_exit flow = (let no : ⊥ = omega arith in no)
  no_control_at_start (Param a) is low no_entry no_exit flow = flow_line program labels.entry code typed (Param a) flow
  no_control_at_start Kind is low no_entry no_exit flow = flow_line program labels.entry code typed Kind flow
  no_control_at_start Value is low no_entry no_exit flow = flow_line program labels.entry code typed Value flow
  no_control_at_start Thrown is low no_entry no_exit flow = flow_line program labels.entry code typed Thrown flow

  no_read_at_start : (n : NodeKind) (v : Place) → Reads program labels.entry n v → position n ≤ 0 → ⊥
  no_read_at_start n v (by_instr p next height operation w found has among) low = (let no : ⊥ = omega arith in no)

  no_cursor_at_start : (source : ℕ) (x : Node) → UsesCursor program labels source x → position x.kind ≤ 0 → ⊥
  no_cursor_at_start source x (at_result i p s at_entry flow callee is) low = (let no : ⊥ = omega arith in no)

  no_edge_at_start : (a b : Node) (kind : EdgeKind) → DependenceEdge program labels a kind b → position a.kind ≤ 0 → position b.kind ≤ 0 → ⊥
  no_edge_at_start a b kind (used i d n v at_entry flow reaches reads) low high = no_read_at_start n v reads high
  no_edge_at_start a b kind (passed i d p k v at_entry flow reaches place) low high = (let no : ⊥ = omega arith in no)
  no_edge_at_start a b kind (shown i p v at_entry flow sink place) low high = (let no : ⊥ = omega arith in no)
  no_edge_at_start a b kind (controlled i d n at_entry flow c) low high =
      let flows = controlled_flow program labels.entry d n flow c in
      no_control_at_start n (node_kind program labels code typed (node (root labels) n) (of_flow (root labels) n at_entry flows)).1 high
      (λ is. into_entry program labels.entry d c.first c.leads (path_to_entry program labels.entry c.first n c.path is)) c.no_exit flows
  no_edge_at_start a b kind (ended i p next at_entry flow found) low high = (let no : ⊥ = omega arith in no)
  no_edge_at_start a b kind (next_input source x y first second) low high = no_cursor_at_start source x first low

  -- with the parameter, or without
  start_right : (has : Bool) → takes_arguments (method_at program labels.entry) ≡ has → (nodes : List NodeName) → AreNodes program labels 4 nodes
      → AreNodes program labels 5 (nodes ++ (if has then name_of labels.entry (Param 0) None ∷ [] else []))
  start_right true takes nodes right = nodes-push program labels 4 nodes (name_of labels.entry (Param 0) None) right (of_parameter (root labels) at_entry takes) (omega arith) refl
  start_right false takes nodes right =
      subst (AreNodes program labels 5) (sym (append-nil nodes)) (nodes-weaker program labels 4 5 nodes right (omega arith))

  start_few : (has : Bool) → length (start_nodes has labels.entry) ≤ 5
  start_few true = omega arith
  start_few false = omega arith

  start_built : IsBuilt program labels 0 (start_nodes (takes_arguments (method_at program labels.entry)) labels.entry) [] []
  start_built =
      let m = labels.entry in
      let entry_flow : IsFlowNode program m Entry = stays Entry in
      let exit_flow : IsFlowNode program m Exit = goes Entry Exit Exit skips (stays Exit) in
      let a = name_of m Entry None in
      let b = name_of m Exit None in
      let c = name_of m Kind None in
      let d = name_of m Thrown None in
      record {
        nodes_right = start_right (takes_arguments (method_at program m)) refl (a ∷ b ∷ c ∷ d ∷ [])
            (nodes-push program labels (2 + 1) (a ∷ b ∷ c ∷ []) d
            (nodes-push program labels (1 + 1) (a ∷ b ∷ []) c
            (nodes-push program labels (0 + 1) (a ∷ []) b
            (nodes-push program labels 0 [] a (nodes-none program labels) (of_flow (root labels) Entry at_entry entry_flow) (omega arith) refl)
            (of_flow (root labels) Exit at_entry exit_flow) (omega arith) refl)
            (of_kind (root labels) at_entry) (omega arith) refl)
            (of_thrown (root labels) at_entry) (omega arith) refl);
        few = start_few (takes_arguments (method_at program m));
        each_node = λ n is low. (let k = node_kind program labels code typed n is in let at = start_node n.kind k.1 low in (at.0, at.1 ∙ ap (λ x. Some x) (sym k.0)));
        first = refl;
        third = refl;
        only_edges = λ e is. absurd (contains_none e is);
        each_edge = λ x y kind is low high. absurd (no_edge_at_start x y kind is low high);
        results_right = λ r is. absurd (contains_none r is);
        each_result = λ source n is low. absurd (no_cursor_at_start source n is low);
      }

none_there : (n k j : ℕ) → get_or (replicate {A = Option ℕ} n None) k None ≡ Some j → ⊥
none_there n k j e = elim (cases_lt k n) [
  | inl within ↦ none-some j (sym (get_or-replicate n k None None within) ∙ e)
  | inr past ↦ none-some j (sym (get_or_past (replicate n None) k None (let l = length-replicate {A = Option ℕ} n None in omega arith)) ∙ e)
]

no_definition : (definitions : Definitions) (n s : ℕ) → definitions.locals.items ≡ replicate n None → definitions.stack.items ≡ replicate s None → (v : Place) (j : ℕ) → definition_of definitions v ≡ Some j → ⊥
no_definition definitions n s locals stack (Local k) j e = none_there n k j (ap (λ t. get_or t k None) (sym locals) ∙ e)
no_definition definitions n s locals stack (Stack k) j e = none_there s k j (ap (λ t. get_or t k None) (sym stack) ∙ e)
no_definition definitions n s locals stack Pending j e = none-some j e

-- ---- the walk

-- the walk has come to a pc, with a stack of this height
pub record IsWalked (program : Program) (labels : Labels) (pc height : ℕ) (b : Builder) : Type 0 where
  pub code : Code
  pub found : code_at program labels.entry ≡ Some code
  pub typed : IsTypedCode program labels.entry code
  pub natives : AllByRecursion (IsLabelledNative program labels) labels.labelled
  pub short : length code.bytes < 2 ^ 16
  pub low : code.max_stack < 2 ^ 16
  pub plain : IsPlainFrom program labels labels.entry code pc
  pub small : pc < 2 ^ 16
  pub shape : Shape
  pub arrives : Arrives program labels.entry code pc shape
  pub height_is : length shape.stack ≡ height
  pub behind : IsBehind program labels.entry code pc
  pub flow : IsFlowNode program labels.entry (node_at program labels.entry pc)
  pub built : IsBuilt program labels pc b.nodes b.edges b.results
  pub defined : IsDefined program labels (node_at program labels.entry pc) b.nodes b.definitions
  pub locals : length b.definitions.locals.items ≡ code.max_locals
  pub stack : length b.definitions.stack.items ≡ code.max_stack

pub walked_start : (program : Program) (labels : Labels) (b : Builder) (plain : IsPlainProgram program labels) → length plain.code.bytes < 2 ^ 16 → plain.code.max_stack < 2 ^ 16
    → IsStart b (takes_arguments (method_at program labels.entry)) labels.entry plain.code.max_locals plain.code.max_stack → IsWalked program labels 0 0 b
walked_start program labels b plain short low start =
    let m = labels.entry in
    let has = takes_arguments (method_at program m) in
    let built : IsBuilt program labels 0 b.nodes b.edges b.results =
    subst (λ x. IsBuilt program labels 0 x b.edges b.results) (sym start.nodes) (subst (λ x. IsBuilt program labels 0 (start_nodes has m) x b.results) (sym start.edges)
    (subst (λ x. IsBuilt program labels 0 (start_nodes has m) [] x) (sym start.results) (start_built program labels plain.code plain.typed))) in
    record {
      code = plain.code;
      found = plain.found;
      typed = plain.typed;
      natives = plain.well_labelled.natives;
      short = short;
      low = low;
      plain = plain.plain;
      small = omega arith;
      shape = shape_at_start plain.code;
      arrives = at_start;
      height_is = refl;
      behind = λ p s arr below. absurd (omega arith);
      flow = goes Entry (node_at program m 0) (node_at program m 0) (begins (node_at program m 0) refl) (stays (node_at program m 0));
      built = built;
      defined = record {
        right = λ v j e. absurd (no_definition b.definitions plain.code.max_locals plain.code.max_stack start.locals start.stack v j e);
        each = λ v d flow r. absurd (reaches_start program m v d (node_at program m 0) r refl);
      };
      locals = ap length start.locals ∙ length-replicate plain.code.max_locals None;
      stack = ap length start.stack ∙ length-replicate plain.code.max_stack None;
    }

same_built : (program : Program) (labels : Labels) (bound : ℕ) (nodes nodes' : List NodeName) (edges edges' : List Edge) (results results' : List SourceResult) → nodes' ≡ nodes → edges' ≡ edges → results' ≡ results
    → IsBuilt program labels bound nodes edges results → IsBuilt program labels bound nodes' edges' results'
same_built program labels bound nodes nodes' edges edges' results results' e f g h =
    subst (λ x. IsBuilt program labels bound x edges' results') (sym e) (subst (λ x. IsBuilt program labels bound nodes x results') (sym f) (subst (λ x. IsBuilt program labels bound nodes edges x) (sym g) h))

module _ (program : Program) (labels : Labels) (pc next height : ℕ) (operation : Operation) (b : Builder) (w : IsWalked program labels pc height b) (found : operation_at program labels.entry pc ≡ Some (operation, next)) where
  at_most : (n : Node) → IsNode program labels n → (operation ≡ Return → ⊥) → position n.kind ≤ next → position n.kind ≤ pc + 1
  at_most n is other low = elim (node_placed program labels w.code w.typed n is) [
    | inl none ↦ omega arith
    | inr at ↦ elim (between program labels.entry w.code w.typed pc next operation found w.behind at.0 at.1 at.2) [
      | inl up_to ↦ (let e = at.3 in omega arith)
      | inr beyond ↦ (let e = at.3 in let o = beyond.0 in absurd (omega arith))
    ]
  ]

  -- no node stands between one more than the pc and the next pc
  built_next : (operation ≡ Return → ⊥) → (nodes : List NodeName) (edges : List Edge) (results : List SourceResult) → IsBuilt program labels (pc + 1) nodes edges results → IsBuilt program labels next nodes edges results
  built_next other nodes edges results h =
      let up = operation_at-next program labels.entry pc next operation found in
      record {
        nodes_right = nodes-weaker program labels (5 + 3 * (pc + 1)) (5 + 3 * next) nodes h.nodes_right (omega arith);
        few = (let f = h.few in omega arith);
        each_node = λ n is low. h.each_node n is (at_most n is other low);
        first = h.first;
        third = h.third;
        only_edges = h.only_edges;
        each_edge = λ x y kind is low high. h.each_edge x y kind is (at_most x (edge_from program labels x y kind is) other low) (at_most y (edge_to program labels x y kind is) other high);
        results_right = h.results_right;
        each_result = λ source n is low. h.each_result source n is (at_most n (cursor_is_node source n is) other low);
      }
    where
      cursor_is_node : (source : ℕ) (n : Node) → UsesCursor program labels source n → IsNode program labels n
      cursor_is_node source n (at_result i p s reached flow callee is) = of_flow i (RetVal p) reached flow

  has_height : HasHeight program labels.entry pc height
  has_height = (w.code, w.shape, w.found, w.arrives, w.height_is)

  pub walked_places : (operation ≡ Return → ⊥) → (v : Place) → Contains (writes_of operation height) v → HasPlace b.definitions v
  walked_places other v is =
      let on = goes_on_from program labels.entry w.code w.typed pc next operation w.shape w.arrives found other in
      let l = arrival_locals program labels.entry w.code pc w.shape w.arrives in
      let high = on.high in
      places_by program (callee_at program labels.entry pc) operation w.shape on.shape b.definitions on.made other (w.locals ∙ sym l) (let s = w.stack in omega arith) v
      (subst (λ x. Contains (writes_of operation x) v) (sym w.height_is) is)

  pub walked_next_small : (operation ≡ Return → ⊥) → next < 2 ^ 16
  walked_next_small other =
      let inside = (goes_on_from program labels.entry w.code w.typed pc next operation w.shape w.arrives found other).inside in
      let short = w.short in
      omega arith

  pub walked_all_places : (v : Place) → Contains (writes_of operation height) v → HasPlace b.definitions v
  walked_all_places v is = elim (cases_Bool (is_return operation)) [
    | inl returns ↦ absurd (contains_none v (subst (λ o. Contains (writes_of o height) v) (return_is operation returns) is))
    | inr other ↦ walked_places (no_return_from operation other) v is
  ]

  pub walked_fits : is_call operation ≡ false → (operation ≡ Return → ⊥) → height_after operation height < 2 ^ 16
  walked_fits plain other =
      let on = goes_on_from program labels.entry w.code w.typed pc next operation w.shape w.arrives found other in
      let high = on.high in
      let h = height_by program (callee_at program labels.entry pc) operation w.shape on.shape plain on.made in
      let same : height_after operation (length w.shape.stack) ≡ height_after operation height = ap (height_after operation) w.height_is in
      let low = w.low in
      omega arith

  -- an instruction that is no call and no return
  pub walked_instruction : (after : Builder) → is_call operation ≡ false → (operation ≡ Return → ⊥) → AddsInstruction b after labels.entry pc operation height → IsWalked program labels next (height_after operation height) after
  walked_instruction after plain other adds =
      let m = labels.entry in
      let instr : node_at program m pc ≡ Instr pc = ap (node_of pc) found ∙ node_instr pc next operation plain in
      let out : out_of (node_at program m pc) ≡ Instr pc = ap out_of instr in
      let flow_here : IsFlowNode program m (Instr pc) = subst (λ k. IsFlowNode program m k) instr w.flow in
      let on = goes_on_from program m w.code w.typed pc next operation w.shape w.arrives found other in
      let rest = plain-on program labels m w.code next operation w.plain found other in
      let through = falls_by labels (callee_at program m pc) operation rest.1 plain in
      let leads : FlowEdge program m (Instr pc) (node_at program m next) = falls pc next operation (node_at program m next) found through refl in
      let new = instr_built program labels w.code w.typed pc next operation found height has_height b.nodes b.edges b.results b.definitions w.built w.defined instr flow_here in
      let stay : NodesStay b.nodes after.nodes = subst (λ x. NodesStay b.nodes x) (sym adds.nodes) (stay-push b.nodes (name_of m (Instr pc) None)) in
      let at : node_in after.nodes (length b.nodes) ≡ Some (node (root labels) (Instr pc)) = subst (λ x. node_in x (length b.nodes) ≡ Some (node (root labels) (Instr pc))) (sym adds.nodes) (node-push b.nodes (name_of m (Instr pc) None)) in
      record {
        code = w.code;
        found = w.found;
        typed = w.typed;
        natives = w.natives;
        short = w.short;
        low = w.low;
        plain = rest.0;
        small = (let i = on.inside in let s = w.short in omega arith);
        shape = on.shape;
        arrives = on.arrives;
        height_is = height_by program (callee_at program m pc) operation w.shape on.shape plain on.made ∙ ap (height_after operation) w.height_is;
        behind = behind_next program m w.code w.typed pc next operation found w.behind other;
        flow = flow_on program m Entry (Instr pc) (node_at program m next) flow_here leads;
        built = built_next other after.nodes after.edges after.results (same_built program labels (pc + 1) _ after.nodes _ after.edges b.results after.results adds.nodes adds.edges adds.results new);
        defined = defined_next program labels w.code w.typed pc next operation found w.behind b.nodes after.nodes b.definitions after.definitions (writes_of operation height) (length b.nodes) w.defined stay adds.definitions
            (at ∙ ap (λ k. Some (node (root labels) k)) (sym out))
            (λ v wr. instr_writes program labels pc next operation found height has_height v (subst (λ k. Writes program m k v) out wr))
            (λ v among. subst (λ k. Writes program m k v) (sym out) (by_instr pc next height operation v found has_height among))
            (subst (λ k. IsFlowNode program m k) (sym out) flow_here)
            (subst (λ k. FlowEdge program m k (node_at program m next)) (sym out) leads)
            (λ v d r no_write. more (Instr pc) (node_at program m next) (subst (λ k. FlowReaches program m v d k) instr r) (subst (λ k. Writes program m k v → ⊥) out no_write) leads);
        locals = adds.definitions.sizes.0 ∙ w.locals;
        stack = adds.definitions.sizes.1 ∙ w.stack;
      }

  -- the return ends the graph
  pub walked_return : (after : Builder) → operation ≡ Return → AddsInstruction b after labels.entry pc operation height → IsDependenceGraph program labels (record { nodes = after.nodes; edges = after.edges })
  walked_return after returns adds =
      let m = labels.entry in
      let plain : is_call operation ≡ false = ap is_call returns in
      let instr : node_at program m pc ≡ Instr pc = ap (node_of pc) found ∙ node_instr pc next operation plain in
      let flow_here : IsFlowNode program m (Instr pc) = subst (λ k. IsFlowNode program m k) instr w.flow in
      let new = instr_built program labels w.code w.typed pc next operation found height has_height b.nodes b.edges b.results b.definitions w.built w.defined instr flow_here in
      let all : IsBuilt program labels (pc + 1) after.nodes after.edges after.results = same_built program labels (pc + 1) _ after.nodes _ after.edges b.results after.results adds.nodes adds.edges adds.results new in
      let low : (n : Node) → IsNode program labels n → position n.kind ≤ pc + 1 = λ n is. elim (node_placed program labels w.code w.typed n is) [
        | inl none ↦ omega arith
        | inr at ↦ elim (between program m w.code w.typed pc next operation found w.behind at.0 at.1 at.2) [ inl up_to ↦ (let e = at.3 in omega arith) | inr beyond ↦ absurd (beyond.1 returns) ]
      ] in
      record {
        small = (let f = all.few in let s = w.small in omega arith);
        each_node = λ n is. all.each_node n is (low n is);
        only_nodes = all.nodes_right.only;
        once = all.nodes_right.once;
        resolved = all.nodes_right.resolved;
        each_edge = λ x y kind is. all.each_edge x y kind is (low x (edge_from program labels x y kind is)) (low y (edge_to program labels x y kind is));
        only_edges = λ i j kind is. all.only_edges (record { from = i; kind = kind; to = j }) is;
      }

  -- the call of a source
  pub walked_source : (after : Builder) (s : ℕ) → is_call operation ≡ true → callee_at program labels.entry pc ≡ Some s → is_source (label_of labels s) ≡ true → AddsSource b after labels.entry pc s height → IsWalked program labels next (height + 1) after
  walked_source after s is_one callee source adds =
      let m = labels.entry in
      let index = call_index operation is_one in
      let k = index.0 in
      let found_call : operation_at program m pc ≡ Some (InvokeStatic k, next) = found ∙ ap (λ o. Some (o, next)) index.1 in
      let other : operation ≡ Return → ⊥ = λ is. true≢false (sym is_one ∙ ap is_call is) in
      let call_is = source_call program labels m pc s w.natives callee source in
      let call : node_at program m pc ≡ Call pc = ap (node_of pc) found_call in
      let out : out_of (node_at program m pc) ≡ RetVal pc = ap out_of call in
      let flow_here : IsFlowNode program m (Call pc) = subst (λ x. IsFlowNode program m x) call w.flow in
      let into : FlowEdge program m (Call pc) (RetVal pc) = calls pc next k found_call call_is.native in
      let result_flow : IsFlowNode program m (RetVal pc) = flow_on program m Entry (Call pc) (RetVal pc) flow_here into in
      let leads : FlowEdge program m (RetVal pc) (node_at program m next) = arrives pc next k (node_at program m next) found_call call_is.native refl in
      let on = goes_on_from program m w.code w.typed pc next operation w.shape w.arrives found other in
      let rest = plain-on program labels m w.code next operation w.plain found other in
      let by_call = height_by_call program (callee_at program m pc) k 0 1 w.shape on.shape call_is.effect (subst (λ o. shape_after program (callee_at program m pc) o w.shape ≡ Some on.shape) index.1 on.made) in
      let one_more = b.nodes ++ name_of m (Call pc) (Some s) ∷ [] in
      let l1 = length_push b.nodes (name_of m (Call pc) (Some s)) in
      let long : length one_more ≡ length b.nodes + 1 = omega arith in
      let grown = b.nodes ++ name_of m (Call pc) (Some s) ∷ [] ++ name_of m (RetVal pc) (Some s) ∷ [] in
      let new = source_built program labels w.code w.typed pc next k s height found_call callee call_is.native has_height b.nodes b.edges b.results b.definitions w.built call flow_here call_is.counts source in
      let stay_grown : NodesStay b.nodes grown = λ x n e. stay-push one_more (name_of m (RetVal pc) (Some s)) x n (stay-push b.nodes (name_of m (Call pc) (Some s)) x n e) in
      let stay : NodesStay b.nodes after.nodes = subst (λ x. NodesStay b.nodes x) (sym adds.nodes) stay_grown in
      let at_grown : node_in grown (length b.nodes + 1) ≡ Some (node (root labels) (RetVal pc)) = subst (λ x. node_in grown x ≡ Some (node (root labels) (RetVal pc))) long (node-push one_more (name_of m (RetVal pc) (Some s))) in
      let at : node_in after.nodes (length b.nodes + 1) ≡ Some (node (root labels) (RetVal pc)) = subst (λ x. node_in x (length b.nodes + 1) ≡ Some (node (root labels) (RetVal pc))) (sym adds.nodes) at_grown in
      record {
        code = w.code;
        found = w.found;
        typed = w.typed;
        natives = w.natives;
        short = w.short;
        low = w.low;
        plain = rest.0;
        small = (let i = on.inside in let s = w.short in omega arith);
        shape = on.shape;
        arrives = on.arrives;
        height_is = by_call.1 ∙ ap (λ x. x - 0 + 1) w.height_is ∙ (let e : height - 0 + 1 ≡ height + 1 = omega arith in e);
        behind = behind_next program m w.code w.typed pc next operation found w.behind other;
        flow = flow_on program m Entry (RetVal pc) (node_at program m next) result_flow leads;
        built = built_next other after.nodes after.edges after.results (same_built program labels (pc + 1) grown after.nodes _ after.edges (b.results ++ (record { source = s; node = length b.nodes + 1 }) ∷ []) after.results adds.nodes adds.edges adds.results new);
        defined = defined_next program labels w.code w.typed pc next operation found w.behind b.nodes after.nodes b.definitions after.definitions (Stack height ∷ []) (length b.nodes + 1) w.defined stay adds.definitions
            (at ∙ ap (λ x. Some (node (root labels) x)) (sym out))
            (λ v wr.
            let is = (result_place program m pc height 0 1 v (subst (λ x. Writes program m x v) out wr) has_height call_is.counts call_is.gives).1 in
            let zero_off : height - 0 ≡ height = omega arith in
            subst (λ x. Contains (Stack height ∷ []) x) (ap (λ x. Stack x) (sym zero_off) ∙ sym is) (contains_first (Stack height) []))
            (λ v among.
            let zero_off : height - 0 ≡ height = omega arith in
            subst (λ x. Writes program m x v) (sym out) (by_result pc height 0 v has_height call_is.counts call_is.gives (sym (contains_one (Stack height) v among) ∙ ap (λ x. Stack x) (sym zero_off))))
            (subst (λ x. IsFlowNode program m x) (sym out) result_flow)
            (subst (λ x. FlowEdge program m x (node_at program m next)) (sym out) leads)
            (λ v d r no_write. more (RetVal pc) (node_at program m next) (more (Call pc) (RetVal pc) (subst (λ x. FlowReaches program m v d x) call r) (no_write_at_call program m pc v) into) (subst (λ x. Writes program m x v → ⊥) out no_write) leads);
        locals = adds.definitions.sizes.0 ∙ w.locals;
        stack = adds.definitions.sizes.1 ∙ w.stack;
      }

  -- the call of a sink
  pub walked_sink : (after : Builder) (s : ℕ) → is_call operation ≡ true → callee_at program labels.entry pc ≡ Some s → is_sink (label_of labels s) ≡ true → AddsSink b after labels.entry pc s height → IsWalked program labels next (height - 1) after
  walked_sink after s is_one callee sink adds =
      let m = labels.entry in
      let index = call_index operation is_one in
      let k = index.0 in
      let found_call : operation_at program m pc ≡ Some (InvokeStatic k, next) = found ∙ ap (λ o. Some (o, next)) index.1 in
      let other : operation ≡ Return → ⊥ = λ is. true≢false (sym is_one ∙ ap is_call is) in
      let call_is = sink_call program labels m pc s w.natives callee sink in
      let call : node_at program m pc ≡ Call pc = ap (node_of pc) found_call in
      let out : out_of (node_at program m pc) ≡ RetVal pc = ap out_of call in
      let flow_here : IsFlowNode program m (Call pc) = subst (λ x. IsFlowNode program m x) call w.flow in
      let into : FlowEdge program m (Call pc) (RetVal pc) = calls pc next k found_call call_is.native in
      let result_flow : IsFlowNode program m (RetVal pc) = flow_on program m Entry (Call pc) (RetVal pc) flow_here into in
      let leads : FlowEdge program m (RetVal pc) (node_at program m next) = arrives pc next k (node_at program m next) found_call call_is.native refl in
      let on = goes_on_from program m w.code w.typed pc next operation w.shape w.arrives found other in
      let rest = plain-on program labels m w.code next operation w.plain found other in
      let by_call = height_by_call program (callee_at program m pc) k 1 0 w.shape on.shape call_is.effect (subst (λ o. shape_after program (callee_at program m pc) o w.shape ≡ Some on.shape) index.1 on.made) in
      let one_more = b.nodes ++ name_of m (Call pc) (Some s) ∷ [] in
      let two_more = one_more ++ name_of m (Arg pc 0) (Some s) ∷ [] in
      let l1 = length_push b.nodes (name_of m (Call pc) (Some s)) in
      let l2 = length_push one_more (name_of m (Arg pc 0) (Some s)) in
      let long : length two_more ≡ length b.nodes + 2 = omega arith in
      let grown = b.nodes ++ name_of m (Call pc) (Some s) ∷ [] ++ name_of m (Arg pc 0) (Some s) ∷ [] ++ name_of m (RetVal pc) (Some s) ∷ [] in
      let new = sink_built program labels w.code w.typed pc next k s height found_call callee call_is.native has_height b.nodes b.edges b.results b.definitions w.built call flow_here call_is.counts sink w.defined in
      let stay_grown : NodesStay b.nodes grown = λ x n e. stay-push two_more (name_of m (RetVal pc) (Some s)) x n (stay-push one_more (name_of m (Arg pc 0) (Some s)) x n (stay-push b.nodes (name_of m (Call pc) (Some s)) x n e)) in
      let stay : NodesStay b.nodes after.nodes = subst (λ x. NodesStay b.nodes x) (sym adds.nodes) stay_grown in
      let at_grown : node_in grown (length b.nodes + 2) ≡ Some (node (root labels) (RetVal pc)) = subst (λ x. node_in grown x ≡ Some (node (root labels) (RetVal pc))) long (node-push two_more (name_of m (RetVal pc) (Some s))) in
      let at : node_in after.nodes (length b.nodes + 2) ≡ Some (node (root labels) (RetVal pc)) = subst (λ x. node_in x (length b.nodes + 2) ≡ Some (node (root labels) (RetVal pc))) (sym adds.nodes) at_grown in
      record {
        code = w.code;
        found = w.found;
        typed = w.typed;
        natives = w.natives;
        short = w.short;
        low = w.low;
        plain = rest.0;
        small = (let i = on.inside in let s = w.short in omega arith);
        shape = on.shape;
        arrives = on.arrives;
        height_is = by_call.1 ∙ ap (λ x. x - 1 + 0) w.height_is ∙ (let e : height - 1 + 0 ≡ height - 1 = omega arith in e);
        behind = behind_next program m w.code w.typed pc next operation found w.behind other;
        flow = flow_on program m Entry (RetVal pc) (node_at program m next) result_flow leads;
        built = built_next other after.nodes after.edges after.results (same_built program labels (pc + 1) grown after.nodes _ after.edges b.results after.results adds.nodes adds.edges adds.results new);
        defined = defined_next program labels w.code w.typed pc next operation found w.behind b.nodes after.nodes b.definitions after.definitions [] (length b.nodes + 2) w.defined stay
            (record { here = λ v is. absurd (contains_none v is); others = λ v none. ap (λ d. definition_of d v) adds.definitions; sizes = (ap (λ d. length d.locals.items) adds.definitions, ap (λ d. length d.stack.items) adds.definitions) })
            (at ∙ ap (λ x. Some (node (root labels) x)) (sym out))
            (λ v wr. (let is = (result_place program m pc height 1 0 v (subst (λ x. Writes program m x v) out wr) has_height call_is.counts call_is.gives).0 in absurd (omega arith)))
            (λ v among. absurd (contains_none v among))
            (subst (λ x. IsFlowNode program m x) (sym out) result_flow)
            (subst (λ x. FlowEdge program m x (node_at program m next)) (sym out) leads)
            (λ v d r no_write. more (RetVal pc) (node_at program m next) (more (Call pc) (RetVal pc) (subst (λ x. FlowReaches program m v d x) call r) (no_write_at_call program m pc v) into) (subst (λ x. Writes program m x v → ⊥) out no_write) leads);
        locals = ap (λ d. length d.locals.items) adds.definitions ∙ w.locals;
        stack = ap (λ d. length d.stack.items) adds.definitions ∙ w.stack;
      }

  -- the place of a source's result
  pub walked_result : (s : ℕ) → is_call operation ≡ true → callee_at program labels.entry pc ≡ Some s → is_source (label_of labels s) ≡ true → HasPlace b.definitions (Stack height) × (height + 1 < 2 ^ 16)
  walked_result s is_one callee source =
      let m = labels.entry in
      let index = call_index operation is_one in
      let other : operation ≡ Return → ⊥ = λ is. true≢false (sym is_one ∙ ap is_call is) in
      let call_is = source_call program labels m pc s w.natives callee source in
      let on = goes_on_from program m w.code w.typed pc next operation w.shape w.arrives found other in
      let by_call = height_by_call program (callee_at program m pc) index.0 0 1 w.shape on.shape call_is.effect (subst (λ o. shape_after program (callee_at program m pc) o w.shape ≡ Some on.shape) index.1 on.made) in
      let e = by_call.1 in
      let level = w.height_is in
      let high = on.high in
      let low = w.low in
      let size = w.stack in
      (omega arith, omega arith)

  -- plain code calls a source or a sink
  pub walked_callee : is_call operation ≡ true → (s : ℕ) × (callee_at program labels.entry pc ≡ Some s) × ((is_source (label_of labels s) ≡ true) ⊎ (is_sink (label_of labels s) ≡ true))
  walked_callee is_one =
      let index = call_index operation is_one in
      let other : operation ≡ Return → ⊥ = λ is. true≢false (sym is_one ∙ ap is_call is) in
      let rest = plain-on program labels labels.entry w.code next operation w.plain found other in
      plain_callee labels (callee_at program labels.entry pc) (subst (λ o. goes_on labels (callee_at program labels.entry pc) o ≡ true) index.1 rest.1)

-- an operation stands where the walk has come
pub walked_some : (program : Program) (labels : Labels) (pc height : ℕ) (b : Builder) → IsWalked program labels pc height b → operation_at program labels.entry pc ≡ None → ⊥
walked_some program labels pc height b w none = plain-some program labels labels.entry w.code w.plain none
