-- What the call of a source and that of a sink add to the graph.
use Rattle.std.proofs.Common.{◌≡◌, ◌==◌, inl, inr, ℕ, ◌+◌, ◌*◌, ◌-◌, ◌<◌, Bool, true, false, cond, List, [], ◌∷◌, ◌++◌, length, Option, Some, None, Contains, refl, sym, ap, subst, ◌∙◌, arith}
use Rattle.std.proofs.lemmas.Bool.{cases_eq, false≢true, eqb-true, eq-eqb}
use Rattle.std.proofs.lemmas.Option.{same_Some, some_pair_parts}
use Rattle.std.proofs.lemmas.List.{length_push}
use Rattle.std.proofs.lemmas.List.Elements.{Contains-append_left, Contains-append_right, Contains-append_cases, Contains-push, Contains-push_cases}
use Rattle.jo_prog.specs.declared.operations.Operation.TheVariants.{InvokeStatic, Return}
use Rattle.jo_prog.specs.declared.program.Program.{Program}
use Rattle.jo_prog.specs.declared.program.Code.{Code}
use Rattle.jo_prog.specs.declared.labels.Labels.{Labels}
use Rattle.jo_prog.specs.declared.labels.Label.{Label}
use Rattle.jo_prog.specs.declared.labels.Label.TheVariants.{Source, Sink, Release}
use Rattle.jo_prog.specs.Labels.{label_of}
use Rattle.jo_prog.specs.Program.{operation_at, callee_at}
use Rattle.jo_prog.specs.Typing.{IsTypedCode, HasHeight}
use Rattle.jo_prog.proofs.TypingPaths.{heights_same}
use Rattle.dependence.specs.declared.flow.Place.{Place}
use Rattle.dependence.specs.declared.flow.Place.TheVariants.{Stack}
use Rattle.dep_nodes.specs.declared.kinds.NodeKind.{NodeKind}
use Rattle.dep_nodes.specs.declared.kinds.NodeKind.TheVariants.{Entry, Instr, Call, RetVal, Arg, Kind}
use Rattle.dep_nodes.specs.declared.kinds.EdgeKind.TheVariants.{Data, Control, Heap}
use Rattle.dep_nodes.specs.declared.graphs.NodeName.{NodeName}
use Rattle.dep_nodes.specs.declared.graphs.Edge.{Edge}
use Rattle.plain_graph.specs.declared.sdg.Definitions.{Definitions}
use Rattle.plain_graph.specs.declared.sdg.SourceResult.{SourceResult}
use Rattle.dependence.specs.Flow.{node_at, calls_native, calls, IsFlowNode, Reads, Writes, by_instr, by_result, ArgumentPlace, of_argument, arguments_at, results_at, FlowReaches}
use Rattle.dep_nodes.specs.Nodes.{Node, node}
use Rattle.dep_nodes.specs.Graphs.{edge}
use Rattle.dependence.specs.Graph.{at_entry, of_flow, of_argument as argument_node, label_at, is_source, is_sink, UsesCursor, at_result, passed, shown, next_input}
use Rattle.plain_graph.specs.Building.{definition_of, name_of, use_edges, control_edges, heap_edges}
use Rattle.plain_graph.proofs.PlainLine.{pc_or_zero, flow_line, flow_on}
use Rattle.plain_graph.proofs.PlainReaching.{position, root}
use Rattle.plain_graph.proofs.NodeLists.{contains_one, contains_none, contains_first, node_in, NodesStay, stay-push, node-push, nodes-push, nodes-weaker, HasEdge, IsEdgeOf, edge_of-more}
use Rattle.plain_graph.proofs.PlainSteps.{IsBuilt, IsDefined, CoversEdges, cursor_callee, each_edge-more, each_node-more, kind_at_call, instr_reads, flow_kind, control_right, contains_cons, use_right, use_there}

-- ---- labels

pub source_no_sink : (o : Option Label) → is_source o ≡ true → is_sink o ≡ true → ⊥
source_no_sink None source sink = false≢true sink
source_no_sink (Some (Source level)) source sink = false≢true sink
source_no_sink (Some (Sink level)) source sink = false≢true source
source_no_sink (Some (Release from to)) source sink = false≢true sink

label_at_callee : (program : Program) (labels : Labels) (m pc s : ℕ) → callee_at program m pc ≡ Some s → label_at program labels m pc ≡ label_of labels s
label_at_callee program labels m pc s e = rw e refl

-- ---- places of a call

argument_at : (program : Program) (m p a h n : ℕ) (v : Place) → ArgumentPlace program m p a v → HasHeight program m p h → arguments_at program m p ≡ Some n → (a < n) × (v ≡ Stack (h - n + a))
argument_at program m p a h n v (of_argument q height count i w high counts below place) has is =
    let same : count ≡ n = same_Some count n (sym counts ∙ is) in
    let level : height ≡ h = heights_same program m q height h high has in
    (omega arith, place ∙ ap (λ x. Stack (x - count + i)) level ∙ ap (λ x. Stack (h - x + i)) same)

result_by : (program : Program) (m pc h n r : ℕ) (k : NodeKind) (v : Place) → Writes program m k v → k ≡ RetVal pc → HasHeight program m pc h → arguments_at program m pc ≡ Some n → results_at program m pc ≡ Some r → (r ≡ 1) × (v ≡ Stack (h - n))
result_by program m pc h n r k v (by_instr p next height operation w found high among) is has counts gives = (let no : ⊥ = cc in absurd no)
result_by program m pc h n r k v (by_result p height count w high counted given place) is has counts gives =
    let same : p ≡ pc = ap pc_or_zero is in
    let level : height ≡ h = heights_same program m pc height h (subst (λ q. HasHeight program m q height) same high) has in
    let number : count ≡ n = same_Some count n (sym counted ∙ ap (arguments_at program m) same ∙ counts) in
    (same_Some r 1 (sym gives ∙ ap (results_at program m) (sym same) ∙ given), place ∙ ap (λ x. Stack (x - count)) level ∙ ap (λ x. Stack (h - x)) number)

pub result_place : (program : Program) (m pc h n r : ℕ) (v : Place) → Writes program m (RetVal pc) v → HasHeight program m pc h → arguments_at program m pc ≡ Some n → results_at program m pc ≡ Some r → (r ≡ 1) × (v ≡ Stack (h - n))
result_place program m pc h n r v w has counts gives = result_by program m pc h n r (RetVal pc) v w refl has counts gives

-- ---- heap edges

heap_first_right : (program : Program) (labels : Labels) (nodes : List NodeName) (x : SourceResult) (s r : ℕ) (b : Bool) → (x.source == s) ≡ b
    → (x.source ≡ s → IsEdgeOf program labels nodes (edge x.node Heap r) × IsEdgeOf program labels nodes (edge r Heap x.node)) → (e : Edge) → Contains (cond b (edge x.node Heap r ∷ edge r Heap x.node ∷ []) []) e → IsEdgeOf program labels nodes e
heap_first_right program labels nodes x s r false is right e among = absurd (contains_none e among)
heap_first_right program labels nodes x s r true is right e among =
    let both = right (eqb-true x.source s is) in
    elim (contains_cons (edge x.node Heap r) (edge r Heap x.node ∷ []) e among) [
      | inl first ↦ subst (λ y. IsEdgeOf program labels nodes y) first both.0
      | inr second ↦ subst (λ y. IsEdgeOf program labels nodes y) (contains_one (edge r Heap x.node) e second) both.1
    ]

heap_right : (program : Program) (labels : Labels) (nodes : List NodeName) (rs : List SourceResult) (s r : ℕ)
    → ((x : SourceResult) → Contains rs x → x.source ≡ s → IsEdgeOf program labels nodes (edge x.node Heap r) × IsEdgeOf program labels nodes (edge r Heap x.node)) → (e : Edge) → Contains (heap_edges rs s r) e → IsEdgeOf program labels nodes e
heap_right program labels nodes [] s r right e among = absurd (contains_none e among)
heap_right program labels nodes (x ∷ rs) s r right e among =
    elim (Contains-append_cases (cond (x.source == s) (edge x.node Heap r ∷ edge r Heap x.node ∷ []) []) (heap_edges rs s r) e among) [
      | inl first ↦ heap_first_right program labels nodes x s r (x.source == s) refl (right x (contains_first x rs)) e first
      | inr rest ↦ heap_right program labels nodes rs s r (λ y is same. right y (Contains-append_right (x ∷ []) rs y is) same) e rest
    ]

heap_there : (rs : List SourceResult) (s r : ℕ) (x : SourceResult) → Contains rs x → x.source ≡ s → Contains (heap_edges rs s r) (edge x.node Heap r) × Contains (heap_edges rs s r) (edge r Heap x.node)
heap_there [] s r x among same = absurd (contains_none x among)
heap_there (y ∷ rs) s r x among same =
    let group = cond (y.source == s) (edge y.node Heap r ∷ edge r Heap y.node ∷ []) [] in
    elim (contains_cons y rs x among) [
      | inl is ↦
          let ours : (y.source == s) ≡ true = eq-eqb y.source s (ap (λ (z : SourceResult). z.source) is ∙ same) in
          let whole : group ≡ edge x.node Heap r ∷ edge r Heap x.node ∷ [] = ap (λ b. cond b (edge y.node Heap r ∷ edge r Heap y.node ∷ []) []) ours ∙ ap (λ (z : SourceResult). edge z.node Heap r ∷ edge r Heap z.node ∷ []) is in (
            Contains-append_left group (heap_edges rs s r) (edge x.node Heap r) (subst (λ l. Contains l (edge x.node Heap r)) (sym whole) (contains_first (edge x.node Heap r) (edge r Heap x.node ∷ []))),
            Contains-append_left group (heap_edges rs s r) (edge r Heap x.node) (subst (λ l. Contains l (edge r Heap x.node)) (sym whole) (Contains-append_right (edge x.node Heap r ∷ []) (edge r Heap x.node ∷ []) (edge r Heap x.node) (contains_first (edge r Heap x.node) []))),
          )
      | inr rest ↦
          let there = heap_there rs s r x rest same in
          (Contains-append_right group (heap_edges rs s r) (edge x.node Heap r) there.0, Contains-append_right group (heap_edges rs s r) (edge r Heap x.node) there.1)
    ]

-- ---- calls

cursor_at : (program : Program) (labels : Labels) (pc source : ℕ) (x : Node) → UsesCursor program labels source x → position x.kind ≡ pc + 1 → x ≡ node (root labels) (RetVal pc)
cursor_at program labels pc source x (at_result i p s at_entry flow callee is) here = ap (λ q. node (root labels) (RetVal q)) (let same : p ≡ pc = omega arith in same)

module _ (program : Program) (labels : Labels) (code : Code) (typed : IsTypedCode program labels.entry code) (pc next k s h : ℕ) (found : operation_at program labels.entry pc ≡ Some (InvokeStatic k, next)) (callee : callee_at program labels.entry pc ≡ Some s)
    (native : calls_native program (callee_at program labels.entry pc) ≡ true) (has : HasHeight program labels.entry pc h) (nodes : List NodeName) (edges : List Edge) (results : List SourceResult) (definitions : Definitions)
    (built : IsBuilt program labels pc nodes edges results) (call : node_at program labels.entry pc ≡ Call pc) (flow : IsFlowNode program labels.entry (Call pc)) where
  pub return_flow : IsFlowNode program labels.entry (RetVal pc)
  return_flow = flow_on program labels.entry Entry (Call pc) (RetVal pc) flow (calls pc next k found native)

  no_read : (v : Place) → Reads program labels.entry (Instr pc) v → ⊥
  no_read v r = contains_none v (instr_reads program labels pc next (InvokeStatic k) found h has v r)

  no_return : (to : ℕ) → operation_at program labels.entry pc ≡ Some (Return, to) → ⊥
  no_return to at = let is = (some_pair_parts (InvokeStatic k) Return next to (sym found ∙ at)).0 in cc

  no_argument_flow : (a : ℕ) (n : NodeKind) → IsFlowNode program labels.entry n → n ≡ Arg pc a → ⊥
  no_argument_flow a n flows is = flow_line program labels.entry code typed (Arg pc a) (subst (λ x. IsFlowNode program labels.entry x) is flows)

  cursor_source : (source : ℕ) → UsesCursor program labels source (node (root labels) (RetVal pc)) → (source ≡ s) × (is_source (label_of labels s) ≡ true)
  cursor_source source mine =
      let c = cursor_callee program labels source (node (root labels) (RetVal pc)) mine in
      let same : source ≡ s = same_Some source s (sym c.0 ∙ callee) in
      (same, subst (λ x. is_source (label_of labels x) ≡ true) same c.1)

  module _ (counts : arguments_at program labels.entry pc ≡ Some 0) (source : is_source (label_of labels s) ≡ true) where
    pub source_built : IsBuilt program labels (pc + 1) (nodes ++ name_of labels.entry (Call pc) (Some s) ∷ [] ++ name_of labels.entry (RetVal pc) (Some s) ∷ [])
        (edges ++ control_edges (length nodes) ++ control_edges (length nodes + 1) ++ heap_edges results s (length nodes + 1) ++ edge (length nodes + 1) Heap (length nodes + 1) ∷ [])
        (results ++ (record { source = s; node = length nodes + 1 }) ∷ [])
    source_built =
        let j = length nodes in
        let r = length nodes + 1 in
        let name = name_of labels.entry (Call pc) (Some s) in
        let result = name_of labels.entry (RetVal pc) (Some s) in
        let mid = nodes ++ name ∷ [] in
        let grown = nodes ++ name ∷ [] ++ result ∷ [] in
        let c = control_edges j in
        let d = control_edges r in
        let p = heap_edges results s r in
        let q = edge r Heap r ∷ [] in
        let all = edges ++ c ++ d ++ p ++ q in
        let stay : NodesStay nodes grown = λ i n e. stay-push mid result i n (stay-push nodes name i n e) in
        let at : node_in grown j ≡ Some (node (root labels) (Call pc)) = stay-push mid result j (node (root labels) (Call pc)) (node-push nodes name) in
        let to : node_in grown r ≡ Some (node (root labels) (RetVal pc)) = subst (λ i. node_in grown i ≡ Some (node (root labels) (RetVal pc))) (length_push nodes name) (node-push mid result) in
        let first = stay 0 (node (root labels) Entry) built.first in
        let returns = return_flow in
        let cursor : UsesCursor program labels s (node (root labels) (RetVal pc)) = at_result (root labels) pc s at_entry returns callee source in
        let in_3 = λ (e : Edge) (is : Contains (edges ++ c ++ d) e). Contains-append_left (edges ++ c ++ d ++ p) q e (Contains-append_left (edges ++ c ++ d) p e is) in
        let in_old = λ (e : Edge) (is : Contains edges e). in_3 e (Contains-append_left (edges ++ c) d e (Contains-append_left edges c e is)) in
        let in_heap = λ (e : Edge) (is : Contains p e). Contains-append_left (edges ++ c ++ d ++ p) q e (Contains-append_right (edges ++ c ++ d) p e is) in
        let no_argument = λ (a : ℕ) (v : Place) (place : ArgumentPlace program labels.entry pc a v). let b = (argument_at program labels.entry pc a h 0 v place has counts).0 in let no : ⊥ = omega arith in no in
        let cover : CoversEdges program labels pc grown all = record {
          uses = λ x v flows reach reads. absurd (no_read v reads);
          passes = λ x v a flows reach place. absurd (no_argument a v place);
          shows = λ v flows sink place. absurd (no_argument 0 v place);
          controls = λ n flows here. elim (kind_at_call program labels code typed pc call n (flow_kind program labels code typed n flows) here) [
            | inl is ↦ subst (λ x. HasEdge grown all (node (root labels) Entry) Control (node (root labels) x)) (sym is)
                (0, j, first, at, in_3 (edge 0 Control j) (Contains-append_left (edges ++ c) d (edge 0 Control j) (Contains-append_right edges c (edge 0 Control j) (contains_first (edge 0 Control j) []))))
            | inr rest ↦ elim rest [
              | inl is ↦ subst (λ x. HasEdge grown all (node (root labels) Entry) Control (node (root labels) x)) (sym is)
                  (0, r, first, to, in_3 (edge 0 Control r) (Contains-append_right (edges ++ c) d (edge 0 Control r) (contains_first (edge 0 Control r) [])))
              | inr argument ↦ absurd (no_argument_flow argument.0 n flows argument.2)
            ]
          ];
          ends = λ t flows ret. absurd (no_return t ret);
          inputs = λ named y mine other low.
              let same = (cursor_source named mine).0 in
              let ours : UsesCursor program labels s y = subst (λ x. UsesCursor program labels x y) same other in
              elim (cases_eq (position y.kind) (pc + 1)) [
                | inl here ↦
                    let is = cursor_at program labels pc s y ours here in
                    let self : HasEdge grown all (node (root labels) (RetVal pc)) Heap (node (root labels) (RetVal pc)) = (r, r, to, to, Contains-append_right (edges ++ c ++ d ++ p) q (edge r Heap r) (contains_first (edge r Heap r) [])) in
                    (subst (λ n. HasEdge grown all (node (root labels) (RetVal pc)) Heap n) (sym is) self, subst (λ n. HasEdge grown all n Heap (node (root labels) (RetVal pc))) (sym is) self)
                | inr below ↦
                    let was = built.each_result s y ours (omega arith) in
                    let there = heap_there results s r (record { source = s; node = was.0 }) was.2 refl in
                    ((r, was.0, to, stay was.0 y was.1, in_heap (edge r Heap was.0) there.1), (was.0, r, stay was.0 y was.1, to, in_heap (edge was.0 Heap r) there.0))
              ];
        } in
        record {
          nodes_right = nodes-weaker program labels (3 * pc + 7 + 1) (5 + 3 * (pc + 1)) grown
              (nodes-push program labels (3 * pc + 5 + 1) mid result
              (nodes-push program labels (5 + 3 * pc) nodes name built.nodes_right (of_flow (root labels) (Call pc) at_entry flow) (omega arith) (sym callee))
              (of_flow (root labels) (RetVal pc) at_entry returns) (omega arith) (sym callee)) (omega arith);
          few = (let l = length_push nodes name in let l2 = length_push mid result in let f = built.few in omega arith);
          each_node = each_node-more program labels code typed pc nodes grown stay built.each_node (λ x is here. elim (kind_at_call program labels code typed pc call x is here) [
            | inl same ↦ (j, at ∙ ap (λ y. Some (node (root labels) y)) (sym same))
            | inr rest ↦ elim rest [ inl same ↦ (r, to ∙ ap (λ y. Some (node (root labels) y)) (sym same)) | inr argument ↦ absurd (no_argument argument.0 argument.1 argument.3) ]
          ]);
          first = first;
          third = stay 2 (node (root labels) Kind) built.third;
          only_edges = λ e is. elim (Contains-append_cases (edges ++ c ++ d ++ p) q e is) [
            | inl x ↦ elim (Contains-append_cases (edges ++ c ++ d) p e x) [
              | inl y ↦ elim (Contains-append_cases (edges ++ c) d e y) [
                | inl z ↦ elim (Contains-append_cases edges c e z) [
                  | inl was ↦ edge_of-more program labels nodes grown e stay (built.only_edges e was)
                  | inr control ↦ control_right program labels grown j (Call pc) flow (λ w. cc) (λ w. cc) first at e control
                ]
                | inr control ↦ control_right program labels grown r (RetVal pc) returns (λ w. cc) (λ w. cc) first to e control
              ]
              | inr heap ↦ heap_right program labels grown results s r (λ x is_there same.
                  let was = built.results_right x is_there in
                  let other : UsesCursor program labels s was.0 = subst (λ o. UsesCursor program labels o was.0) same was.2 in (
                    (was.0, node (root labels) (RetVal pc), stay x.node was.0 was.1, to, next_input s was.0 (node (root labels) (RetVal pc)) other cursor),
                    (node (root labels) (RetVal pc), was.0, to, stay x.node was.0 was.1, next_input s (node (root labels) (RetVal pc)) was.0 cursor other),
                  )) e heap
            ]
            | inr self ↦ subst (λ x. IsEdgeOf program labels grown x) (contains_one (edge r Heap r) e self)
                (node (root labels) (RetVal pc), node (root labels) (RetVal pc), to, to, next_input s (node (root labels) (RetVal pc)) (node (root labels) (RetVal pc)) cursor cursor)
          ];
          each_edge = each_edge-more program labels pc grown all cover nodes edges stay in_old built.each_edge;
          results_right = λ x is. elim (Contains-push_cases results (record { source = s; node = r }) x is) [
            | inl before ↦ (let was = built.results_right x before in (was.0, stay x.node was.0 was.1, was.2))
            | inr same ↦ subst (λ (y : SourceResult). (n : Node) × (node_in grown y.node ≡ Some n) × UsesCursor program labels y.source n) same (node (root labels) (RetVal pc), to, cursor)
          ];
          each_result = λ named n mine low. elim (cases_eq (position n.kind) (pc + 1)) [
            | inl here ↦
                let is = cursor_at program labels pc named n mine here in
                let same = (cursor_source named (subst (λ x. UsesCursor program labels named x) is mine)).0 in
                (r, to ∙ ap (λ x. Some x) (sym is), subst (λ o. Contains (results ++ (record { source = s; node = r }) ∷ []) (record { source = o; node = r })) (sym same) (Contains-push results (record { source = s; node = r })))
            | inr other ↦ (let was = built.each_result named n mine (omega arith) in (was.0, stay was.0 n was.1, Contains-append_left results ((record { source = s; node = r }) ∷ []) (record { source = named; node = was.0 }) was.2))
          ];
        }

  module _ (counts : arguments_at program labels.entry pc ≡ Some 1) (sink : is_sink (label_of labels s) ≡ true) (defined : IsDefined program labels (node_at program labels.entry pc) nodes definitions) where
    pub sink_built : IsBuilt program labels (pc + 1) (nodes ++ name_of labels.entry (Call pc) (Some s) ∷ [] ++ name_of labels.entry (Arg pc 0) (Some s) ∷ [] ++ name_of labels.entry (RetVal pc) (Some s) ∷ [])
        (edges ++ control_edges (length nodes) ++ use_edges (definition_of definitions (Stack (h - 1))) (length nodes + 1) ++ edge (length nodes + 1) Data (length nodes) ∷ [] ++ control_edges (length nodes + 2)) results
    sink_built =
        let j = length nodes in
        let i = length nodes + 1 in
        let r = length nodes + 2 in
        let name = name_of labels.entry (Call pc) (Some s) in
        let argument = name_of labels.entry (Arg pc 0) (Some s) in
        let result = name_of labels.entry (RetVal pc) (Some s) in
        let one_more = nodes ++ name ∷ [] in
        let two_more = nodes ++ name ∷ [] ++ argument ∷ [] in
        let grown = nodes ++ name ∷ [] ++ argument ∷ [] ++ result ∷ [] in
        let c = control_edges j in
        let u = use_edges (definition_of definitions (Stack (h - 1))) i in
        let f = edge i Data j ∷ [] in
        let d = control_edges r in
        let all = edges ++ c ++ u ++ f ++ d in
        let stay : NodesStay nodes grown = λ x n e. stay-push two_more result x n (stay-push one_more argument x n (stay-push nodes name x n e)) in
        let l1 = length_push nodes name in
        let l2 = length_push one_more argument in
        let two : length two_more ≡ r = omega arith in
        let at : node_in grown j ≡ Some (node (root labels) (Call pc)) = stay-push two_more result j (node (root labels) (Call pc)) (stay-push one_more argument j (node (root labels) (Call pc)) (node-push nodes name)) in
        let arg : node_in grown i ≡ Some (node (root labels) (Arg pc 0)) = stay-push two_more result i (node (root labels) (Arg pc 0)) (subst (λ x. node_in two_more x ≡ Some (node (root labels) (Arg pc 0))) l1 (node-push one_more argument)) in
        let to : node_in grown r ≡ Some (node (root labels) (RetVal pc)) = subst (λ x. node_in grown x ≡ Some (node (root labels) (RetVal pc))) two (node-push two_more result) in
        let first = stay 0 (node (root labels) Entry) built.first in
        let returns = return_flow in
        let zero_place : h - 1 + 0 ≡ h - 1 = omega arith in
        let place : ArgumentPlace program labels.entry pc 0 (Stack (h - 1)) = of_argument pc h 1 0 (Stack (h - 1)) has counts (omega arith) (ap (λ x. Stack x) (sym zero_place)) in
        let in_3 = λ (e : Edge) (is : Contains (edges ++ c ++ u) e). Contains-append_left (edges ++ c ++ u ++ f) d e (Contains-append_left (edges ++ c ++ u) f e is) in
        let in_old = λ (e : Edge) (is : Contains edges e). in_3 e (Contains-append_left (edges ++ c) u e (Contains-append_left edges c e is)) in
        let no_cursor = λ (named : ℕ) (mine : UsesCursor program labels named (node (root labels) (RetVal pc))). source_no_sink (label_of labels s) (cursor_source named mine).1 sink in
        let only : (a : ℕ) (v : Place) → ArgumentPlace program labels.entry pc a v → (a ≡ 0) × (v ≡ Stack (h - 1)) = λ a v is.
        let p = argument_at program labels.entry pc a h 1 v is has counts in
        let z : a ≡ 0 = omega (arith, p.0) in
        let same : h - 1 + a ≡ h - 1 = omega arith in
        (z, p.1 ∙ ap (λ x. Stack x) same) in
        let cover : CoversEdges program labels pc grown all = record {
          uses = λ x v flows reach reads. absurd (no_read v reads);
          passes = λ x v a flows reach is.
              let one_place = only a v is in
              let was = defined.each v x flows (subst (λ n. FlowReaches program labels.entry v x n) (sym call) reach) in
              subst (λ b. HasEdge grown all (node (root labels) x) Data (node (root labels) (Arg pc b))) (sym one_place.0)
              (was.0, i, stay was.0 (node (root labels) x) was.2, arg, in_3 (edge was.0 Data i) (Contains-append_right (edges ++ c) u (edge was.0 Data i) (use_there i was.0 (definition_of definitions (Stack (h - 1))) (ap (definition_of definitions) (sym one_place.1) ∙ was.1))));
          shows = λ v flows is_shown is. (i, j, arg, at, Contains-append_left (edges ++ c ++ u ++ f) d (edge i Data j) (Contains-append_right (edges ++ c ++ u) f (edge i Data j) (contains_first (edge i Data j) [])));
          controls = λ n flows here. elim (kind_at_call program labels code typed pc call n (flow_kind program labels code typed n flows) here) [
            | inl is ↦ subst (λ x. HasEdge grown all (node (root labels) Entry) Control (node (root labels) x)) (sym is)
                (0, j, first, at, in_3 (edge 0 Control j) (Contains-append_left (edges ++ c) u (edge 0 Control j) (Contains-append_right edges c (edge 0 Control j) (contains_first (edge 0 Control j) []))))
            | inr rest ↦ elim rest [
              | inl is ↦ subst (λ x. HasEdge grown all (node (root labels) Entry) Control (node (root labels) x)) (sym is)
                  (0, r, first, to, Contains-append_right (edges ++ c ++ u ++ f) d (edge 0 Control r) (contains_first (edge 0 Control r) []))
              | inr other ↦ absurd (no_argument_flow other.0 n flows other.2)
            ]
          ];
          ends = λ t flows ret. absurd (no_return t ret);
          inputs = λ named y mine other low. absurd (no_cursor named mine);
        } in
        record {
          nodes_right = nodes-weaker program labels (3 * pc + 7 + 1) (5 + 3 * (pc + 1)) grown
              (nodes-push program labels (3 * pc + 6 + 1) two_more result
              (nodes-push program labels (3 * pc + 5 + 1) one_more argument
              (nodes-push program labels (5 + 3 * pc) nodes name built.nodes_right (of_flow (root labels) (Call pc) at_entry flow) (omega arith) (sym callee))
              (argument_node (root labels) pc 0 (Stack (h - 1)) at_entry flow place) (omega arith) (sym callee))
              (of_flow (root labels) (RetVal pc) at_entry returns) (omega arith) (sym callee)) (omega arith);
          few = (let l3 = length_push two_more result in let g = built.few in omega arith);
          each_node = each_node-more program labels code typed pc nodes grown stay built.each_node (λ x is here. elim (kind_at_call program labels code typed pc call x is here) [
            | inl same ↦ (j, at ∙ ap (λ y. Some (node (root labels) y)) (sym same))
            | inr rest ↦ elim rest [
              | inl same ↦ (r, to ∙ ap (λ y. Some (node (root labels) y)) (sym same))
              | inr other ↦ (i, arg ∙ ap (λ a. Some (node (root labels) (Arg pc a))) (sym (only other.0 other.1 other.3).0) ∙ ap (λ y. Some (node (root labels) y)) (sym other.2))
            ]
          ]);
          first = first;
          third = stay 2 (node (root labels) Kind) built.third;
          only_edges = λ e is. elim (Contains-append_cases (edges ++ c ++ u ++ f) d e is) [
            | inl x ↦ elim (Contains-append_cases (edges ++ c ++ u) f e x) [
              | inl y ↦ elim (Contains-append_cases (edges ++ c) u e y) [
                | inl z ↦ elim (Contains-append_cases edges c e z) [
                  | inl was ↦ edge_of-more program labels nodes grown e stay (built.only_edges e was)
                  | inr control ↦ control_right program labels grown j (Call pc) flow (λ w. cc) (λ w. cc) first at e control
                ]
                | inr used_here ↦ use_right program labels grown i (definition_of definitions (Stack (h - 1))) (λ x def.
                    let was = defined.right (Stack (h - 1)) x def in (
                      node (root labels) was.0,
                      node (root labels) (Arg pc 0),
                      stay x (node (root labels) was.0) was.3,
                      arg,
                      passed (root labels) was.0 pc 0 (Stack (h - 1)) at_entry was.1 (subst (λ n. FlowReaches program labels.entry (Stack (h - 1)) was.0 n) call was.2) place,
                    )) e used_here
              ]
              | inr shows_it ↦ subst (λ x. IsEdgeOf program labels grown x) (contains_one (edge i Data j) e shows_it)
                  (node (root labels) (Arg pc 0), node (root labels) (Call pc), arg, at, shown (root labels) pc (Stack (h - 1)) at_entry flow (ap is_sink (label_at_callee program labels labels.entry pc s callee) ∙ sink) place)
            ]
            | inr control ↦ control_right program labels grown r (RetVal pc) returns (λ w. cc) (λ w. cc) first to e control
          ];
          each_edge = each_edge-more program labels pc grown all cover nodes edges stay in_old built.each_edge;
          results_right = λ x is. (let was = built.results_right x is in (was.0, stay x.node was.0 was.1, was.2));
          each_result = λ named n mine low. elim (cases_eq (position n.kind) (pc + 1)) [
            | inl here ↦ absurd (no_cursor named (subst (λ x. UsesCursor program labels named x) (cursor_at program labels pc named n mine here) mine))
            | inr other ↦ (let was = built.each_result named n mine (omega arith) in (was.0, stay was.0 n was.1, was.2))
          ];
        }
