-- An illegal chain of the leaking program: from the secret's result by the local that holds it to what is shown.
use Rattle.std.proofs.Common.{◌≡◌, List, [], ◌∷◌, refl, sym, ap, subst, ◌∙◌, arith, pos, Some}
use Rattle.std.proofs.lemmas.Option.{some_pair_parts}
use Rattle.std.proofs.lemmas.List.Elements.{Contains-append_right}
use Rattle.std.specs.Prelude.{Contains}
use Rattle.jo_insn.specs.Opcodes.{opcodes, row_of}
use Rattle.jo_insn.specs.Instructions.{decoded}
use Rattle.jo_prog.specs.declared.operations.Operation.TheVariants.{Constant, Load, Store, Add}
use Rattle.jo_prog.specs.Operations.{operation_of}
use Rattle.jo_prog.specs.Program.{operation_at}
use Rattle.jo_prog.specs.Typing.{Int, Unset, Arrives, at_start, by_step, HasHeight}
use Rattle.jo_prog.specs.Worked.{worked_labels}
use Rattle.jo_prog.proofs.TypingPaths.{heights_same}
use Rattle.dependence.specs.declared.flow.Place.{Place}
use Rattle.dependence.specs.declared.flow.Place.TheVariants.{Local, Stack}
use Rattle.dep_nodes.specs.declared.kinds.NodeKind.{NodeKind}
use Rattle.dep_nodes.specs.declared.kinds.NodeKind.TheVariants.{Entry, Instr, Call, RetVal, Arg}
use Rattle.dep_nodes.specs.declared.kinds.EdgeKind.TheVariants.{Data}
use Rattle.dep_nodes.specs.declared.chains.Word.TheVariants.{Edge as AnEdge}
use Rattle.dep_nodes.specs.declared.graphs.Graph.{Graph}
use Rattle.dep_nodes.specs.Nodes.{Node, node}
use Rattle.dep_nodes.specs.Chains.{Link}
use Rattle.jo_ids.specs.Path.{stays}
use Rattle.dependence.specs.Flow.{FlowEdge, begins, falls, calls, arrives, IsFlowNode, writes_of, by_instr as reads_by_instr, Writes, by_instr, by_result, ArgumentPlace, of_argument}
use Rattle.dependence.specs.Dependence.{one, more}
use Rattle.dependence.specs.Graph.{at_entry, DependenceEdge, used, passed, shown}
use Rattle.dependence.specs.GraphData.{IsDependenceGraph}
use Rattle.plain_graph.proofs.NodeLists.{contains_first, contains_one}
use Rattle.plain_graph.proofs.PlainLine.{pc_or_zero, flow_on}
use Rattle.plain_graph.proofs.PlainReaching.{root}
use Rattle.low_run.specs.ByEdges.{result, call, IllegalByEdges, AllCleanByEdges}
use Rattle.low_run.specs.Leak.{leaking_code, leaking_program}
use Rattle.low_run.specs.Verdict.{CleanForAll}
use Rattle.low_run.proofs.Verdicts.{illegal_both}
use Rattle.low_run.proofs.WorkedClean.{shape}

-- ---- heights

arrives_4 : Arrives leaking_program 3 leaking_code 4 (shape (Int ∷ Unset ∷ []) [])
unfolding opcodes row_of decoded operation_of
arrives_4 =
    by_step 3 4 (shape (Unset ∷ Unset ∷ []) (Int ∷ [])) (record { next = Some 4; shape = shape (Int ∷ Unset ∷ []) [] })
    (by_step 0 3 (shape (Unset ∷ Unset ∷ []) []) (record { next = Some 3; shape = shape (Unset ∷ Unset ∷ []) (Int ∷ []) }) at_start refl refl) refl refl

arrives_7 : Arrives leaking_program 3 leaking_code 7 (shape (Int ∷ Unset ∷ []) (Int ∷ []))
unfolding opcodes row_of decoded operation_of
arrives_7 = by_step 4 7 (shape (Int ∷ Unset ∷ []) []) (record { next = Some 7; shape = shape (Int ∷ Unset ∷ []) (Int ∷ []) }) arrives_4 refl refl

arrives_8 : Arrives leaking_program 3 leaking_code 8 (shape (Int ∷ Int ∷ []) [])
unfolding opcodes row_of decoded operation_of
arrives_8 = by_step 7 8 (shape (Int ∷ Unset ∷ []) (Int ∷ [])) (record { next = Some 8; shape = shape (Int ∷ Int ∷ []) [] }) arrives_7 refl refl

arrives_9 : Arrives leaking_program 3 leaking_code 9 (shape (Int ∷ Int ∷ []) (Int ∷ []))
unfolding opcodes row_of decoded operation_of
arrives_9 = by_step 8 9 (shape (Int ∷ Int ∷ []) []) (record { next = Some 9; shape = shape (Int ∷ Int ∷ []) (Int ∷ []) }) arrives_8 refl refl

arrives_10 : Arrives leaking_program 3 leaking_code 10 (shape (Int ∷ Int ∷ []) (Int ∷ Int ∷ []))
unfolding opcodes row_of decoded operation_of
arrives_10 = by_step 9 10 (shape (Int ∷ Int ∷ []) (Int ∷ [])) (record { next = Some 10; shape = shape (Int ∷ Int ∷ []) (Int ∷ Int ∷ []) }) arrives_9 refl refl

arrives_11 : Arrives leaking_program 3 leaking_code 11 (shape (Int ∷ Int ∷ []) (Int ∷ []))
unfolding opcodes row_of decoded operation_of
arrives_11 = by_step 10 11 (shape (Int ∷ Int ∷ []) (Int ∷ Int ∷ [])) (record { next = Some 11; shape = shape (Int ∷ Int ∷ []) (Int ∷ []) }) arrives_10 refl refl

height_4 : HasHeight leaking_program 3 4 0
height_4 = (leaking_code, shape (Int ∷ Unset ∷ []) [], refl, arrives_4, refl)

height_7 : HasHeight leaking_program 3 7 1
height_7 = (leaking_code, shape (Int ∷ Unset ∷ []) (Int ∷ []), refl, arrives_7, refl)

height_8 : HasHeight leaking_program 3 8 0
height_8 = (leaking_code, shape (Int ∷ Int ∷ []) [], refl, arrives_8, refl)

height_9 : HasHeight leaking_program 3 9 1
height_9 = (leaking_code, shape (Int ∷ Int ∷ []) (Int ∷ []), refl, arrives_9, refl)

height_10 : HasHeight leaking_program 3 10 2
height_10 = (leaking_code, shape (Int ∷ Int ∷ []) (Int ∷ Int ∷ []), refl, arrives_10, refl)

height_11 : HasHeight leaking_program 3 11 1
height_11 = (leaking_code, shape (Int ∷ Int ∷ []) (Int ∷ []), refl, arrives_11, refl)

-- ---- control

edge_4 : FlowEdge leaking_program 3 (RetVal 4) (Instr 7)
unfolding opcodes row_of decoded operation_of
edge_4 = arrives 4 7 16 (Instr 7) refl refl refl

edge_7 : FlowEdge leaking_program 3 (Instr 7) (Instr 8)
unfolding opcodes row_of decoded operation_of
edge_7 = falls 7 8 (Store 1) (Instr 8) refl refl refl

edge_8 : FlowEdge leaking_program 3 (Instr 8) (Instr 9)
unfolding opcodes row_of decoded operation_of
edge_8 = falls 8 9 (Load 1) (Instr 9) refl refl refl

edge_9 : FlowEdge leaking_program 3 (Instr 9) (Instr 10)
unfolding opcodes row_of decoded operation_of
edge_9 = falls 9 10 (Constant (pos 1)) (Instr 10) refl refl refl

edge_10 : FlowEdge leaking_program 3 (Instr 10) (Call 11)
unfolding opcodes row_of decoded operation_of
edge_10 = falls 10 11 Add (Call 11) refl refl refl

flow_0 : IsFlowNode leaking_program 3 (RetVal 0)
unfolding opcodes row_of decoded operation_of
flow_0 =
    flow_on leaking_program 3 Entry (Call 0) (RetVal 0)
    (flow_on leaking_program 3 Entry Entry (Call 0) (stays Entry) (begins (Call 0) refl)) (calls 0 3 14 refl refl)

flow_4 : IsFlowNode leaking_program 3 (RetVal 4)
unfolding opcodes row_of decoded operation_of
flow_4 =
    flow_on leaking_program 3 Entry (Call 4) (RetVal 4)
    (flow_on leaking_program 3 Entry (Instr 3) (Call 4)
    (flow_on leaking_program 3 Entry (RetVal 0) (Instr 3) flow_0 (arrives 0 3 14 (Instr 3) refl refl refl)) (falls 3 4 (Store 0) (Call 4) refl refl refl)) (calls 4 7 16 refl refl)

flow_7 : IsFlowNode leaking_program 3 (Instr 7)
flow_7 = flow_on leaking_program 3 Entry (RetVal 4) (Instr 7) flow_4 edge_4

flow_8 : IsFlowNode leaking_program 3 (Instr 8)
flow_8 = flow_on leaking_program 3 Entry (Instr 7) (Instr 8) flow_7 edge_7

flow_10 : IsFlowNode leaking_program 3 (Instr 10)
flow_10 = flow_on leaking_program 3 Entry (Instr 9) (Instr 10) (flow_on leaking_program 3 Entry (Instr 8) (Instr 9) flow_8 edge_8) edge_9

flow_11 : IsFlowNode leaking_program 3 (Call 11)
flow_11 = flow_on leaking_program 3 Entry (Instr 10) (Call 11) flow_10 edge_10

-- ---- data

at_9 : operation_at leaking_program 3 9 ≡ Some (Constant (pos 1), 10)
unfolding opcodes row_of decoded operation_of
at_9 = refl

no_write_below : (n : NodeKind) (v : Place) → Writes leaking_program 3 n v → n ≡ Instr 9 → v ≡ Stack 0 → ⊥
no_write_below n v (by_instr pc next height operation u found has is) e place =
    let here : pc ≡ 9 = ap pc_or_zero e in
    let same = some_pair_parts operation (Constant (pos 1)) next 10 (sym found ∙ ap (operation_at leaking_program 3) here ∙ at_9) in
    let high = heights_same leaking_program 3 9 height 1 (subst (λ p. HasHeight leaking_program 3 p height) here has) height_9 in
    let low : Stack height ≡ Stack 0 = contains_one (Stack height) u (subst (λ o. Contains (writes_of o height) u) same.0 is) ∙ place in
    let none : height ≡ 0 = cc in
    omega (arith, high, none)
no_write_below n v (by_result pc height arguments u has takes gives at) e place = absurd (cc)

abbrev root_node : NodeKind → Node
root_node kind = node (root worked_labels) kind

stored : DependenceEdge leaking_program worked_labels (root_node (RetVal 4)) Data (root_node (Instr 7))
unfolding opcodes row_of decoded operation_of
stored = used (root worked_labels) (RetVal 4) (Instr 7) (Stack 0) at_entry flow_4
    (one (Instr 7) edge_4 (by_result 4 0 0 (Stack 0) height_4 refl refl refl))
    (reads_by_instr 7 8 1 (Store 1) (Stack 0) refl height_7 (contains_first (Stack 0) []))

loaded : DependenceEdge leaking_program worked_labels (root_node (Instr 7)) Data (root_node (Instr 8))
unfolding opcodes row_of decoded operation_of
loaded = used (root worked_labels) (Instr 7) (Instr 8) (Local 1) at_entry flow_7
    (one (Instr 8) edge_7 (by_instr 7 8 1 (Store 1) (Local 1) refl height_7 (contains_first (Local 1) [])))
    (reads_by_instr 8 9 0 (Load 1) (Local 1) refl height_8 (contains_first (Local 1) []))

added : DependenceEdge leaking_program worked_labels (root_node (Instr 8)) Data (root_node (Instr 10))
unfolding opcodes row_of decoded operation_of
added = used (root worked_labels) (Instr 8) (Instr 10) (Stack 0) at_entry flow_8
    (more (Instr 9) (Instr 10) (one (Instr 9) edge_8 (by_instr 8 9 0 (Load 1) (Stack 0) refl height_8 (contains_first (Stack 0) [])))
    (λ w. no_write_below (Instr 9) (Stack 0) w refl refl) edge_9)
    (reads_by_instr 10 11 2 Add (Stack 0) refl height_10 (Contains-append_right (Stack 1 ∷ []) (Stack 0 ∷ []) (Stack 0) (contains_first (Stack 0) [])))

argument_11 : ArgumentPlace leaking_program 3 11 0 (Stack 0)
unfolding opcodes row_of decoded operation_of
argument_11 = of_argument 11 1 1 0 (Stack 0) height_11 refl (omega arith) refl

handed : DependenceEdge leaking_program worked_labels (root_node (Instr 10)) Data (root_node (Arg 11 0))
unfolding opcodes row_of decoded operation_of
handed = passed (root worked_labels) (Instr 10) 11 0 (Stack 0) at_entry flow_10
    (one (Call 11) edge_10 (by_instr 10 11 2 Add (Stack 0) refl height_10 (contains_first (Stack 0) []))) argument_11

revealed : DependenceEdge leaking_program worked_labels (root_node (Arg 11 0)) Data (root_node (Call 11))
unfolding opcodes row_of decoded operation_of
revealed = shown (root worked_labels) 11 (Stack 0) at_entry flow_11 refl argument_11

-- ---- the chain

abbrev link_to : NodeKind → Link
link_to kind = record { word = AnEdge Data; to = root_node kind }

abbrev leak_links : List Link
leak_links = link_to (Instr 7) ∷ link_to (Instr 8) ∷ link_to (Instr 10) ∷ link_to (Arg 11 0) ∷ link_to (Call 11) ∷ []

leak_chain : IllegalByEdges leaking_program worked_labels 0 (root_node (RetVal 4)) leak_links
unfolding opcodes row_of decoded operation_of
leak_chain = record {
  start = result (root worked_labels) 4 at_entry flow_4 refl;
  chain = ([], (stored, refl), ([], (loaded, refl), ([], (added, refl), ([], (handed, refl), ([], (revealed, refl), tt)))));
  finish = call (root worked_labels) 11 at_entry flow_11 refl;
}

pub leak_unclean : AllCleanByEdges leaking_program worked_labels → ⊥
leak_unclean clean = clean 0 (contains_first 0 []) (root_node (RetVal 4)) leak_links leak_chain

pub leak_unclean_graph : (graph : Graph) → IsDependenceGraph leaking_program worked_labels graph → CleanForAll graph worked_labels → ⊥
leak_unclean_graph graph whole clean =
    let illegal = (illegal_both leaking_program worked_labels graph whole 0 (root_node (RetVal 4)) leak_links).1 leak_chain in
    (clean 0 (contains_first 0 [])).no_chain (root_node (RetVal 4)) leak_links illegal
