-- The worked program is clean: its secret goes to the local that holds it, and no further.
use Rattle.std.proofs.Common.{◌≡◌, ◌⊎◌, inl, inr, ℕ, ◌+◌, ◌-◌, ◌==◌, Bool, true, false, ◌||◌, List, [], ◌∷◌, map, Option, Some, None, Contains, refl, sym, ap, subst, ◌∙◌}
use Rattle.std.proofs.lemmas.Bool.{cases_Bool, false≢true, eqb-true}
use Rattle.std.proofs.lemmas.Option.{none-some, same_Some, some_pair_parts}
use Rattle.jo_insn.specs.Opcodes.{opcodes, row_of}
use Rattle.jo_insn.specs.Instructions.{decoded}
use Rattle.jo_prog.specs.declared.operations.Operation.{Operation}
use Rattle.jo_prog.specs.declared.operations.Operation.TheVariants.{Constant, Load, Store, Add, Subtract, InvokeStatic, Return, Other}
use Rattle.jo_prog.specs.declared.program.Code.{Code}
use Rattle.jo_prog.specs.Operations.{operation_of}
use Rattle.jo_prog.specs.Labels.{brings, misses}
use Rattle.jo_prog.specs.Program.{operation_at, callee_at}
use Rattle.jo_prog.specs.Typing.{Kind, Int, Unset, Shape, Arrives, at_start, by_step, HasHeight}
use Rattle.jo_prog.specs.Worked.{worked_code, worked_program, worked_labels}
use Rattle.jo_prog.proofs.TypingPaths.{typed_by-next, heights_same}
use Rattle.dependence.specs.declared.flow.Place.{Place}
use Rattle.dependence.specs.declared.flow.Place.TheVariants.{Local, Stack}
use Rattle.dep_nodes.specs.declared.kinds.NodeKind.{NodeKind}
use Rattle.dep_nodes.specs.declared.kinds.NodeKind.TheVariants.{Entry, Instr, Call, RetVal, Arg}
use Rattle.dep_nodes.specs.declared.kinds.EdgeKind.{EdgeKind}
use Rattle.dep_nodes.specs.declared.chains.Word.{Word}
use Rattle.dep_nodes.specs.declared.chains.Word.TheVariants.{Edge as AnEdge, Pass}
use Rattle.dep_nodes.specs.declared.graphs.Graph.{Graph}
use Rattle.dep_nodes.specs.Nodes.{Node, CallSite}
use Rattle.dep_nodes.specs.Chains.{goes_in, StepsOn, Link, IsChainFrom, end_of}
use Rattle.dependence.specs.Flow.{node_of, node_at, arguments_at, FlowEdge, begins, skips, falls, leaves, calls, arrives, IsFlowNode, reads_of, writes_of, Reads, by_instr as reads_by_instr, Writes, by_instr, by_result, ArgumentPlace, of_argument, FlowReaches}
use Rattle.dependence.specs.Dependence.{one, more}
use Rattle.dependence.specs.Graph.{at_entry, label_at, UsesCursor, at_result, DependenceEdge, used, passed, shown, controlled, ended, next_input}
use Rattle.dependence.specs.GraphData.{IsDependenceGraph}
use Rattle.plain_graph.proofs.ChainWalks.{no_fork}
use Rattle.plain_graph.proofs.NodeLists.{contains_first, contains_none, contains_one}
use Rattle.plain_graph.proofs.PlainLine.{pc_or_zero, flow_line}
use Rattle.plain_graph.proofs.PlainReaching.{controls_entry}
use Rattle.plain_graph.proofs.PlainSteps.{contains_cons}
use Rattle.plain_graph.proofs.WorkedPlain.{worked_is_plain}
use Rattle.low_run.specs.ByEdges.{HiddenByEdges, result, ObservedByEdges, call, let_out, AllCleanByEdges}
use Rattle.low_run.specs.Verdict.{CleanForAll}
use Rattle.low_run.proofs.Verdicts.{illegal_both}

-- ---- what holds at each pc of the line

abbrev among : List ℕ → ℕ → Bool
among [] n = false
among (p ∷ ps) n = (p == n) || among ps n

heads : {X : Type 0} → (x y : X) (xs ys : List X) → x ∷ xs ≡ y ∷ ys → (x ≡ y) × (xs ≡ ys)
heads x y xs ys e = (cc, cc)

-- two tests that are equal at each number of a list
agree_among : (f g : ℕ → Bool) (ps : List ℕ) → map f ps ≡ map g ps → (n : ℕ) → among ps n ≡ true → f n ≡ g n
agree_among f g [] e n is = absurd (false≢true is)
agree_among f g (p ∷ ps) e n is =
    let parts = heads (f p) (g p) (map f ps) (map g ps) e in
    elim (cases_Bool (p == n)) [
      | inl same ↦ subst (λ k. f k ≡ g k) (eqb-true p n same) parts.0
      | inr other ↦ agree_among f g ps parts.1 n (subst (λ b. (b || among ps n) ≡ true) other is)
    ]

-- the pcs of the code, and its length
abbrev pcs : List ℕ
pcs = 0 ∷ 3 ∷ 4 ∷ 7 ∷ 8 ∷ 9 ∷ 10 ∷ 11 ∷ 14 ∷ 15 ∷ []

abbrev next_or_start : Option (Operation × ℕ) → ℕ
next_or_start None = 0
next_or_start (Some found) = found.1

next_among : map (λ p. among pcs (next_or_start (operation_at worked_program 3 p))) pcs ≡ map (λ p. true) pcs
unfolding opcodes row_of decoded operation_of
next_among = refl

arrives_among : (code : Code) (p : ℕ) (s : Shape) → Arrives worked_program 3 code p s → among pcs p ≡ true
arrives_among code p s at_start = refl
arrives_among code p s (by_step q r t after arr e on) =
    let step = typed_by-next worked_program code (callee_at worked_program 3 q) (operation_at worked_program 3 q) t after r e on in
    let inside = agree_among (λ k. among pcs (next_or_start (operation_at worked_program 3 k))) (λ k. true) pcs next_among q (arrives_among code q t arr) in
    subst (λ o. among pcs (next_or_start o) ≡ true) step.1 inside

return_among : (p : ℕ) → IsFlowNode worked_program 3 (RetVal p) → among pcs p ≡ true
return_among p flow =
    let line = flow_line worked_program 3 worked_is_plain.code worked_is_plain.typed (RetVal p) flow in
    arrives_among worked_is_plain.code p line.0 line.1

-- ---- where the secret is

-- what an observer of level 0 may not depend on: the result of the secret's call alone
abbrev hides : ℕ → Bool
hides p = misses worked_labels 0 (brings (label_at worked_program worked_labels 3 p))

hides_at : map hides pcs ≡ map (λ p. p == 4) pcs
unfolding opcodes row_of decoded operation_of
hides_at = refl

abbrev names_secret : Option ℕ → Bool
names_secret None = false
names_secret (Some method) = method == 0

named_at : map (λ p. names_secret (callee_at worked_program 3 p)) pcs ≡ map (λ p. p == 4) pcs
unfolding opcodes row_of decoded operation_of
named_at = refl

abbrev loads_second : Option (Operation × ℕ) → Bool
loads_second (Some (Load k, next)) = k == 1
loads_second _ = false

loads_at : map (λ p. loads_second (operation_at worked_program 3 p)) pcs ≡ map (λ p. false) pcs
unfolding opcodes row_of decoded operation_of
loads_at = refl

at_4 : operation_at worked_program 3 4 ≡ Some (InvokeStatic 16, 7)
unfolding opcodes row_of decoded operation_of
at_4 = refl

at_7 : operation_at worked_program 3 7 ≡ Some (Store 1, 8)
unfolding opcodes row_of decoded operation_of
at_7 = refl

at_8 : operation_at worked_program 3 8 ≡ Some (Load 0, 9)
unfolding opcodes row_of decoded operation_of
at_8 = refl

callee_4 : callee_at worked_program 3 4 ≡ Some 0
unfolding opcodes row_of decoded operation_of
callee_4 = refl

arguments_4 : arguments_at worked_program 3 4 ≡ Some 0
unfolding opcodes row_of decoded operation_of
arguments_4 = refl

node_7 : node_at worked_program 3 7 ≡ Instr 7
node_7 = ap (node_of 7) at_7

node_8 : node_at worked_program 3 8 ≡ Instr 8
node_8 = ap (node_of 8) at_8

abbrev pub shape : List Kind → List Kind → Shape
shape locals stack = record { locals = locals; stack = stack }

arrives_4 : Arrives worked_program 3 worked_code 4 (shape (Int ∷ Unset ∷ []) [])
unfolding opcodes row_of decoded operation_of
arrives_4 =
    by_step 3 4 (shape (Unset ∷ Unset ∷ []) (Int ∷ [])) (record { next = Some 4; shape = shape (Int ∷ Unset ∷ []) [] })
    (by_step 0 3 (shape (Unset ∷ Unset ∷ []) []) (record { next = Some 3; shape = shape (Unset ∷ Unset ∷ []) (Int ∷ []) }) at_start refl refl) refl refl

arrives_8 : Arrives worked_program 3 worked_code 8 (shape (Int ∷ Int ∷ []) [])
unfolding opcodes row_of decoded operation_of
arrives_8 =
    by_step 7 8 (shape (Int ∷ Unset ∷ []) (Int ∷ [])) (record { next = Some 8; shape = shape (Int ∷ Int ∷ []) [] })
    (by_step 4 7 (shape (Int ∷ Unset ∷ []) []) (record { next = Some 7; shape = shape (Int ∷ Unset ∷ []) (Int ∷ []) }) arrives_4 refl refl) refl refl

height_4 : HasHeight worked_program 3 4 0
height_4 = (worked_code, shape (Int ∷ Unset ∷ []) [], refl, arrives_4, refl)

height_8 : HasHeight worked_program 3 8 0
height_8 = (worked_code, shape (Int ∷ Int ∷ []) [], refl, arrives_8, refl)

-- ---- where it goes

-- the pc behind which control goes on to the next
abbrev left_at : NodeKind → Option ℕ
left_at (Instr p) = Some p
left_at (RetVal p) = Some p
left_at _ = None

next_node : (p q : ℕ) (operation : Operation) → operation_at worked_program 3 p ≡ Some (operation, q) → (operation ≡ Return → ⊥) → (a b : NodeKind) → FlowEdge worked_program 3 a b → left_at a ≡ Some p → b ≡ node_at worked_program 3 q
next_node p q operation at other a b (begins n e) left = absurd (none-some p left)
next_node p q operation at other a b skips left = absurd (none-some p left)
next_node p q operation at other a b (falls pc next o n found through e) left =
    let same = some_pair_parts o operation next q (sym found ∙ ap (operation_at worked_program 3) (same_Some pc p left) ∙ at) in sym e ∙ ap (node_at worked_program 3) same.1
next_node p q operation at other a b (leaves pc next found) left =
    let same = some_pair_parts Return operation next q (sym found ∙ ap (operation_at worked_program 3) (same_Some pc p left) ∙ at) in absurd (other (sym same.0))
next_node p q operation at other a b (calls pc next k found native) left = absurd (none-some p left)
next_node p q operation at other a b (arrives pc next k n found native e) left =
    let same = some_pair_parts (InvokeStatic k) operation next q (sym found ∙ ap (operation_at worked_program 3) (same_Some pc p left) ∙ at) in sym e ∙ ap (node_at worked_program 3) same.1

local_stack : (k h : ℕ) → Local k ≡ Stack h → ⊥
local_stack k h e = absurd (cc)

result_place : (n : NodeKind) (v : Place) → Writes worked_program 3 n v → n ≡ RetVal 4 → v ≡ Stack 0
result_place n v (by_instr pc next height operation u found has is) e = absurd (cc)
result_place n v (by_result pc height arguments u has takes gives at) e =
    let here : pc ≡ 4 = ap pc_or_zero e in
    let low = heights_same worked_program 3 4 height 0 (subst (λ p. HasHeight worked_program 3 p height) here has) height_4 in
    let none = same_Some arguments 0 (sym takes ∙ ap (arguments_at worked_program 3) here ∙ arguments_4) in
    at ∙ ap (λ h. Stack (h - arguments)) low ∙ ap (λ k. Stack (0 - k)) none

store_place : (n : NodeKind) (v : Place) → Writes worked_program 3 n v → n ≡ Instr 7 → v ≡ Local 1
store_place n v (by_instr pc next height operation u found has is) e =
    let same = some_pair_parts operation (Store 1) next 8 (sym found ∙ ap (operation_at worked_program 3) (ap pc_or_zero e) ∙ at_7) in
    sym (contains_one (Local 1) u (subst (λ o. Contains (writes_of o height) u) same.0 is))
store_place n v (by_result pc height arguments u has takes gives at) e = absurd (cc)

no_stack_read : (n : NodeKind) (v : Place) → Reads worked_program 3 n v → n ≡ Instr 8 → v ≡ Stack 0 → ⊥
no_stack_read n v (reads_by_instr pc next height operation u found has is) e place =
    let same = some_pair_parts operation (Load 0) next 9 (sym found ∙ ap (operation_at worked_program 3) (ap pc_or_zero e) ∙ at_8) in
    local_stack 0 0 (contains_one (Local 0) u (subst (λ o. Contains (reads_of o height) u) same.0 is) ∙ place)

two_stacks : (height : ℕ) (v : Place) → Contains (Stack (height - 1) ∷ Stack (height - 2) ∷ []) v → v ≡ Local 1 → ⊥
two_stacks height v is e = elim (contains_cons (Stack (height - 1)) (Stack (height - 2) ∷ []) v is) [
  | inl first ↦ local_stack 1 (height - 1) (sym (first ∙ e))
  | inr rest ↦ local_stack 1 (height - 2) (sym (contains_one (Stack (height - 2)) v rest ∙ e))
]

second_read : (operation : Operation) (next height : ℕ) (v : Place) → Contains (reads_of operation height) v → v ≡ Local 1 → loads_second (Some (operation, next)) ≡ true
second_read (Constant z) next height v is e = absurd (contains_none v is)
second_read (Load k) next height v is e =
    let same : Local k ≡ Local 1 = contains_one (Local k) v is ∙ e in
    let second : k ≡ 1 = cc in
    ap (λ j. j == 1) second
second_read (Store k) next height v is e = absurd (local_stack 1 (height - 1) (sym (contains_one (Stack (height - 1)) v is ∙ e)))
second_read Add next height v is e = absurd (two_stacks height v is e)
second_read Subtract next height v is e = absurd (two_stacks height v is e)
second_read (InvokeStatic k) next height v is e = absurd (contains_none v is)
second_read Return next height v is e = absurd (contains_none v is)
second_read Other next height v is e = absurd (contains_none v is)

no_second_read : (n : NodeKind) (v : Place) → Reads worked_program 3 n v → v ≡ Local 1 → ⊥
no_second_read n v (reads_by_instr pc next height operation u found has is) e =
    let inside = arrives_among has.0 pc has.1 has.3 in
    let no_load = agree_among (λ p. loads_second (operation_at worked_program 3 p)) (λ p. false) pcs loads_at pc inside in
    false≢true (sym no_load ∙ ap loads_second found ∙ second_read operation next height u is e)

no_local_argument : (pc i : ℕ) (v : Place) → ArgumentPlace worked_program 3 pc i v → v ≡ Local 1 → ⊥
no_local_argument pc i v (of_argument p height arguments k u has takes below at) e = local_stack 1 (height - arguments + k) (sym e ∙ at)

written : (v : Place) (d n : NodeKind) → FlowReaches worked_program 3 v d n → Writes worked_program 3 d v
written v d n (one y e w) = w
written v d n (more x y r not e) = written v d x r

-- the result is written over at the load behind its store
result_reaches : (v : Place) (d n : NodeKind) → FlowReaches worked_program 3 v d n → d ≡ RetVal 4 → v ≡ Stack 0 → (n ≡ Instr 7) ⊎ (n ≡ Instr 8)
result_reaches v d n (one y e w) is place = inl (next_node 4 7 (InvokeStatic 16) at_4 (λ r. absurd (cc)) d y e (ap left_at is) ∙ node_7)
result_reaches v d n (more x y r not e) is place = elim (result_reaches v d x r is place) [
  | inl at ↦ inr (next_node 7 8 (Store 1) at_7 (λ r. absurd (cc)) x y e (ap left_at at) ∙ node_8)
  | inr at ↦
      (let over : Writes worked_program 3 (Instr 8) (Stack 0) = by_instr 8 9 0 (Load 0) (Stack 0) at_8 height_8 (contains_first (Stack 0) []) in
      absurd (not (subst (λ k. Writes worked_program 3 k v) (sym at) (subst (λ u. Writes worked_program 3 (Instr 8) u) (sym place) over))))
]

-- ---- the nodes that depend on it

-- the secret's result, and the instruction that stores it
abbrev IsSecret : NodeKind → Type 0
IsSecret k = (k ≡ RetVal 4) ⊎ (k ≡ Instr 7)

no_argument : (pc i : ℕ) → IsSecret (Arg pc i) → ⊥
no_argument pc i (inl is) = absurd (cc)
no_argument pc i (inr is) = absurd (cc)

no_call : (pc : ℕ) → IsSecret (Call pc) → ⊥
no_call pc (inl is) = absurd (cc)
no_call pc (inr is) = absurd (cc)

no_entry : IsSecret Entry → ⊥
no_entry (inl is) = absurd (cc)
no_entry (inr is) = absurd (cc)

use_secret : (d n : NodeKind) (v : Place) → FlowReaches worked_program 3 v d n → Reads worked_program 3 n v → IsSecret d → IsSecret n
use_secret d n v reach reads (inl is) =
    let place = result_place d v (written v d n reach) is in
    elim (result_reaches v d n reach is place) [ inl at ↦ inr at | inr at ↦ absurd (no_stack_read n v reads at place) ]
use_secret d n v reach reads (inr is) = absurd (no_second_read n v reads (store_place d v (written v d n reach) is))

no_pass : (d : NodeKind) (pc i : ℕ) (v : Place) → FlowReaches worked_program 3 v d (Call pc) → ArgumentPlace worked_program 3 pc i v → IsSecret d → ⊥
no_pass d pc i v reach place (inl is) =
    elim (result_reaches v d (Call pc) reach is (result_place d v (written v d (Call pc) reach) is)) [ inl at ↦ no_call pc (inr at) | inr at ↦ absurd (cc) ]
no_pass d pc i v reach place (inr is) = no_local_argument pc i v place (store_place d v (written v d (Call pc) reach) is)

no_end : (pc next : ℕ) → operation_at worked_program 3 pc ≡ Some (Return, next) → IsSecret (Instr pc) → ⊥
no_end pc next found (inl is) = absurd (cc)
no_end pc next found (inr is) =
    let same = some_pair_parts Return (Store 1) next 8 (sym found ∙ ap (operation_at worked_program 3) (ap pc_or_zero is) ∙ at_7) in
    let other : Return ≡ Store 1 = same.0 in absurd (cc)

secret_cursor : (source : ℕ) (n : Node) → UsesCursor worked_program worked_labels source n → IsSecret n.kind → source ≡ 0
secret_cursor source n (at_result i pc s at_entry flow callee is) (inl e) = same_Some s 0 (sym callee ∙ ap (callee_at worked_program 3) (ap pc_or_zero e) ∙ callee_4)
secret_cursor source n (at_result i pc s at_entry flow callee is) (inr e) = absurd (cc)

cursor_secret : (source : ℕ) (n : Node) → UsesCursor worked_program worked_labels source n → source ≡ 0 → IsSecret n.kind
cursor_secret source n (at_result i pc s at_entry flow callee is) e =
    let tests = agree_among (λ p. names_secret (callee_at worked_program 3 p)) (λ p. p == 4) pcs named_at pc (return_among pc flow) in
    let named : names_secret (callee_at worked_program 3 pc) ≡ true = ap names_secret callee ∙ ap (λ k. k == 0) e in
    inl (ap (λ p. RetVal p) (eqb-true pc 4 (sym tests ∙ named)))

edge_secret : (a b : Node) (kind : EdgeKind) → DependenceEdge worked_program worked_labels a kind b → IsSecret a.kind → IsSecret b.kind
edge_secret a b kind (used i d n v at_entry flow reach reads) secret = use_secret d n v reach reads secret
edge_secret a b kind (passed i d pc k v at_entry flow reach place) secret = absurd (no_pass d pc k v reach place secret)
edge_secret a b kind (shown i pc v at_entry flow sink place) secret = absurd (no_argument pc 0 secret)
edge_secret a b kind (controlled i d n at_entry flow controls) secret = absurd (no_entry (subst IsSecret (controls_entry worked_program 3 d n controls) secret))
edge_secret a b kind (ended i pc next at_entry flow found) secret = absurd (no_end pc next found secret)
edge_secret a b kind (next_input source x y first second) secret = cursor_secret source y second (secret_cursor source x first secret)

-- ---- chains

no_way_in : (k : NodeKind) → IsSecret k → goes_in k ≡ true → ⊥
no_way_in k (inl is) h = false≢true (ap goes_in (sym is) ∙ h)
no_way_in k (inr is) h = false≢true (ap goes_in (sym is) ∙ h)

step_secret : (open_calls next : List CallSite) (from to : Node) (word : Word) → StepsOn (DependenceEdge worked_program worked_labels) open_calls from word to next → IsSecret from.kind → IsSecret to.kind
step_secret open_calls next from to (AnEdge kind) step secret = edge_secret from to kind step.0 secret
step_secret open_calls next from to Pass step secret = absurd (no_way_in from.kind secret step.0.begin)

chain_secret : (open_calls : List CallSite) (from : Node) (links : List Link) → IsChainFrom (DependenceEdge worked_program worked_labels) open_calls from links → IsSecret from.kind → IsSecret (end_of from links).kind
chain_secret open_calls from [] chain secret = secret
chain_secret open_calls from (link ∷ links) chain secret = chain_secret chain.0 link.to links chain.2 (step_secret open_calls chain.0 from link.to link.word chain.1 secret)

hidden_secret : (observer : ℕ) (n : Node) → 0 ≡ observer → HiddenByEdges worked_program worked_labels observer n → IsSecret n.kind
hidden_secret observer n low (result i pc at_entry flow miss) =
    let tests = agree_among hides (λ p. p == 4) pcs hides_at pc (return_among pc flow) in
    let hidden : hides pc ≡ true = subst (λ o. misses worked_labels o (brings (label_at worked_program worked_labels 3 pc)) ≡ true) (sym low) miss in
    inl (ap (λ p. RetVal p) (eqb-true pc 4 (sym tests ∙ hidden)))

observed_apart : (observer : ℕ) (n : Node) → ObservedByEdges worked_program worked_labels observer n → IsSecret n.kind → ⊥
observed_apart observer n (call i pc reached flow reach) secret = no_call pc secret
observed_apart observer n (let_out i pc reached flow reach) secret = no_argument pc 0 secret

pub worked_clean : AllCleanByEdges worked_program worked_labels
worked_clean observer watched from links illegal =
    observed_apart observer (end_of from links) illegal.finish (chain_secret [] from links illegal.chain (hidden_secret observer from (contains_one 0 observer watched) illegal.start))

pub worked_clean_graph : (graph : Graph) → IsDependenceGraph worked_program worked_labels graph → CleanForAll graph worked_labels
worked_clean_graph graph whole observer watched = record {
  no_chain = λ from links illegal. worked_clean observer watched from links ((illegal_both worked_program worked_labels graph whole observer from links).0 illegal);
  no_conflict = no_fork worked_program worked_labels graph whole;
}
