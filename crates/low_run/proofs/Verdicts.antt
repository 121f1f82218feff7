-- From walks of a graph between the two sides of an observer to illegal chains, and back.
use Rattle.std.proofs.Common.{◌≡◌, ◌⊎◌, ◌↔◌, inl, inr, ℕ, zero, suc, Bool, true, false, ◌&&◌, ◌==◌, List, [], Option, Some, None, Contains, option_map, option_and_then, slice_get, refl, sym, ap, subst, ◌∙◌, arith}
use Rattle.std.proofs.lemmas.Option.{same_Some}
use Rattle.std.proofs.lemmas.Bool.Decides.{nat_tests}
use Rattle.jo_prog.specs.declared.labels.Label.{Label}
use Rattle.jo_prog.specs.declared.labels.Labels.{Labels}
use Rattle.jo_prog.specs.declared.program.Program.{Program}
use Rattle.jo_prog.specs.Labels.{label_of, reaches, misses, shown_at, brings, lets_out}
use Rattle.jo_prog.specs.PlainCode.{IsPlainProgram}
use Rattle.jo_prog.specs.Program.{callee_at, operation_at}
use Rattle.dep_nodes.specs.declared.kinds.NodeKind.{NodeKind}
use Rattle.dep_nodes.specs.declared.kinds.NodeKind.TheVariants.{Entry, Call, RetVal, Arg}
use Rattle.dep_nodes.specs.declared.graphs.NodeName.{NodeName}
use Rattle.dep_nodes.specs.declared.graphs.Graph.{Graph}
use Rattle.dep_nodes.specs.declared.chains.Chain.{Chain}
use Rattle.jo_prog.specs.declared.operations.Operation.{Operation}
use Rattle.jo_prog.specs.declared.operations.Operation.TheVariants.{Constant, Load, Store, Add, Subtract, InvokeStatic, Return, Other}
use Rattle.jo_ids.specs.Path.{stays, goes}
use Rattle.dependence.specs.Flow.{IsFlowNode, FlowEdge, begins, skips, falls, leaves, calls, arrives, node_at, node_of, FlowPath}
use Rattle.dep_nodes.specs.Nodes.{Instance, Node, node, node_named}
use Rattle.dep_nodes.specs.Graphs.{graph_name, graph_node, HasName, links_of, walk_end, WalksTo}
use Rattle.dep_nodes.specs.Chains.{Link, end_of}
use Rattle.dependence.specs.Graph.{IsNode, of_flow, of_argument, of_kind, of_thrown, of_parameter, IsReached, label_at}
use Rattle.dependence.specs.GraphData.{resolved_of, IsDependenceGraph}
use Rattle.plain_graph.proofs.ChainWalks.{walk_is_valid, walk_ends, chain_is_walk, chain_of_program, no_fork}
use Rattle.low_run.specs.Verdict.{label_resolved, Hides, Shows, IsHidden, IsObserved, IllegalChain, Clean, CleanForAll, HasCleanGraph}
use Rattle.low_run.specs.ByEdges.{HiddenByEdges, result, ObservedByEdges, call, let_out, IllegalByEdges, AllCleanByEdges}
use Rattle.low_run.specs.Security.{Secure}
use Rattle.low_run.specs.Sides.{is_kind_on, is_on, hidden_nodes, observed_nodes, IsForbiddenWalk}
use Rattle.low_run.specs.declared.refusals.Side.TheVariants.{Hidden, Observed}
use Rattle.low_run.proofs.CleanRuns.{clean_secure}
use Rattle.low_run.proofs.Sides.{passes_at, number_in}

-- ---- nodes of a graph

-- the name of a node of the graph
pub named : (graph : Graph) (n : ℕ) (x : Node) → graph_node graph n ≡ Some x → (name : NodeName) × (slice_get graph.nodes n ≡ Some name) × (node_named name ≡ x)
named graph n x at = named_by (slice_get graph.nodes n) refl at
  where
    named_by : (o : Option NodeName) → slice_get graph.nodes n ≡ o → option_map node_named o ≡ Some x → (name : NodeName) × (slice_get graph.nodes n ≡ Some name) × (node_named name ≡ x)
    named_by None e h = absurd (cc)
    named_by (Some name) e h = (name, e, same_Some _ _ h)

-- ---- kinds

pub true_not_false : true ≡ false → ⊥
true_not_false h = let P : Bool → Type 0 = λ b. elim b [ true ↦ Unit {0} | false ↦ ⊥ ] in subst P h tt

hidden_kind : (labels : Labels) (observer : ℕ) (label : Option Label) (kind : NodeKind) → is_kind_on Hidden labels observer label kind ≡ true
    → (pc : ℕ) × (kind ≡ RetVal pc) × (misses labels observer (brings label) ≡ true)
hidden_kind labels observer label (RetVal pc) h = (pc, refl, h)
hidden_kind labels observer label _ h = absurd (cc)

-- a number above 0 is no 0
eqb-suc-zero : (i : ℕ) → (suc i == 0) ≡ false
eqb-suc-zero i = grind (arith, nat_tests)

first_so_not : (a b : Bool) → a ≡ false → (a && b) ≡ true → ⊥
first_so_not false b e h = true_not_false (sym h)
first_so_not true b e h = true_not_false e

observed_argument : (labels : Labels) (observer : ℕ) (label : Option Label) (pc i : ℕ) → is_kind_on Observed labels observer label (Arg pc i) ≡ true
    → (i ≡ 0) × (reaches labels observer (lets_out label) ≡ true)
observed_argument labels observer label pc zero h = (refl, h)
observed_argument labels observer label pc (suc i) h = absurd (first_so_not (suc i == 0) (reaches labels observer (lets_out label)) (eqb-suc-zero i) h)

observed_kind : (labels : Labels) (observer : ℕ) (label : Option Label) (kind : NodeKind) → is_kind_on Observed labels observer label kind ≡ true
    → ((pc : ℕ) × (kind ≡ Call pc) × (reaches labels observer (shown_at label) ≡ true)) ⊎ ((pc : ℕ) × (kind ≡ Arg pc 0) × (reaches labels observer (lets_out label) ≡ true))
observed_kind labels observer label (Call pc) h = inl (pc, refl, h)
observed_kind labels observer label (Arg pc i) h =
    let a = observed_argument labels observer label pc i h in
    inr (pc, ap (Arg pc) a.0, a.1)
observed_kind labels observer label _ h = absurd (cc)

-- ---- the label of a node

-- a name with another kind
abbrev with_kind : NodeName → NodeKind → NodeName
with_kind name kind = record { method = name.method; sites = name.sites; kind = kind; resolved = name.resolved }

label_is : (program : Program) (labels : Labels) (m pc : ℕ) → option_and_then (label_of labels) (callee_at program m pc) ≡ label_at program labels m pc
label_is program labels m pc = label_by (callee_at program m pc) refl
  where
    label_by : (o : Option ℕ) → callee_at program m pc ≡ o → option_and_then (label_of labels) (callee_at program m pc) ≡ label_at program labels m pc
    label_by None e = rw e refl
    label_by (Some callee) e = rw e refl

-- the label that a node's name leads to is that of the call at its pc
named_label : (program : Program) (labels : Labels) (name : NodeName) (kind : NodeKind) (pc : ℕ) → name.resolved ≡ resolved_of program name → name.kind ≡ kind
    → resolved_of program (with_kind name kind) ≡ callee_at program name.method pc → label_resolved labels name.resolved ≡ label_at program labels name.method pc
named_label program labels name kind pc r e h =
    let Resolved : NodeKind → Type 0 = λ k. name.resolved ≡ resolved_of program (with_kind name k) in
    let callee : name.resolved ≡ callee_at program name.method pc = subst Resolved e r ∙ h in
    ap (option_and_then (label_of labels)) callee ∙ label_is program labels name.method pc

-- ---- nodes of the dependence graph

-- no thread stands at an argument
no_argument_of : (p : ℕ) (o : Option (Operation × ℕ)) (pc k : ℕ) → node_of p o ≡ Arg pc k → ⊥
no_argument_of p None pc k e = absurd (cc)
no_argument_of p (Some (Constant z, next)) pc k e = absurd (cc)
no_argument_of p (Some (Load l, next)) pc k e = absurd (cc)
no_argument_of p (Some (Store l, next)) pc k e = absurd (cc)
no_argument_of p (Some (Add, next)) pc k e = absurd (cc)
no_argument_of p (Some (Subtract, next)) pc k e = absurd (cc)
no_argument_of p (Some (InvokeStatic i, next)) pc k e = absurd (cc)
no_argument_of p (Some (Return, next)) pc k e = absurd (cc)
no_argument_of p (Some (Other, next)) pc k e = absurd (cc)

no_argument_at : (program : Program) (m p pc k : ℕ) → node_at program m p ≡ Arg pc k → ⊥
no_argument_at program m p pc k e = no_argument_of p (operation_at program m p) pc k e

-- no flow edge leads to an argument
no_edge : (program : Program) (m : ℕ) (a b : NodeKind) (pc k : ℕ) → FlowEdge program m a b → b ≡ Arg pc k → ⊥
no_edge program m a b pc k (begins n at) e = no_argument_at program m 0 pc k (at ∙ e)
no_edge program m a b pc k skips e = absurd (cc)
no_edge program m a b pc k (falls p q o n found through at) e = no_argument_at program m q pc k (at ∙ e)
no_edge program m a b pc k (leaves p q found) e = absurd (cc)
no_edge program m a b pc k (calls p q i found native) e = absurd (cc)
no_edge program m a b pc k (arrives p q i n found native at) e = no_argument_at program m q pc k (at ∙ e)

no_path : (program : Program) (m : ℕ) (a b : NodeKind) (pc k : ℕ) → FlowPath program m a b → b ≡ Arg pc k → (a ≡ Arg pc k → ⊥) → ⊥
no_path program m a b pc k (stays n) e free = free e
no_path program m a c pc k (goes x y z first path) e free = no_path program m y z pc k path e (no_edge program m x y pc k first)

no_argument : (program : Program) (m : ℕ) (n : NodeKind) (pc k : ℕ) → IsFlowNode program m n → n ≡ Arg pc k → ⊥
no_argument program m n pc k flow e = no_path program m Entry n pc k flow e (λ h. absurd (cc))

result_node : (program : Program) (labels : Labels) (x : Node) (pc : ℕ) → IsNode program labels x → x.kind ≡ RetVal pc → IsReached labels x.inst × IsFlowNode program x.inst.method (RetVal pc)
result_node program labels x pc (of_flow i n reached flow) e = (reached, subst (IsFlowNode program i.method) e flow)
result_node program labels x pc (of_argument i p a v reached flow place) e = absurd (cc)
result_node program labels x pc (of_kind i reached) e = absurd (cc)
result_node program labels x pc (of_thrown i reached) e = absurd (cc)
result_node program labels x pc (of_parameter i reached takes) e = absurd (cc)

call_node : (program : Program) (labels : Labels) (x : Node) (pc : ℕ) → IsNode program labels x → x.kind ≡ Call pc → IsReached labels x.inst × IsFlowNode program x.inst.method (Call pc)
call_node program labels x pc (of_flow i n reached flow) e = (reached, subst (IsFlowNode program i.method) e flow)
call_node program labels x pc (of_argument i p a v reached flow place) e = absurd (cc)
call_node program labels x pc (of_kind i reached) e = absurd (cc)
call_node program labels x pc (of_thrown i reached) e = absurd (cc)
call_node program labels x pc (of_parameter i reached takes) e = absurd (cc)

argument_node : (program : Program) (labels : Labels) (x : Node) (pc k : ℕ) → IsNode program labels x → x.kind ≡ Arg pc k → IsReached labels x.inst × IsFlowNode program x.inst.method (Call pc)
argument_node program labels x pc k (of_flow i n reached flow) e = absurd (no_argument program i.method n pc k flow e)
argument_node program labels x pc k (of_argument i p a v reached flow place) e = (reached, subst (λ q. IsFlowNode program i.method (Call q)) (let same : p ≡ pc = cc in same) flow)
argument_node program labels x pc k (of_kind i reached) e = absurd (cc)
argument_node program labels x pc k (of_thrown i reached) e = absurd (cc)
argument_node program labels x pc k (of_parameter i reached takes) e = absurd (cc)

-- ---- names on a side

on_hides : (labels : Labels) (observer : ℕ) (name : NodeName) → Hides labels observer name → is_on Hidden labels observer name ≡ true
on_hides labels observer name (pc, kind, miss) = ap (λ k. is_kind_on Hidden labels observer (label_resolved labels name.resolved) k) kind ∙ miss

on_shows : (labels : Labels) (observer : ℕ) (name : NodeName) → Shows labels observer name → is_on Observed labels observer name ≡ true
on_shows labels observer name (inl k) = ap (λ x. is_kind_on Observed labels observer (label_resolved labels name.resolved) x) k.1 ∙ k.2
on_shows labels observer name (inr k) = ap (λ x. is_kind_on Observed labels observer (label_resolved labels name.resolved) x) k.1 ∙ k.2

name_node : (graph : Graph) (x : Node) (name : NodeName) (has : HasName graph x name) → graph_node graph has.0 ≡ Some x
name_node graph x name has = ap (option_map node_named) has.1 ∙ ap (λ n. Some n) has.2

module _ (program : Program) (labels : Labels) (graph : Graph) (whole : IsDependenceGraph program labels graph) (observer : ℕ) where
  -- ---- walks are illegal chains

  -- a walk from what is hidden to what is observed is an illegal chain
  pub forbidden_is_illegal : (chain : Chain) → IsForbiddenWalk labels graph observer chain
      → (from : Node) × (graph_node graph chain.start ≡ Some from) × IllegalChain graph labels observer from (links_of graph chain.steps)
  forbidden_is_illegal chain f =
      let s = passes_at (is_on Hidden labels observer) 0 graph.nodes chain.start f.start in
      let place : s.place ≡ chain.start = omega (arith, s.number) in
      let found : graph_name graph chain.start ≡ Some s.name = subst (λ n. graph_name graph n ≡ Some s.name) place s.found in
      let from = node_named s.name in
      let at : graph_node graph chain.start ≡ Some from = ap (option_map node_named) found in
      let end = walk_end chain.start chain.steps in
      let e = passes_at (is_on Observed labels observer) 0 graph.nodes end f.finish in
      let end_place : e.place ≡ end = omega (arith, e.number) in
      let end_found : graph_name graph end ≡ Some e.name = subst (λ n. graph_name graph n ≡ Some e.name) end_place e.found in
      let ends = walk_ends program labels graph whole chain.start from chain.steps at f.walk in
      let last : node_named e.name ≡ end_of from (links_of graph chain.steps) = same_Some _ _ (sym (ap (option_map node_named) end_found) ∙ ends) in
      let illegal : IllegalChain graph labels observer from (links_of graph chain.steps) = record {
        start = (s.name, (chain.start, found, refl), hidden_kind labels observer (label_resolved labels s.name.resolved) s.name.kind s.passes);
        chain = walk_is_valid program labels graph whole chain.start from chain.steps at f.walk;
        finish = (e.name, (end, end_found, last), observed_kind labels observer (label_resolved labels e.name.resolved) e.name.kind e.passes);
      } in
      (from, at, illegal)

  -- where no walk leads from what is hidden to what is observed, the graph is clean
  pub no_walk_is_clean : ((from : ℕ) → Contains (hidden_nodes labels observer graph) from → WalksTo graph (observed_nodes labels observer graph) from → ⊥) → Clean graph labels observer
  no_walk_is_clean none = record {
    no_chain = λ from links illegal.
        let start = illegal.start in
        let finish = illegal.finish in
        let n = start.1.0 in
        let walk = chain_is_walk graph whole.once [] n from links (name_node graph from start.0 start.1) illegal.chain in
        let end : finish.1.0 ≡ walk_end n walk.0 = whole.once finish.1.0 (walk_end n walk.0) (end_of from links) (name_node graph (end_of from links) finish.0 finish.1) walk.2 in
        let seen = number_in (is_on Observed labels observer) graph.nodes finish.1.0 finish.0 finish.1.1 (on_shows labels observer finish.0 finish.2) in
        none n (number_in (is_on Hidden labels observer) graph.nodes n start.0 start.1.1 (on_hides labels observer start.0 start.2))
        (walk.0, walk.1, subst (λ k. Contains (observed_nodes labels observer graph) k) end seen);
    no_conflict = no_fork program labels graph whole;
  }

  -- ---- illegal chains of the graph are those of the program

  -- the node of a name, with its kind known
  node_as : (n : ℕ) (name : NodeName) (kind : NodeKind) → graph_name graph n ≡ Some name → name.kind ≡ kind → IsNode program labels (node_named name)
  node_as n name kind at e = whole.only_nodes n (node_named name) (ap (option_map node_named) at)

  hidden_at : (n : ℕ) (name : NodeName) → graph_name graph n ≡ Some name → Hides labels observer name → HiddenByEdges program labels observer (node_named name)
  hidden_at n name at k =
      let r = result_node program labels (node_named name) k.0 (node_as n name (RetVal k.0) at k.1) k.1 in
      let label = named_label program labels name (RetVal k.0) k.0 (whole.resolved n name at) k.1 refl in
      let i : Instance = (node_named name).inst in
      let Is : NodeKind → Type 0 = λ kind. HiddenByEdges program labels observer (node i kind) in
      subst Is (sym k.1) (result i k.0 r.0 r.1 (ap (λ l. misses labels observer (brings l)) (sym label) ∙ k.2))

  observed_at : (n : ℕ) (name : NodeName) → graph_name graph n ≡ Some name → Shows labels observer name → ObservedByEdges program labels observer (node_named name)
  observed_at n name at shows =
      let i : Instance = (node_named name).inst in
      let Is : NodeKind → Type 0 = λ kind. ObservedByEdges program labels observer (node i kind) in
      elim shows [
        | inl k ↦
            (let r = call_node program labels (node_named name) k.0 (node_as n name (Call k.0) at k.1) k.1 in
            let label = named_label program labels name (Call k.0) k.0 (whole.resolved n name at) k.1 refl in
            subst Is (sym k.1) (call i k.0 r.0 r.1 (ap (λ l. reaches labels observer (shown_at l)) (sym label) ∙ k.2)))
        | inr k ↦
            (let r = argument_node program labels (node_named name) k.0 0 (node_as n name (Arg k.0 0) at k.1) k.1 in
            let label = named_label program labels name (Arg k.0 0) k.0 (whole.resolved n name at) k.1 refl in
            subst Is (sym k.1) (let_out i k.0 r.0 r.1 (ap (λ l. reaches labels observer (lets_out l)) (sym label) ∙ k.2)))
      ]

  -- the name of a node with its label
  resolved_label : (n : ℕ) (name : NodeName) (i : Instance) (kind : NodeKind) (pc : ℕ) → graph_name graph n ≡ Some name → node_named name ≡ node i kind
      → resolved_of program (with_kind name kind) ≡ callee_at program name.method pc → label_resolved labels name.resolved ≡ label_at program labels i.method pc
  resolved_label n name i kind pc at e h =
      named_label program labels name kind pc (whole.resolved n name at) (ap (λ (x : Node). x.kind) e) h ∙ ap (λ m. label_at program labels m pc) (ap (λ (x : Node). x.inst.method) e)

  hidden_in_graph : (x : Node) → HiddenByEdges program labels observer x → IsHidden graph labels observer x
  hidden_in_graph x (result i pc reached flow miss) =
      let n = whole.each_node (node i (RetVal pc)) (of_flow i (RetVal pc) reached flow) in
      let name = named graph n.0 (node i (RetVal pc)) n.1 in
      let label = resolved_label n.0 name.0 i (RetVal pc) pc name.1 name.2 refl in
      (name.0, (n.0, name.1, name.2), (pc, ap (λ (y : Node). y.kind) name.2, ap (λ l. misses labels observer (brings l)) label ∙ miss))

  observed_in_graph : (x : Node) → ObservedByEdges program labels observer x → (n : ℕ) → graph_node graph n ≡ Some x → IsObserved graph labels observer x
  observed_in_graph x (call i pc reached flow reach) n at =
      let name = named graph n (node i (Call pc)) at in
      let label = resolved_label n name.0 i (Call pc) pc name.1 name.2 refl in
      (name.0, (n, name.1, name.2), inl (pc, ap (λ (y : Node). y.kind) name.2, ap (λ l. reaches labels observer (shown_at l)) label ∙ reach))
  observed_in_graph x (let_out i pc reached flow reach) n at =
      let name = named graph n (node i (Arg pc 0)) at in
      let label = resolved_label n name.0 i (Arg pc 0) pc name.1 name.2 refl in
      (name.0, (n, name.1, name.2), inr (pc, ap (λ (y : Node). y.kind) name.2, ap (λ l. reaches labels observer (lets_out l)) label ∙ reach))

  illegal_in_graph : (from : Node) (links : List Link) → IllegalByEdges program labels observer from links → IllegalChain graph labels observer from links
  illegal_in_graph from links illegal =
      let start = hidden_in_graph from illegal.start in
      let chain = (chain_of_program program labels graph whole [] from links).1 illegal.chain in
      let walk = chain_is_walk graph whole.once [] start.1.0 from links (name_node graph from start.0 start.1) chain in
      record { start = start; chain = chain; finish = observed_in_graph (end_of from links) illegal.finish (walk_end start.1.0 walk.0) walk.2 }

  illegal_by_edges : (from : Node) (links : List Link) → IllegalChain graph labels observer from links → IllegalByEdges program labels observer from links
  illegal_by_edges from links illegal =
      let start = illegal.start in
      let finish = illegal.finish in
      record {
        start = subst (λ x. HiddenByEdges program labels observer x) start.1.2 (hidden_at start.1.0 start.0 start.1.1 start.2);
        chain = (chain_of_program program labels graph whole [] from links).0 illegal.chain;
        finish = subst (λ x. ObservedByEdges program labels observer x) finish.1.2 (observed_at finish.1.0 finish.0 finish.1.1 finish.2);
      }

  pub illegal_both : (from : Node) (links : List Link) → IllegalChain graph labels observer from links ↔ IllegalByEdges program labels observer from links
  illegal_both from links = (illegal_by_edges from links, illegal_in_graph from links)

clean_by_edges : (program : Program) (labels : Labels) (graph : Graph) → IsDependenceGraph program labels graph → CleanForAll graph labels → AllCleanByEdges program labels
clean_by_edges program labels graph whole clean observer among from links illegal =
    (clean observer among).no_chain from links ((illegal_both program labels graph whole observer from links).1 illegal)

-- a plain program with a clean graph is secure
pub clean_graph_secure : (program : Program) (labels : Labels) → IsPlainProgram program labels → HasCleanGraph program labels → Secure program labels
clean_graph_secure program labels plain (graph, whole, clean) = clean_secure program labels plain (clean_by_edges program labels graph whole clean)
