-- What stands at the nodes of a wide graph, and at those of uses.
use Rattle.std.specs.Prelude.{◌↔◌, cond, option_map, slice_get, IsSomeAnd}
use Rattle.std.proofs.Common.{◌≡◌, ℕ, ◌<◌, Bool, true, false, List, length, Option, Some, None, Contains, refl, sym, ◌∙◌, ap, subst}
use Rattle.std.proofs.lemmas.Option.{same_Some, some_pair_parts, slice_get_within}
use Rattle.jo_ids.proofs.PathLemmas.{kept_along}
use Rattle.jo_insn.specs.declared.instructions.Insn.{Insn}
use Rattle.jo_prog.specs.declared.program.Program.{Program}
use Rattle.jo_prog.specs.declared.program.MemberRef.{MemberRef}
use Rattle.jo_prog.specs.Sites.{opcode_of}
use Rattle.dep_nodes.specs.declared.kinds.NodeKind.{NodeKind}
use Rattle.dep_nodes.specs.declared.kinds.NodeKind.TheVariants.{Instr, Call}
use Rattle.dependence.specs.declared.flow.Place.{Place}
use Rattle.dependence.specs.declared.flows.FlowNode.{FlowNode}
use Rattle.dependence.specs.declared.flows.FlowRow.{FlowRow}
use Rattle.dependence.specs.declared.flows.Use.{Use}
use Rattle.dependence.specs.FlowData.{ReadsIn, IsUse}
use Rattle.dependence.specs.WideGraph.{insn_at, operand_of, is_call, node_of_insn, IsFirst, WideStep, begins, skips, falls, jumps, polls, turns, loops, returns, raises, calls_native_of, calls, comes_back, rethrows, stays_away, arrives, caught, polls_caught, turns_caught, loops_caught, uncaught, handles, IsWideNode}
use Rattle.dependence.specs.NodePlaces.{CallAt, ArgumentPlace}
use Rattle.dependence.specs.GraphsAsData.{kind_at, ListsRead, pc_kept, node_with, IsWideGraph}
use Rattle.method_views.specs.Standing.{standing_by, ref_in, UseAt}

pub never : {A : Type 0} → (A → ⊥) → (false ≡ true) ↔ A
never none = (λ e. absurd (cc), λ a. absurd (none a))

-- ---- rows

pub kind_says : (wide : List FlowRow) (n : ℕ) (node : FlowNode) → option_map (λ (row : FlowRow). row.node) (slice_get wide n) ≡ Some node → kind_at wide n ≡ Some node.kind
kind_says wide n node e = by_row (slice_get wide n) e
  where
    by_row : (o : Option FlowRow) → option_map (λ (row : FlowRow). row.node) o ≡ Some node → option_map (λ (row : FlowRow). row.node.kind) o ≡ Some node.kind
    by_row None f = absurd (cc)
    by_row (Some row) f = ap (λ (x : FlowNode). Some x.kind) (same_Some row.node node f)

pub reads_are : (flow : List FlowRow) (node : ℕ) (places : List Place) → option_map (λ row. row.reads) (slice_get flow node) ≡ Some places → (v : Place) → Contains places v ↔ ReadsIn flow node v
reads_are flow node places is v = by_row (slice_get flow node) is
  where
    by_row : (o : Option FlowRow) → option_map (λ row. row.reads) o ≡ Some places → Contains places v ↔ IsSomeAnd o (λ row. Contains row.reads v)
    by_row None e = absurd (cc)
    by_row (Some row) e = subst (λ (o : Option (List Place)). IsSomeAnd o (λ (xs : List Place). Contains places v ↔ Contains xs v)) (sym e) (λ h. h, λ h. h)

-- ---- what stands at a node

-- a call stands at a Call, and another instruction at an Instr
abbrev pub StandsThere : Program → ℕ → NodeKind → Type 0
StandsThere program m (Instr pc) = (insn : Insn) × (next : ℕ) × (insn_at program m pc ≡ Some (insn, next)) × (node_of_insn pc insn ≡ Instr pc)
StandsThere program m (Call pc) = (insn : Insn) × (next : ℕ) × (insn_at program m pc ≡ Some (insn, next)) × (node_of_insn pc insn ≡ Call pc)
StandsThere program m _ = Unit {0}

module _ (program : Program) (m : ℕ) where
  stands_by : (pc next : ℕ) (insn : Insn) → insn_at program m pc ≡ Some (insn, next) → (b : Bool) → is_call (opcode_of insn) ≡ b → StandsThere program m (cond b (Call pc) (Instr pc))
  stands_by pc next insn at true e = (insn, next, at, ap (λ b. cond b (Call pc) (Instr pc)) e)
  stands_by pc next insn at false e = (insn, next, at, ap (λ b. cond b (Call pc) (Instr pc)) e)

  first_stands : (pc : ℕ) (n : NodeKind) → IsFirst program m pc n → StandsThere program m n
  first_stands pc n (insn, next, at, is) = subst (λ k. StandsThere program m k) (sym is) (stands_by pc next insn at (is_call (opcode_of insn)) refl)

  step_stands : (a b : NodeKind) → WideStep program m a b → StandsThere program m b
  step_stands _ _ (begins n first) = first_stands 0 n first
  step_stands _ _ skips = tt
  step_stands _ _ (falls pc next insn n at goes first) = first_stands next n first
  step_stands _ _ (jumps pc target n jump ahead first) = first_stands target n first
  step_stands _ _ (polls pc target n jump back first) = tt
  step_stands _ _ (turns pc target n jump back first) = first_stands target n first
  step_stands _ _ (loops pc target jump back) = tt
  step_stands _ _ (returns pc stands) = tt
  step_stands _ _ (raises pc n stands first) = tt
  step_stands _ _ (calls_native_of pc stands native) = tt
  step_stands _ _ (calls pc stands other) = tt
  step_stands _ _ (comes_back pc) = tt
  step_stands _ _ (rethrows pc) = tt
  step_stands _ _ (stays_away pc) = tt
  step_stands _ _ (arrives pc next insn n at call first) = first_stands next n first
  step_stands _ _ (caught pc k handler covers ahead) = tt
  step_stands _ _ (polls_caught pc k handler covers back) = tt
  step_stands _ _ (turns_caught pc k handler covers back) = tt
  step_stands _ _ (loops_caught pc k handler covers back) = tt
  step_stands _ _ (uncaught pc) = tt
  step_stands _ _ (handles k row n at first) = first_stands row.handler n first

  pub wide_stands : (n : NodeKind) → IsWideNode program m n → StandsThere program m n
  wide_stands n path = kept_along (StandsThere program m) (λ a b step h. step_stands a b step) path tt

-- what a call there names
module _ (program : Program) (m pc next : ℕ) (insn : Insn) (found : insn_at program m pc ≡ Some (insn, next)) where
  pub ref_there : (call : CallAt program m pc) → ref_in (operand_of program m (Some (insn, next))) ≡ Some call.ref
  ref_there call = ap (λ f. ref_in (operand_of program m f)) (sym found ∙ call.stands) ∙ ap ref_in call.names

  pub same_ref : (call : CallAt program m pc) (ref : MemberRef) → ref_in (operand_of program m (Some (insn, next))) ≡ Some ref → call.ref ≡ ref
  same_ref call ref names = same_Some call.ref ref (sym (ref_there call) ∙ names)

  pub same_insn : (call : CallAt program m pc) → call.insn ≡ insn
  same_insn call = (some_pair_parts call.insn insn call.next next (sym call.stands ∙ found)).0

-- ---- by number

module _ (program : Program) (m : ℕ) (H : ℕ → ℕ → Type 0) (wide : List FlowRow) (is : IsWideGraph program m H wide) where
  -- the row of a number, and what its node keeps
  pub record NodeIs (n : ℕ) (k : NodeKind) : Type 0 where
    pub row : FlowRow
    pub at : slice_get wide n ≡ Some row
    pub same : row.node ≡ node_with program m k (pc_kept k)

  pub node_is : (n : ℕ) (k : NodeKind) → kind_at wide n ≡ Some k → NodeIs n k
  node_is n k e = by_row (slice_get wide n) refl e
    where
      by_row : (o : Option FlowRow) → slice_get wide n ≡ o → option_map (λ (row : FlowRow). row.node.kind) o ≡ Some k → NodeIs n k
      by_row None at f = absurd (cc)
      by_row (Some row) at f =
          let kind : row.node.kind ≡ k = same_Some row.node.kind k f in
          record { row = row; at = at; same = subst (λ x. row.node ≡ node_with program m x (pc_kept x)) kind (is.nodes n row at) }

  pub kind_below : (n : ℕ) (k : NodeKind) → kind_at wide n ≡ Some k → n < length wide
  kind_below n k at = let node = node_is n k at in slice_get_within wide n node.row node.at

  pub node_kept : (n : ℕ) (node : FlowNode) → option_map (λ (row : FlowRow). row.node) (slice_get wide n) ≡ Some node → node ≡ node_with program m node.kind (pc_kept node.kind)
  node_kept n node e =
      let there = node_is n node.kind (kind_says wide n node e) in
      same_Some node there.row.node (sym e ∙ ap (option_map (λ (row : FlowRow). row.node)) there.at) ∙ there.same

  -- the instruction that stands at a node is at its pc
  pub record Found (n pc : ℕ) (insn : Insn) : Type 0 where
    pub next : ℕ
    pub stands : insn_at program m pc ≡ Some (insn, next)
    pub node : kind_at wide n ≡ Some (node_of_insn pc insn)

  same_found : (n : ℕ) (k : NodeKind) (p pc next : ℕ) (own insn : Insn) → kind_at wide n ≡ Some k → insn_at program m p ≡ Some (own, next) → node_of_insn p own ≡ k → ◌≡◌ {A = Option (ℕ × Insn)} (Some (p, own)) (Some (pc, insn)) → Found n pc insn
  same_found n k p pc next own insn at found node e =
      let same = some_pair_parts p pc own insn e in
      record {
        next = next;
        stands = subst (λ i. insn_at program m pc ≡ Some (i, next)) same.1 (subst (λ x. insn_at program m x ≡ Some (own, next)) same.0 found);
        node = at ∙ ap (λ x. Some x) (sym node ∙ ap (λ x. node_of_insn x own) same.0 ∙ ap (node_of_insn pc) same.1);
      }

  found_at : (n : ℕ) (k : NodeKind) → kind_at wide n ≡ Some k → (pc : ℕ) (insn : Insn) → standing_by k (node_with program m k (pc_kept k)).insn ≡ Some (pc, insn) → Found n pc insn
  found_at n (Instr p) at pc insn e =
      let s = wide_stands program m (Instr p) (is.graph.only_nodes n (Instr p) at) in
      same_found n (Instr p) p pc s.1 s.0 insn at s.2 s.3 (subst (λ o. standing_by (Instr p) (option_map (λ (found : Insn × ℕ). found.0) o) ≡ Some (pc, insn)) s.2 e)
  found_at n (Call p) at pc insn e =
      let s = wide_stands program m (Call p) (is.graph.only_nodes n (Call p) at) in
      same_found n (Call p) p pc s.1 s.0 insn at s.2 s.3 (subst (λ o. standing_by (Call p) (option_map (λ (found : Insn × ℕ). found.0) o) ≡ Some (pc, insn)) s.2 e)
  found_at n k at pc insn e = absurd (cc)

  pub found_there : (n : ℕ) (node : FlowNode) → option_map (λ (row : FlowRow). row.node) (slice_get wide n) ≡ Some node → (pc : ℕ) (insn : Insn) → standing_by node.kind node.insn ≡ Some (pc, insn) → Found n pc insn
  found_there n node e pc insn stands =
      found_at n node.kind (kind_says wide n node e) pc insn (ap (standing_by node.kind) (sym (ap (λ (x : FlowNode). x.insn) (node_kept n node e))) ∙ stands)

  -- what stands at the node is told by the node
  pub told_by_node : (n : ℕ) (node : FlowNode) → option_map (λ (row : FlowRow). row.node) (slice_get wide n) ≡ Some node → (pc : ℕ) (insn : Insn) → Found n pc insn → standing_by node.kind node.insn ≡ Some (pc, insn)
  told_by_node n node e pc insn at =
      let kind : node.kind ≡ node_of_insn pc insn = same_Some node.kind (node_of_insn pc insn) (sym (kind_says wide n node e) ∙ at.node) in
      ap (standing_by node.kind) (ap (λ (x : FlowNode). x.insn) (node_kept n node e)) ∙ ap (λ k. standing_by k (node_with program m k (pc_kept k)).insn) kind ∙ by_call (is_call (opcode_of insn))
    where
      by_call : (b : Bool) → standing_by (cond b (Call pc) (Instr pc)) (node_with program m (cond b (Call pc) (Instr pc)) (pc_kept (cond b (Call pc) (Instr pc)))).insn ≡ Some (pc, insn)
      by_call true = ap (λ o. standing_by (Call pc) (option_map (λ (found : Insn × ℕ). found.0) o)) at.stands
      by_call false = ap (λ o. standing_by (Instr pc) (option_map (λ (found : Insn × ℕ). found.0) o)) at.stands

  module _ (u : Use) where
    pub use_at : IsUse wide u → (node : FlowNode) → option_map (λ (row : FlowRow). row.node) (slice_get wide u.node) ≡ Some node → (pc : ℕ) (insn : Insn) → standing_by node.kind node.insn ≡ Some (pc, insn) → UseAt program m wide u pc insn
    use_at is_use node e pc insn stands =
        let f = found_there u.node node e pc insn stands in
        record { next = f.next; stands = f.stands; node = f.node; is_use = is_use }

    pub stands_at : (node : FlowNode) → option_map (λ (row : FlowRow). row.node) (slice_get wide u.node) ≡ Some node → (pc : ℕ) (insn : Insn) → UseAt program m wide u pc insn → standing_by node.kind node.insn ≡ Some (pc, insn)
    stands_at node e pc insn at = told_by_node u.node node e pc insn (record { next = at.next; stands = at.stands; node = at.node })

    module _ (pc : ℕ) (insn : Insn) (at : UseAt program m wide u pc insn) where
      pub listed_here : ListsRead program m H (node_of_insn pc insn) u.place
      listed_here = (is.graph.reads u.node (node_of_insn pc insn) u.place at.node).0 at.is_use.0

      pub argument_here : is_call (opcode_of insn) ≡ true → (i : ℕ) × ArgumentPlace program m H pc i u.place
      argument_here named = subst (λ k. ListsRead program m H k u.place) (ap (λ b. cond b (Call pc) (Instr pc)) named) listed_here
