-- A use at the node of an instruction: what stands there, and what its definition makes of it.
use Rattle.std.specs.Prelude.{◌↔◌, cond, option_map, slice_get}
use Rattle.std.proofs.Common.{inl, inr, ◌≡◌, ℕ, Bool, true, false, Option, Some, None, List, refl, sym, ◌∙◌, ap, subst}
use Rattle.std.proofs.lemmas.Bool.{both_ways}
use Rattle.std.proofs.lemmas.Option.{same_Some, some_pair_parts}
use Rattle.jo_insn.specs.declared.instructions.Insn.{Insn}
use Rattle.jo_prog.specs.declared.program.Program.{Program}
use Rattle.jo_prog.specs.declared.sites.Cause.TheVariants.{ZeroDivisor, NullBase, NegativeLength}
use Rattle.jo_prog.specs.Sites.{opcode_of, may_raise}
use Rattle.dep_nodes.specs.declared.kinds.NodeKind.{NodeKind}
use Rattle.dep_nodes.specs.declared.kinds.NodeKind.TheVariants.{Instr, Call}
use Rattle.dependence.specs.declared.flow.Place.{Place}
use Rattle.dependence.specs.declared.flows.FlowNode.{FlowNode}
use Rattle.dependence.specs.declared.flows.FlowRow.{FlowRow}
use Rattle.dependence.specs.declared.flows.Use.{Use}
use Rattle.dependence.specs.declared.facts.Fact.{Fact}
use Rattle.dependence.specs.declared.facts.Fact.TheVariants.{Holds}
use Rattle.dependence.specs.FlowData.{IsUse}
use Rattle.dependence.specs.WideGraph.{insn_at, is_call, node_of_insn, resolved_at}
use Rattle.dependence.specs.NodePlaces.{CallAt, ArgumentPlace, of_argument, named_by}
use Rattle.dependence.specs.GraphsAsData.{kind_at, ListsRead, pc_kept, node_with, IsWideGraph}
use Rattle.dependence.specs.MayBeNull.{MayBeNull, constant_at, constant_in}
use Rattle.dependence.specs.FlowGraph.{AnObject, BasePlace, IsUnlike, is_not_zero, is_not_negative}
use Rattle.instance_flows.specs.NodeTests.{standing_by, constant_by}
use Rattle.instance_flows.specs.Raising.{alone, IsCallWhereCalling, UseAt, UseRaises, NullRaises, OperandRaises, ObjectRaises, ValueRaises}
use Rattle.instance_flows.proofs.NullLemmas.{node_is, kind_says}
use Rattle.instance_flows.proofs.KeepLemmas.{wide_stands}
use Rattle.instance_flows.proofs.ObjectLemmas.{never}

-- the place of a call's argument tells what the call names
pub call_of : (program : Program) (m : ℕ) (H : ℕ → ℕ → Type 0) (pc i : ℕ) (v : Place) → ArgumentPlace program m H pc i v → CallAt program m pc
call_of program m H _ _ _ (of_argument pc height i call v high below e) = call

module _ (program : Program) (m : ℕ) (H : ℕ → ℕ → Type 0) (wide : List FlowRow) (is : IsWideGraph program m H wide) where
  -- ---- nodes

  pub node_kept : (n : ℕ) (node : FlowNode) → option_map (λ (row : FlowRow). row.node) (slice_get wide n) ≡ Some node → node ≡ node_with program m node.kind (pc_kept node.kind)
  node_kept n node e =
      let there = node_is program m H wide is n node.kind (kind_says wide n node e) in
      same_Some node there.row.node (sym e ∙ ap (option_map (λ (row : FlowRow). row.node)) there.at) ∙ there.same

  pub constant_is : (n : ℕ) (node : FlowNode) → option_map (λ (row : FlowRow). row.node) (slice_get wide n) ≡ Some node → constant_by program m node.kind node.insn ≡ constant_at program m node.kind
  constant_is n node e = ap (constant_by program m node.kind) (ap (λ (x : FlowNode). x.insn) (node_kept n node e)) ∙ by_kind node.kind
    where
      by_insn : (pc : ℕ) (o : Option (Insn × ℕ)) → insn_at program m pc ≡ o → constant_by program m (Instr pc) (option_map (λ (found : Insn × ℕ). found.0) o) ≡ constant_at program m (Instr pc)
      by_insn pc None at = sym (ap (constant_in program m) at)
      by_insn pc (Some found) at = sym (ap (constant_in program m) at)

      by_kind : (kind : NodeKind) → constant_by program m kind (node_with program m kind (pc_kept kind)).insn ≡ constant_at program m kind
      by_kind (Instr pc) = by_insn pc (insn_at program m pc) refl
      by_kind kind = refl

  -- ---- the instruction of a use

  module _ (u : Use) where
    record Found (pc : ℕ) (insn : Insn) : Type 0 where
      next : ℕ
      stands : insn_at program m pc ≡ Some (insn, next)
      node : kind_at wide u.node ≡ Some (node_of_insn pc insn)

    same_found : (kind : NodeKind) (p pc next : ℕ) (own insn : Insn) → kind_at wide u.node ≡ Some kind → insn_at program m p ≡ Some (own, next) → node_of_insn p own ≡ kind → ◌≡◌ {A = Option (ℕ × Insn)} (Some (p, own)) (Some (pc, insn)) → Found pc insn
    same_found kind p pc next own insn at found node e =
        let same = some_pair_parts p pc own insn e in
        record {
          next = next;
          stands = subst (λ i. insn_at program m pc ≡ Some (i, next)) same.1 (subst (λ k. insn_at program m k ≡ Some (own, next)) same.0 found);
          node = at ∙ ap (λ k. Some k) (sym node ∙ ap (λ k. node_of_insn k own) same.0 ∙ ap (node_of_insn pc) same.1);
        }

    found_at : (kind : NodeKind) → kind_at wide u.node ≡ Some kind → (pc : ℕ) (insn : Insn) → standing_by kind (node_with program m kind (pc_kept kind)).insn ≡ Some (pc, insn) → Found pc insn
    found_at (Instr p) at pc insn e =
        let s = wide_stands program m (Instr p) (is.graph.only_nodes u.node (Instr p) at) in
        same_found (Instr p) p pc s.1 s.0 insn at s.2 s.3 (subst (λ o. standing_by (Instr p) (option_map (λ (found : Insn × ℕ). found.0) o) ≡ Some (pc, insn)) s.2 e)
    found_at (Call p) at pc insn e =
        let s = wide_stands program m (Call p) (is.graph.only_nodes u.node (Call p) at) in
        same_found (Call p) p pc s.1 s.0 insn at s.2 s.3 (subst (λ o. standing_by (Call p) (option_map (λ (found : Insn × ℕ). found.0) o) ≡ Some (pc, insn)) s.2 e)
    found_at kind at pc insn e = absurd (cc)

    pub use_at : IsUse wide u → (node : FlowNode) → option_map (λ (row : FlowRow). row.node) (slice_get wide u.node) ≡ Some node → (pc : ℕ) (insn : Insn) → standing_by node.kind node.insn ≡ Some (pc, insn) → UseAt program m wide u pc insn
    use_at is_use node e pc insn stands =
        let f = found_at node.kind (kind_says wide u.node node e) pc insn (ap (standing_by node.kind) (sym (ap (λ (x : FlowNode). x.insn) (node_kept u.node node e))) ∙ stands) in
        record { next = f.next; stands = f.stands; node = f.node; is_use = is_use }

    -- what stands at the node is told by the node
    pub stands_at : (node : FlowNode) → option_map (λ (row : FlowRow). row.node) (slice_get wide u.node) ≡ Some node → (pc : ℕ) (insn : Insn) → UseAt program m wide u pc insn → standing_by node.kind node.insn ≡ Some (pc, insn)
    stands_at node e pc insn at =
        let kind : node.kind ≡ node_of_insn pc insn = same_Some node.kind (node_of_insn pc insn) (sym (kind_says wide u.node node e) ∙ at.node) in
        ap (standing_by node.kind) (ap (λ (x : FlowNode). x.insn) (node_kept u.node node e)) ∙ ap (λ k. standing_by k (node_with program m k (pc_kept k)).insn) kind ∙ by_call (is_call (opcode_of insn))
      where
        by_call : (b : Bool) → standing_by (cond b (Call pc) (Instr pc)) (node_with program m (cond b (Call pc) (Instr pc)) (pc_kept (cond b (Call pc) (Instr pc)))).insn ≡ Some (pc, insn)
        by_call true = ap (λ o. standing_by (Call pc) (option_map (λ (found : Insn × ℕ). found.0) o)) at.stands
        by_call false = ap (λ o. standing_by (Instr pc) (option_map (λ (found : Insn × ℕ). found.0) o)) at.stands

    pub none_stands : (facts : Fact (List ℕ) → Type 0) (node : FlowNode) → option_map (λ (row : FlowRow). row.node) (slice_get wide u.node) ≡ Some node → standing_by node.kind node.insn ≡ None → (false ≡ true) ↔ UseRaises program facts H m wide u
    none_stands facts node e none = never (λ raises. (let some = stands_at node e raises.pc raises.insn raises.at in absurd (cc)))

    module _ (pc : ℕ) (insn : Insn) (at : UseAt program m wide u pc insn) where
      pub listed_here : ListsRead program m H (node_of_insn pc insn) u.place
      listed_here = (is.graph.reads u.node (node_of_insn pc insn) u.place at.node).0 at.is_use.0

      pub argument_here : is_call (opcode_of insn) ≡ true → (i : ℕ) × ArgumentPlace program m H pc i u.place
      argument_here calls = subst (λ k. ListsRead program m H k u.place) (ap (λ b. cond b (Call pc) (Instr pc)) calls) listed_here

      pub call_here : IsCallWhereCalling program m pc insn
      call_here = record { next = at.next; stands = at.stands; calls = λ calls. (let a = argument_here calls in call_of program m H pc a.0 u.place a.1) }

      pub resolved_here : (node : FlowNode) → option_map (λ (row : FlowRow). row.node) (slice_get wide u.node) ≡ Some node → node.method ≡ resolved_at program m pc
      resolved_here node e =
          let kind : node.kind ≡ node_of_insn pc insn = same_Some node.kind (node_of_insn pc insn) (sym (kind_says wide u.node node e) ∙ at.node) in
          ap (λ (x : FlowNode). x.method) (node_kept u.node node e) ∙ ap (λ k. (node_with program m k (pc_kept k)).method) kind ∙ by_call (is_call (opcode_of insn))
        where
          by_call : (b : Bool) → (node_with program m (cond b (Call pc) (Instr pc)) (pc_kept (cond b (Call pc) (Instr pc)))).method ≡ resolved_at program m pc
          by_call true = refl
          by_call false = refl

      -- ---- whether it raises

      record Same (raises_pc : ℕ) (raises_insn : Insn) : Type 0 where
        pcs : raises_pc ≡ pc
        insns : raises_insn ≡ insn

      same_place : (node : FlowNode) → option_map (λ (row : FlowRow). row.node) (slice_get wide u.node) ≡ Some node → (p : ℕ) (own : Insn) → UseAt program m wide u p own → Same p own
      same_place node e p own other =
          let same = some_pair_parts p pc own insn (sym (stands_at node e p own other) ∙ stands_at node e pc insn at) in
          record { pcs = same.0; insns = same.1 }

      pub not_base : (facts : Fact (List ℕ) → Type 0) (node : FlowNode) → option_map (λ (row : FlowRow). row.node) (slice_get wide u.node) ≡ Some node → (b : Bool) → b ≡ false → (b ≡ true) ↔ BasePlace program m H pc u.place
          → (false ≡ true) ↔ UseRaises program facts H m wide u
      not_base facts node e b no_ told =
          never (λ raises. (let same = same_place node e raises.pc raises.insn raises.at in both_ways b no_ (told.1 (subst (λ k. BasePlace program m H k u.place) same.pcs raises.base))))

      pub base_raises : (facts : Fact (List ℕ) → Type 0) (node : FlowNode) → option_map (λ (row : FlowRow). row.node) (slice_get wide u.node) ≡ Some node → BasePlace program m H pc u.place
          → (d : NodeKind) → kind_at wide u.from ≡ Some d → (r : Bool) → (r ≡ true) ↔ ValueRaises program facts H m pc (opcode_of insn) d u.place → (r ≡ true) ↔ UseRaises program facts H m wide u
      base_raises facts node e base d defines r told = (there, back)
        where
          there : r ≡ true → UseRaises program facts H m wide u
          there sure = record { pc = pc; insn = insn; at = at; base = base; d = d; defines = defines; raises = told.0 sure }

          back : UseRaises program facts H m wide u → r ≡ true
          back raises =
              let same = same_place node e raises.pc raises.insn raises.at in
              let from : raises.d ≡ d = same_Some raises.d d (sym raises.defines ∙ defines) in
              let by_pc : ValueRaises program facts H m pc (opcode_of raises.insn) raises.d u.place = subst (λ k. ValueRaises program facts H m k (opcode_of raises.insn) raises.d u.place) same.pcs raises.raises in
              let by_insn : ValueRaises program facts H m pc (opcode_of insn) raises.d u.place = subst (λ i. ValueRaises program facts H m pc (opcode_of i) raises.d u.place) same.insns by_pc in
              told.1 (subst (λ k. ValueRaises program facts H m pc (opcode_of insn) k u.place) from by_insn)

-- ---- the value of a definition

module _ (program : Program) (H : ℕ → ℕ → Type 0) (m op : ℕ) (d : NodeKind) (v : Place) where
  pub quiet_null : may_raise NullBase op ≡ false → (false ≡ true) ↔ NullRaises program H m op d v
  quiet_null quiet = never (λ null. absurd (both_ways (may_raise NullBase op) quiet null.0))

  pub null_told : (b : Bool) → may_raise NullBase op ≡ true → (b ≡ true) ↔ MayBeNull program m H d v → (b ≡ true) ↔ NullRaises program H m op d v
  null_told b may told = (λ sure. (may, told.0 sure), λ null. told.1 null.1)

  pub operand_null : (n : Bool) → n ≡ true → (n ≡ true) ↔ NullRaises program H m op d v → (true ≡ true) ↔ OperandRaises program H m op d v
  operand_null n sure null = (λ _. inl (null.0 sure), λ _. refl)

  pub operand_zero : (z : Bool) → z ≡ true → (z ≡ true) ↔ ((may_raise ZeroDivisor op ≡ true) × IsUnlike (constant_at program m d) is_not_zero) → (true ≡ true) ↔ OperandRaises program H m op d v
  operand_zero z sure zero_ = (λ _. inr (inl (zero_.0 sure)), λ _. refl)

  pub operand_rest : (n z r : Bool) → n ≡ false → (n ≡ true) ↔ NullRaises program H m op d v → z ≡ false → (z ≡ true) ↔ ((may_raise ZeroDivisor op ≡ true) × IsUnlike (constant_at program m d) is_not_zero)
      → (r ≡ true) ↔ ((may_raise NegativeLength op ≡ true) × IsUnlike (constant_at program m d) is_not_negative) → (r ≡ true) ↔ OperandRaises program H m op d v
  operand_rest n z r not_null null not_zero zero_ rest = (λ sure. inr (inr (rest.0 sure)), back)
    where
      back : OperandRaises program H m op d v → r ≡ true
      back (inl has) = absurd (both_ways n not_null (null.1 has))
      back (inr (inl has)) = absurd (both_ways z not_zero (zero_.1 has))
      back (inr (inr has)) = rest.1 has

  module _ (facts : Fact (List ℕ) → Type 0) (pc : ℕ) where
    pub value_operand : (b : Bool) → b ≡ true → (b ≡ true) ↔ OperandRaises program H m op d v → (true ≡ true) ↔ ValueRaises program facts H m pc op d v
    value_operand b sure told = (λ _. inl (told.0 sure), λ _. refl)

    pub value_object : (b r : Bool) → b ≡ false → (b ≡ true) ↔ OperandRaises program H m op d v → (r ≡ true) ↔ ((o : AnObject) × facts (Holds (alone m) (named_by d v) o) × ObjectRaises program m pc op o)
        → (r ≡ true) ↔ ValueRaises program facts H m pc op d v
    value_object b r no_ operand told = (λ sure. inr (let has = told.0 sure in record { o = has.0; holds = has.1; raises = has.2 }), back)
      where
        back : ValueRaises program facts H m pc op d v → r ≡ true
        back (inl has) = absurd (both_ways b no_ (operand.1 has))
        back (inr holds) = told.1 (holds.o, holds.holds, holds.raises)
