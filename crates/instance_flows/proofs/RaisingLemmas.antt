-- What may throw at its own pc, use by use.
use Rattle.std.specs.Prelude.{◌-◌, ◌++◌, if◌then◌else◌, cond, option_map}
use Rattle.std.proofs.Common.{inl, inr, ◌⊎◌, ◌≡◌, ℕ, ◌+◌, ◌<◌, Bool, true, false, ◌||◌, ◌==◌, List, length, Contains, Some, refl, sym, ◌∙◌, ap, subst, arith}
use Rattle.std.proofs.lemmas.Bool.{both_ways, or_cases, or_left, or_right}
use Rattle.std.proofs.lemmas.List.Elements.{Contains-append_right}
use Rattle.std.proofs.lemmas.Option.{same_Some, some_pair_parts}
use Rattle.jo_ids.specs.Rows.{has_number}
use Rattle.jo_insn.specs.declared.instructions.Insn.{Insn}
use Rattle.jo_prog.specs.declared.program.Program.{Program}
use Rattle.jo_prog.specs.declared.sites.Cause.{Cause}
use Rattle.jo_prog.specs.declared.sites.Cause.TheVariants.{ZeroDivisor, NullBase, FailingCast, WrongElement, NegativeLength, BadIndex, SecondStart, MissingInterface}
use Rattle.jo_prog.specs.Sites.{opcode_of, may_raise}
use Rattle.dep_nodes.specs.declared.kinds.NodeKind.{NodeKind}
use Rattle.dep_nodes.specs.declared.kinds.NodeKind.TheVariants.{Instr, Call}
use Rattle.dependence.specs.declared.flow.Place.{Place}
use Rattle.dependence.specs.declared.flow.Place.TheVariants.{Stack}
use Rattle.dependence.specs.declared.flows.FlowRow.{FlowRow}
use Rattle.dependence.specs.declared.flows.Use.{Use}
use Rattle.dependence.specs.declared.facts.Fact.{Fact}
use Rattle.dependence.specs.FlowData.{IsUse, AreUses, ReachesIn}
use Rattle.dependence.specs.WideGraph.{insn_at, is_call, node_of_insn, StandsWith, WideEdge, IsWideNode}
use Rattle.dependence.specs.NodePlaces.{stack_use_of, stack_places, local_place, local_read, Writes, WideReaches, by_insn, of_argument}
use Rattle.dependence.specs.GraphsAsData.{kind_at, ListsRead, pc_kept, node_with, IsWideGraph}
use Rattle.dependence.specs.FlowGraph.{Standing, base_depth, BasePlace, of_insn, of_call, PlaceBelow, Arrives, PlaceHolds, Raises, null_base, zero_divisor, negative_length, bad_index, failing_cast, wrong_element, second_start, missing_interface, MayThrowAt}
use Rattle.dependence.proofs.DataLemmas.{reaches_by_kind, reaches_by_number}
use Rattle.flow_graph.proofs.AddingLemmas.{to_numbers}
use Rattle.instance_flows.specs.NodeTests.{standing_by, always_raises}
use Rattle.instance_flows.specs.Raising.{alone, FailsCast, StartsAgain, LacksInterface, ValueRaises, UseRaises, AlwaysAt, AreRaisingBy, AreRaising}
use Rattle.instance_flows.proofs.NullLemmas.{of_node, reaches_begins}
use Rattle.instance_flows.proofs.OpcodeLemmas.{ReadsBase, TakesTop, zero_top, length_top, cast_top, element_indexes, start_calls, interface_calls, not_static, null_reads, zero_reads, length_reads, cast_reads}

module _ (program : Program) (facts : Fact (List ℕ) → Type 0) (H : ℕ → ℕ → Type 0) (m : ℕ) (wide : List FlowRow) (uses : List Use) (raising : List Bool)
    (is : IsWideGraph program m H wide) (are : AreUses wide uses) (by : AreRaisingBy program facts H m wide uses raising) where
  same_insn : (pc next other : ℕ) (insn own : Insn) → insn_at program m pc ≡ Some (insn, next) → insn_at program m pc ≡ Some (own, other) → own ≡ insn
  same_insn pc next other insn own at found = (some_pair_parts own insn other next (sym found ∙ at)).0

  kept_pc : (pc : ℕ) (insn : Insn) → pc_kept (node_of_insn pc insn) ≡ Some pc
  kept_pc pc insn = by_call (is_call (opcode_of insn))
    where
      by_call : (b : Bool) → pc_kept (cond b (Call pc) (Instr pc)) ≡ Some pc
      by_call true = refl
      by_call false = refl

  -- ---- from a use to what is raised

  standing_of : (pc : ℕ) (v : Place) → BasePlace program m H pc v → Standing program m H pc
  standing_of pc _ (of_insn at v plain e) = at
  standing_of pc _ (of_call at call v e) = at

  base_top : (pc next : ℕ) (insn : Insn) (v : Place) → insn_at program m pc ≡ Some (insn, next) → TakesTop (opcode_of insn) → BasePlace program m H pc v → PlaceBelow program m H pc 1 v
  base_top pc next insn _ found top (of_insn at v plain e) =
      let same = same_insn pc next at.next insn at.insn found at.is in
      (at, e ∙ ap (λ k. Stack (at.height - k)) (ap (λ x. base_depth (opcode_of x)) same ∙ top.top))
  base_top pc next insn _ found top (of_call at call v e) =
      let same = same_insn pc next call.next insn call.insn found call.stands in
      absurd (both_ways (is_call (opcode_of insn)) top.plain (ap (λ x. is_call (opcode_of x)) (sym same) ∙ call.is_call))

  top_base : (pc next : ℕ) (insn : Insn) (v : Place) → insn_at program m pc ≡ Some (insn, next) → TakesTop (opcode_of insn) → PlaceBelow program m H pc 1 v → BasePlace program m H pc v
  top_base pc next insn v found top (at, e) =
      let same = same_insn pc next at.next insn at.insn found at.is in
      of_insn at v (ap (λ x. is_call (opcode_of x)) same ∙ top.plain) (e ∙ ap (λ k. Stack (at.height - k)) (sym (ap (λ x. base_depth (opcode_of x)) same ∙ top.top)))

  arrives : (u : Use) (pc next : ℕ) (insn : Insn) (d : NodeKind) → insn_at program m pc ≡ Some (insn, next) → kind_at wide u.node ≡ Some (node_of_insn pc insn) → kind_at wide u.from ≡ Some d → IsUse wide u
      → BasePlace program m H pc u.place → Arrives program m H pc u.place d
  arrives u pc next insn d found node from is_use base =
      let at = standing_of pc u.place base in
      let same = same_insn pc next at.next insn at.insn found at.is in
      (at, reaches_by_kind (IsWideNode program m) (WideEdge program m) (ListsRead program m H) (Writes program m H) wide is.graph u.place u.from d from u.node (node_of_insn pc at.insn) (node ∙ ap (λ x. Some (node_of_insn pc x)) (sym same)) is_use.1)

  raised : (pc next : ℕ) (insn : Insn) (d : NodeKind) (v : Place) → insn_at program m pc ≡ Some (insn, next) → BasePlace program m H pc v → Arrives program m H pc v d → ValueRaises program facts H m pc (opcode_of insn) d v
      → (cause : Cause) × Raises program facts H (alone m) pc cause
  raised pc next insn d v found base arrive (inl (inl (may, null))) = (NullBase, null_base v d (insn, next, found, may) base arrive null)
  raised pc next insn d v found base arrive (inl (inr (inl (may, unlike)))) = (ZeroDivisor, zero_divisor v d (insn, next, found, may) (base_top pc next insn v found (zero_top (opcode_of insn) may) base) arrive unlike)
  raised pc next insn d v found base arrive (inl (inr (inr (may, unlike)))) = (NegativeLength, negative_length v d (insn, next, found, may) (base_top pc next insn v found (length_top (opcode_of insn) may) base) arrive unlike)
  raised pc next insn d v found base arrive (inr holds) = by_object holds.raises
    where
      place : PlaceHolds program facts H (alone m) pc v holds.o
      place = record { d = d; arrives = arrive; holds = holds.holds }

      by_object : FailsCast program m pc (opcode_of insn) holds.o ⊎ (StartsAgain program m pc (opcode_of insn) holds.o ⊎ LacksInterface program m pc (opcode_of insn) holds.o) → (cause : Cause) × Raises program facts H (alone m) pc cause
      by_object (inl cast) = (FailingCast, failing_cast v holds.o cast.type (insn, next, found, cast.may) (base_top pc next insn v found (cast_top (opcode_of insn) cast.may) base) place cast.named cast.fails)
      by_object (inr (inl again)) = (SecondStart, second_start v holds.o again.call (insn, next, found, again.may) base place again.starts)
      by_object (inr (inr lacks)) = (MissingInterface, missing_interface v holds.o lacks.call (insn, next, found, lacks.may) base place lacks.fails)

  use_throws : (u : Use) → UseRaises program facts H m wide u → (pc next : ℕ) (insn : Insn) → insn_at program m pc ≡ Some (insn, next) → kind_at wide u.node ≡ Some (node_of_insn pc insn) → MayThrowAt program facts H (alone m) pc
  use_throws u raises pc next insn found node =
      let pcs : raises.pc ≡ pc = same_Some raises.pc pc (sym (kept_pc raises.pc raises.insn) ∙ ap pc_kept (same_Some (node_of_insn raises.pc raises.insn) (node_of_insn pc insn) (sym raises.at.node ∙ node)) ∙ kept_pc pc insn) in
      subst (λ x. MayThrowAt program facts H (alone m) x) pcs
      (inl (raised raises.pc raises.at.next raises.insn raises.d u.place raises.at.stands raises.base
      (arrives u raises.pc raises.at.next raises.insn raises.d raises.at.stands raises.at.node raises.defines raises.at.is_use raises.base) raises.raises))

  -- ---- from what is raised to a use

  -- the node at which the instruction stands lists its base among its reads
  read_at : (insn : Insn) (height : ℕ) → ReadsBase (opcode_of insn) → Contains (local_place (local_read insn) ++ stack_places (height - (stack_use_of (opcode_of insn)).pops) (stack_use_of (opcode_of insn)).pops) (Stack (height - base_depth (opcode_of insn)))
  read_at insn height reads =
      let pops = (stack_use_of (opcode_of insn)).pops in
      let depth = base_depth (opcode_of insn) in
      let above : ℕ = (height - depth) - (height - pops) in
      let first = reads.first in
      let last = reads.last in
      let below : above < pops = omega (arith, first, last) in
      let same : height - pops + above ≡ height - depth = omega (arith, first, last) in
      Contains-append_right (local_place (local_read insn)) (stack_places (height - pops) pops) (Stack (height - depth))
      (subst (λ k. Contains (stack_places (height - pops) pops) (Stack k)) same (to_numbers Stack (height - pops) pops above below))

  plain_node : (pc : ℕ) (insn : Insn) → is_call (opcode_of insn) ≡ false → node_of_insn pc insn ≡ Instr pc
  plain_node pc insn plain = ap (λ b. cond b (Call pc) (Instr pc)) plain

  call_node : (pc : ℕ) (insn : Insn) → is_call (opcode_of insn) ≡ true → node_of_insn pc insn ≡ Call pc
  call_node pc insn call = ap (λ b. cond b (Call pc) (Instr pc)) call

  some_argument : (op count : ℕ) → (op == 184) ≡ false → 0 < count + (if op == 184 then 0 else 1)
  some_argument op count e = subst (λ b. 0 < count + cond b 0 1) (sym e) (omega arith)

  base_read : (pc next : ℕ) (insn : Insn) (v : Place) → insn_at program m pc ≡ Some (insn, next) → (opcode_of insn == 184) ≡ false → (is_call (opcode_of insn) ≡ false → ReadsBase (opcode_of insn)) → BasePlace program m H pc v
      → ListsRead program m H (node_of_insn pc insn) v
  base_read pc next insn _ found other reads (of_insn at v plain e) =
      let same = same_insn pc next at.next insn at.insn found at.is in
      let none : is_call (opcode_of insn) ≡ false = ap (λ x. is_call (opcode_of x)) (sym same) ∙ plain in
      let high : v ≡ Stack (at.height - base_depth (opcode_of insn)) = e ∙ ap (λ x. Stack (at.height - base_depth (opcode_of x))) same in
      subst (λ k. ListsRead program m H k v) (sym (plain_node pc insn none))
      (by_insn pc next at.height insn v found none at.has_height (subst (λ w. Contains (local_place (local_read insn) ++ stack_places (at.height - (stack_use_of (opcode_of insn)).pops) (stack_use_of (opcode_of insn)).pops) w) (sym high) (read_at insn at.height (reads none))))
  base_read pc next insn _ found other reads (of_call at call v e) =
      let same = same_insn pc next call.next insn call.insn found call.stands in
      let calls : is_call (opcode_of insn) ≡ true = ap (λ x. is_call (opcode_of x)) (sym same) ∙ call.is_call in
      let receives : (opcode_of call.insn == 184) ≡ false = ap (λ x. opcode_of x == 184) same ∙ other in
      subst (λ k. ListsRead program m H k v) (sym (call_node pc insn calls))
      (0, of_argument pc at.height 0 call v at.has_height (some_argument (opcode_of call.insn) (length call.desc.params) receives) (e ∙ ap Stack (omega arith)))

  -- a use of the base with a definition that raises is among the uses
  used : (n pc next : ℕ) (insn : Insn) (v : Place) (d : NodeKind) → insn_at program m pc ≡ Some (insn, next) → kind_at wide n ≡ Some (node_of_insn pc insn) → (opcode_of insn == 184) ≡ false
      → (is_call (opcode_of insn) ≡ false → ReadsBase (opcode_of insn)) → BasePlace program m H pc v → Arrives program m H pc v d → ValueRaises program facts H m pc (opcode_of insn) d v → has_number raising n ≡ true
  used n pc next insn v d found node other reads base (at, reaches) raises =
      let same = same_insn pc next at.next insn at.insn found at.is in
      let here : WideReaches program m H v d (node_of_insn pc insn) = subst (λ x. WideReaches program m H v d (node_of_insn pc x)) same reaches in
      let begins = reaches_begins v d (node_of_insn pc insn) here in
      let from = is.graph.each_node d (begins.1).there in
      let there : ReachesIn wide v from.0 n =
      reaches_by_number (IsWideNode program m) (WideEdge program m) (ListsRead program m H) (Writes program m H) wide is.graph (λ a b edge. edge.there) v from.0 d from.1 n (node_of_insn pc insn) node here
      in
      let a_use : IsUse wide (record { node = n; place = v; from = from.0 }) = ((is.graph.reads n (node_of_insn pc insn) v node).1 (base_read pc next insn v found other reads base), there) in
      (by n).1 (inr (
        record { node = n; place = v; from = from.0 },
        (are.each (record { node = n; place = v; from = from.0 })).1 a_use,
        refl,
        record {
          pc = pc;
          insn = insn;
          at = record { next = next; stands = found; node = node; is_use = a_use };
          base = base;
          d = d;
          defines = from.1;
          raises = raises;
        },
      ))

  always : (n pc next : ℕ) (insn : Insn) → insn_at program m pc ≡ Some (insn, next) → kind_at wide n ≡ Some (node_of_insn pc insn) → (may_raise BadIndex (opcode_of insn) || opcode_of insn == 191) ≡ true → has_number raising n ≡ true
  always n pc next insn found node test = (by n).1 (inl ((of_node program m H wide is (λ x. always_raises (standing_by x.kind x.insn) ≡ true) n (node_of_insn pc insn) node).1 (kept_test (is_call (opcode_of insn)) refl)))
    where
      kept_test : (b : Bool) → is_call (opcode_of insn) ≡ b → always_raises (standing_by (node_with program m (node_of_insn pc insn) (pc_kept (node_of_insn pc insn))).kind (node_with program m (node_of_insn pc insn) (pc_kept (node_of_insn pc insn))).insn) ≡ true
      kept_test true e = subst (λ k. always_raises (standing_by (node_with program m k (pc_kept k)).kind (node_with program m k (pc_kept k)).insn) ≡ true) (sym (call_node pc insn e))
          (subst (λ o. always_raises (standing_by (Call pc) (option_map (λ (x : Insn × ℕ). x.0) o)) ≡ true) (sym found) test)
      kept_test false e = subst (λ k. always_raises (standing_by (node_with program m k (pc_kept k)).kind (node_with program m k (pc_kept k)).insn) ≡ true) (sym (plain_node pc insn e))
          (subst (λ o. always_raises (standing_by (Instr pc) (option_map (λ (x : Insn × ℕ). x.0) o)) ≡ true) (sym found) test)

  -- what a node with that instruction always raises
  always_throws : (n pc next : ℕ) (insn : Insn) → insn_at program m pc ≡ Some (insn, next) → kind_at wide n ≡ Some (node_of_insn pc insn) → AlwaysAt wide n → MayThrowAt program facts H (alone m) pc
  always_throws n pc next insn found node here = by_test (kept_test (is_call (opcode_of insn)) refl)
    where
      told : always_raises (standing_by (node_with program m (node_of_insn pc insn) (pc_kept (node_of_insn pc insn))).kind (node_with program m (node_of_insn pc insn) (pc_kept (node_of_insn pc insn))).insn) ≡ true
      told = (of_node program m H wide is (λ x. always_raises (standing_by x.kind x.insn) ≡ true) n (node_of_insn pc insn) node).0 here

      kept_test : (b : Bool) → is_call (opcode_of insn) ≡ b → (may_raise BadIndex (opcode_of insn) || opcode_of insn == 191) ≡ true
      kept_test true e = subst (λ o. always_raises (standing_by (Call pc) (option_map (λ (x : Insn × ℕ). x.0) o)) ≡ true) found
          (subst (λ k. always_raises (standing_by (node_with program m k (pc_kept k)).kind (node_with program m k (pc_kept k)).insn) ≡ true) (call_node pc insn e) told)
      kept_test false e = subst (λ o. always_raises (standing_by (Instr pc) (option_map (λ (x : Insn × ℕ). x.0) o)) ≡ true) found
          (subst (λ k. always_raises (standing_by (node_with program m k (pc_kept k)).kind (node_with program m k (pc_kept k)).insn) ≡ true) (plain_node pc insn e) told)

      by_test : (may_raise BadIndex (opcode_of insn) || opcode_of insn == 191) ≡ true → MayThrowAt program facts H (alone m) pc
      by_test test = elim (or_cases (may_raise BadIndex (opcode_of insn)) (opcode_of insn == 191) test) [
        | inl index ↦ inl (BadIndex, bad_index (insn, next, found, index))
        | inr throw ↦ inr (insn, next, found, throw)
      ]

  stands_so : (pc next : ℕ) (insn : Insn) (test : ℕ → Bool) → insn_at program m pc ≡ Some (insn, next) → StandsWith program m pc test → test (opcode_of insn) ≡ true
  stands_so pc next insn test found (own, other, at, e) = subst (λ x. test (opcode_of x) ≡ true) (same_insn pc next other insn own found at) e

  not_plain : (op : ℕ) → is_call op ≡ true → is_call op ≡ false → ReadsBase op
  not_plain op calls plain = absurd (both_ways (is_call op) plain calls)

  marked : (n pc next : ℕ) (insn : Insn) → insn_at program m pc ≡ Some (insn, next) → kind_at wide n ≡ Some (node_of_insn pc insn) → (cause : Cause) → Raises program facts H (alone m) pc cause → has_number raising n ≡ true
  marked n pc next insn found node _ (null_base v d stands base arrive null) =
      let may = stands_so pc next insn (may_raise NullBase) found stands in
      used n pc next insn v d found node (not_static NullBase (opcode_of insn) refl may) (null_reads (opcode_of insn) may) base arrive (inl (inl (may, null)))
  marked n pc next insn found node _ (zero_divisor v d stands below arrive unlike) =
      let may = stands_so pc next insn (may_raise ZeroDivisor) found stands in
      used n pc next insn v d found node (not_static ZeroDivisor (opcode_of insn) refl may) (λ plain. zero_reads (opcode_of insn) may) (top_base pc next insn v found (zero_top (opcode_of insn) may) below) arrive (inl (inr (inl (may, unlike))))
  marked n pc next insn found node _ (negative_length v d stands below arrive unlike) =
      let may = stands_so pc next insn (may_raise NegativeLength) found stands in
      used n pc next insn v d found node (not_static NegativeLength (opcode_of insn) refl may) (λ plain. length_reads (opcode_of insn) may) (top_base pc next insn v found (length_top (opcode_of insn) may) below) arrive (inl (inr (inr (may, unlike))))
  marked n pc next insn found node _ (bad_index stands) =
      let may = stands_so pc next insn (may_raise BadIndex) found stands in
      always n pc next insn found node (or_left (may_raise BadIndex (opcode_of insn)) (opcode_of insn == 191) may)
  marked n pc next insn found node _ (failing_cast v o type stands below holds named fails) =
      let may = stands_so pc next insn (may_raise FailingCast) found stands in
      used n pc next insn v holds.d found node (not_static FailingCast (opcode_of insn) refl may) (λ plain. cast_reads (opcode_of insn) may) (top_base pc next insn v found (cast_top (opcode_of insn) may) below) holds.arrives
      (inr (record { o = o; holds = holds.holds; raises = inl (record { may = may; type = type; named = named; fails = fails }) }))
  marked n pc next insn found node _ (wrong_element v w array value stands below holds top has none) =
      let may = element_indexes (opcode_of insn) (stands_so pc next insn (may_raise WrongElement) found stands) in
      always n pc next insn found node (or_left (may_raise BadIndex (opcode_of insn)) (opcode_of insn == 191) may)
  marked n pc next insn found node _ (second_start v o call stands base holds starts) =
      let may = stands_so pc next insn (may_raise SecondStart) found stands in
      used n pc next insn v holds.d found node (not_static SecondStart (opcode_of insn) refl may) (not_plain (opcode_of insn) (start_calls (opcode_of insn) may)) base holds.arrives
      (inr (record { o = o; holds = holds.holds; raises = inr (inl (record { may = may; call = call; starts = starts })) }))
  marked n pc next insn found node _ (missing_interface v o call stands base holds fails) =
      let may = stands_so pc next insn (may_raise MissingInterface) found stands in
      used n pc next insn v holds.d found node (not_static MissingInterface (opcode_of insn) refl may) (not_plain (opcode_of insn) (interface_calls (opcode_of insn) may)) base holds.arrives
      (inr (record { o = o; holds = holds.holds; raises = inr (inr (record { may = may; call = call; fails = fails })) }))

  pub raising_are : AreRaising program facts H m wide raising
  raising_are = record { each = λ n pc next insn found node. (there n pc next insn found node, back n pc next insn found node) }
    where
      there : (n pc next : ℕ) (insn : Insn) → insn_at program m pc ≡ Some (insn, next) → kind_at wide n ≡ Some (node_of_insn pc insn) → has_number raising n ≡ true → MayThrowAt program facts H (alone m) pc
      there n pc next insn found node has = elim ((by n).0 has) [
        | inl here ↦ always_throws n pc next insn found node here
        | inr (u, among, same, raises) ↦ use_throws u raises pc next insn found (ap (kind_at wide) same ∙ node)
      ]

      back : (n pc next : ℕ) (insn : Insn) → insn_at program m pc ≡ Some (insn, next) → kind_at wide n ≡ Some (node_of_insn pc insn) → MayThrowAt program facts H (alone m) pc → has_number raising n ≡ true
      back n pc next insn found node (inl (cause, raises)) = marked n pc next insn found node cause raises
      back n pc next insn found node (inr stands) = always n pc next insn found node (or_right (may_raise BadIndex (opcode_of insn)) (opcode_of insn == 191) (stands_so pc next insn (λ op. op == 191) found stands))
