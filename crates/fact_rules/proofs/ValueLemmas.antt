-- What instructions make and hand on, node by node.
use Rattle.std.specs.Prelude.{◌↔◌, ◌-◌, nat_le, cond, option_map, slice_get}
use Rattle.std.proofs.Common.{inl, inr, ◌⊎◌, ◌≡◌, ℕ, ◌+◌, ◌<◌, ◌≤◌, Bool, true, false, not, ◌&&◌, ◌==◌, List, [], length, Contains, Option, Some, None, refl, sym, ◌∙◌, ap, subst, arith}
use Rattle.std.proofs.lemmas.Bool.{agree_below_at, both_ways, and_parts, and_from, eqb-true, leb-true}
use Rattle.std.proofs.lemmas.Option.{same_Some, some_pair_parts}
use Rattle.jo_ids.proofs.PathLemmas.{path_more}
use Rattle.jo_ids.specs.declared.ObjKey.{ObjKey}
use Rattle.jo_ids.specs.Path.{Path, stays, goes}
use Rattle.jo_insn.specs.declared.instructions.Insn.{Insn}
use Rattle.jo_prog.specs.declared.program.Program.{Program}
use Rattle.jo_prog.specs.Operations.{within}
use Rattle.jo_prog.specs.Sites.{opcode_of, sites_of, site_of}
use Rattle.contexts.specs.Policies.{ContextPolicy}
use Rattle.dep_nodes.specs.declared.kinds.NodeKind.{NodeKind}
use Rattle.dep_nodes.specs.declared.kinds.NodeKind.TheVariants.{Entry, Instr, Call, RetKind, Throw, Arg, Value}
use Rattle.dependence.specs.declared.flow.Place.{Place}
use Rattle.dependence.specs.declared.flow.Place.TheVariants.{Stack}
use Rattle.dependence.specs.declared.flows.FlowNode.{FlowNode}
use Rattle.dependence.specs.declared.flows.FlowRow.{FlowRow}
use Rattle.dependence.specs.declared.flows.Use.{Use}
use Rattle.dependence.specs.declared.facts.InstKey.{InstKey}
use Rattle.dependence.specs.declared.facts.Fact.{Fact}
use Rattle.dependence.specs.declared.facts.Fact.TheVariants.{Holds}
use Rattle.dependence.specs.FlowData.{ReadsIn}
use Rattle.dependence.specs.MayBeNull.{is_move}
use Rattle.dependence.specs.WideGraph
use Rattle.dependence.specs.WideGraph.{insn_at, operand_of, is_call, may_throw, node_of_insn, StandsWith, IsFirst, WideStep, IsWideNode}
use Rattle.dependence.specs.NodePlaces.{Reads, CallAt, argument_count, ArgumentPlace, of_argument, stack_use_of}
use Rattle.dependence.specs.GraphsAsData.{ListsRead, IsWideGraph}
use Rattle.dependence.specs.FlowGraph.{PlaceBelow, PlaceHolds}
use Rattle.method_views.specs.Bases.{IsBelowTop}
use Rattle.method_views.specs.Heights.{HeightIs}
use Rattle.method_views.specs.Standing.{standing_by}
use Rattle.method_views.specs.UseTables.{StandsAt, IsUseTable}
use Rattle.method_views.proofs.BaseLemmas.{argument_is}
use Rattle.method_views.specs.InstanceRules
use Rattle.method_views.specs.InstanceRules.{ByValue}
use Rattle.method_views.proofs.NodeLemmas.{reads_are, told_by_node, found_there, wide_stands, kind_below}
use Rattle.fact_sets.specs.Seen.{object_seen}
use Rattle.dependence.specs.FactRules.{makes_object, is_text, string_object, object_at, MadeBy, LoadsText}
use Rattle.fact_rules.specs.Adds.{From, FromBelow}
use Rattle.fact_rules.specs.Places.{IsAtNode, HandsTo, instance_of}
use Rattle.fact_rules.specs.ValueSteps.{IsMade, MakesAt, makes, loads_text, TakenAs, by_move, by_return, by_throw, by_call, HandsOver, UseHands, ValuesAt}
use Rattle.fact_rules.proofs.PlaceLemmas.{plain_node, call_node, same_insn, passes, reads_here, use_place, place_use, pops_read}

-- ---- opcodes

-- no move is a call
pub moves_plain : (op : ℕ) → is_move op ≡ true → is_call op ≡ false
moves_plain op moves = by_test (is_call op) refl
  where
    never_both : (a b : Bool) → not (a && b) ≡ true → a ≡ true → b ≡ true → ⊥
    never_both true true e f g = absurd (cc)
    never_both true false e f g = absurd (cc)
    never_both false b e f g = absurd (cc)

    by_test : (b : Bool) → is_call op ≡ b → b ≡ false
    by_test false e = refl
    by_test true e =
        let top : op ≤ 185 = leb-true op 185 (and_parts (nat_le 182 op) (nat_le op 185) e).1 in
        absurd (never_both (is_call op) (is_move op) (agree_below_at (λ k. not (is_call k && is_move k)) (λ k. true) 186 op refl (omega (arith, top))) e moves)

module _ (program : Program) (m : ℕ) (H : ℕ → ℕ → Type 0) (typed : List (Option ℕ)) (heights : (pc height : ℕ) → HeightIs typed pc height ↔ H pc height)
    (wide : List FlowRow) (is : IsWideGraph program m H wide) (n pc : ℕ) (insn : Insn) (at : IsAtNode program m wide n pc insn) where
  -- ---- what takes the value of a place, by the opcode

  pub data ByOpcode (v : Place) (to : NodeKind) : Type 0 where
    moved : is_move (opcode_of insn) ≡ true → to ≡ Instr pc → ByOpcode v to
    returned : opcode_of insn ≡ 176 → IsBelowTop typed pc 1 v → to ≡ Value → ByOpcode v to
    thrown : opcode_of insn ≡ 191 → IsBelowTop typed pc 1 v → to ≡ Throw pc → ByOpcode v to
    passed : (k : ℕ) → is_call (opcode_of insn) ≡ true → ArgumentPlace program m H pc k v → to ≡ Arg pc k → ByOpcode v to

  below : (v : Place) → PlaceBelow program m H pc 1 v → IsBelowTop typed pc 1 v
  below v (standing, e) = (standing.height, (heights pc standing.height).1 standing.has_height, e)

  place_below : (v : Place) → IsBelowTop typed pc 1 v → PlaceBelow program m H pc 1 v
  place_below v (height, high, e) = (record { insn = insn; next = at.next; is = at.stands; height = height; has_height = (heights pc height).0 high }, e)

  opcode_is : (k : ℕ) → StandsWith program m pc (λ op. op == k) → opcode_of insn ≡ k
  opcode_is k stands = eqb-true (opcode_of insn) k (passes program m H (λ op. op == k) pc at.next insn at.stands stands)

  argument_calls : (k : ℕ) (v : Place) → ArgumentPlace program m H pc k v → is_call (opcode_of insn) ≡ true
  argument_calls k v argument = let named = call_of k v argument in ap (λ x. is_call (opcode_of x)) (sym (same_insn program m H pc at.next named.next insn named.insn at.stands named.stands)) ∙ named.is_call
    where
      call_of : (k : ℕ) (v : Place) → ArgumentPlace program m H pc k v → CallAt program m pc
      call_of _ _ (of_argument p height k call v high under e) = call

  pub told : (v : Place) (to : NodeKind) → TakenAs program m H pc v to → ByOpcode v to
  told v _ (by_move stands reads) = moved (passes program m H is_move pc at.next insn at.stands stands) refl
  told v _ (by_return stands top) = returned (opcode_is 176 stands) (below v top) refl
  told v _ (by_throw stands top) = thrown (opcode_is 191 stands) (below v top) refl
  told v _ (by_call k argument) = passed k (argument_calls k v argument) argument refl

  stands_as : (k : ℕ) → opcode_of insn ≡ k → (k == k) ≡ true → StandsWith program m pc (λ op. op == k)
  stands_as k e same = (insn, at.next, at.stands, ap (λ op. op == k) e ∙ same)

  read_by : (v : Place) → is_call (opcode_of insn) ≡ false → ReadsIn wide n v → Reads program m H (Instr pc) v
  read_by v plain reads = subst (λ k. ListsRead program m H k v) (plain_node pc insn plain) ((reads_here program m H wide is n pc insn at v).0 reads)

  pub taken : (v : Place) (to : NodeKind) → ReadsIn wide n v → ByOpcode v to → TakenAs program m H pc v to
  taken v to reads (moved may e) = subst (λ k. TakenAs program m H pc v k) (sym e) (by_move (insn, at.next, at.stands, may) (read_by v (moves_plain (opcode_of insn) may) reads))
  taken v to reads (returned e top same) = subst (λ k. TakenAs program m H pc v k) (sym same) (by_return (stands_as 176 e refl) (place_below v top))
  taken v to reads (thrown e top same) = subst (λ k. TakenAs program m H pc v k) (sym same) (by_throw (stands_as 191 e refl) (place_below v top))
  taken v to reads (passed k calls_ argument e) = subst (λ x. TakenAs program m H pc v x) (sym e) (by_call k argument)

  -- ---- the arms by opcodes

  module _ (v : Place) (reads : ReadsIn wide n v) where
    pub move_arm : is_move (opcode_of insn) ≡ true → (to : NodeKind) → (Some (Instr pc) ≡ Some to) ↔ TakenAs program m H pc v to
    move_arm may to = (λ e. taken v to reads (moved may (sym (same_Some (Instr pc) to e))), λ t. back (told v to t))
      where
        back : ByOpcode v to → Some (Instr pc) ≡ Some to
        back (moved also e) = ap Some (sym e)
        back (returned e top same) = absurd (both_ways (is_move (opcode_of insn)) (ap is_move e) may)
        back (thrown e top same) = absurd (both_ways (is_move (opcode_of insn)) (ap is_move e) may)
        back (passed k named argument e) = absurd (both_ways (is_call (opcode_of insn)) (moves_plain (opcode_of insn) may) named)

    pub return_arm : opcode_of insn ≡ 176 → IsBelowTop typed pc 1 v → (to : NodeKind) → (Some Value ≡ Some to) ↔ TakenAs program m H pc v to
    return_arm is_176 top to = (λ e. taken v to reads (returned is_176 top (sym (same_Some Value to e))), λ t. back (told v to t))
      where
        back : ByOpcode v to → Some Value ≡ Some to
        back (moved may e) = absurd (both_ways (is_move (opcode_of insn)) (ap is_move is_176) may)
        back (returned e also same) = ap Some (sym same)
        back (thrown e also same) = absurd (let differ : 176 ≡ 191 = sym is_176 ∙ e in omega (arith, differ))
        back (passed k named argument e) = absurd (both_ways (is_call (opcode_of insn)) (ap is_call is_176) named)

    pub throw_arm : opcode_of insn ≡ 191 → IsBelowTop typed pc 1 v → (to : NodeKind) → (Some (Throw pc) ≡ Some to) ↔ TakenAs program m H pc v to
    throw_arm is_191 top to = (λ e. taken v to reads (thrown is_191 top (sym (same_Some (Throw pc) to e))), λ t. back (told v to t))
      where
        back : ByOpcode v to → Some (Throw pc) ≡ Some to
        back (moved may e) = absurd (both_ways (is_move (opcode_of insn)) (ap is_move is_191) may)
        back (returned e also same) = absurd (let differ : 176 ≡ 191 = sym e ∙ is_191 in omega (arith, differ))
        back (thrown e also same) = ap Some (sym same)
        back (passed k named argument e) = absurd (both_ways (is_call (opcode_of insn)) (ap is_call is_191) named)

    pub no_arm : is_move (opcode_of insn) ≡ false → is_call (opcode_of insn) ≡ false → ((opcode_of insn ≡ 176) × IsBelowTop typed pc 1 v → ⊥) → ((opcode_of insn ≡ 191) × IsBelowTop typed pc 1 v → ⊥)
        → (to : NodeKind) → (None ≡ Some to) ↔ TakenAs program m H pc v to
    no_arm no_move no_call no_return no_throw to = (λ e. absurd (cc), λ t. absurd (back (told v to t)))
      where
        back : ByOpcode v to → ⊥
        back (moved may e) = both_ways (is_move (opcode_of insn)) no_move may
        back (returned e top same) = no_return (e, top)
        back (thrown e top same) = no_throw (e, top)
        back (passed k named argument e) = both_ways (is_call (opcode_of insn)) no_call named

    module _ (places : List Place) (row : option_map (λ (r : FlowRow). r.reads) (slice_get wide n) ≡ Some places) (named : is_call (opcode_of insn) ≡ true) where
      among : (w : Place) → Contains places w ↔ ListsRead program m H (Call pc) w
      among w =
          let data_ = reads_are wide n places row w in
          let here = reads_here program m H wide is n pc insn at w in
          let node = call_node pc insn named in
          (λ c. subst (λ k. ListsRead program m H k w) node (here.0 (data_.0 c)), λ l. data_.1 (here.1 (subst (λ k. ListsRead program m H k w) (sym node) l)))

      abbrev Finds : Option NodeKind → Type 0
      Finds r = (low k : ℕ) → Contains places (Stack low) → ((h : ℕ) → Contains places (Stack h) → low ≤ h) → Contains places v → v ≡ Stack (low + k) → r ≡ Some (Arg pc k)

      height_in : Place → ℕ
      height_in (Stack h) = h
      height_in w = 0

      finds_argument : (r : Option NodeKind) → Finds r → (k : ℕ) → ArgumentPlace program m H pc k v → r ≡ Some (Arg pc k)
      unfolding height_in
      finds_argument r finds k argument = by_place k v argument ((among v).1 (k, argument)) finds
        where
          by_place : (j : ℕ) (w : Place) → ArgumentPlace program m H pc j w → Contains places w
              → ((low l : ℕ) → Contains places (Stack low) → ((h : ℕ) → Contains places (Stack h) → low ≤ h) → Contains places w → w ≡ Stack (low + l) → r ≡ Some (Arg pc l)) → r ≡ Some (Arg pc j)
          by_place _ _ (of_argument p height j call w high under e) c search_ =
              let count = argument_count (opcode_of call.insn) call.desc in
              let low = height - count in
              let first : Contains places (Stack low) = (among (Stack low)).1 (0, of_argument pc height 0 call (Stack low) high (omega (arith, under)) (ap Stack (omega arith))) in
              search_ low j first (λ h there. (let a = (among (Stack h)).0 there in let above = argument_is program m H typed heights pc call height a.0 (Stack h) high a.1 in
              let same : h ≡ low + above.above = ap height_in above.is in omega (arith, same))) c e

      pub call_arm : (r : Option NodeKind) → Finds r → (to : NodeKind) → (r ≡ Some to) ↔ TakenAs program m H pc v to
      call_arm r finds to = (there, λ t. back (told v to t))
        where
          there : r ≡ Some to → TakenAs program m H pc v to
          there e =
              let a = (among v).0 ((reads_are wide n places row v).1 reads) in
              taken v to reads (passed a.0 named a.1 (same_Some to (Arg pc a.0) (sym e ∙ finds_argument r finds a.0 a.1)))

          back : ByOpcode v to → r ≡ Some to
          back (moved may e) = absurd (both_ways (is_call (opcode_of insn)) (moves_plain (opcode_of insn) may) named)
          back (returned e top same) = absurd (both_ways (is_call (opcode_of insn)) (ap is_call e) named)
          back (thrown e top same) = absurd (both_ways (is_call (opcode_of insn)) (ap is_call e) named)
          back (passed k also argument e) = finds_argument r finds k argument ∙ ap Some (sym e)

-- ---- what a use hands on

module _ (program : Program) (m : ℕ) (H : ℕ → ℕ → Type 0) (wide : List FlowRow) (facts : Fact (List ℕ) → Type 0) (c : List ℕ) (pc : ℕ) (u : Use) where
  pub none_hands : ((to : NodeKind) → (None ≡ Some to) ↔ TakenAs program m H pc u.place to) → (g : Fact (List ℕ)) → UseHands program facts H (instance_of m c) wide pc u g → ⊥
  none_hands told_ g (to, t, held) = none_some to ((told_ to).1 t)
    where
      none_some : (k : NodeKind) → None ≡ Some k → ⊥
      none_some k e = absurd (cc)

  pub some_hands : (to : NodeKind) → ((k : NodeKind) → (Some to ≡ Some k) ↔ TakenAs program m H pc u.place k) → (g : Fact (List ℕ)) → HandsTo wide facts (instance_of m c) u to g ↔ UseHands program facts H (instance_of m c) wide pc u g
  some_hands to told_ g = (λ h. (to, (told_ to).0 refl, h), back)
    where
      back : UseHands program facts H (instance_of m c) wide pc u g → HandsTo wide facts (instance_of m c) u to g
      back (k, t, h) = subst (λ x. HandsTo wide facts (instance_of m c) u x g) (sym (same_Some to k ((told_ k).1 t))) h

module _ (program : Program) (m : ℕ) (H : ℕ → ℕ → Type 0) (wide : List FlowRow) (is : IsWideGraph program m H wide) (table : List (List Use)) (uses : IsUseTable wide table)
    (n pc : ℕ) (insn : Insn) (at : IsAtNode program m wide n pc insn) (facts : Fact (List ℕ) → Type 0) (c : List ℕ) where
  op_is : (k : ℕ) → StandsWith program m pc (λ op. op == k) → opcode_of insn ≡ k
  op_is k stands = eqb-true (opcode_of insn) k (passes program m H (λ op. op == k) pc at.next insn at.stands stands)

  top_read : (k : ℕ) (v : Place) → is_call k ≡ false → (stack_use_of k).pops ≡ 1 → opcode_of insn ≡ k → PlaceBelow program m H pc 1 v → ReadsIn wide n v
  top_read k v plain pops e top =
      let one : (stack_use_of (opcode_of insn)).pops ≡ 1 = ap (λ op. (stack_use_of op).pops) e ∙ pops in
      pops_read program m H wide is n pc insn at 1 v (ap is_call e ∙ plain) (omega arith) (omega (arith, one)) top

  -- what is taken is read
  taken_read : (v : Place) (to : NodeKind) → TakenAs program m H pc v to → ReadsIn wide n v
  taken_read v _ (by_move stands reads) =
      let plain = moves_plain (opcode_of insn) (passes program m H is_move pc at.next insn at.stands stands) in
      (reads_here program m H wide is n pc insn at v).1 (subst (λ k. ListsRead program m H k v) (sym (plain_node pc insn plain)) reads)
  taken_read v _ (by_return stands top) = top_read 176 v refl refl (op_is 176 stands) top
  taken_read v _ (by_throw stands top) = top_read 191 v refl refl (op_is 191 stands) top
  taken_read v _ (by_call k argument) = by_place k v argument
    where
      by_place : (k : ℕ) (v : Place) → ArgumentPlace program m H pc k v → ReadsIn wide n v
      by_place k v (of_argument p height j call w high under e) =
          let named : is_call (opcode_of insn) ≡ true = ap (λ x. is_call (opcode_of x)) (sym (same_insn program m H pc at.next call.next insn call.insn at.stands call.stands)) ∙ call.is_call in
          (reads_here program m H wide is n pc insn at w).1 (subst (λ x. ListsRead program m H x w) (sym (call_node pc insn named)) (j, of_argument pc height j call w high under e))

  -- all uses at a node
  pub hands_over : (row : List Use) → ((u : Use) → Contains row u ↔ StandsAt table n u) → (g : Fact (List ℕ)) → From row (UseHands program facts H (instance_of m c) wide pc) g ↔ HandsOver program facts H (instance_of m c) pc g
  hands_over row each g = (there, back)
    where
      there : From row (UseHands program facts H (instance_of m c) wide pc) g → HandsOver program facts H (instance_of m c) pc g
      there (u, among, (to, t, (o, holds, e))) = (u.place, to, o, t, use_place program m H wide is n pc insn at table uses facts c u o ((each u).0 among) holds, e)

      back : HandsOver program facts H (instance_of m c) pc g → From row (UseHands program facts H (instance_of m c) wide pc) g
      back (v, to, o, t, holds, e) =
          let use_ = place_use program m H wide is n pc insn at table uses facts c v o (taken_read v to t) holds in
          (use_.u, (each use_.u).1 use_.there, (to, subst (λ w. TakenAs program m H pc w to) (sym use_.place) t, (o, use_.holds, e)))

-- ---- what an instruction makes

makes_plain : (op : ℕ) → makes_object op ≡ true → is_call op ≡ false
makes_plain op e = by_test (is_call op) refl
  where
    by_test : (b : Bool) → is_call op ≡ b → b ≡ false
    by_test false f = refl
    by_test true f =
        let low : 187 ≤ op = leb-true 187 op (and_parts (nat_le 187 op) (nat_le op 189) e).0 in
        let high : op ≤ 185 = leb-true op 185 (and_parts (nat_le 182 op) (nat_le op 185) f).1 in
        absurd (omega (arith, low, high))

text_plain : (op : ℕ) → within 18 19 op ≡ true → is_call op ≡ false
text_plain op e = by_test (is_call op) refl
  where
    by_test : (b : Bool) → is_call op ≡ b → b ≡ false
    by_test false f = refl
    by_test true f =
        let low : op ≤ 19 = leb-true op 19 (and_parts (nat_le 18 op) (nat_le op 19) e).1 in
        let high : 182 ≤ op = leb-true 182 op (and_parts (nat_le 182 op) (nat_le op 185) f).0 in
        absurd (omega (arith, low, high))

no_text_made : (op : ℕ) → within 18 19 op ≡ true → makes_object op ≡ true → ⊥
no_text_made op e f =
    let low : op ≤ 19 = leb-true op 19 (and_parts (nat_le 18 op) (nat_le op 19) e).1 in
    let high : 187 ≤ op = leb-true 187 op (and_parts (nat_le 187 op) (nat_le op 189) f).0 in
    omega (arith, low, high)

module _ (program : Program) (m : ℕ) (H : ℕ → ℕ → Type 0) (pc next : ℕ) (insn : Insn) (at : insn_at program m pc ≡ Some (insn, next)) where
  -- the text that the instruction names is that at its pc
  pub loads_told : (b text : Bool) → b ≡ (within 18 19 (opcode_of insn) && text) → text ≡ is_text (operand_of program m (Some (insn, next))) → (b ≡ true) ↔ LoadsText program m pc
  loads_told b text is named = (there, back)
    where
      there : b ≡ true → LoadsText program m pc
      there sure =
          let both = and_parts (within 18 19 (opcode_of insn)) text (sym is ∙ sure) in
          ((insn, next, at, both.0), ap (λ f. is_text (operand_of program m f)) at ∙ sym named ∙ both.1)

      back : LoadsText program m pc → b ≡ true
      back (stands, text_) =
          let first = passes program m H (λ op. within 18 19 op) pc next insn at stands in
          let second : text ≡ true = named ∙ ap (λ f. is_text (operand_of program m f)) (sym at) ∙ text_ in
          is ∙ and_from (within 18 19 (opcode_of insn)) text first second

  module _ (policy : ContextPolicy) (c : List ℕ) {C : Type 0} (list : C → List ℕ) where
    pub text_arm : LoadsText program m pc → (o : ObjKey C) → o.site ≡ 0 → list o.context ≡ [] → (g : Fact (List ℕ)) → IsMade list (instance_of m c) pc (Some o) g ↔ MakesAt program policy (instance_of m c) pc g
    text_arm loads o site none g = (λ e. subst (MakesAt program policy (instance_of m c) pc) (sym (e ∙ ap (Holds (instance_of m c) (Instr pc)) same)) (loads_text loads), λ made. back made)
      where
        same : object_seen list o ≡ string_object
        same = ap (λ (s : ℕ). object_at s (list o.context)) site ∙ ap (object_at 0) none

        back : {f : Fact (List ℕ)} → MakesAt program policy (instance_of m c) pc f → f ≡ Holds (instance_of m c) (Instr pc) (object_seen list o)
        back (loads_text also) = ap (Holds (instance_of m c) (Instr pc)) (sym same)
        back (makes s p stands is_site made) =
            absurd (no_text_made (opcode_of insn) (passes program m H (λ op. within 18 19 op) pc next insn at loads.0) (passes program m H makes_object pc next insn at stands))

    pub none_arm : (LoadsText program m pc → ⊥) → makes_object (opcode_of insn) ≡ false → (g : Fact (List ℕ)) → IsMade list (instance_of m c) pc None g ↔ MakesAt program policy (instance_of m c) pc g
    none_arm no_text no_object g = (λ none. absurd none, λ made. back made)
      where
        back : {f : Fact (List ℕ)} → MakesAt program policy (instance_of m c) pc f → ⊥
        back (loads_text loads) = no_text loads
        back (makes s p stands is_site made) = both_ways (makes_object (opcode_of insn)) no_object (passes program m H makes_object pc next insn at stands)

    pub siteless_arm : (LoadsText program m pc → ⊥) → site_of (sites_of program.methods) m pc None ≡ None → (g : Fact (List ℕ)) → IsMade list (instance_of m c) pc None g ↔ MakesAt program policy (instance_of m c) pc g
    siteless_arm no_text none g = (λ no. absurd no, λ made. back made)
      where
        back : {f : Fact (List ℕ)} → MakesAt program policy (instance_of m c) pc f → ⊥
        back (loads_text loads) = no_text loads
        back (makes s p stands is_site made) = absurd (let e : Some s ≡ None = sym is_site ∙ none in cc)

    pub site_arm : (LoadsText program m pc → ⊥) → makes_object (opcode_of insn) ≡ true → (o : ObjKey C) → site_of (sites_of program.methods) m pc None ≡ Some o.site → list o.context ≡ policy.heap c o.site
        → (g : Fact (List ℕ)) → IsMade list (instance_of m c) pc (Some o) g ↔ MakesAt program policy (instance_of m c) pc g
    site_arm no_text makes_ o site heap g = (λ e. subst (MakesAt program policy (instance_of m c) pc) (sym e) (makes o.site (object_seen list o) (insn, next, at, makes_) site own), λ made. back made)
      where
        own : MadeBy policy (instance_of m c) o.site (object_seen list o)
        own = ap (object_at o.site) heap

        back : {f : Fact (List ℕ)} → MakesAt program policy (instance_of m c) pc f → f ≡ Holds (instance_of m c) (Instr pc) (object_seen list o)
        back (loads_text loads) = absurd (no_text loads)
        back (makes s p stands is_site made) =
            let sites : s ≡ o.site = same_Some s o.site (sym is_site ∙ site) in
            ap (Holds (instance_of m c) (Instr pc)) (made ∙ ap (λ (k : ℕ). object_at k (policy.heap c k)) sites ∙ sym own)

-- ---- node by node

last_step : {N : Type 0} {E : N → N → Type 0} (a b : N) → Path E a b → (a ≡ b) ⊎ ((x : N) × Path E a x × E x b)
last_step _ _ (stays a) = inl refl
last_step {N} {E} _ _ (goes a b c edge path) = elim (last_step b c path) [
  | inl same ↦ inr (a, stays a, subst (λ (k : N). E a k) same edge)
  | inr (x, before, last) ↦ inr (x, goes a b x edge before, last)
]

module _ (program : Program) (m : ℕ) where
  -- a node that Entry reaches by an instruction is no Throw, and no RetKind
  abbrev IsLater : NodeKind → Type 0
  IsLater (Throw pc) = ⊥
  IsLater (RetKind pc) = ⊥
  IsLater k = Unit {0}

  first_later : (pc : ℕ) (k : NodeKind) → IsFirst program m pc k → IsLater k
  first_later pc k (insn, next, at, e) = subst (λ x. IsLater x) (sym e) (by_call_or_not (is_call (opcode_of insn)))
    where
      by_call_or_not : (b : Bool) → IsLater (cond b (Call pc) (Instr pc))
      by_call_or_not true = tt
      by_call_or_not false = tt

  -- from where a Throw is reached, and a RetKind
  abbrev Before : NodeKind → NodeKind → Type 0
  Before (Throw pc) x = IsFirst program m pc x ⊎ (x ≡ RetKind pc)
  Before (RetKind pc) x = StandsWith program m pc is_call
  Before k x = Unit {0}

  later_before : (k x : NodeKind) → IsLater k → Before k x
  later_before (Throw pc) x later = absurd later
  later_before (RetKind pc) x later = absurd later
  later_before k x later = tt

  step_before : (x k : NodeKind) → WideStep program m x k → Before k x
  step_before x _ (WideGraph.begins k first) = later_before k x (first_later 0 k first)
  step_before _ _ WideGraph.skips = tt
  step_before x _ (WideGraph.falls pc next insn k at on first) = later_before k x (first_later next k first)
  step_before x _ (WideGraph.jumps pc target k jump ahead first) = later_before k x (first_later target k first)
  step_before _ _ (WideGraph.polls pc target k jump behind_ first) = tt
  step_before x _ (WideGraph.turns pc target k jump behind_ first) = later_before k x (first_later target k first)
  step_before _ _ (WideGraph.loops pc target jump behind_) = tt
  step_before _ _ (WideGraph.returns pc stands) = tt
  step_before _ _ (WideGraph.raises pc k stands first) = inl first
  step_before _ _ (WideGraph.calls_native_of pc stands native) = tt
  step_before _ _ (WideGraph.calls pc stands other) = stands
  step_before _ _ (WideGraph.comes_back pc) = tt
  step_before _ _ (WideGraph.rethrows pc) = inr refl
  step_before _ _ (WideGraph.stays_away pc) = tt
  step_before x _ (WideGraph.arrives pc next insn k at named first) = later_before k x (first_later next k first)
  step_before _ _ (WideGraph.caught pc k handler covers ahead) = tt
  step_before _ _ (WideGraph.polls_caught pc k handler covers behind_) = tt
  step_before _ _ (WideGraph.turns_caught pc k handler covers behind_) = tt
  step_before _ _ (WideGraph.loops_caught pc k handler covers behind_) = tt
  step_before _ _ (WideGraph.uncaught pc) = tt
  step_before x _ (WideGraph.handles j row k at first) = later_before k x (first_later row.handler k first)

  opcode_at : (pc k : ℕ) → StandsWith program m pc (λ op. op == k) → (insn : Insn) (next : ℕ) → insn_at program m pc ≡ Some (insn, next) → opcode_of insn ≡ k
  opcode_at pc k (own, other, found, e) insn next at = ap opcode_of (sym ((some_pair_parts own insn other next (sym found ∙ at)).0)) ∙ eqb-true (opcode_of own) k e

  -- an athrow whose Throw is reached is reached
  pub throw_reached : (pc : ℕ) → StandsWith program m pc (λ op. op == 191) → IsWideNode program m (Throw pc) → IsWideNode program m (Instr pc)
  throw_reached pc stands path = elim (last_step Entry (Throw pc) path) [
    | inl same ↦ absurd (differ same)
    | inr (x, before, step) ↦ by_last x before (step_before x (Throw pc) step)
  ]
    where
      differ : Entry ≡ Throw pc → ⊥
      differ e = absurd (cc)

      returned_from : IsWideNode program m (RetKind pc) → ⊥
      returned_from to = elim (last_step Entry (RetKind pc) to) [
        | inl same ↦ no_entry same
        | inr (y, before, step) ↦ no_call (step_before y (RetKind pc) step)
      ]
        where
          no_entry : Entry ≡ RetKind pc → ⊥
          no_entry e = absurd (cc)

          no_call : StandsWith program m pc is_call → ⊥
          no_call (insn, next, at, named) = both_ways (is_call (opcode_of insn)) (ap is_call (opcode_at pc 191 stands insn next at)) named

      by_last : (x : NodeKind) → IsWideNode program m x → IsFirst program m pc x ⊎ (x ≡ RetKind pc) → IsWideNode program m (Instr pc)
      by_last x before (inl (insn, next, at, e)) = subst (λ k. IsWideNode program m k) (e ∙ plain_node pc insn (ap is_call (opcode_at pc 191 stands insn next at))) before
      by_last x before (inr e) = absurd (returned_from (subst (λ k. IsWideNode program m k) e before))

  pub throw_reaches : (pc : ℕ) → StandsWith program m pc (λ op. op == 191) → IsWideNode program m (Instr pc) → IsWideNode program m (Throw pc)
  throw_reaches pc stands before =
      let is_191 = opcode_at pc 191 stands stands.0 stands.1 stands.2 in
      path_more before (WideGraph.raises pc (Instr pc) (stands.0, stands.1, stands.2, ap may_throw is_191) (stands.0, stands.1, stands.2, sym (plain_node pc stands.0 (ap is_call is_191))))

-- the nodes of a wide graph give exactly what the rules give
module _ (program : Program) (m : ℕ) (H : ℕ → ℕ → Type 0) (wide : List FlowRow) (is : IsWideGraph program m H wide) (policy : ContextPolicy) (facts : Fact (List ℕ) → Type 0) (c : List ℕ) where
  abbrev The : InstKey (List ℕ)
  The = instance_of m c

  -- ---- one node

  pub nothing_stands : (n : ℕ) (node : FlowNode) → option_map (λ (row : FlowRow). row.node) (slice_get wide n) ≡ Some node → standing_by node.kind node.insn ≡ None → (g : Fact (List ℕ)) → ValuesAt program policy facts H The wide n g → ⊥
  nothing_stands n node e none g (pc, insn, at, gives) =
      some_none (standing_by node.kind node.insn) (pc, insn) (told_by_node program m H wide is n node e pc insn (record { next = at.next; stands = at.stands; node = at.node })) none
    where
      some_none : (o : Option (ℕ × Insn)) (x : ℕ × Insn) → o ≡ Some x → o ≡ None → ⊥
      some_none None x some_ none_ = absurd (cc)
      some_none (Some y) x some_ none_ = absurd (cc)

  pub stands_there : (n : ℕ) (node : FlowNode) → option_map (λ (row : FlowRow). row.node) (slice_get wide n) ≡ Some node → (pc : ℕ) (insn : Insn) → standing_by node.kind node.insn ≡ Some (pc, insn) → IsAtNode program m wide n pc insn
  stands_there n node e pc insn stands = let found = found_there program m H wide is n node e pc insn stands in record { next = found.next; stands = found.stands; node = found.node }

  pub node_gives : (n : ℕ) (node : FlowNode) → option_map (λ (row : FlowRow). row.node) (slice_get wide n) ≡ Some node → (pc : ℕ) (insn : Insn) → standing_by node.kind node.insn ≡ Some (pc, insn)
      → (g : Fact (List ℕ)) → (MakesAt program policy The pc g ⊎ HandsOver program facts H The pc g) ↔ ValuesAt program policy facts H The wide n g
  node_gives n node e pc insn stands g = (λ gives. (pc, insn, stands_there n node e pc insn stands, gives), back)
    where
      back : ValuesAt program policy facts H The wide n g → MakesAt program policy The pc g ⊎ HandsOver program facts H The pc g
      back (p, own, at, gives) =
          let same = (some_pair_parts p pc own insn (sym (told_by_node program m H wide is n node e p own (record { next = at.next; stands = at.stands; node = at.node })) ∙ stands)).0 in
          subst (λ k. MakesAt program policy The k g ⊎ HandsOver program facts H The k g) same gives

  -- ---- all nodes

  test_of : (test : ℕ → Bool) (pc : ℕ) (insn : Insn) → (next : ℕ) → insn_at program m pc ≡ Some (insn, next) → StandsWith program m pc test → test (opcode_of insn) ≡ true
  test_of test pc insn next at stands = passes program m H test pc next insn at stands

  node_plain : (n pc : ℕ) (insn : Insn) → IsAtNode program m wide n pc insn → is_call (opcode_of insn) ≡ false → IsWideNode program m (Instr pc)
  node_plain n pc insn at plain = is.graph.only_nodes n (Instr pc) (at.node ∙ ap (λ k. Some k) (plain_node pc insn plain))

  node_call : (n pc : ℕ) (insn : Insn) → IsAtNode program m wide n pc insn → is_call (opcode_of insn) ≡ true → IsWideNode program m (Call pc)
  node_call n pc insn at named = is.graph.only_nodes n (Call pc) (at.node ∙ ap (λ k. Some k) (call_node pc insn named))

  made_value : (n pc : ℕ) (insn : Insn) → IsAtNode program m wide n pc insn → (g : Fact (List ℕ)) → MakesAt program policy The pc g → ByValue program policy facts H The g
  made_value n pc insn at _ (makes site o stands is_site made) =
      InstanceRules.makes pc site o (node_plain n pc insn at (makes_plain (opcode_of insn) (test_of makes_object pc insn at.next at.stands stands))) stands is_site made
  made_value n pc insn at _ (loads_text loads) =
      InstanceRules.loads_text pc (node_plain n pc insn at (text_plain (opcode_of insn) (test_of (λ op. within 18 19 op) pc insn at.next at.stands loads.0))) loads

  argument_named : (pc k : ℕ) (v : Place) (insn : Insn) (next : ℕ) → insn_at program m pc ≡ Some (insn, next) → ArgumentPlace program m H pc k v → is_call (opcode_of insn) ≡ true
  argument_named _ _ _ insn next at (of_argument pc height k call v high under e) = ap (λ x. is_call (opcode_of x)) (sym (same_insn program m H pc next call.next insn call.insn at call.stands)) ∙ call.is_call

  handed_value : (n pc : ℕ) (insn : Insn) → IsAtNode program m wide n pc insn → (v : Place) (to : NodeKind) (o : ObjKey (List ℕ)) → TakenAs program m H pc v to → PlaceHolds program facts H The pc v o
      → ByValue program policy facts H The (Holds The to o)
  handed_value n pc insn at v _ o (by_move stands reads) holds =
      InstanceRules.moves pc o (node_plain n pc insn at (moves_plain (opcode_of insn) (test_of is_move pc insn at.next at.stands stands))) stands (record { place = v; is_read = reads; holds = holds })
  handed_value n pc insn at v _ o (by_return stands top) holds =
      InstanceRules.returns pc o (node_plain n pc insn at (ap is_call (opcode_at program m pc 176 stands insn at.next at.stands))) stands (record { place = v; is_top = top; holds = holds })
  handed_value n pc insn at v _ o (by_throw stands top) holds =
      InstanceRules.throws pc o (throw_reaches program m pc stands (node_plain n pc insn at (ap is_call (opcode_at program m pc 191 stands insn at.next at.stands)))) stands (record { place = v; is_top = top; holds = holds })
  handed_value n pc insn at v _ o (by_call k argument) holds =
      InstanceRules.passes pc k o (node_call n pc insn at (argument_named pc k v insn at.next at.stands argument)) (record { place = v; is_argument = argument; holds = holds })

  -- the number of a node at which an instruction stands
  record NodeOf (pc : ℕ) : Type 0 where
    n : ℕ
    below : n < length wide
    insn : Insn
    at : IsAtNode program m wide n pc insn

  plain_at : (pc : ℕ) → IsWideNode program m (Instr pc) → NodeOf pc
  plain_at pc path =
      let number = is.graph.each_node (Instr pc) path in
      let s = wide_stands program m (Instr pc) path in
      record { n = number.0; below = kind_below program m H wide is number.0 (Instr pc) number.1; insn = s.0; at = record { next = s.1; stands = s.2; node = number.1 ∙ ap (λ k. Some k) (sym s.3) } }

  call_there : (pc : ℕ) → IsWideNode program m (Call pc) → NodeOf pc
  call_there pc path =
      let number = is.graph.each_node (Call pc) path in
      let s = wide_stands program m (Call pc) path in
      record { n = number.0; below = kind_below program m H wide is number.0 (Call pc) number.1; insn = s.0; at = record { next = s.1; stands = s.2; node = number.1 ∙ ap (λ k. Some k) (sym s.3) } }

  from_node : (pc : ℕ) (g : Fact (List ℕ)) → NodeOf pc → MakesAt program policy The pc g ⊎ HandsOver program facts H The pc g → FromBelow (length wide) (ValuesAt program policy facts H The wide) g
  from_node pc g node gives = (node.n, node.below, (pc, node.insn, node.at, gives))

  value_given : (g : Fact (List ℕ)) → ByValue program policy facts H The g → FromBelow (length wide) (ValuesAt program policy facts H The wide) g
  value_given _ (InstanceRules.makes pc site o path stands is_site made) = from_node pc (Holds The (Instr pc) o) (plain_at pc path) (inl (makes site o stands is_site made))
  value_given _ (InstanceRules.loads_text pc path loads) = from_node pc (Holds The (Instr pc) string_object) (plain_at pc path) (inl (loads_text loads))
  value_given _ (InstanceRules.moves pc o path stands moved_) = from_node pc (Holds The (Instr pc) o) (plain_at pc path) (inr (moved_.place, Instr pc, o, by_move stands moved_.is_read, moved_.holds, refl))
  value_given _ (InstanceRules.passes pc k o path argument) = from_node pc (Holds The (Arg pc k) o) (call_there pc path) (inr (argument.place, Arg pc k, o, by_call k argument.is_argument, argument.holds, refl))
  value_given _ (InstanceRules.throws pc o path stands top) =
      from_node pc (Holds The (Throw pc) o) (plain_at pc (throw_reached program m pc stands path)) (inr (top.place, Throw pc, o, by_throw stands top.is_top, top.holds, refl))
  value_given _ (InstanceRules.returns pc o path stands top) = from_node pc (Holds The Value o) (plain_at pc path) (inr (top.place, Value, o, by_return stands top.is_top, top.holds, refl))

  pub by_nodes : (g : Fact (List ℕ)) → FromBelow (length wide) (ValuesAt program policy facts H The wide) g ↔ ByValue program policy facts H The g
  by_nodes g = (there, value_given g)
    where
      there : FromBelow (length wide) (ValuesAt program policy facts H The wide) g → ByValue program policy facts H The g
      there (n, below_, (pc, insn, at, inl made)) = made_value n pc insn at g made
      there (n, below_, (pc, insn, at, inr (v, to, o, t, holds, e))) = subst (ByValue program policy facts H The) (sym e) (handed_value n pc insn at v to o t holds)
