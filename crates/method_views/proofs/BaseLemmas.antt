-- The base of an instruction is found by its height, and that of a call as the lowest of its arguments.
use Rattle.std.specs.Prelude.{◌↔◌, ◌-◌, nat_lt, option_map, slice_get, cond}
use Rattle.std.proofs.Common.{inl, inr, ◌≡◌, ℕ, ◌+◌, ◌<◌, ◌≤◌, Bool, true, false, List, length, get_or, take, Option, Some, Contains, refl, sym, ◌∙◌, ap, subst, arith}
use Rattle.std.proofs.lemmas.Bool.{both_ways, ltb-false, ltb-true}
use Rattle.std.proofs.lemmas.List.{take_all}
use Rattle.std.proofs.lemmas.Option.{same_Some, some_pair_parts}
use Rattle.jo_text.specs.Descriptors.{SpellsMethod}
use Rattle.jo_text.proofs.DescriptorMethods.{method_once}
use Rattle.jo_insn.specs.declared.instructions.Insn.{Insn}
use Rattle.jo_prog.specs.declared.program.Program.{Program}
use Rattle.jo_prog.specs.declared.program.MemberRef.{MemberRef}
use Rattle.jo_prog.specs.Sites.{opcode_of}
use Rattle.jo_prog.proofs.WalkLemmas.{none_there}
use Rattle.dep_nodes.specs.declared.kinds.NodeKind.TheVariants.{Instr, Call}
use Rattle.dependence.specs.declared.flow.Place.{Place}
use Rattle.dependence.specs.declared.flow.Place.TheVariants.{Stack}
use Rattle.dependence.specs.declared.flows.FlowRow.{FlowRow}
use Rattle.dependence.specs.declared.flows.Use.{Use}
use Rattle.dependence.specs.WideGraph.{insn_at, is_call, node_of_insn}
use Rattle.dependence.specs.NodePlaces.{CallAt, argument_count, ArgumentPlace, of_argument}
use Rattle.dependence.specs.GraphsAsData.{ListsRead, IsWideGraph}
use Rattle.dependence.specs.FlowGraph.{base_depth, BasePlace, of_insn, of_call}
use Rattle.dependence.proofs.ListedLemmas.{taken_more}
use Rattle.method_views.specs.Heights.{HeightIs}
use Rattle.method_views.specs.Bases.{is_lower, IsLeastOf, IsBelowTop}
use Rattle.method_views.specs.Standing.{UseAt}
use Rattle.method_views.proofs.NodeLemmas.{reads_are, never, same_ref, ref_there, argument_here}

-- ---- the lowest of some places

module _ (places : List Place) (v : Place) where
  pub least_yet : IsLeastOf (take 0 places) v
  least_yet other c = absurd (none_there other c)

  pub least_more : (i : ℕ) (place : Place) → i < length places → place ≡ get_or places i place → is_lower place v ≡ false → IsLeastOf (take i places) v → IsLeastOf (take (i + 1) places) v
  least_more i place below at higher before other among = elim ((taken_more places i place other below at).0 among) [
    | inl first ↦ before other first
    | inr last ↦ subst (λ p. is_lower p v ≡ false) (sym last) higher
  ]

  pub not_least : (i : ℕ) (place : Place) → i < length places → place ≡ get_or places i place → is_lower place v ≡ true → (false ≡ true) ↔ IsLeastOf places v
  not_least i place below at lower = never (λ least. both_ways (is_lower place v) (least place (i, below, sym at)) lower)

  pub least_all : (i : ℕ) → length places ≤ i → IsLeastOf (take i places) v → (true ≡ true) ↔ IsLeastOf places v
  least_all i past least = (λ _. subst (λ ps. IsLeastOf ps v) (take_all i places past) least, λ _. refl)

-- ---- bases

module _ (program : Program) (m : ℕ) (H : ℕ → ℕ → Type 0) (typed : List (Option ℕ)) (heights : (pc height : ℕ) → HeightIs typed pc height ↔ H pc height) where
  pub below_is_base : (pc next : ℕ) (insn : Insn) (v : Place) (b : Bool) → insn_at program m pc ≡ Some (insn, next) → is_call (opcode_of insn) ≡ false
      → (b ≡ true) ↔ IsBelowTop typed pc (base_depth (opcode_of insn)) v → (b ≡ true) ↔ BasePlace program m H pc v
  below_is_base pc next insn v b found plain told = (λ sure. there (told.0 sure), λ base. told.1 (back v base))
    where
      there : IsBelowTop typed pc (base_depth (opcode_of insn)) v → BasePlace program m H pc v
      there (height, high, e) = of_insn (record { insn = insn; next = next; is = found; height = height; has_height = (heights pc height).0 high }) v plain e

      back : (w : Place) → BasePlace program m H pc w → IsBelowTop typed pc (base_depth (opcode_of insn)) w
      back _ (of_insn at w other e) =
          let same : at.insn ≡ insn = (some_pair_parts at.insn insn at.next next (sym at.is ∙ found)).0 in
          (at.height, (heights pc at.height).1 at.has_height, e ∙ ap (λ x. Stack (at.height - base_depth (opcode_of x))) same)
      back _ (of_call at call w e) =
          let same : call.insn ≡ insn = (some_pair_parts call.insn insn call.next next (sym call.stands ∙ found)).0 in
          absurd (both_ways (is_call (opcode_of insn)) plain (ap (λ x. is_call (opcode_of x)) (sym same) ∙ call.is_call))

  same_height : (pc h k : ℕ) → H pc h → H pc k → h ≡ k
  same_height pc h k first second = same_Some h k (sym ((heights pc h).1 first) ∙ (heights pc k).1 second)

  same_count : (pc : ℕ) (one other : CallAt program m pc) → argument_count (opcode_of one.insn) one.desc ≡ argument_count (opcode_of other.insn) other.desc
  same_count pc one other =
      let insns : one.insn ≡ other.insn = (some_pair_parts one.insn other.insn one.next other.next (sym one.stands ∙ other.stands)).0 in
      let refs : one.ref ≡ other.ref = same_ref program m pc other.next other.insn other.stands one other.ref (ref_there program m pc other.next other.insn other.stands other) in
      let descs : one.desc ≡ other.desc = method_once other.ref.desc one.desc other.desc (subst (λ (r : MemberRef). SpellsMethod one.desc r.desc) refs one.spells) other.spells in
      ap (λ x. argument_count (opcode_of x) one.desc) insns ∙ ap (argument_count (opcode_of other.insn)) descs

  -- all arguments of a call stand on its base or above
  pub record ArgumentIs (pc base : ℕ) (v : Place) : Type 0 where
    pub above : ℕ
    pub is : v ≡ Stack (base + above)

  pub argument_is : (pc : ℕ) (call : CallAt program m pc) (height i : ℕ) (v : Place) → H pc height → ArgumentPlace program m H pc i v → ArgumentIs pc (height - argument_count (opcode_of call.insn) call.desc) v
  argument_is _ call height _ _ high (of_argument pc own i other v own_high below e) =
      let heights_same : own ≡ height = same_height pc own height own_high high in
      let counts : argument_count (opcode_of other.insn) other.desc ≡ argument_count (opcode_of call.insn) call.desc = same_count pc other call in
      record { above = i; is = e ∙ ap (λ h. Stack (h - argument_count (opcode_of other.insn) other.desc + i)) heights_same ∙ ap (λ c. Stack (height - c + i)) counts }

  module _ (wide : List FlowRow) (is : IsWideGraph program m H wide) (u : Use) (pc : ℕ) (insn : Insn) (at : UseAt program m wide u pc insn) (calls : is_call (opcode_of insn) ≡ true) (places : List Place)
      (read : option_map (λ (row : FlowRow). row.reads) (slice_get wide u.node) ≡ Some places) where
    call_node : node_of_insn pc insn ≡ Call pc
    call_node = ap (λ b. cond b (Call pc) (Instr pc)) calls

    among : (v : Place) → Contains places v ↔ ListsRead program m H (Call pc) v
    among v =
        let listed = is.graph.reads u.node (Call pc) v (at.node ∙ ap (λ k. Some k) call_node) in
        let in_data = reads_are wide u.node places read v in
        (λ c. listed.0 (in_data.0 c), λ r. in_data.1 (listed.1 r))

    -- the base of the call is an argument, the first
    first_argument : (height : ℕ) (call : CallAt program m pc) → H pc height → 0 < argument_count (opcode_of call.insn) call.desc → Contains places (Stack (height - argument_count (opcode_of call.insn) call.desc))
    first_argument height call high some = (among (Stack (height - argument_count (opcode_of call.insn) call.desc))).1 (0, of_argument pc height 0 call (Stack (height - argument_count (opcode_of call.insn) call.desc)) high some (ap Stack (omega arith)))

    lowest : (i : ℕ) (v : Place) → ArgumentPlace program m H pc i v → IsLeastOf places v → BasePlace program m H pc v
    lowest _ _ (of_argument pc height i call v high below e) least =
        let count = argument_count (opcode_of call.insn) call.desc in
        let not_lower : nat_lt (height - count) (height - count + i) ≡ false = subst (λ w. is_lower (Stack (height - count)) w ≡ false) e (least (Stack (height - count)) (first_argument height call high (omega (arith, below)))) in
        let none : i ≡ 0 = (let over = ltb-false (height - count) (height - count + i) not_lower in omega (arith, over)) in
        of_call (record { insn = call.insn; next = call.next; is = call.stands; height = height; has_height = high }) call v (e ∙ ap Stack (omega (arith, none)))

    no_lower : (base : ℕ) (w v : Place) → ArgumentIs pc base w → v ≡ Stack base → is_lower w v ≡ false
    no_lower base w v argument e =
        subst (λ x. is_lower x v ≡ false) (sym argument.is) (subst (λ x. is_lower (Stack (base + argument.above)) x ≡ false) (sym e) (not_below (nat_lt (base + argument.above) base) refl))
      where
        not_below : (b : Bool) → nat_lt (base + argument.above) base ≡ b → b ≡ false
        not_below true f = absurd (let below = ltb-true (base + argument.above) base f in omega (arith, below))
        not_below false f = refl

    base_lowest : (v : Place) → BasePlace program m H pc v → IsLeastOf places v
    base_lowest _ (of_insn standing v plain e) other c =
        let same : standing.insn ≡ insn = (some_pair_parts standing.insn insn standing.next at.next (sym standing.is ∙ at.stands)).0 in
        absurd (both_ways (is_call (opcode_of insn)) (ap (λ x. is_call (opcode_of x)) (sym same) ∙ plain) calls)
    base_lowest _ (of_call standing call v e) other c =
        let argument = (among other).0 c in
        no_lower (standing.height - argument_count (opcode_of call.insn) call.desc) other v (argument_is pc call standing.height argument.0 other standing.has_height argument.1) e

    pub least_is_base : (b : Bool) → (b ≡ true) ↔ IsLeastOf places u.place → (b ≡ true) ↔ BasePlace program m H pc u.place
    least_is_base b told =
        (λ sure. (let argument = argument_here program m H wide is u pc insn at calls in lowest argument.0 u.place argument.1 (told.0 sure)), λ base. told.1 (base_lowest u.place base))
