-- The places that are found are those that nodes read and write.
use Rattle.std.specs.Prelude.{◌↔◌, ◌⊎◌, ◌-◌, cond, map, slice_index_or, option_map, is_some}
use Rattle.std.specs.List.{range_with_len}
use Rattle.std.proofs.Common.{inl, inr, ◌≡◌, ℕ, zero, suc, ◌+◌, ◌<◌, Bool, true, false, List, [], ◌∷◌, length, Option, Some, None, Contains, refl, sym, ◌∙◌, ap, subst, arith}
use Rattle.std.proofs.lemmas.Option.{same_Some, some_pair_parts}
use Rattle.jo_text.specs.declared.descriptors.FieldDesc.{FieldDesc}
use Rattle.jo_text.specs.declared.descriptors.MethodDesc.{MethodDesc}
use Rattle.jo_text.specs.Descriptors.{SpellsMethod, IsMethodDesc}
use Rattle.jo_text.proofs.DescriptorMethods.{method_once}
use Rattle.jo_insn.specs.declared.instructions.Insn.{Insn}
use Rattle.jo_insn.specs.AccessFlags.{has_flag, static_flag}
use Rattle.jo_prog.specs.declared.program.Program.{Program}
use Rattle.jo_prog.specs.declared.program.Method.{Method}
use Rattle.jo_prog.specs.declared.program.MemberRef.{MemberRef}
use Rattle.jo_prog.specs.declared.program.Operand.{Operand}
use Rattle.jo_prog.specs.declared.program.Operand.TheVariants.{Unused, Int, Text, OfType, Member}
use Rattle.jo_prog.specs.Program.{method_at}
use Rattle.jo_prog.specs.Sites.{opcode_of}
use Rattle.jo_prog.proofs.WalkLemmas.{none_there}
use Rattle.dep_nodes.specs.declared.kinds.NodeKind.{NodeKind}
use Rattle.dep_nodes.specs.declared.kinds.NodeKind.TheVariants.{Entry, Exit, Instr, Call, RetVal, RetKind, Throw, Catch, Poll, XPoll, Arg, Param, Kind, Value, Thrown}
use Rattle.dependence.specs.declared.flow.Place.{Place}
use Rattle.dependence.specs.declared.flow.Place.TheVariants.{Local, Stack, Pending}
use Rattle.dependence.specs.WideGraph.{insn_at, operand_of, is_call}
use Rattle.dependence.specs.NodePlaces.{reads_of, writes_of, stack_places, CallAt, argument_count, HasParameters, Reads, Writes, ArgumentPlace, by_insn, by_catch, by_entry, by_result, by_throw, of_argument}
use Rattle.dependence.specs.GraphsAsData.{ListsRead}
use Rattle.flow_graph.specs.Adding.{HasThose}
use Rattle.flow_graph.specs.NodeUses.{HeightIs, unless_call, with_height, used_at, read_by, written_by, ref_in, member_if_call, called_at, HasCallUse, IsCallUse, arguments_of, result_of, AreParameters, locals_of}
use Rattle.flow_graph.specs.declared.node_places.CallUse.{CallUse}
use Rattle.flow_graph.proofs.AddingLemmas.{has_none, has_alike, only_item, in_numbers, to_numbers}

abbrev member_in : MemberRef → Option Operand → MemberRef
member_in other (Some (Member ref)) = ref
member_in other _ = other

module _ (program : Program) (m : ℕ) (typed : List (Option ℕ)) where
  -- ---- instructions

  used_is : (pc next height : ℕ) (insn : Insn) → insn_at program m pc ≡ Some (insn, next) → is_call (opcode_of insn) ≡ false → HeightIs typed pc height → used_at program m typed pc ≡ Some (insn, height)
  used_is pc next height insn found other high =
      ap (λ o. with_height o (unless_call (insn_at program m pc))) high ∙ ap (λ o. with_height (Some height) (unless_call o)) found ∙ ap (λ b. with_height (Some height) (cond b None (Some insn))) other

  -- an instruction that is no call, with its height
  record IsUsed (pc height : ℕ) (insn : Insn) : Type 0 where
    next : ℕ
    found : insn_at program m pc ≡ Some (insn, next)
    other : is_call (opcode_of insn) ≡ false
    high : HeightIs typed pc height

  is_used : (pc height : ℕ) (insn : Insn) → used_at program m typed pc ≡ Some (insn, height) → IsUsed pc height insn
  is_used pc height insn is = by_height (slice_index_or typed pc None) refl (insn_at program m pc) refl is
    where
      by_call : (h next : ℕ) (own : Insn) → HeightIs typed pc h → insn_at program m pc ≡ Some (own, next) → (b : Bool) → is_call (opcode_of own) ≡ b
          → with_height (Some h) (cond b None (Some own)) ≡ Some (insn, height) → IsUsed pc height insn
      by_call h next own high found true e f = absurd (cc)
      by_call h next own high found false e f =
          let same = some_pair_parts own insn h height f in
          record {
            next = next;
            found = subst (λ i. insn_at program m pc ≡ Some (i, next)) same.0 found;
            other = subst (λ i. is_call (opcode_of i) ≡ false) same.0 e;
            high = subst (λ k. HeightIs typed pc k) same.1 high;
          }

      by_height : (o : Option ℕ) → slice_index_or typed pc None ≡ o → (i : Option (Insn × ℕ)) → insn_at program m pc ≡ i → with_height o (unless_call i) ≡ Some (insn, height) → IsUsed pc height insn
      by_height None high i found f = absurd (cc)
      by_height (Some h) high None found f = absurd (cc)
      by_height (Some h) high (Some (own, next)) found f = by_call h next own high found (is_call (opcode_of own)) refl f

  used_reads : (pc : ℕ) (v : Place) (o : Option (Insn × ℕ)) → used_at program m typed pc ≡ o → Contains (read_by o) v → Reads program m (HeightIs typed) (Instr pc) v
  used_reads pc v None is c = absurd (none_there v c)
  used_reads pc v (Some (insn, height)) is c = let u = is_used pc height insn is in by_insn pc u.next height insn v u.found u.other u.high c

  used_writes : (pc : ℕ) (v : Place) (o : Option (Insn × ℕ)) → used_at program m typed pc ≡ o → Contains (written_by o) v → Writes program m (HeightIs typed) (Instr pc) v
  used_writes pc v None is c = absurd (none_there v c)
  used_writes pc v (Some (insn, height)) is c = let u = is_used pc height insn is in by_insn pc u.next height insn v u.found u.other u.high c

  -- ---- what nodes read and write, by their kinds

  abbrev ReadsAs : NodeKind → Place → Type 0
  ReadsAs (Instr pc) v = Contains (read_by (used_at program m typed pc)) v
  ReadsAs (Catch k) v = v ≡ Pending
  ReadsAs _ v = ⊥

  reads_as : (n : NodeKind) (v : Place) → Reads program m (HeightIs typed) n v → ReadsAs n v
  reads_as _ v (by_insn pc next height insn _ found other high among) = subst (λ o. Contains (read_by o) v) (sym (used_is pc next height insn found other high)) among
  reads_as _ v (by_catch k _ is) = is

  abbrev WritesAs : NodeKind → Place → Type 0
  WritesAs Entry v = (count : ℕ) × (k : ℕ) × HasParameters program m count × (k < count) × (v ≡ Local k)
  WritesAs (Instr pc) v = Contains (written_by (used_at program m typed pc)) v
  WritesAs (RetVal pc) v = (height : ℕ) × (call : CallAt program m pc) × HeightIs typed pc height × (is_some call.desc.result ≡ true) × (v ≡ Stack (height - argument_count (opcode_of call.insn) call.desc))
  WritesAs (Throw pc) v = v ≡ Pending
  WritesAs (Catch k) v = v ≡ Stack 0
  WritesAs _ v = ⊥

  writes_as : (n : NodeKind) (v : Place) → Writes program m (HeightIs typed) n v → WritesAs n v
  writes_as _ v (by_entry count k _ has below is) = (count, k, has, below, is)
  writes_as _ v (by_insn pc next height insn _ found other high among) = subst (λ o. Contains (written_by o) v) (sym (used_is pc next height insn found other high)) among
  writes_as _ v (by_result pc height call result _ high gives is) = (height, call, high, ap is_some gives, is)
  writes_as _ v (by_throw pc _ is) = is
  writes_as _ v (by_catch k _ is) = is

  pub insn_reads_are : (pc : ℕ) (places : List Place) → HasThose (Contains (read_by (used_at program m typed pc))) places → HasThose (ListsRead program m (HeightIs typed) (Instr pc)) places
  insn_reads_are pc places has = has_alike (Contains (read_by (used_at program m typed pc))) (Reads program m (HeightIs typed) (Instr pc)) places has
      (λ v. (used_reads pc v (used_at program m typed pc) refl, reads_as (Instr pc) v))

  pub insn_writes_are : (pc : ℕ) (places : List Place) → HasThose (Contains (written_by (used_at program m typed pc))) places → HasThose (Writes program m (HeightIs typed) (Instr pc)) places
  insn_writes_are pc places has = has_alike (Contains (written_by (used_at program m typed pc))) (Writes program m (HeightIs typed) (Instr pc)) places has
      (λ v. (used_writes pc v (used_at program m typed pc) refl, writes_as (Instr pc) v))

  pub catch_reads_are : (k : ℕ) (places : List Place) → HasThose (Contains (Pending ∷ [])) places → HasThose (ListsRead program m (HeightIs typed) (Catch k)) places
  catch_reads_are k places has = has_alike (Contains (Pending ∷ [])) (Reads program m (HeightIs typed) (Catch k)) places has
      (λ v. (λ c. by_catch k v ((only_item Pending v).0 c), λ r. (only_item Pending v).1 (reads_as (Catch k) v r)))

  pub catch_writes_are : (k : ℕ) (places : List Place) → HasThose (Contains (Stack 0 ∷ [])) places → HasThose (Writes program m (HeightIs typed) (Catch k)) places
  catch_writes_are k places has = has_alike (Contains (Stack 0 ∷ [])) (Writes program m (HeightIs typed) (Catch k)) places has
      (λ v. (λ c. by_catch k v ((only_item (Stack 0) v).0 c), λ w. (only_item (Stack 0) v).1 (writes_as (Catch k) v w)))

  pub throw_writes_are : (pc : ℕ) (places : List Place) → HasThose (Contains (Pending ∷ [])) places → HasThose (Writes program m (HeightIs typed) (Throw pc)) places
  throw_writes_are pc places has = has_alike (Contains (Pending ∷ [])) (Writes program m (HeightIs typed) (Throw pc)) places has
      (λ v. (λ c. by_throw pc v ((only_item Pending v).0 c), λ w. (only_item Pending v).1 (writes_as (Throw pc) v w)))

  -- ---- calls

  same_heights : (pc h k : ℕ) → HeightIs typed pc h → HeightIs typed pc k → h ≡ k
  same_heights pc h k first second = same_Some h k (sym first ∙ second)

  same_calls : (pc : ℕ) (one other : CallAt program m pc) → (opcode_of one.insn ≡ opcode_of other.insn) × (one.desc ≡ other.desc)
  same_calls pc one other =
      let same = some_pair_parts one.insn other.insn one.next other.next (sym one.stands ∙ other.stands) in
      let names : operand_of program m (Some (other.insn, other.next)) ≡ Some (Member one.ref) =
      subst (λ k. operand_of program m (Some (other.insn, k)) ≡ Some (Member one.ref)) same.1 (subst (λ i. operand_of program m (Some (i, one.next)) ≡ Some (Member one.ref)) same.0 one.names) in
      let ref : one.ref ≡ other.ref = ap (member_in one.ref) (sym names ∙ other.names) in
      (ap opcode_of same.0, method_once other.ref.desc one.desc other.desc (subst (λ r. SpellsMethod one.desc r.desc) ref one.spells) other.spells)

  called_is : (pc : ℕ) (call : CallAt program m pc) → called_at program m pc ≡ Some (opcode_of call.insn, call.ref)
  called_is pc call =
      ap (member_if_call program m) call.stands ∙ ap (λ b. cond b (option_map {U = ℕ × MemberRef} (λ r. (opcode_of call.insn, r)) (ref_in (operand_of program m (Some (call.insn, call.next))))) None) call.is_call
      ∙ ap (λ o. option_map {U = ℕ × MemberRef} (λ r. (opcode_of call.insn, r)) (ref_in o)) call.names

  pub named_as : (op : ℕ) (ref : MemberRef) (next : ℕ) (insn : Insn) → op ≡ opcode_of insn → is_call (opcode_of insn) ≡ true → Some ref ≡ ref_in (operand_of program m (Some (insn, next)))
      → Some (op, ref) ≡ member_if_call program m (Some (insn, next))
  named_as op ref next insn op_is call is =
      ap (λ k. Some (k, ref)) op_is
      ∙ sym (ap (λ b. cond b (option_map {U = ℕ × MemberRef} (λ r. (opcode_of insn, r)) (ref_in (operand_of program m (Some (insn, next))))) None) call ∙ ap (option_map {U = ℕ × MemberRef} (λ r. (opcode_of insn, r))) (sym is))

  pub not_named : (next : ℕ) (insn : Insn) → is_call (opcode_of insn) ≡ true → None ≡ ref_in (operand_of program m (Some (insn, next))) → None ≡ member_if_call program m (Some (insn, next))
  not_named next insn call is =
      sym (ap (λ b. cond b (option_map {U = ℕ × MemberRef} (λ r. (opcode_of insn, r)) (ref_in (operand_of program m (Some (insn, next))))) None) call ∙ ap (option_map {U = ℕ × MemberRef} (λ r. (opcode_of insn, r))) (sym is))

  -- a call that was found
  record CallFound (pc op : ℕ) (ref : MemberRef) : Type 0 where
    insn : Insn
    next : ℕ
    stands : insn_at program m pc ≡ Some (insn, next)
    calls : is_call (opcode_of insn) ≡ true
    names : operand_of program m (Some (insn, next)) ≡ Some (Member ref)
    op_is : opcode_of insn ≡ op

  call_found : (pc op : ℕ) (ref : MemberRef) → called_at program m pc ≡ Some (op, ref) → CallFound pc op ref
  call_found pc op ref is = by_insn (insn_at program m pc) refl is
    where
      by_operand : (insn : Insn) (next : ℕ) → insn_at program m pc ≡ Some (insn, next) → is_call (opcode_of insn) ≡ true → (o : Option Operand) → operand_of program m (Some (insn, next)) ≡ o
          → option_map {U = ℕ × MemberRef} (λ r. (opcode_of insn, r)) (ref_in o) ≡ Some (op, ref) → CallFound pc op ref
      by_operand insn next e call None f g = absurd (cc)
      by_operand insn next e call (Some Unused) f g = absurd (cc)
      by_operand insn next e call (Some (Int z)) f g = absurd (cc)
      by_operand insn next e call (Some (Text name)) f g = absurd (cc)
      by_operand insn next e call (Some (OfType type)) f g = absurd (cc)
      by_operand insn next e call (Some (Member own)) f g =
          let same = some_pair_parts (opcode_of insn) op own ref g in
          record { insn = insn; next = next; stands = e; calls = call; names = f ∙ ap (λ r. Some (Member r)) same.1; op_is = same.0 }

      by_call : (insn : Insn) (next : ℕ) → insn_at program m pc ≡ Some (insn, next) → (b : Bool) → is_call (opcode_of insn) ≡ b
          → cond b (option_map {U = ℕ × MemberRef} (λ r. (opcode_of insn, r)) (ref_in (operand_of program m (Some (insn, next))))) None ≡ Some (op, ref) → CallFound pc op ref
      by_call insn next e true call f = by_operand insn next e call (operand_of program m (Some (insn, next))) refl f
      by_call insn next e false call f = absurd (cc)

      by_insn : (o : Option (Insn × ℕ)) → insn_at program m pc ≡ o → member_if_call program m o ≡ Some (op, ref) → CallFound pc op ref
      by_insn None e f = absurd (cc)
      by_insn (Some (insn, next)) e f = by_call insn next e (is_call (opcode_of insn)) refl f

  pub has_call_use : (pc height op : ℕ) (ref : MemberRef) (desc : MethodDesc) (used : CallUse) → HeightIs typed pc height → called_at program m pc ≡ Some (op, ref) → SpellsMethod desc ref.desc
      → used ≡ record { base = height - argument_count op desc; arguments = argument_count op desc; result = is_some desc.result } → HasCallUse program m (HeightIs typed) pc used
  has_call_use pc height op ref desc used high called spells is =
      let f = call_found pc op ref called in
      let arguments : used.arguments ≡ argument_count op desc = ap (λ (u : CallUse). u.arguments) is in
      record {
        call = record { insn = f.insn; next = f.next; stands = f.stands; is_call = f.calls; ref = ref; names = f.names; desc = desc; spells = spells };
        height = height;
        has_height = high;
        arguments = arguments ∙ ap (λ k. argument_count k desc) (sym f.op_is);
        base = ap (λ (u : CallUse). u.base) is ∙ ap (λ n. height - n) (sym arguments);
        result = ap (λ (u : CallUse). u.result) is;
      }

  pub no_call_at : (pc : ℕ) → called_at program m pc ≡ None → CallAt program m pc → ⊥
  no_call_at pc none call = absurd (never (opcode_of call.insn, call.ref) (sym none ∙ called_is pc call))
    where
      never : (x : ℕ × MemberRef) → None ≡ Some x → ⊥
      never x e = absurd (cc)

  pub no_desc_at : (pc op : ℕ) (ref : MemberRef) → called_at program m pc ≡ Some (op, ref) → (IsMethodDesc ref.desc → ⊥) → CallAt program m pc → ⊥
  no_desc_at pc op ref called bad call =
      let same = some_pair_parts op (opcode_of call.insn) ref call.ref (sym called ∙ called_is pc call) in
      bad (call.desc, subst (λ (r : MemberRef). SpellsMethod call.desc r.desc) (sym same.1) call.spells)

  same_count : (pc : ℕ) (one other : CallAt program m pc) → argument_count (opcode_of one.insn) one.desc ≡ argument_count (opcode_of other.insn) other.desc
  same_count pc one other = let same = same_calls pc one other in ap (λ op. argument_count op one.desc) same.0 ∙ ap (argument_count (opcode_of other.insn)) same.1

  pub call_reads_are : (pc : ℕ) (found : Option CallUse) (places : List Place) → IsCallUse program m (HeightIs typed) pc found → HasThose (Contains (arguments_of found)) places
      → HasThose (ListsRead program m (HeightIs typed) (Call pc)) places
  call_reads_are pc None places none has v = (λ c. absurd (none_there v ((has v).0 c)), no_argument)
    where
      no_argument : (i : ℕ) × ArgumentPlace program m (HeightIs typed) pc i v → Contains places v
      no_argument (i, a) = absurd (never pc i v none a)
        where
          never : (p i : ℕ) (v : Place) → ((height : ℕ) → HeightIs typed p height → CallAt program m p → ⊥) → ArgumentPlace program m (HeightIs typed) p i v → ⊥
          never _ _ v none (of_argument p height i call _ high below is) = none height high call
  call_reads_are pc (Some used) places u has v = (λ c. there ((has v).0 c), λ a. (has v).1 (back a))
    where
      there : Contains (stack_places used.base used.arguments) v → (i : ℕ) × ArgumentPlace program m (HeightIs typed) pc i v
      there c =
          let at = in_numbers Stack used.base used.arguments v c in
          let place : v ≡ Stack (u.height - argument_count (opcode_of u.call.insn) u.call.desc + at.0) =
          at.2 ∙ ap (λ b. Stack (b + at.0)) (u.base ∙ ap (λ n. u.height - n) u.arguments) in
          (at.0, of_argument pc u.height at.0 u.call v u.has_height (subst (λ n. at.0 < n) u.arguments at.1) place)

      found_back : (p i : ℕ) (w : Place) → ArgumentPlace program m (HeightIs typed) p i w → (used : CallUse) → HasCallUse program m (HeightIs typed) p used → Contains (stack_places used.base used.arguments) w
      found_back _ _ w (of_argument p height i call _ high below is) used u =
          let count : argument_count (opcode_of call.insn) call.desc ≡ used.arguments = same_count p call u.call ∙ sym u.arguments in
          let h : height ≡ u.height = same_heights p height u.height high u.has_height in
          let base : height - argument_count (opcode_of call.insn) call.desc ≡ used.base = ap (λ n. height - n) count ∙ ap (λ k. k - used.arguments) h ∙ sym u.base in
          subst (λ x. Contains (stack_places used.base used.arguments) x) (sym (is ∙ ap (λ b. Stack (b + i)) base)) (to_numbers Stack used.base used.arguments i (subst (λ n. i < n) count below))

      back : (i : ℕ) × ArgumentPlace program m (HeightIs typed) pc i v → Contains (stack_places used.base used.arguments) v
      back (i, a) = found_back pc i v a used u

  pub result_writes_are : (pc : ℕ) (found : Option CallUse) (places : List Place) → IsCallUse program m (HeightIs typed) pc found → HasThose (Contains (result_of found)) places
      → HasThose (Writes program m (HeightIs typed) (RetVal pc)) places
  result_writes_are pc None places none has v = (λ c. absurd (none_there v ((has v).0 c)), λ w. no_result (writes_as (RetVal pc) v w))
    where
      no_result : WritesAs (RetVal pc) v → Contains places v
      no_result (height, call, high, gives, is) = absurd (none height high call)
  result_writes_are pc (Some used) places u has v = (λ c. there used.result refl ((has v).0 c), λ w. (has v).1 (back (writes_as (RetVal pc) v w)))
    where
      given : (o : Option FieldDesc) → is_some o ≡ true → (d : FieldDesc) × (o ≡ Some d)
      given None e = absurd (cc)
      given (Some d) e = (d, refl)

      there : (b : Bool) → used.result ≡ b → Contains (stack_places used.base (cond b 1 0)) v → Writes program m (HeightIs typed) (RetVal pc) v
      there false e c = absurd (none_there v c)
      there true e c =
          let at = in_numbers Stack used.base 1 v c in
          let first : used.base + at.0 ≡ used.base = (let b = at.1 in omega arith) in
          let place : v ≡ Stack (u.height - argument_count (opcode_of u.call.insn) u.call.desc) = at.2 ∙ ap Stack (first ∙ u.base ∙ ap (λ n. u.height - n) u.arguments) in
          let d = given u.call.desc.result (sym u.result ∙ e) in
          by_result pc u.height u.call d.0 v u.has_height d.1 place

      back : WritesAs (RetVal pc) v → Contains (stack_places used.base (cond used.result 1 0)) v
      back (height, call, high, gives, is) =
          let same = same_calls pc call u.call in
          let count : argument_count (opcode_of call.insn) call.desc ≡ used.arguments = same_count pc call u.call ∙ sym u.arguments in
          let h : height ≡ u.height = same_heights pc height u.height high u.has_height in
          let base : height - argument_count (opcode_of call.insn) call.desc ≡ used.base + 0 = ap (λ n. height - n) count ∙ ap (λ k. k - used.arguments) h ∙ sym u.base ∙ omega arith in
          let yes : used.result ≡ true = u.result ∙ ap (λ (d : MethodDesc). is_some d.result) (sym same.1) ∙ gives in
          subst (λ b. Contains (stack_places used.base (cond b 1 0)) v) (sym yes) (subst (λ x. Contains (stack_places used.base 1) x) (sym (is ∙ ap Stack base)) (to_numbers Stack used.base 1 0 (omega arith)))

  -- ---- parameters

  same_parameters : (one other : ℕ) → HasParameters program m one → HasParameters program m other → one ≡ other
  same_parameters one other a b =
      let method : a.method ≡ b.method = same_Some a.method b.method (sym a.is ∙ b.is) in
      let desc : a.desc ≡ b.desc = method_once b.method.desc a.desc b.desc (subst (λ (x : Method). SpellsMethod a.desc x.desc) method a.spells) b.spells in
      a.counts ∙ ap (λ (d : MethodDesc). length d.params + cond (has_flag static_flag a.method.flags) 0 1) desc ∙ ap (λ (x : Method). length b.desc.params + cond (has_flag static_flag x.flags) 0 1) method ∙ sym b.counts

  pub entry_writes_are : (count : Option ℕ) (places : List Place) → AreParameters program m count → HasThose (Contains (locals_of count)) places → HasThose (Writes program m (HeightIs typed) Entry) places
  entry_writes_are None places none has v = (λ c. absurd (none_there v ((has v).0 c)), λ w. no_parameter (writes_as Entry v w))
    where
      no_parameter : WritesAs Entry v → Contains places v
      no_parameter (count, k, with, below, is) = absurd (none count with)
  entry_writes_are (Some count) places are has v = (λ c. there ((has v).0 c), λ w. (has v).1 (back (writes_as Entry v w)))
    where
      there : Contains (map Local (range_with_len 0 count)) v → Writes program m (HeightIs typed) Entry v
      there c =
          let at = in_numbers Local 0 count v c in
          by_entry count at.0 v are at.1 (at.2 ∙ ap Local (omega arith))

      back : WritesAs Entry v → Contains (map Local (range_with_len 0 count)) v
      back (other, k, with, below, is) =
          let same : other ≡ count = same_parameters other count with are in
          subst (λ x. Contains (map Local (range_with_len 0 count)) x) (sym (is ∙ ap Local (omega arith))) (to_numbers Local 0 count k (subst (λ n. k < n) same below))

  -- ---- other nodes

  abbrev pub ReadsNone : NodeKind → Type 0
  ReadsNone (Instr pc) = ⊥
  ReadsNone (Call pc) = ⊥
  ReadsNone (Catch k) = ⊥
  ReadsNone _ = Unit {0}

  pub no_reads_are : (n : NodeKind) → ReadsNone n → HasThose (ListsRead program m (HeightIs typed) n) []
  no_reads_are n none = has_none (ListsRead program m (HeightIs typed) n) (by_kind n none)
    where
      by_kind : (n : NodeKind) → ReadsNone n → (v : Place) → ListsRead program m (HeightIs typed) n v → ⊥
      by_kind Entry none v r = reads_as Entry v r
      by_kind Exit none v r = reads_as Exit v r
      by_kind (Instr pc) none v r = none
      by_kind (Call pc) none v r = none
      by_kind (RetVal pc) none v r = reads_as (RetVal pc) v r
      by_kind (RetKind pc) none v r = reads_as (RetKind pc) v r
      by_kind (Throw pc) none v r = reads_as (Throw pc) v r
      by_kind (Catch k) none v r = none
      by_kind (Poll pc target) none v r = reads_as (Poll pc target) v r
      by_kind (XPoll pc k) none v r = reads_as (XPoll pc k) v r
      by_kind (Arg pc i) none v r = reads_as (Arg pc i) v r
      by_kind (Param i) none v r = reads_as (Param i) v r
      by_kind Kind none v r = reads_as Kind v r
      by_kind Value none v r = reads_as Value v r
      by_kind Thrown none v r = reads_as Thrown v r

  abbrev pub WritesNone : NodeKind → Type 0
  WritesNone Entry = ⊥
  WritesNone (Instr pc) = ⊥
  WritesNone (RetVal pc) = ⊥
  WritesNone (Throw pc) = ⊥
  WritesNone (Catch k) = ⊥
  WritesNone _ = Unit {0}

  pub no_writes_are : (n : NodeKind) → WritesNone n → HasThose (Writes program m (HeightIs typed) n) []
  no_writes_are n none = has_none (Writes program m (HeightIs typed) n) (by_kind n none)
    where
      by_kind : (n : NodeKind) → WritesNone n → (v : Place) → Writes program m (HeightIs typed) n v → ⊥
      by_kind Entry none v w = none
      by_kind Exit none v w = writes_as Exit v w
      by_kind (Instr pc) none v w = none
      by_kind (Call pc) none v w = writes_as (Call pc) v w
      by_kind (RetVal pc) none v w = none
      by_kind (RetKind pc) none v w = writes_as (RetKind pc) v w
      by_kind (Throw pc) none v w = none
      by_kind (Catch k) none v w = none
      by_kind (Poll pc target) none v w = writes_as (Poll pc target) v w
      by_kind (XPoll pc k) none v w = writes_as (XPoll pc k) v w
      by_kind (Arg pc i) none v w = writes_as (Arg pc i) v w
      by_kind (Param i) none v w = writes_as (Param i) v w
      by_kind Kind none v w = writes_as Kind v w
      by_kind Value none v w = writes_as Value v w
      by_kind Thrown none v w = writes_as Thrown v w
