-- The instruction at which a frame stands, and what of its operands typing and the machine name alike.
use Rattle.std.proofs.Common.{◌≡◌, ◌∙◌, ℕ, ◌^◌, Bool, true, false, not, ◌||◌, pos, List, length, Option, Some, None, Ok, refl, sym, ap, subst}
use Rattle.std.specs.Prelude.{◌==◌, ◌-◌, ◌-ℤ◌, nat_lt, is_some, if◌then◌else◌, option_map, option_and_then}
use Rattle.std.specs.List.{list_any}
use Rattle.std.proofs.lemmas.Bool.{false_from_ne_true, or_parts, not-false, cond-true, eqb-true}
use Rattle.jo_text.specs.declared.descriptors.FieldDesc.{FieldDesc}
use Rattle.jo_text.specs.declared.descriptors.MethodDesc.{MethodDesc}
use Rattle.jo_insn.specs.Instructions.{decoded}
use Rattle.jo_insn.specs.declared.instructions.Insn.{Insn}
use Rattle.jo_insn.specs.declared.instructions.Insn.TheVariants.{Plain, Local, Iinc, Push, Pooled, Array, Jump, TableSwitch, LookupSwitch}
use Rattle.jo_prog.specs.declared.program.Program.{Program}
use Rattle.jo_prog.specs.declared.program.Code.{Code}
use Rattle.jo_prog.specs.declared.program.Method.{Method}
use Rattle.jo_prog.specs.declared.program.TypeRef.{TypeRef}
use Rattle.jo_prog.specs.declared.program.TypeRef.TheVariants.{Class as OfClass, Array as OfArray}
use Rattle.jo_prog.specs.declared.program.MemberRef.{MemberRef}
use Rattle.jo_prog.specs.declared.program.Operand.{Operand}
use Rattle.jo_prog.specs.declared.program.Operand.TheVariants.{Unused, Int as IntOperand, Text, OfType, Member}
use Rattle.jo_prog.specs.declared.typed.TypeCode.{TypeCode}
use Rattle.jo_prog.specs.declared.typed.TypeCode.TheVariants.{WrongKind, FallsOff}
use Rattle.jo_prog.specs.Program.{method_at, code_at, operand_at}
use Rattle.jo_prog.specs.MethodTypes.{field_desc_in, method_desc_in}
use Rattle.jo_prog.specs.Operations.{within}
use Rattle.jo_prog.specs.Typing.{Shape}
use Rattle.jo_prog.specs.Shapes.{all_pass}
use Rattle.jo_prog.specs.InsnTyping.{insn_at, as_placed, effect_of}
use Rattle.jo_prog.specs.TypingPaths.{arrives_at, effect_in, effect_at, falls_off, leads_outside, successors_at, handler_outside, local_passes, wrong_kind, MeetsAtEnd, IsTypedMethod, Typable}
use Rattle.jo_prog.specs.Machine.{Frame}
use Rattle.machine.specs.Instructions as code
use Rattle.machine.specs.Instructions.{Instruction, result_of, returned, is_element_load, is_element_store, plain_instruction, local_instruction, pc_behind, jump_instruction, element_type, field_named, method_named, field_instruction, values_taken, names_field, names_method, names_member, names_type, pooled_instruction, method_desc, instruction_of, with_next, instruction_in, instruction_at}
use Rattle.step_laws.specs.TypedStates.{HasShape}
use Rattle.kept_laws.specs.Going.{LeadsOn}
use Rattle.step_laws.proofs.StepLemmas.{insn_there}
use Rattle.step_laws.proofs.TypeLemmas.{same_some}
use Rattle.kept_laws.proofs.GoingLemmas.{by_if, leads_on}

-- ---- what an instruction says of the bytes it was read from

-- a call of a method that the pool names
pub record IsCallOf (program : Program) (m : ℕ) (insn : Insn) (op : ℕ) (owner : TypeRef) (named count : ℕ) : Type 0 where
  pub index : ℕ
  pub ref : MemberRef
  pub type : MethodDesc
  pub is_insn : insn ≡ Pooled op index
  pub names : operand_at program m index ≡ Some (Member ref)
  pub no_field : within 178 181 op ≡ false
  pub of_owner : ref.owner ≡ owner
  pub is_named : method_named program ref ≡ Some named
  pub is_typed : method_desc_in ref.desc ≡ Some type
  pub count_is : values_taken op type ≡ count

abbrev pub Says : Program → ℕ → Insn → Instruction → Type 0
Says program m insn (code.returns_value type) = result_of (method_desc (method_at program m)) ≡ Some type
Says program m insn code.returns_nothing = insn ≡ Plain 177
Says program m insn (code.calls op owner named count) = IsCallOf program m insn op owner named count
Says program m insn _ = Unit {0}

module _ (program : Program) (m : ℕ) where
  says : (insn : Insn) (x i : Instruction) → Says program m insn x → Some x ≡ Some i → Says program m insn i
  says insn x i h e = subst (Says program m insn) (same_some e) h

  returned_says : (insn : Insn) (o : Option FieldDesc) (i : Instruction) → result_of (method_desc (method_at program m)) ≡ o → returned o ≡ Some i → Says program m insn i
  returned_says insn None i is e = absurd (cc)
  returned_says insn (Some type) i is e = says insn (code.returns_value type) i is e

  plain_says : (op : ℕ) (i : Instruction) → plain_instruction (method_desc (method_at program m)) op ≡ Some i → Says program m (Plain op) i
  plain_says op i e =
      by_if (op == 0) e (says (Plain op) code.passes i tt) (λ e1.
      by_if (op == 1) e1 (says (Plain op) code.pushes_null i tt) (λ e2.
      by_if (within 2 8 op) e2 (says (Plain op) (code.pushes_int (pos op -ℤ pos 3)) i tt) (λ e3.
      by_if (within 26 29 op) e3 (says (Plain op) (code.loads (op - 26)) i tt) (λ e4.
      by_if (within 42 45 op) e4 (says (Plain op) (code.loads (op - 42)) i tt) (λ e5.
      by_if (is_element_load op) e5 (says (Plain op) code.loads_element i tt) (λ e6.
      by_if (within 59 62 op) e6 (says (Plain op) (code.stores (op - 59)) i tt) (λ e7.
      by_if (within 75 78 op) e7 (says (Plain op) (code.stores (op - 75)) i tt) (λ e8.
      by_if (is_element_store op) e8 (says (Plain op) code.stores_element i tt) (λ e9.
      by_if (within 87 95 op) e9 (says (Plain op) (code.shuffles op) i tt) (λ e10.
      by_if (op == 116) e10 (says (Plain op) code.negates i tt) (λ e11.
      by_if (within 96 130 op) e11 (says (Plain op) (code.computes op) i tt) (λ e12.
      by_if (within 145 147 op) e12 (says (Plain op) (code.narrows op) i tt) (λ e13.
      by_if (op == 172 || op == 176) e13 (returned_says (Plain op) (result_of (method_desc (method_at program m))) i refl) (λ e14.
      by_return (op == 177) refl e14))))))))))))))
    where
      by_return : (b : Bool) → (op == 177) ≡ b → (if b then Some code.returns_nothing else if op == 190 then Some code.measures else if op == 191 then Some code.throws else None) ≡ Some i → Says program m (Plain op) i
      by_return true is at = says (Plain op) code.returns_nothing i (ap (λ (n : ℕ). Plain n) (eqb-true op 177 is)) at
      by_return false is at =
          by_if (op == 190) at (says (Plain op) code.measures i tt) (λ e1.
          by_if (op == 191) e1 (says (Plain op) code.throws i tt) (λ e2. absurd (cc)))

  local_says : (insn : Insn) (op k : ℕ) (i : Instruction) → local_instruction op k ≡ Some i → Says program m insn i
  local_says insn op k i e = by_if (op == 21 || op == 25) e (says insn (code.loads k) i tt) (says insn (code.stores k) i tt)

  jump_says : (insn : Insn) (op target : ℕ) (i : Instruction) → jump_instruction op target ≡ Some i → Says program m insn i
  jump_says insn op target i e =
      by_if (within 153 158 op) e (says insn (code.tests op target) i tt) (λ e1.
      by_if (within 159 164 op) e1 (says insn (code.compares op target) i tt) (λ e2.
      by_if (within 165 166 op) e2 (says insn (code.compares_references op target) i tt) (λ e3.
      by_if (within 198 199 op) e3 (says insn (code.tests_null op target) i tt) (says insn (code.jumps_to target) i tt))))

  type_says : (insn : Insn) (op : ℕ) (type : TypeRef) (i : Instruction) → names_type program op type ≡ Some i → Says program m insn i
  type_says insn op (OfClass c) i e =
      by_if (op == 187) e (says insn (code.creates c) i tt) (λ e1.
      by_if (op == 189) e1 (says insn (code.creates_array (element_type program (OfClass c))) i tt) (λ e2.
      by_if (op == 192) e2 (says insn (code.casts (OfClass c)) i tt) (λ e3.
      by_if (op == 193) e3 (says insn (code.checks (OfClass c)) i tt) (λ e4. absurd (cc)))))
  type_says insn op (OfArray desc) i e =
      by_if (op == 187) e (λ e0. absurd (cc)) (λ e1.
      by_if (op == 189) e1 (says insn (code.creates_array (element_type program (OfArray desc))) i tt) (λ e2.
      by_if (op == 192) e2 (says insn (code.casts (OfArray desc)) i tt) (λ e3.
      by_if (op == 193) e3 (says insn (code.checks (OfArray desc)) i tt) (λ e4. absurd (cc)))))

  field_says : (insn : Insn) (op field : ℕ) (type : FieldDesc) → Says program m insn (field_instruction op field type)
  field_says insn op field type = by_tests (op == 178) (op == 179) (op == 180)
    where
      by_tests : (a b c : Bool) → Says program m insn (if a then code.gets_static field else if b then code.puts_static field type else if c then code.gets_field field else code.puts_field field type)
      by_tests true b c = tt
      by_tests false true c = tt
      by_tests false false true = tt
      by_tests false false false = tt

  named_field_says : (insn : Insn) (op : ℕ) (i : Instruction) (o : Option ℕ) (p : Option FieldDesc) → option_and_then (λ field. option_map (λ type. field_instruction op field type) p) o ≡ Some i → Says program m insn i
  named_field_says insn op i None p e = absurd (cc)
  named_field_says insn op i (Some field) None e = absurd (cc)
  named_field_says insn op i (Some field) (Some type) e = says insn (field_instruction op field type) i (field_says insn op field type) e

  module _ (op index : ℕ) (ref : MemberRef) (names : operand_at program m index ≡ Some (Member ref)) (i : Instruction) where
    method_says : within 178 181 op ≡ false → (o : Option ℕ) → method_named program ref ≡ o → (p : Option MethodDesc) → method_desc_in ref.desc ≡ p
        → option_and_then (λ method. option_map (λ (type : MethodDesc). code.calls op ref.owner method (values_taken op type)) p) o ≡ Some i → Says program m (Pooled op index) i
    method_says other None is p has e = absurd (cc)
    method_says other (Some named) is None has e = absurd (cc)
    method_says other (Some named) is (Some type) has e = says (Pooled op index) (code.calls op ref.owner named (values_taken op type)) i
        (record { index = index; ref = ref; type = type; is_insn = refl; names = names; no_field = other; of_owner = refl; is_named = is; is_typed = has; count_is = refl }) e

    member_says : (b : Bool) → within 178 181 op ≡ b → (if b then names_field program op ref else names_method program op ref) ≡ Some i → Says program m (Pooled op index) i
    member_says true is e = named_field_says (Pooled op index) op i (field_named program ref) (field_desc_in ref.desc) e
    member_says false is e = method_says is (method_named program ref) refl (method_desc_in ref.desc) refl e

  pooled_says : (op index : ℕ) (operand : Option Operand) → operand_at program m index ≡ operand → (i : Instruction) → pooled_instruction program op operand ≡ Some i → Says program m (Pooled op index) i
  pooled_says op index None is i e = absurd (cc)
  pooled_says op index (Some Unused) is i e = absurd (cc)
  pooled_says op index (Some (IntOperand z)) is i e = says (Pooled op index) (code.pushes_int z) i tt e
  pooled_says op index (Some (Text text)) is i e = says (Pooled op index) (code.pushes_text text) i tt e
  pooled_says op index (Some (OfType type)) is i e = type_says (Pooled op index) op type i e
  pooled_says op index (Some (Member ref)) is i e = member_says op index ref is i (within 178 181 op) refl e

  pub insn_says : (bytes : List ℕ) (pc : ℕ) (insn : Insn) (i : Instruction) → instruction_of program m bytes pc insn ≡ Some i → Says program m insn i
  insn_says bytes pc (Plain op) i e = plain_says op i e
  insn_says bytes pc (Local op k wide) i e = local_says (Local op k wide) op k i e
  insn_says bytes pc (Iinc k by wide) i e = says (Iinc k by wide) (code.increments k by) i tt e
  insn_says bytes pc (Push op value) i e = says (Push op value) (code.pushes_int value) i tt e
  insn_says bytes pc (Pooled op index) i e = pooled_says op index (operand_at program m index) refl i e
  insn_says bytes pc (Array kind) i e = says (Array kind) (code.creates_array (code.kind_type kind)) i tt e
  insn_says bytes pc (Jump op by) i e = jump_says (Jump op by) op (pc_behind pc by) i e
  insn_says bytes pc (TableSwitch other low high at) i e = says (TableSwitch other low high at) _ i tt e
  insn_says bytes pc (LookupSwitch other pairs at) i e = says (LookupSwitch other pairs at) _ i tt e

-- ---- the instruction at a frame

-- the instruction is read from the bytes at the frame's pc, and typing's paths go on behind it
pub record StandsOn (program : Program) (f : Frame) (t : Typable) (i : Instruction) (next : ℕ) : Type 0 where
  pub insn : Insn
  pub is_read : decoded t.code.bytes f.pc ≡ Ok (insn, next)
  pub is_insn : instruction_of program f.method t.code.bytes f.pc insn ≡ Some i
  pub effect_is : effect_at program t f.pc ≡ effect_of program f.method t.method insn
  pub leads : LeadsOn t.code f.pc next i
  pub at : instruction_at program f.method f.pc ≡ Some (i, next)

module _ (program : Program) (f : Frame) (shape : Shape) (shown : HasShape program f shape) (typed : IsTypedMethod program f.method) where
  no_fault : (fault : TypeCode) → MeetsAtEnd program shown.typable shown.path fault → ⊥
  no_fault fault meets = typed f.pc fault (record { typable = shown.typable; is_typable = shown.is_typable; path = shown.path; is_path = shown.is_path; arrives = shown.arrives; meets = meets })

  pub code_is : code_at program f.method ≡ Some shown.typable.code
  code_is = ap (λ (o : Option Method). option_and_then (λ (method : Method). method.code) o) shown.is_typable.1 ∙ shown.is_typable.2

  stays : (not (is_some (insn_at shown.typable.code f.pc)) || leads_outside shown.typable.code (successors_at shown.typable.code f.pc)) ≡ false
  stays =
      let of = shown.typable.code in
      let none : falls_off of f.pc ≡ false = subst (λ (pc : ℕ). falls_off of pc ≡ false) shown.arrives (false_from_ne_true _ (λ meets. no_fault FallsOff meets)) in
      (or_parts (not (is_some (insn_at of f.pc)) || leads_outside of (successors_at of f.pc)) (list_any (handler_outside of f.pc) of.rows) none).0

  pub not_wrong : (effect_at program shown.typable f.pc).wrong ≡ false
  not_wrong =
      let e = effect_at program shown.typable f.pc in
      let here : wrong_kind program shown.typable f.pc shape ≡ false =
      subst (λ (pc : ℕ). wrong_kind program shown.typable pc shape ≡ false) shown.arrives
      (subst (λ (s : Shape). wrong_kind program shown.typable (arrives_at shown.path) s ≡ false) shown.shape_is (false_from_ne_true _ (λ meets. no_fault WrongKind meets))) in
      let first = or_parts (e.wrong || not (all_pass program e.pops shape.stack) || not (local_passes program shape e.reads)) _ here in
      let second = or_parts (e.wrong || not (all_pass program e.pops shape.stack)) (not (local_passes program shape e.reads)) first.0 in
      (or_parts e.wrong (not (all_pass program e.pops shape.stack)) second.0).0

  -- the bytes at the pc
  pub record ReadsAt : Type 0 where
    pub insn : Insn
    pub next : ℕ
    pub is_read : decoded shown.typable.code.bytes f.pc ≡ Ok (insn, next)
    pub placed : insn_at shown.typable.code f.pc ≡ Some (record { pc = f.pc; insn = insn; next = next })
    pub effect_is : effect_at program shown.typable f.pc ≡ effect_of program f.method shown.typable.method insn
    pub at : instruction_at program f.method f.pc ≡ option_map (λ (i : Instruction). (i, next)) (instruction_of program f.method shown.typable.code.bytes f.pc insn)

  pub reads_at : ReadsAt
  reads_at =
      let of = shown.typable.code in
      let there = insn_there of f.pc (not-false (is_some (insn_at of f.pc)) (or_parts (not (is_some (insn_at of f.pc))) (leads_outside of (successors_at of f.pc)) stays).0) in
      let placed : insn_at of f.pc ≡ Some (record { pc = f.pc; insn = there.0; next = there.1 }) =
      cond-true (nat_lt (length of.bytes) (2 ^ 16)) (as_placed f.pc (decoded of.bytes f.pc)) None there.2 ∙ ap (as_placed f.pc) there.3 in
      let first : instruction_in program f.method (Some of) f.pc ≡ with_next program f.method of.bytes f.pc (Ok (there.0, there.1)) =
      cond-true (nat_lt (length of.bytes) (2 ^ 16)) (with_next program f.method of.bytes f.pc (decoded of.bytes f.pc)) None there.2
      ∙ ap (with_next program f.method of.bytes f.pc) there.3 in
      record {
        insn = there.0;
        next = there.1;
        is_read = there.3;
        placed = placed;
        effect_is = ap (effect_in program shown.typable) placed ∙ ap (λ (m : ℕ). effect_of program m shown.typable.method there.0) shown.is_typable.0;
        at = ap (λ (o : Option Code). instruction_in program f.method o f.pc) code_is ∙ first;
      }

  pub stands_by : (i : Instruction) → (r : ReadsAt) → instruction_of program f.method shown.typable.code.bytes f.pc r.insn ≡ Some i → StandsOn program f shown.typable i r.next
  stands_by i r is =
      let of = shown.typable.code in
      record {
        insn = r.insn;
        is_read = r.is_read;
        is_insn = is;
        effect_is = r.effect_is;
        leads = leads_on program f.method of (record { pc = f.pc; insn = r.insn; next = r.next }) r.placed
            (or_parts (not (is_some (insn_at of f.pc))) (leads_outside of (successors_at of f.pc)) stays).1 i is;
        at = r.at ∙ ap (option_map (λ (x : Instruction). (x, r.next))) is;
      }

  pub stands_on : (i : Instruction) (next : ℕ) → instruction_at program f.method f.pc ≡ Some (i, next) → StandsOn program f shown.typable i next
  stands_on i next at = by_instruction reads_at (instruction_of program f.method shown.typable.code.bytes f.pc reads_at.insn) refl (sym reads_at.at ∙ at)
    where
      by_instruction : (r : ReadsAt) (o : Option Instruction) → instruction_of program f.method shown.typable.code.bytes f.pc r.insn ≡ o → option_map {U = Instruction × ℕ} (λ (x : Instruction). (x, r.next)) o ≡ Some (i, next)
          → StandsOn program f shown.typable i next
      by_instruction r None is e = absurd (cc)
      by_instruction r (Some x) is e =
          let both = same_some e in
          subst (λ (n : ℕ). StandsOn program f shown.typable i n) (ap (λ (p : Instruction × ℕ). p.1) both)
          (stands_by i r (is ∙ ap (λ (p : Instruction × ℕ). Some p.0) both))
