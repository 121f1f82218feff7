-- In a program without a fault calls name methods that they can take.
use Rattle.std.proofs.Common.{◌≡◌, ◌∙◌, ℕ, ◌≤◌, ◌^◌, Bool, true, false, ◌&&◌, ◌||◌, not, List, [], length, Option, Some, None, refl, sym, subst, ap, inr, arith}
use Rattle.std.specs.Prelude.{◌==◌, nat_le, nat_lt, slice_get, if◌then◌else◌, option_and_then, option_map}
use Rattle.std.specs.List.{Contains, flat_map}
use Rattle.std.proofs.lemmas.Bool.{and_parts, and_from, or_parts, or_left, or_right, not-false, leb-true, ne_eqb, lt-ltb, cond-true, false_from_ne_true}
use Rattle.jo_insn.specs.declared.instructions.Insn.TheVariants as insns
use Rattle.jo_prog.specs.declared.program.Program.{Program}
use Rattle.jo_prog.specs.declared.program.Class.{Class}
use Rattle.jo_prog.specs.declared.program.Code.{Code}
use Rattle.jo_prog.specs.declared.program.Method.{Method}
use Rattle.jo_prog.specs.declared.program.MemberRef.{MemberRef}
use Rattle.jo_prog.specs.declared.program.Operand.{Operand}
use Rattle.jo_prog.specs.declared.program.Operand.TheVariants.{Member as OfMember}
use Rattle.jo_prog.specs.declared.program.TypeRef.{TypeRef}
use Rattle.jo_prog.specs.declared.program.TypeRef.TheVariants.{Class as OfClass, Array as OfArray}
use Rattle.jo_prog.specs.Program.{class_at, method_at, code_at, operand_at}
use Rattle.jo_prog.specs.Calls.{receiver_class, special, taken_from, takes}
use Rattle.jo_prog.specs.Hierarchy.{is_static_method, resolve_method, resolve_field, select}
use Rattle.jo_prog.specs.Operations.{within}
use Rattle.jo_prog.specs.Sites.{insns_in}
use Rattle.jo_prog.specs.Shapes.{is_interface, is_interface_class}
use Rattle.jo_prog.proofs.WalkLemmas.{here, to_flat_map}
use Rattle.hierarchy.specs.declared.resolutions.Member.{Member}
use Rattle.hierarchy.specs.declared.resolutions.Member.TheVariants.{Field as OfField, Method as OfMethod}
use Rattle.hierarchy.specs.Resolutions.{is_of_method, field_of, member_of, resolved_operand, resolved_at}
use Rattle.program_faults.specs.declared.uses.Use.{Use}
use Rattle.program_faults.specs.SuperFaults.{is_interface_in}
use Rattle.program_faults.specs.UsedOperands.{used_at, used_in, used_in_method, methods_of, uses_of, operand_in}
use Rattle.program_faults.specs.MemberFaults.{takes_field, takes_method, takes_member, needs_static, needs_class, is_as_needed, can_take, is_interface_type, names_interface, is_wrong_use, LacksMember}
use Rattle.program_faults.specs.BodyFaults.{taken_by, takes_one, is_nothing, calls_nothing, makes_abstract, IsNotImplemented}
use Rattle.machine.specs.Instructions.{method_named}
use Rattle.machine.specs.Steps.{class_of_method}
use Rattle.kept_laws.specs.Premises.{IsSoundCall, HasSoundCalls}
use Rattle.linked_laws.specs.Codes.{HasSoundInsns}
use Rattle.linked_laws.proofs.ReachLemmas.{reached_listed}

never : {X : Type 0} → false ≡ true → X
never e = absurd (cc)

-- ---- tests

no_field : (op : ℕ) → within 182 185 op ≡ true → takes_field op ≡ true → ⊥
no_field op high low =
    let below : op ≤ 181 = leb-true op 181 (and_parts (nat_le 178 op) (nat_le op 181) low).1 in
    let above : 182 ≤ op = leb-true 182 op (and_parts (nat_le 182 op) (nat_le op 185) high).0 in
    omega (arith, below, above)

static_alone : (op : ℕ) → within 182 185 op ≡ true → needs_static op ≡ (op == 184)
static_alone op high =
    let above : 182 ≤ op = leb-true 182 op (and_parts (nat_le 182 op) (nat_le op 185) high).0 in
    rw (ne_eqb op 178 (λ e. omega (arith, above, e)), ne_eqb op 179 (λ e. omega (arith, above, e))) refl

as_needed : (needed is : Bool) → is_as_needed needed is ≡ true → is ≡ needed
as_needed true is h = h
as_needed false true h = never h
as_needed false false h = refl

interface_same : (program : Program) (type : TypeRef) → is_interface program type ≡ is_interface_type program type
interface_same program (OfClass c) = by_class (class_at program c)
  where
    by_class : (o : Option Class) → is_interface_class o ≡ is_interface_in o
    by_class None = refl
    by_class (Some class) = refl
interface_same program (OfArray desc) = refl

-- where the receiver plays no part
any_receiver : (program : Program) (op current named a b : ℕ) → (op == 183 || op == 184) ≡ true → takes program op current named a ≡ takes program op current named b
any_receiver program op current named a b is = by_tests (op == 184) (op == 183) is
  where
    by_tests : (x y : Bool) → (y || x) ≡ true
        → (if x then taken_from program (Some named) else if y then taken_from program (special program current named) else taken_from program (select program a named))
        ≡ (if x then taken_from program (Some named) else if y then taken_from program (special program current named) else taken_from program (select program b named))
    by_tests true y h = refl
    by_tests false true h = refl
    by_tests false false h = never h

module _ (program : Program) (lacks : (c : ℕ) → LacksMember program c → ⊥) (bodiless : (c : ℕ) → IsNotImplemented program c → ⊥)
    (m : ℕ) (method : Method) (is_method : method_at program m ≡ Some method) (code : Code) (has_code : method.code ≡ Some code) (listed : Contains (methods_of program method.class) m)
    (insns_sound : HasSoundInsns program m code) where
  code_is : code_at program m ≡ Some code
  code_is = ap (λ (o : Option Method). option_and_then (λ (own : Method). own.code) o) is_method ∙ has_code

  used_there : (pc next op index : ℕ) → Contains (insns_in code.bytes) (record { pc = pc; insn = insns.Pooled op index; next = next }) → Contains (uses_of program method.class) (record { op = op; index = index })
  used_there pc next op index among =
      to_flat_map (used_in_method program) (methods_of program method.class) m _ listed
      (subst (λ (o : Option Code). Contains (used_in o) (record { op = op; index = index })) (sym code_is)
      (subst (λ (us : List Use). Contains us (record { op = op; index = index })) (sym (cond-true (nat_lt (length code.bytes) (2 ^ 16)) (flat_map used_at (insns_in code.bytes)) [] (lt-ltb (length code.bytes) (2 ^ 16) insns_sound.whole.short)))
      (to_flat_map used_at (insns_in code.bytes) (record { pc = pc; insn = insns.Pooled op index; next = next }) _ among (here _ []))))

  module _ (op index : ℕ) (to : MemberRef) (names : operand_at program m index ≡ Some (OfMember to)) (high : within 182 185 op ≡ true)
      (used : Contains (uses_of program method.class) (record { op = op; index = index })) where
    abbrev own_use : Use
    own_use = record { op = op; index = index }

    operand_is : operand_in program method.class index ≡ Some (OfMember to)
    operand_is = sym (ap (λ (o : Option Method). option_and_then (λ (class : Class). slice_get class.operands index) (option_and_then (λ (own : Method). class_at program own.class) o)) is_method) ∙ names

    resolved_is : resolved_at program method.class index ≡ member_of program to.owner to.name to.desc
    resolved_is = ap (λ (o : Option Operand). option_and_then (resolved_operand program) o) operand_is

    parts : (not (can_take program op (resolved_at program method.class index)) ≡ false) × ((needs_class op && names_interface program (operand_in program method.class index)) ≡ false)
    parts =
        let right : is_wrong_use program method.class own_use ≡ false = false_from_ne_true _ (λ wrong. lacks method.class (record { used = own_use; is_there = used; is_wrong = wrong })) in
        or_parts (not (can_take program op (resolved_at program method.class index))) (needs_class op && names_interface program (operand_in program method.class index))
        (sym (by_member (takes_member op) (or_right (takes_field op) (takes_method op) high)) ∙ right)
      where
        by_member : (b : Bool) → b ≡ true → (b && (not (can_take program op (resolved_at program method.class index)) || (needs_class op && names_interface program (operand_in program method.class index))))
            ≡ (not (can_take program op (resolved_at program method.class index)) || (needs_class op && names_interface program (operand_in program method.class index)))
        by_member true e = refl
        by_member false e = never e

    can : can_take program op (member_of program to.owner to.name to.desc) ≡ true
    can = subst (λ (o : Option Member). can_take program op o ≡ true) resolved_is (not-false (can_take program op (resolved_at program method.class index)) parts.0)

    -- the method that is named
    record Names : Type 0 where
      named : ℕ
      is_named : method_named program to ≡ Some named
      member_is : member_of program to.owner to.name to.desc ≡ Some (OfMethod named)

    by_member : (b : Bool) → is_of_method to.desc ≡ b
        → can_take program op (if b then option_map (λ own. OfMethod own) (resolve_method program (receiver_class to.owner) to.name to.desc) else field_of program to.owner to.name to.desc) ≡ true → Names
    by_member true is taken = by_method (resolve_method program (receiver_class to.owner) to.name to.desc) refl taken
      where
        by_method : (o : Option ℕ) → resolve_method program (receiver_class to.owner) to.name to.desc ≡ o → can_take program op (option_map (λ own. OfMethod own) o) ≡ true → Names
        by_method None found h = never h
        by_method (Some named) found h = record {
          named = named;
          is_named = found;
          member_is = ap (λ (b : Bool). if b then option_map (λ own. OfMethod own) (resolve_method program (receiver_class to.owner) to.name to.desc) else field_of program to.owner to.name to.desc) is
              ∙ ap (option_map (λ own. OfMethod own)) found;
        }
    by_member false is taken = absurd (by_owner to.owner taken)
      where
        by_field : (o : Option ℕ) → can_take program op (option_map (λ own. OfField own) o) ≡ true → ⊥
        by_field None h = never h
        by_field (Some f) h = no_field op high (and_parts (takes_field op) _ h).0

        by_owner : (owner : TypeRef) → can_take program op (field_of program owner to.name to.desc) ≡ true → ⊥
        by_owner (OfClass c) h = by_field (resolve_field program c to.name to.desc) h
        by_owner (OfArray desc) h = never h

    its_names : Names
    its_names = by_member (is_of_method to.desc) refl can

    call_sound : IsSoundCall program method.class op to
    call_sound =
        let it = its_names in
        record {
          named = it.named;
          is_named = it.is_named;
          static =
              let taken : can_take program op (Some (OfMethod it.named)) ≡ true = subst (λ (o : Option Member). can_take program op o ≡ true) it.member_is can in
              as_needed (needs_static op) (is_static_method (method_at program it.named)) (and_parts (takes_method op) _ taken).1 ∙ static_alone op high;
          of_class = λ by_class. interface_same program to.owner ∙ no_interface by_class;
          body = λ by_one receiver none. bodiless method.class (inr (record {
            used = own_use;
            is_there = used;
            is_bodiless = or_left (calls_nothing program method.class own_use) (makes_abstract program method.class own_use)
                (and_from (takes_one op) (is_nothing (taken_by program op method.class (resolved_at program method.class index))) by_one
                (ap (λ (o : Option Member). is_nothing (taken_by program op method.class o)) (resolved_is ∙ it.member_is)
                ∙ ap is_nothing (any_receiver program op method.class it.named method.class receiver by_one ∙ none)));
          }));
        }
      where
        no_interface : needs_class op ≡ true → is_interface_type program to.owner ≡ false
        no_interface by_class = by_needs (needs_class op) by_class
            (subst (λ (o : Option Operand). (needs_class op && names_interface program o) ≡ false) operand_is parts.1)
          where
            by_needs : (b : Bool) → b ≡ true → (b && is_interface_type program to.owner) ≡ false → is_interface_type program to.owner ≡ false
            by_needs true e h = h
            by_needs false e h = never e

  pub calls_sound : HasSoundCalls program m code
  calls_sound = record {
    calls = λ pc next op index to reached is high names.
        subst (λ (c : ℕ). IsSoundCall program c op to) (sym (ap class_of_method is_method))
        (call_sound op index to names high (used_there pc next op index (reached_listed program m method code is_method has_code insns_sound.whole pc next (insns.Pooled op index) reached is)));
  }
