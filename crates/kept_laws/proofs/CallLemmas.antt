-- A frame that stands at a call: the method that is named, and what typing says of the call.
use Rattle.std.proofs.Common.{◌≡◌, ◌∙◌, ℕ, suc, ◌+◌, Bool, true, false, [], ◌∷◌, ◌++◌, map, length, Option, Some, refl, sym, ap, subst, arith, length-append}
use Rattle.std.specs.Prelude.{◌==◌, if◌then◌else◌}
use Rattle.std.proofs.lemmas.List.{length-reverse, length-map}
use Rattle.jo_text.specs.declared.descriptors.MethodDesc.{MethodDesc}
use Rattle.jo_insn.specs.declared.instructions.Insn.{Insn}
use Rattle.jo_prog.specs.declared.program.Program.{Program}
use Rattle.jo_prog.specs.declared.program.TypeRef.{TypeRef}
use Rattle.jo_prog.specs.declared.program.MemberRef.{MemberRef}
use Rattle.jo_prog.specs.declared.program.Operand.TheVariants.{Member}
use Rattle.jo_prog.specs.Program.{method_at}
use Rattle.jo_prog.specs.Calls.{receiver_class}
use Rattle.jo_prog.specs.Hierarchy.{HasNoCycle}
use Rattle.jo_prog.specs.MethodTypes.{field_desc_in, method_desc_in}
use Rattle.jo_prog.specs.Operations.{within}
use Rattle.jo_prog.specs.Typing.{Shape}
use Rattle.jo_prog.specs.Shapes.{Effect, OfEach, kind_of_type, need_of}
use Rattle.jo_prog.specs.InsnTyping.{stack_effect, wrong_effect, effect_of, pooled_effect, call_effect, field_by, special_types, receiver_needs, argument_needs, result_origins}
use Rattle.jo_prog.specs.TypingPaths.{effect_at, IsTypedMethod}
use Rattle.jo_prog.specs.Machine.{Frame}
use Rattle.machine.specs.Instructions as code
use Rattle.machine.specs.Instructions.{instruction_at, method_desc, result_of, values_taken}
use Rattle.step_laws.specs.TypedStates.{HasShape}
use Rattle.step_laws.proofs.TypeLemmas.{never}
use Rattle.kept_laws.proofs.StandLemmas.{IsCallOf, insn_says, StandsOn, not_wrong, stands_on}
use Rattle.kept_laws.proofs.MemberLemmas.{own_declared, resolved}

module _ (program : Program) where
  -- what is popped is counted alike
  pub count_popped : (op current : ℕ) (ref : MemberRef) (type : MethodDesc) → length (argument_needs program type.params ++ receiver_needs program op current ref) ≡ values_taken op type
  count_popped op current ref type =
      length-append (argument_needs program type.params) (receiver_needs program op current ref)
      ∙ ap (λ (n : ℕ). n + length (receiver_needs program op current ref)) (length-reverse (map (λ desc. need_of (kind_of_type program desc)) type.params) ∙ length-map type.params (λ desc. need_of (kind_of_type program desc)))
      ∙ by_tests (op == 184) (op == 183)
    where
      by_tests : (a b : Bool) → length type.params + length (if a then [] else if b then OfEach (ref.owner ∷ special_types program current ref) ∷ [] else OfEach (ref.owner ∷ []) ∷ [])
          ≡ (if a then length type.params else suc (length type.params))
      by_tests true b = omega arith
      by_tests false true = omega arith
      by_tests false false = omega arith

  -- the type of the method that is named is that of the call
  named_type : HasNoCycle program → (ref : MemberRef) (named : ℕ) (type : MethodDesc) → code.method_named program ref ≡ Some named → method_desc_in ref.desc ≡ Some type
      → method_desc (method_at program named) ≡ Some type
  named_type none ref named type is has =
      let found = resolved program ref.name ref.desc none (receiver_class ref.owner) named is in
      let declared = own_declared program ref.name ref.desc found.above named found.own in
      ap method_desc declared.is_method ∙ ap method_desc_in declared.desc_is ∙ has

  -- ---- the effect of a call

  by_within : (call : Effect) (a b : Bool) → (if a then wrong_effect else if b then call else wrong_effect).wrong ≡ false
      → (b ≡ true) × ((if a then wrong_effect else if b then call else wrong_effect) ≡ call)
  by_within call true b h = never (sym h)
  by_within call false true h = (refl, refl)
  by_within call false false h = never (sym h)

  pooled_call : (current op : ℕ) (ref : MemberRef) (type : MethodDesc) → within 178 181 op ≡ false → method_desc_in ref.desc ≡ Some type
      → pooled_effect program current op (Some (Member ref)) ≡ (if within 18 19 op then wrong_effect else if within 182 185 op then call_effect program op current ref (Some type) else wrong_effect)
  pooled_call current op ref type other has =
      ap (λ (b : Bool). if within 18 19 op then wrong_effect else if b then field_by program op ref.owner (field_desc_in ref.desc) else if within 182 185 op then call_effect program op current ref (method_desc_in ref.desc) else wrong_effect) other
      ∙ ap (λ (o : Option MethodDesc). if within 18 19 op then wrong_effect else if within 182 185 op then call_effect program op current ref o else wrong_effect) has

  module _ (none : HasNoCycle program) (f : Frame) (shape : Shape) (shown : HasShape program f shape) (typed : IsTypedMethod program f.method)
      (op : ℕ) (owner : TypeRef) (named count next : ℕ) (at : instruction_at program f.method f.pc ≡ Some (code.calls op owner named count, next)) where
    pub on : StandsOn program f shown.typable (code.calls op owner named count) next
    on = stands_on program f shape shown typed (code.calls op owner named count) next at

    pub call : IsCallOf program f.method on.insn op owner named count
    call = insn_says program f.method shown.typable.code.bytes f.pc on.insn (code.calls op owner named count) on.is_insn

    -- the effect by the bytes
    effect_first : effect_at program shown.typable f.pc ≡ pooled_effect program shown.typable.method.class op (Some (Member call.ref))
    unfolding effect_of
    effect_first =
        on.effect_is ∙ ap (λ (insn : Insn). effect_of program f.method shown.typable.method insn) call.is_insn
        ∙ ap (pooled_effect program shown.typable.method.class op) call.names

    both : (within 182 185 op ≡ true) × (effect_at program shown.typable f.pc ≡ call_effect program op shown.typable.method.class call.ref (Some call.type))
    both =
        let E = call_effect program op shown.typable.method.class call.ref (Some call.type) in
        let is = effect_first ∙ pooled_call shown.typable.method.class op call.ref call.type call.no_field call.is_typed in
        let h = by_within E (within 18 19 op) (within 182 185 op) (subst (λ (e : Effect). e.wrong ≡ false) is (not_wrong program f shape shown typed)) in
        (h.0, is ∙ h.1)

    pub is_within : within 182 185 op ≡ true
    is_within = both.0

    pub effect_is : effect_at program shown.typable f.pc
        ≡ stack_effect (argument_needs program call.type.params ++ receiver_needs program op shown.typable.method.class call.ref) (result_origins program call.type.result)
    effect_is = both.1

    pub count_is : length (effect_at program shown.typable f.pc).pops ≡ count
    count_is = ap (λ (e : Effect). length e.pops) effect_is ∙ count_popped op shown.typable.method.class call.ref call.type ∙ call.count_is

    pub result_is : result_of (method_desc (method_at program named)) ≡ call.type.result
    result_is = ap result_of (named_type none call.ref named call.type call.is_named call.is_typed)
