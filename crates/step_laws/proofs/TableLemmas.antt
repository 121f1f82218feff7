-- Each instruction that is no call has the effect that typing gives it, where that isn't wrong.
use Rattle.std.proofs.Common.{◌≡◌, ◌∙◌, ℕ, suc, ◌+◌, Bool, true, false, ◌||◌, List, [], ◌∷◌, Option, Some, None, ℤ, pos, w32, FitsSigned, refl, sym, ap, subst, inl, inr, arith}
use Rattle.std.specs.Prelude.{◌==◌, if◌then◌else◌, ◌-ℤ◌, is_some, option_map, option_and_then}
use Rattle.std.specs.List.{list_any, AllByRecursion}
use Rattle.std.proofs.Math.Facts.{sfits_lit, sfits_widen}
use Rattle.std.proofs.lemmas.Bool.{true≢false, cases_eq, ne_eqb, and_parts, or_left, or_right, or_from, eqb-true, cond-true}
use Rattle.jo_text.specs.declared.descriptors.Base.{Base}
use Rattle.jo_text.specs.declared.descriptors.Base.TheVariants.{Byte, Char, Double, Float, Int as IntBase, Long, Short, Boolean, Class as OfName}
use Rattle.jo_text.specs.declared.descriptors.FieldDesc.{FieldDesc}
use Rattle.jo_text.specs.declared.descriptors.MethodDesc.{MethodDesc}
use Rattle.jo_insn.specs.declared.opcodes.Operands.{Operands}
use Rattle.jo_insn.specs.declared.opcodes.Operands.TheVariants.{NoOperand, SignedByte, SignedShort, LocalByte, LocalAndStep, WidePrefix, PoolByte, PoolShort, PoolShortAndTwo, ArrayKind, OffsetShort, OffsetInt, OffsetTable, KeyTable}
use Rattle.jo_insn.specs.Opcodes.{Opcode, opcodes, first_row, row_of, operands_of}
use Rattle.jo_prog.specs.declared.program.Program.{Program}
use Rattle.jo_insn.specs.Instructions.{CanPush, IsInsn}
use Rattle.jo_insn.specs.declared.instructions.Insn.{Insn}
use Rattle.jo_insn.specs.declared.instructions.Insn.TheVariants.{Plain, Local, Iinc, Push, Pooled, Array, Jump, TableSwitch, LookupSwitch}
use Rattle.jo_prog.specs.declared.program.TypeRef.{TypeRef}
use Rattle.jo_prog.specs.declared.program.TypeRef.TheVariants.{Class as OfClass, Array as OfArray}
use Rattle.jo_prog.specs.declared.program.Class.{Class}
use Rattle.jo_prog.specs.declared.program.Method.{Method}
use Rattle.jo_prog.specs.declared.program.MemberRef.{MemberRef}
use Rattle.jo_prog.specs.declared.program.Operand.{Operand}
use Rattle.jo_prog.specs.declared.program.Operand.TheVariants.{Unused, Int as IntOperand, Text, OfType, Member}
use Rattle.jo_prog.specs.Program.{method_at, class_at, operand_at}
use Rattle.jo_prog.specs.MethodTypes.{field_desc_in, method_desc_in}
use Rattle.jo_prog.specs.Operations.{within}
use Rattle.jo_prog.specs.Types.{letter_of, base_fits, array_of, array_fits}
use Rattle.jo_prog.specs.Typing.{Kind, Int, Null, Ref, Unset}
use Rattle.jo_prog.specs.Shapes.{Need, AnInt, AReference, OfEach, need_of, base_kind, kind_of_type, Always, takes_type}
use Rattle.jo_prog.specs.InsnTyping.{wrong_effect, loads_int, loads_reference, stores_int, stores_reference, local_effect, jump_effect, base_of_kind, makes, array_over, array_over_class, type_effect, field_by, call_effect, constant_of, named_effect, pooled_effect, effect_of, stack_effect, int_result, reference_result, result_kind_of, plain_effect}
use Rattle.machine.specs.Instructions as code
use Rattle.machine.specs.Instructions.{Instruction, plain_instruction, local_instruction, jump_instruction, pc_behind, kind_type, class_name, element_type, names_type, names_field, names_method, field_instruction, pooled_instruction, method_desc, instruction_of}
use Rattle.jo_prog.specs.Values.{array}
use Rattle.machine.specs.Invocation.{type_of}
use Rattle.step_laws.specs.TypedStates.{has_objects}
use Rattle.step_laws.specs.Effects.{HasEffect, AreIntLetters, int_stepped, one_tested, two_compared, references_compared, null_tested, jumped, static_got, static_put, field_got, field_put, created, array_created, cast, checked, nothing_done, null_pushed, int_pushed, int_loaded, reference_loaded, int_stored, reference_stored, element_loaded, reference_taken, element_stored, reference_put, one_dropped, two_dropped, one_doubled, one_doubled_under_one, one_doubled_under_two, two_doubled, two_doubled_under_one, two_doubled_under_two, two_swapped, two_computed, one_negated, one_narrowed, value_returned, nothing_returned, array_measured, thrown}
use Rattle.step_laws.specs.Tables.{asks_nothing, HasPlainEffect, IsInstructionWith, IsSoundType, IsSoundField, IsSoundOperand, IsSoundInsn, is_call}
use Rattle.step_laws.specs.Effects
use Rattle.step_laws.proofs.TypeLemmas.{never}

-- ---- the table of opcodes

among : (P : ℕ → Type 0) (kind : Operands) (rows : List Opcode) (op : ℕ) → option_map (λ (opcode : Opcode). opcode.operands) (first_row (λ opcode. opcode.code == op) rows) ≡ Some kind
    → AllByRecursion (λ (row : Opcode). row.operands ≡ kind → P row.code) rows → P op
among P kind [] op e all = absurd (cc)
among P kind (row ∷ rows) op e all = by_test (row.code == op) refl e (λ later. among P kind rows op later all.1)
  where
    same_some : {x y : Operands} → Some x ≡ Some y → x ≡ y
    same_some f = cc

    by_test : (b : Bool) → (row.code == op) ≡ b → option_map (λ (opcode : Opcode). opcode.operands) (if b then Some row else first_row (λ opcode. opcode.code == op) rows) ≡ Some kind
        → (option_map (λ (opcode : Opcode). opcode.operands) (first_row (λ opcode. opcode.code == op) rows) ≡ Some kind → P op) → P op
    by_test true is f later = subst P (eqb-true row.code op is) (all.0 (same_some f))
    by_test false is f later = later f

module _ (program : Program) where
  flat : (type : FieldDesc) → (type.dims == 0) ≡ true → kind_of_type program type ≡ base_kind program type.base
  flat type e = cond-true (type.dims == 0) (base_kind program type.base) (Ref (OfArray type)) e

  ints : AreIntLetters program (73 ∷ [])
  ints = record { plain = refl; ints = λ type has. let both = and_parts (type.dims == 0) (list_any (λ letter. letter == letter_of type.base) (73 ∷ [])) has in flat type both.0 ∙ of_ints type.base both.1 }
    where
      of_ints : (base : Base) → list_any (λ letter. letter == letter_of base) (73 ∷ []) ≡ true → base_kind program base ≡ Int
      of_ints Byte e = refl
      of_ints Char e = refl
      of_ints Double e = never e
      of_ints Float e = never e
      of_ints IntBase e = refl
      of_ints Long e = never e
      of_ints Short e = refl
      of_ints Boolean e = refl
      of_ints (OfName name) e = never e

  byte_letters : AreIntLetters program (66 ∷ 90 ∷ [])
  byte_letters = record { plain = refl; ints = λ type has. let both = and_parts (type.dims == 0) (list_any (λ letter. letter == letter_of type.base) (66 ∷ 90 ∷ [])) has in flat type both.0 ∙ of_bytes type.base both.1 }
    where
      of_bytes : (base : Base) → list_any (λ letter. letter == letter_of base) (66 ∷ 90 ∷ []) ≡ true → base_kind program base ≡ Int
      of_bytes Byte e = refl
      of_bytes Char e = refl
      of_bytes Double e = never e
      of_bytes Float e = never e
      of_bytes IntBase e = refl
      of_bytes Long e = never e
      of_bytes Short e = refl
      of_bytes Boolean e = refl
      of_bytes (OfName name) e = never e

  chars : AreIntLetters program (67 ∷ [])
  chars = record { plain = refl; ints = λ type has. let both = and_parts (type.dims == 0) (list_any (λ letter. letter == letter_of type.base) (67 ∷ [])) has in flat type both.0 ∙ of_chars type.base both.1 }
    where
      of_chars : (base : Base) → list_any (λ letter. letter == letter_of base) (67 ∷ []) ≡ true → base_kind program base ≡ Int
      of_chars Byte e = refl
      of_chars Char e = refl
      of_chars Double e = never e
      of_chars Float e = never e
      of_chars IntBase e = refl
      of_chars Long e = never e
      of_chars Short e = refl
      of_chars Boolean e = refl
      of_chars (OfName name) e = never e

  shorts : AreIntLetters program (83 ∷ [])
  shorts = record { plain = refl; ints = λ type has. let both = and_parts (type.dims == 0) (list_any (λ letter. letter == letter_of type.base) (83 ∷ [])) has in flat type both.0 ∙ of_shorts type.base both.1 }
    where
      of_shorts : (base : Base) → list_any (λ letter. letter == letter_of base) (83 ∷ []) ≡ true → base_kind program base ≡ Int
      of_shorts Byte e = refl
      of_shorts Char e = refl
      of_shorts Double e = never e
      of_shorts Float e = never e
      of_shorts IntBase e = refl
      of_shorts Long e = never e
      of_shorts Short e = refl
      of_shorts Boolean e = refl
      of_shorts (OfName name) e = never e

  -- ---- returns

  int_return : (type : Option MethodDesc) → asks_nothing (int_result (result_kind_of program type) ∷ []) ≡ false → HasPlainEffect program type 172
  int_return None e = absurd (true≢false e)
  int_return (Some desc) e = by_result desc.result e
    where
      by_kind : (t : FieldDesc) (kind : Kind) → kind_of_type program t ≡ kind → asks_nothing (int_result (Some kind) ∷ []) ≡ false → int_result (Some (kind_of_type program t)) ≡ need_of (kind_of_type program t)
      by_kind t Int is e = ap (λ (k : Kind). int_result (Some k)) is ∙ sym (ap need_of is)
      by_kind t Null is e = absurd (true≢false e)
      by_kind t (Ref type) is e = absurd (true≢false e)
      by_kind t Unset is e = absurd (true≢false e)

      by_result : (r : Option FieldDesc) → asks_nothing (int_result (option_map (kind_of_type program) r) ∷ []) ≡ false → HasPlainEffect program (Some (record { params = desc.params; result = r })) 172
      by_result None e = absurd (true≢false e)
      by_result (Some t) e = record {
        instruction = code.returns_value t;
        is = refl;
        has = subst (λ (need : Need). HasEffect program (code.returns_value t) (stack_effect (need ∷ []) [])) (sym (by_kind t (kind_of_type program t) refl e)) (value_returned t);
      }

  reference_return : (type : Option MethodDesc) → asks_nothing (reference_result (result_kind_of program type) ∷ []) ≡ false → HasPlainEffect program type 176
  reference_return None e = absurd (true≢false e)
  reference_return (Some desc) e = by_result desc.result e
    where
      by_kind : (t : FieldDesc) (kind : Kind) → kind_of_type program t ≡ kind → asks_nothing (reference_result (Some kind) ∷ []) ≡ false → reference_result (Some (kind_of_type program t)) ≡ need_of (kind_of_type program t)
      by_kind t Int is e = absurd (true≢false e)
      by_kind t Null is e = absurd (true≢false e)
      by_kind t (Ref type) is e = ap (λ (k : Kind). reference_result (Some k)) is ∙ sym (ap need_of is)
      by_kind t Unset is e = absurd (true≢false e)

      by_result : (r : Option FieldDesc) → asks_nothing (reference_result (option_map (kind_of_type program) r) ∷ []) ≡ false → HasPlainEffect program (Some (record { params = desc.params; result = r })) 176
      by_result None e = absurd (true≢false e)
      by_result (Some t) e = record {
        instruction = code.returns_value t;
        is = refl;
        has = subst (λ (need : Need). HasEffect program (code.returns_value t) (stack_effect (need ∷ []) [])) (sym (by_kind t (kind_of_type program t) refl e)) (value_returned t);
      }

  plain_return : (type : Option MethodDesc) → is_some (result_kind_of program type) ≡ false → HasPlainEffect program type 177
  plain_return None e = absurd (true≢false e)
  plain_return (Some desc) e = by_result desc.result e
    where
      by_result : (r : Option FieldDesc) → is_some (option_map (kind_of_type program) r) ≡ false → HasPlainEffect program (Some (record { params = desc.params; result = r })) 177
      by_result None e = record { instruction = code.returns_nothing; is = refl; has = nothing_returned }
      by_result (Some t) e = absurd (true≢false e)

  -- ---- all without operands

  pub plain_effects : (type : Option MethodDesc) (op : ℕ) → operands_of op ≡ Some NoOperand
      → (plain_effect (result_kind_of program type) op).wrong ≡ false → asks_nothing (plain_effect (result_kind_of program type) op).pops ≡ false → HasPlainEffect program type op
  unfolding opcodes row_of
  plain_effects type op is = among (λ (k : ℕ). (plain_effect (result_kind_of program type) k).wrong ≡ false → asks_nothing (plain_effect (result_kind_of program type) k).pops ≡ false → HasPlainEffect program type k)
      NoOperand opcodes op is (
        (λ e wrong none. record { instruction = code.passes; is = refl; has = nothing_done }),
        (
          (λ e wrong none. record { instruction = code.pushes_null; is = refl; has = null_pushed }),
          (
            (λ e wrong none. record { instruction = code.pushes_int (pos 2 -ℤ pos 3); is = refl; has = int_pushed (pos 2 -ℤ pos 3) (sfits_lit tt) }),
            (
              (λ e wrong none. record { instruction = code.pushes_int (pos 3 -ℤ pos 3); is = refl; has = int_pushed (pos 3 -ℤ pos 3) (sfits_lit tt) }),
              (
                (λ e wrong none. record { instruction = code.pushes_int (pos 4 -ℤ pos 3); is = refl; has = int_pushed (pos 4 -ℤ pos 3) (sfits_lit tt) }),
                (
                  (λ e wrong none. record { instruction = code.pushes_int (pos 5 -ℤ pos 3); is = refl; has = int_pushed (pos 5 -ℤ pos 3) (sfits_lit tt) }),
                  (
                    (λ e wrong none. record { instruction = code.pushes_int (pos 6 -ℤ pos 3); is = refl; has = int_pushed (pos 6 -ℤ pos 3) (sfits_lit tt) }),
                    (
                      (λ e wrong none. record { instruction = code.pushes_int (pos 7 -ℤ pos 3); is = refl; has = int_pushed (pos 7 -ℤ pos 3) (sfits_lit tt) }),
                      (
                        (λ e wrong none. record { instruction = code.pushes_int (pos 8 -ℤ pos 3); is = refl; has = int_pushed (pos 8 -ℤ pos 3) (sfits_lit tt) }),
                        (
                          (λ e wrong none. absurd (cc)),
                          (
                            (λ e wrong none. absurd (cc)),
                            (
                              (λ e wrong none. absurd (cc)),
                              (
                                (λ e wrong none. absurd (cc)),
                                (
                                  (λ e wrong none. absurd (cc)),
                                  (
                                    (λ e wrong none. absurd (cc)),
                                    (
                                      (λ e wrong none. record { instruction = code.loads 0; is = refl; has = int_loaded 0 }),
                                      (
                                        (λ e wrong none. record { instruction = code.loads 1; is = refl; has = int_loaded 1 }),
                                        (
                                          (λ e wrong none. record { instruction = code.loads 2; is = refl; has = int_loaded 2 }),
                                          (
                                            (λ e wrong none. record { instruction = code.loads 3; is = refl; has = int_loaded 3 }),
                                            (
                                              (λ e wrong none. record { instruction = code.loads 0; is = refl; has = reference_loaded 0 }),
                                              (
                                                (λ e wrong none. record { instruction = code.loads 1; is = refl; has = reference_loaded 1 }),
                                                (
                                                  (λ e wrong none. record { instruction = code.loads 2; is = refl; has = reference_loaded 2 }),
                                                  (
                                                    (λ e wrong none. record { instruction = code.loads 3; is = refl; has = reference_loaded 3 }),
                                                    (
                                                      (λ e wrong none. record { instruction = code.loads_element; is = refl; has = element_loaded _ ints }),
                                                      (
                                                        (λ e wrong none. record { instruction = code.loads_element; is = refl; has = reference_taken }),
                                                        (
                                                          (λ e wrong none. record { instruction = code.loads_element; is = refl; has = element_loaded _ byte_letters }),
                                                          (
                                                            (λ e wrong none. record { instruction = code.loads_element; is = refl; has = element_loaded _ chars }),
                                                            (
                                                              (λ e wrong none. record { instruction = code.loads_element; is = refl; has = element_loaded _ shorts }),
                                                              (
                                                                (λ e wrong none. absurd (cc)),
                                                                (
                                                                  (λ e wrong none. absurd (cc)),
                                                                  (
                                                                    (λ e wrong none. record { instruction = code.stores 0; is = refl; has = int_stored 0 }),
                                                                    (
                                                                      (λ e wrong none. record { instruction = code.stores 1; is = refl; has = int_stored 1 }),
                                                                      (
                                                                        (λ e wrong none. record { instruction = code.stores 2; is = refl; has = int_stored 2 }),
                                                                        (
                                                                          (λ e wrong none. record { instruction = code.stores 3; is = refl; has = int_stored 3 }),
                                                                          (
                                                                            (λ e wrong none. record { instruction = code.stores 0; is = refl; has = reference_stored 0 }),
                                                                            (
                                                                              (λ e wrong none. record { instruction = code.stores 1; is = refl; has = reference_stored 1 }),
                                                                              (
                                                                                (λ e wrong none. record { instruction = code.stores 2; is = refl; has = reference_stored 2 }),
                                                                                (
                                                                                  (λ e wrong none. record { instruction = code.stores 3; is = refl; has = reference_stored 3 }),
                                                                                  (
                                                                                    (λ e wrong none. record { instruction = code.stores_element; is = refl; has = element_stored _ ints }),
                                                                                    (
                                                                                      (λ e wrong none. record { instruction = code.stores_element; is = refl; has = reference_put }),
                                                                                      (
                                                                                        (λ e wrong none. record { instruction = code.stores_element; is = refl; has = element_stored _ byte_letters }),
                                                                                        (
                                                                                          (λ e wrong none. record { instruction = code.stores_element; is = refl; has = element_stored _ chars }),
                                                                                          (
                                                                                            (λ e wrong none. record { instruction = code.stores_element; is = refl; has = element_stored _ shorts }),
                                                                                            (
                                                                                              (λ e wrong none. record { instruction = code.shuffles 87; is = refl; has = one_dropped }),
                                                                                              (
                                                                                                (λ e wrong none. record { instruction = code.shuffles 88; is = refl; has = two_dropped }),
                                                                                                (
                                                                                                  (λ e wrong none. record { instruction = code.shuffles 89; is = refl; has = one_doubled }),
                                                                                                  (
                                                                                                    (λ e wrong none. record { instruction = code.shuffles 90; is = refl; has = one_doubled_under_one }),
                                                                                                    (
                                                                                                      (λ e wrong none. record { instruction = code.shuffles 91; is = refl; has = one_doubled_under_two }),
                                                                                                      (
                                                                                                        (λ e wrong none. record { instruction = code.shuffles 92; is = refl; has = two_doubled }),
                                                                                                        (
                                                                                                          (λ e wrong none. record { instruction = code.shuffles 93; is = refl; has = two_doubled_under_one }),
                                                                                                          (
                                                                                                            (λ e wrong none. record { instruction = code.shuffles 94; is = refl; has = two_doubled_under_two }),
                                                                                                            (
                                                                                                              (λ e wrong none. record { instruction = code.shuffles 95; is = refl; has = two_swapped }),
                                                                                                              (
                                                                                                                (λ e wrong none. record { instruction = code.computes 96; is = refl; has = two_computed 96 }),
                                                                                                                (
                                                                                                                  (λ e wrong none. record { instruction = code.computes 100; is = refl; has = two_computed 100 }),
                                                                                                                  (
                                                                                                                    (λ e wrong none. record { instruction = code.computes 104; is = refl; has = two_computed 104 }),
                                                                                                                    (
                                                                                                                      (λ e wrong none. record { instruction = code.computes 108; is = refl; has = two_computed 108 }),
                                                                                                                      (
                                                                                                                        (λ e wrong none. record { instruction = code.computes 112; is = refl; has = two_computed 112 }),
                                                                                                                        (
                                                                                                                          (λ e wrong none. record { instruction = code.negates; is = refl; has = one_negated }),
                                                                                                                          (
                                                                                                                            (λ e wrong none. record { instruction = code.computes 120; is = refl; has = two_computed 120 }),
                                                                                                                            (
                                                                                                                              (λ e wrong none. record { instruction = code.computes 122; is = refl; has = two_computed 122 }),
                                                                                                                              (
                                                                                                                                (λ e wrong none. record { instruction = code.computes 124; is = refl; has = two_computed 124 }),
                                                                                                                                (
                                                                                                                                  (λ e wrong none. record { instruction = code.computes 126; is = refl; has = two_computed 126 }),
                                                                                                                                  (
                                                                                                                                    (λ e wrong none. record { instruction = code.computes 128; is = refl; has = two_computed 128 }),
                                                                                                                                    (
                                                                                                                                      (λ e wrong none. record { instruction = code.computes 130; is = refl; has = two_computed 130 }),
                                                                                                                                      (
                                                                                                                                        (λ e wrong none. absurd (cc)),
                                                                                                                                        (
                                                                                                                                          (λ e wrong none. record { instruction = code.narrows 145; is = refl; has = one_narrowed 145 }),
                                                                                                                                          (
                                                                                                                                            (λ e wrong none. record { instruction = code.narrows 146; is = refl; has = one_narrowed 146 }),
                                                                                                                                            (
                                                                                                                                              (λ e wrong none. record { instruction = code.narrows 147; is = refl; has = one_narrowed 147 }),
                                                                                                                                              (
                                                                                                                                                (λ e wrong none. absurd (cc)),
                                                                                                                                                (
                                                                                                                                                  (λ e wrong none. absurd (cc)),
                                                                                                                                                  (
                                                                                                                                                    (λ e wrong none. absurd (cc)),
                                                                                                                                                    (
                                                                                                                                                      (λ e wrong none. absurd (cc)),
                                                                                                                                                      (
                                                                                                                                                        (λ e wrong none. absurd (cc)),
                                                                                                                                                        (
                                                                                                                                                          (λ e wrong none. absurd (cc)),
                                                                                                                                                          (
                                                                                                                                                            (λ e wrong none. absurd (cc)),
                                                                                                                                                            (
                                                                                                                                                              (λ e wrong none. absurd (cc)),
                                                                                                                                                              (
                                                                                                                                                                (λ e wrong none. absurd (cc)),
                                                                                                                                                                (
                                                                                                                                                                  (λ e wrong none. absurd (cc)),
                                                                                                                                                                  (
                                                                                                                                                                    (λ e wrong none. absurd (cc)),
                                                                                                                                                                    (
                                                                                                                                                                      (λ e wrong none. absurd (cc)),
                                                                                                                                                                      (
                                                                                                                                                                        (λ e wrong none. absurd (cc)),
                                                                                                                                                                        (
                                                                                                                                                                          (λ e wrong none. absurd (cc)),
                                                                                                                                                                          (
                                                                                                                                                                            (λ e wrong none. absurd (cc)),
                                                                                                                                                                            (
                                                                                                                                                                              (λ e wrong none. absurd (cc)),
                                                                                                                                                                              (
                                                                                                                                                                                (λ e wrong none. absurd (cc)),
                                                                                                                                                                                (
                                                                                                                                                                                  (λ e wrong none. int_return type none),
                                                                                                                                                                                  (
                                                                                                                                                                                    (λ e wrong none. reference_return type none),
                                                                                                                                                                                    (
                                                                                                                                                                                      (λ e wrong none. plain_return type wrong),
                                                                                                                                                                                      (
                                                                                                                                                                                        (λ e wrong none. absurd (cc)),
                                                                                                                                                                                        (
                                                                                                                                                                                          (λ e wrong none. absurd (cc)),
                                                                                                                                                                                          (
                                                                                                                                                                                            (λ e wrong none. absurd (cc)),
                                                                                                                                                                                            (
                                                                                                                                                                                              (λ e wrong none. absurd (cc)),
                                                                                                                                                                                              (
                                                                                                                                                                                                (λ e wrong none. absurd (cc)),
                                                                                                                                                                                                (
                                                                                                                                                                                                  (λ e wrong none. absurd (cc)),
                                                                                                                                                                                                  (
                                                                                                                                                                                                    (λ e wrong none. absurd (cc)),
                                                                                                                                                                                                    (
                                                                                                                                                                                                      (λ e wrong none. absurd (cc)),
                                                                                                                                                                                                      (
                                                                                                                                                                                                        (λ e wrong none. absurd (cc)),
                                                                                                                                                                                                        (
                                                                                                                                                                                                          (λ e wrong none. absurd (cc)),
                                                                                                                                                                                                          (
                                                                                                                                                                                                            (λ e wrong none. absurd (cc)),
                                                                                                                                                                                                            (
                                                                                                                                                                                                              (λ e wrong none. record { instruction = code.measures; is = refl; has = array_measured }),
                                                                                                                                                                                                              (
                                                                                                                                                                                                                (λ e wrong none. record { instruction = code.throws; is = refl; has = thrown }),
                                                                                                                                                                                                                (
                                                                                                                                                                                                                  (λ e wrong none. absurd (cc)),
                                                                                                                                                                                                                  (
                                                                                                                                                                                                                    (λ e wrong none. absurd (cc)),
                                                                                                                                                                                                                    (
                                                                                                                                                                                                                      (λ e wrong none. absurd (cc)),
                                                                                                                                                                                                                      (
                                                                                                                                                                                                                        (λ e wrong none. absurd (cc)),
                                                                                                                                                                                                                        (
                                                                                                                                                                                                                          (λ e wrong none. absurd (cc)),
                                                                                                                                                                                                                          (
                                                                                                                                                                                                                            (λ e wrong none. absurd (cc)),
                                                                                                                                                                                                                            tt,
                                                                                                                                                                                                                          ),
                                                                                                                                                                                                                        ),
                                                                                                                                                                                                                      ),
                                                                                                                                                                                                                    ),
                                                                                                                                                                                                                  ),
                                                                                                                                                                                                                ),
                                                                                                                                                                                                              ),
                                                                                                                                                                                                            ),
                                                                                                                                                                                                          ),
                                                                                                                                                                                                        ),
                                                                                                                                                                                                      ),
                                                                                                                                                                                                    ),
                                                                                                                                                                                                  ),
                                                                                                                                                                                                ),
                                                                                                                                                                                              ),
                                                                                                                                                                                            ),
                                                                                                                                                                                          ),
                                                                                                                                                                                        ),
                                                                                                                                                                                      ),
                                                                                                                                                                                    ),
                                                                                                                                                                                  ),
                                                                                                                                                                                ),
                                                                                                                                                                              ),
                                                                                                                                                                            ),
                                                                                                                                                                          ),
                                                                                                                                                                        ),
                                                                                                                                                                      ),
                                                                                                                                                                    ),
                                                                                                                                                                  ),
                                                                                                                                                                ),
                                                                                                                                                              ),
                                                                                                                                                            ),
                                                                                                                                                          ),
                                                                                                                                                        ),
                                                                                                                                                      ),
                                                                                                                                                    ),
                                                                                                                                                  ),
                                                                                                                                                ),
                                                                                                                                              ),
                                                                                                                                            ),
                                                                                                                                          ),
                                                                                                                                        ),
                                                                                                                                      ),
                                                                                                                                    ),
                                                                                                                                  ),
                                                                                                                                ),
                                                                                                                              ),
                                                                                                                            ),
                                                                                                                          ),
                                                                                                                        ),
                                                                                                                      ),
                                                                                                                    ),
                                                                                                                  ),
                                                                                                                ),
                                                                                                              ),
                                                                                                            ),
                                                                                                          ),
                                                                                                        ),
                                                                                                      ),
                                                                                                    ),
                                                                                                  ),
                                                                                                ),
                                                                                              ),
                                                                                            ),
                                                                                          ),
                                                                                        ),
                                                                                      ),
                                                                                    ),
                                                                                  ),
                                                                                ),
                                                                              ),
                                                                            ),
                                                                          ),
                                                                        ),
                                                                      ),
                                                                    ),
                                                                  ),
                                                                ),
                                                              ),
                                                            ),
                                                          ),
                                                        ),
                                                      ),
                                                    ),
                                                  ),
                                                ),
                                              ),
                                            ),
                                          ),
                                        ),
                                      ),
                                    ),
                                  ),
                                ),
                              ),
                            ),
                          ),
                        ),
                      ),
                    ),
                  ),
                ),
              ),
            ),
          ),
        ),
      )

  -- ---- those with operands

  local_effects : (op k : ℕ) → (local_effect op k).wrong ≡ false → IsInstructionWith program (local_instruction op k) (local_effect op k)
  local_effects op k = by_tests (op == 21) (op == 25) (op == 54) (op == 58)
    where
      by_tests : (a b c d : Bool) → (if a then loads_int k else if b then loads_reference k else if c then stores_int k else if d then stores_reference k else wrong_effect).wrong ≡ false
          → IsInstructionWith program (if a || b then Some (code.loads k) else Some (code.stores k)) (if a then loads_int k else if b then loads_reference k else if c then stores_int k else if d then stores_reference k else wrong_effect)
      by_tests true b c d e = record { instruction = code.loads k; is = refl; has = int_loaded k }
      by_tests false true c d e = record { instruction = code.loads k; is = refl; has = reference_loaded k }
      by_tests false false true d e = record { instruction = code.stores k; is = refl; has = int_stored k }
      by_tests false false false true e = record { instruction = code.stores k; is = refl; has = reference_stored k }
      by_tests false false false false e = absurd (true≢false e)

  jump_effects : (op target : ℕ) → (jump_effect op).wrong ≡ false → IsInstructionWith program (jump_instruction op target) (jump_effect op)
  jump_effects op target = by_tests (within 153 158 op) (within 159 164 op) (within 165 166 op) (within 198 199 op) (op == 167 || op == 200)
    where
      by_tests : (a b c d g : Bool) → (if a then stack_effect (AnInt ∷ []) [] else if b then stack_effect (AnInt ∷ AnInt ∷ []) [] else if c then stack_effect (AReference ∷ AReference ∷ []) []
          else if d then stack_effect (AReference ∷ []) [] else if g then stack_effect [] [] else wrong_effect).wrong ≡ false
          → IsInstructionWith program (if a then Some (code.tests op target) else if b then Some (code.compares op target) else if c then Some (code.compares_references op target)
          else if d then Some (code.tests_null op target) else Some (code.jumps_to target))
          (if a then stack_effect (AnInt ∷ []) [] else if b then stack_effect (AnInt ∷ AnInt ∷ []) [] else if c then stack_effect (AReference ∷ AReference ∷ []) []
          else if d then stack_effect (AReference ∷ []) [] else if g then stack_effect [] [] else wrong_effect)
      by_tests true b c d g e = record { instruction = code.tests op target; is = refl; has = one_tested op target }
      by_tests false true c d g e = record { instruction = code.compares op target; is = refl; has = two_compared op target }
      by_tests false false true d g e = record { instruction = code.compares_references op target; is = refl; has = references_compared op target }
      by_tests false false false true g e = record { instruction = code.tests_null op target; is = refl; has = null_tested op target }
      by_tests false false false false true e = record { instruction = code.jumps_to target; is = refl; has = jumped target }
      by_tests false false false false false e = absurd (true≢false e)

  push_fits : (o : Option Operands) (z : ℤ) → CanPush o z → FitsSigned w32 z
  push_fits None z h = absurd h
  push_fits (Some NoOperand) z h = absurd h
  push_fits (Some SignedByte) z h = sfits_widen tt h
  push_fits (Some SignedShort) z h = sfits_widen tt h
  push_fits (Some LocalByte) z h = absurd h
  push_fits (Some LocalAndStep) z h = absurd h
  push_fits (Some WidePrefix) z h = absurd h
  push_fits (Some PoolByte) z h = absurd h
  push_fits (Some PoolShort) z h = absurd h
  push_fits (Some PoolShortAndTwo) z h = absurd h
  push_fits (Some ArrayKind) z h = absurd h
  push_fits (Some OffsetShort) z h = absurd h
  push_fits (Some OffsetInt) z h = absurd h
  push_fits (Some OffsetTable) z h = absurd h
  push_fits (Some KeyTable) z h = absurd h

  kind_fits : (kind : ℕ) → array_fits program (array_of 1 (base_of_kind kind)) (array_of 1 (base_of_kind kind)) ≡ true
  kind_fits kind = by_tests (kind == 4) (kind == 5) (kind == 8) (kind == 9)
    where
      by_tests : (a b c d : Bool) → base_fits program (if a then Boolean else if b then Char else if c then Byte else if d then Short else IntBase) (if a then Boolean else if b then Char else if c then Byte else if d then Short else IntBase) ≡ true
      by_tests true b c d = refl
      by_tests false true c d = refl
      by_tests false false true d = refl
      by_tests false false false true = refl
      by_tests false false false false = refl

  over_class : (o : Option Class) → (array_over_class o).wrong ≡ false
      → takes_type program (type_of (array (record { dims = 0; base = OfName (class_name o) }) 0)) (type_of (array (record { dims = 0; base = OfName (class_name o) }) 0)) ≡ true
      → HasEffect program (code.creates_array (record { dims = 0; base = OfName (class_name o) })) (array_over_class o)
  over_class None wrong self = absurd (true≢false wrong)
  over_class (Some class) wrong self = array_created (record { dims = 0; base = OfName class.name }) self

  array_effects : (type : TypeRef) → takes_type program (type_of (array (element_type program type) 0)) (type_of (array (element_type program type) 0)) ≡ true
      → (array_over program type).wrong ≡ false → HasEffect program (code.creates_array (element_type program type)) (array_over program type)
  array_effects (OfClass c) self wrong = over_class (class_at program c) wrong self
  array_effects (OfArray desc) self wrong =
      let more : desc.dims + 1 ≡ suc desc.dims = omega arith in
      subst (λ (n : ℕ). HasEffect program (code.creates_array desc) (makes (AnInt ∷ []) (OfArray (array_of n desc.base)))) more (array_created desc self)

  made_effect : (type : TypeRef) → (c : ℕ) × (class : Class) × (type ≡ OfClass c) × (class_at program c ≡ Some class) × (has_objects class ≡ true) → IsInstructionWith program (names_type program 187 type) (makes [] type)
  made_effect type there = subst (λ (t : TypeRef). IsInstructionWith program (names_type program 187 t) (makes [] t)) (sym there.2)
      (record { instruction = code.creates there.0; is = refl; has = created there.0 there.1 there.3 there.4 })

  type_effects : (op : ℕ) (type : TypeRef) → IsSoundType program op type → (type_effect program op type).wrong ≡ false → IsInstructionWith program (names_type program op type) (type_effect program op type)
  type_effects op type sound wrong = elim (cases_eq op 187) [
    | inl e ↦ subst (λ (k : ℕ). IsInstructionWith program (names_type program k type) (type_effect program k type)) (sym e) (made_effect type (sound.made e))
    | inr not_new ↦ elim (cases_eq op 189) [
      | inl e ↦ subst (λ (k : ℕ). IsInstructionWith program (names_type program k type) (type_effect program k type)) (sym e)
          (record { instruction = code.creates_array (element_type program type); is = refl; has = array_effects type (sound.elements e) (subst (λ (k : ℕ). (type_effect program k type).wrong ≡ false) e wrong) })
      | inr not_array ↦ elim (cases_eq op 192) [
        | inl e ↦ subst (λ (k : ℕ). IsInstructionWith program (names_type program k type) (type_effect program k type)) (sym e) (record { instruction = code.casts type; is = refl; has = cast type sound.dims })
        | inr not_cast ↦ elim (cases_eq op 193) [
          | inl e ↦ subst (λ (k : ℕ). IsInstructionWith program (names_type program k type) (type_effect program k type)) (sym e) (record { instruction = code.checks type; is = refl; has = checked type })
          | inr not_check ↦ absurd (true≢false (rw (ne_eqb op 187 not_new, ne_eqb op 189 not_array, ne_eqb op 192 not_cast, ne_eqb op 193 not_check) at wrong))
        ]
      ]
    ]
  ]

  field_effects : (op : ℕ) (ref : MemberRef) → IsSoundField program op ref → IsInstructionWith program (names_field program op ref) (field_by program op ref.owner (field_desc_in ref.desc))
  field_effects op ref sound =
      subst (λ (o : Option ℕ). IsInstructionWith program (option_and_then (λ field. option_map (λ type. field_instruction op field type) (field_desc_in ref.desc)) o) (field_by program op ref.owner (field_desc_in ref.desc))) (sym sound.is_named)
      (subst (λ (o : Option FieldDesc). IsInstructionWith program (option_map (λ type. field_instruction op sound.field type) o) (field_by program op ref.owner o)) (sym sound.is_typed)
      (by_tests (op == 178) (op == 179) (op == 180) refl refl))
    where
      by_tests : (a b c : Bool) → (op == 178) ≡ a → (op == 179) ≡ b
          → IsInstructionWith program (Some (if a then code.gets_static sound.field else if b then code.puts_static sound.field sound.type else if c then code.gets_field sound.field else code.puts_field sound.field sound.type))
          (if a then stack_effect [] (Always (kind_of_type program sound.type) ∷ []) else if b then stack_effect (need_of (kind_of_type program sound.type) ∷ []) []
          else if c then stack_effect (OfEach (ref.owner ∷ []) ∷ []) (Always (kind_of_type program sound.type) ∷ []) else stack_effect (need_of (kind_of_type program sound.type) ∷ OfEach (ref.owner ∷ []) ∷ []) [])
      by_tests true b c is other = record { instruction = code.gets_static sound.field; is = refl; has = static_got sound.field sound.type (sound.static (or_left (op == 178) (op == 179) is)) }
      by_tests false true c is other = record { instruction = code.puts_static sound.field sound.type; is = refl; has = static_put sound.field sound.type (sound.static (or_right (op == 178) (op == 179) other)) }
      by_tests false false true is other = record { instruction = code.gets_field sound.field; is = refl; has = field_got sound.field sound.type ref.owner (sound.own (or_from (op == 178) (op == 179) is other)) (sound.held (or_from (op == 178) (op == 179) is other)) }
      by_tests false false false is other = record { instruction = code.puts_field sound.field sound.type; is = refl; has = field_put sound.field sound.type ref.owner (sound.own (or_from (op == 178) (op == 179) is other)) (sound.held (or_from (op == 178) (op == 179) is other)) }

  pooled_effects : (current op : ℕ) (operand : Option Operand) → IsSoundOperand program op operand → within 182 185 op ≡ false → (pooled_effect program current op operand).wrong ≡ false
      → IsInstructionWith program (pooled_instruction program op operand) (pooled_effect program current op operand)
  pooled_effects current op operand sound no_call = by_test (within 18 19 op) operand sound
    where
      by_member : (a : Bool) (ref : MemberRef) → (a ≡ true → IsSoundField program op ref)
          → (if a then field_by program op ref.owner (field_desc_in ref.desc) else if within 182 185 op then call_effect program op current ref (method_desc_in ref.desc) else wrong_effect).wrong ≡ false
          → IsInstructionWith program (if a then names_field program op ref else names_method program op ref)
          (if a then field_by program op ref.owner (field_desc_in ref.desc) else if within 182 185 op then call_effect program op current ref (method_desc_in ref.desc) else wrong_effect)
      by_member true ref h wrong = field_effects op ref (h refl)
      by_member false ref h wrong = absurd (true≢false (rw no_call at wrong))

      by_test : (a : Bool) (operand : Option Operand) → IsSoundOperand program op operand → (if a then constant_of operand else named_effect program current op operand).wrong ≡ false
          → IsInstructionWith program (pooled_instruction program op operand) (if a then constant_of operand else named_effect program current op operand)
      by_test true (Some (IntOperand z)) h wrong = record { instruction = code.pushes_int z; is = refl; has = int_pushed z h }
      by_test true (Some (Text text)) h wrong = record { instruction = code.pushes_text text; is = refl; has = Effects.text_pushed text h.0 h.1 }
      by_test true (Some (OfType type)) h wrong = absurd (true≢false wrong)
      by_test true (Some (Member ref)) h wrong = absurd (true≢false wrong)
      by_test true (Some Unused) h wrong = absurd (true≢false wrong)
      by_test true None h wrong = absurd (true≢false wrong)
      by_test false (Some (IntOperand z)) h wrong = absurd (true≢false wrong)
      by_test false (Some (Text text)) h wrong = absurd (true≢false wrong)
      by_test false (Some (OfType type)) h wrong = type_effects op type h wrong
      by_test false (Some (Member ref)) h wrong = by_member (within 178 181 op) ref h wrong
      by_test false (Some Unused) h wrong = absurd (true≢false wrong)
      by_test false None h wrong = absurd (true≢false wrong)

  -- ---- all

  pub insn_effects : (m : ℕ) (method : Method) → method_at program m ≡ Some method → (bytes : List ℕ) (pc : ℕ) (insn : Insn) (table : List ℕ) → IsInsn pc insn table
      → IsSoundInsn program m insn → is_call insn ≡ false → (effect_of program m method insn).wrong ≡ false → asks_nothing (effect_of program m method insn).pops ≡ false
      → IsInstructionWith program (instruction_of program m bytes pc insn) (effect_of program m method insn)
  unfolding effect_of
  insn_effects m method found bytes pc (Plain op) table is sound no_call wrong none =
      let has = plain_effects (method_desc_in method.desc) op is.0 wrong none in
      record { instruction = has.instruction; is = ap (λ (o : Option Method). plain_instruction (method_desc o) op) found ∙ has.is; has = has.has }
  insn_effects m method found bytes pc (Local op k wide) table is sound no_call wrong none = local_effects op k wrong
  insn_effects m method found bytes pc (Iinc k by wide) table is sound no_call wrong none = record { instruction = code.increments k by; is = refl; has = int_stepped k by }
  insn_effects m method found bytes pc (Push op z) table is sound no_call wrong none = record { instruction = code.pushes_int z; is = refl; has = int_pushed z (push_fits (operands_of op) z is.0) }
  insn_effects m method found bytes pc (Pooled op index) table is sound no_call wrong none = pooled_effects method.class op (operand_at program m index) sound no_call wrong
  insn_effects m method found bytes pc (Array kind) table is sound no_call wrong none = record { instruction = code.creates_array (kind_type kind); is = refl; has = array_created (kind_type kind) (kind_fits kind) }
  insn_effects m method found bytes pc (Jump op by) table is sound no_call wrong none = jump_effects op (pc_behind pc by) wrong
  insn_effects m method found bytes pc (TableSwitch other low high place) table is sound no_call wrong none = record { instruction = _; is = refl; has = Effects.switched _ _ }
  insn_effects m method found bytes pc (LookupSwitch other pairs place) table is sound no_call wrong none = record { instruction = _; is = refl; has = Effects.switched _ _ }
