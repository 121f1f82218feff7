-- The worked program is plain, and its labels fit.
use Rattle.std.proofs.Common.{◌≡◌, ℕ, zero, suc, true, List, [], ◌∷◌, Some, None, IsSome, slice_get, length, refl, sym, ap, ◌∙◌, arith, rules, pos, codes}
use Rattle.std.proofs.lemmas.Bool.{false≢true}
use Rattle.std.proofs.lemmas.Bool.Decides.{nat_tests}
use Rattle.std.proofs.lemmas.Option.{none-some, same_Some}
use Rattle.jo_insn.specs.Opcodes.{opcodes, row_of}
use Rattle.jo_insn.specs.Instructions.{decoded}
use Rattle.jo_prog.specs.Operations.{operation_of}
use Rattle.jo_insn.specs.AccessFlags.{has_flag, native_flag}
use Rattle.jo_prog.specs.declared.operations.Operation.TheVariants.{Constant, Load, Store, Add, InvokeStatic}
use Rattle.jo_prog.specs.declared.program.Method.{Method}
use Rattle.jo_prog.specs.FileClasses.{is_prelude_name, is_of_files}
use Rattle.jo_prog.specs.Labels.{label_of, flows}
use Rattle.jo_prog.specs.Program.{method_at}
use Rattle.jo_prog.specs.PlainCode.{IsWellLabelled, IsPlainProgram, IsPlainFrom, last, then}
use Rattle.jo_prog.specs.Typing.{Int, Unset, Shape, Arrives, at_start, by_step, IsTypedCode}
use Rattle.jo_prog.specs.Worked.{worked_code, worked_program, worked_labels}
use Rattle.jo_prog.proofs.TypingPaths.{typed_from_end}

abbrev shape_0 : Shape
shape_0 = record { locals = Unset ∷ Unset ∷ []; stack = [] }

abbrev shape_3 : Shape
shape_3 = record { locals = Unset ∷ Unset ∷ []; stack = Int ∷ [] }

abbrev shape_4 : Shape
shape_4 = record { locals = Int ∷ Unset ∷ []; stack = [] }

abbrev shape_7 : Shape
shape_7 = record { locals = Int ∷ Unset ∷ []; stack = Int ∷ [] }

abbrev shape_8 : Shape
shape_8 = record { locals = Int ∷ Int ∷ []; stack = [] }

abbrev shape_9 : Shape
shape_9 = record { locals = Int ∷ Int ∷ []; stack = Int ∷ [] }

abbrev shape_10 : Shape
shape_10 = record { locals = Int ∷ Int ∷ []; stack = Int ∷ Int ∷ [] }

abbrev shape_11 : Shape
shape_11 = record { locals = Int ∷ Int ∷ []; stack = Int ∷ [] }

abbrev shape_14 : Shape
shape_14 = record { locals = Int ∷ Int ∷ []; stack = [] }

worked_arrives : Arrives worked_program 3 worked_code 14 shape_14
unfolding opcodes row_of decoded operation_of
worked_arrives = by_step 11 14 shape_11 (record { next = Some 14; shape = shape_14 }) (by_step 10 11 shape_10 (record { next = Some 11; shape = shape_11 }) (by_step 9 10 shape_9 (record { next = Some 10; shape = shape_10 }) (by_step 8 9 shape_8 (record { next = Some 9; shape = shape_9 }) (by_step 7 8 shape_7 (record { next = Some 8; shape = shape_8 }) (by_step 4 7 shape_4 (record { next = Some 7; shape = shape_7 }) (by_step 3 4 shape_3 (record { next = Some 4; shape = shape_4 }) (by_step 0 3 shape_0 (record { next = Some 3; shape = shape_3 }) (at_start) refl refl) refl refl) refl refl) refl refl) refl refl) refl refl) refl refl) refl refl

worked_typed : IsTypedCode worked_program 3 worked_code
unfolding opcodes row_of decoded operation_of
worked_typed = typed_from_end worked_program 3 worked_code (record { next = None; shape = shape_14 }) worked_arrives refl refl

worked_line : IsPlainFrom worked_program worked_labels 3 worked_code 0
unfolding opcodes row_of decoded operation_of
worked_line = then 0 3 (InvokeStatic 14) refl refl (then 3 4 (Store 0) refl refl (then 4 7 (InvokeStatic 16) refl refl (then 7 8 (Store 1) refl refl (then 8 9 (Load 0) refl refl (then 9 10 (Constant (pos 1)) refl refl (then 10 11 Add refl refl (then 11 14 (InvokeStatic 18) refl refl (last 14 15 refl refl))))))))

each_native : (m : ℕ) (method : Method) → method_at worked_program m ≡ Some method → is_of_files worked_program method ≡ true → has_flag native_flag method.flags ≡ true → IsSome (label_of worked_labels m)
each_native zero method found files is = refl
each_native (suc zero) method found files is = refl
each_native (suc (suc zero)) method found files is = refl
each_native (suc (suc (suc zero))) method found files is = absurd (false≢true (ap (λ (x : Method). has_flag native_flag x.flags) (same_Some _ method found) ∙ is))
each_native (suc (suc (suc (suc m)))) method found files is = absurd (none-some method found)

low_high : codes "low" ≡ codes "high" → ⊥
low_high e = (let lengths : ◌≡◌ {A = ℕ} 3 4 = ap length e in absurd (omega arith))

distinct : (j k : ℕ) (name : List ℕ) → slice_get worked_labels.levels j ≡ Some name → slice_get worked_labels.levels k ≡ Some name → j ≡ k
distinct zero zero name is same = refl
distinct zero (suc zero) name is same = absurd (low_high (same_Some (codes "low") name is ∙ sym (same_Some (codes "high") name same)))
distinct zero (suc (suc k)) name is same = absurd (none-some name same)
distinct (suc zero) zero name is same = absurd (low_high (same_Some (codes "low") name same ∙ sym (same_Some (codes "high") name is)))
distinct (suc zero) (suc zero) name is same = refl
distinct (suc zero) (suc (suc k)) name is same = absurd (none-some name same)
distinct (suc (suc j)) k name is same = absurd (none-some name is)

-- the one pair goes up
no_cycle : (a b : ℕ) → flows worked_labels a b ≡ true → flows worked_labels b a ≡ true → a ≡ b
no_cycle a b up down = grind (arith, nat_tests)

worked_labelled : IsWellLabelled worked_program worked_labels
unfolding is_prelude_name
worked_labelled = record {
  distinct = distinct;
  few = omega arith;
  pairs = ((omega arith, omega arith), tt);
  no_cycle = no_cycle;
  observers = (omega arith, tt);
  entry = record { method = _; found = refl; files = refl; is_static = refl; has_code = refl; shape = refl };
  natives = (
    record { method = _; found = refl; files = refl; is_static = refl; is_native = refl; no_code = refl; shape = refl; levels = omega arith },
    (
      record { method = _; found = refl; files = refl; is_static = refl; is_native = refl; no_code = refl; shape = refl; levels = omega arith },
      (record { method = _; found = refl; files = refl; is_static = refl; is_native = refl; no_code = refl; shape = refl; levels = omega arith }, tt),
    ),
  );
  in_order = search rules;
  each_native = each_native;
  releases = λ some. absurd (false≢true some);
}

pub worked_is_plain : IsPlainProgram worked_program worked_labels
worked_is_plain = record { well_labelled = worked_labelled; code = worked_code; found = refl; typed = worked_typed; plain = worked_line }
