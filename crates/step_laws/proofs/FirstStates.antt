-- The first state of a program without strings and fields, whose entry takes nothing and has one local.
use Rattle.std.proofs.Common.{refl, arith, subst, ◌≡◌, ℕ, zero, suc, List, [], ◌∷◌, length, replicate, Some, None, slice_get, sym, ◌∙◌, ap}
use Rattle.std.proofs.lemmas.Option.{slice_get_past, slice_get_within}
use Rattle.jo_prog.specs.declared.program.Program.{Program}
use Rattle.jo_prog.specs.declared.program.Method.{Method}
use Rattle.jo_prog.specs.declared.program.Code.{Code}
use Rattle.jo_prog.specs.Program.{method_at}
use Rattle.jo_prog.specs.Constants.{string_address}
use Rattle.jo_prog.specs.Typing.{Unset}
use Rattle.jo_prog.specs.InsnTyping.{shape_at_start}
use Rattle.jo_prog.specs.Machine.{Frame, State}
use Rattle.step_laws.specs.TypedStates.{IsTypedThread, IsTypedState, unset, no_more, one_more}

no_item : {A : Type 0} (B : Type 0) (k : ℕ) (x : A) → slice_get [] k ≡ Some x → B
no_item B k x found = absurd (differ (sym found ∙ slice_get_past [] k (omega arith)))
  where
    differ : Some x ≡ None → ⊥
    differ e = cc

one_item : {A : Type 0} (x y : A) (k : ℕ) → slice_get (x ∷ []) k ≡ Some y → (k ≡ 0) × (y ≡ x)
one_item x y zero found = (refl, some_same found)
  where
    some_same : Some x ≡ Some y → y ≡ x
    some_same e = cc
one_item x y (suc k) found = absurd (omega (arith, slice_get_within (x ∷ []) (suc k) y found))

-- a frame at the start of code with one local
abbrev pub frame_at_start : ℕ → Frame
frame_at_start m = record { method = m; pc = 0; locals = None ∷ []; stack = [] }

abbrev pub first_state : Program → ℕ → State
first_state program m = record {
  heap = [];
  statics = [];
  cursors = replicate (length program.methods) 0;
  threads = record { frames = frame_at_start m ∷ []; pending = None; object = None } ∷ [];
}

module _ (program : Program) (m : ℕ) (method : Method) (code : Code)
    (found : method_at program m ≡ Some method) (has_code : method.code ≡ Some code)
    (shape : shape_at_start program method code ≡ record { locals = Unset ∷ []; stack = [] })
    (no_text : (text : List ℕ) (a : ℕ) → string_address program text ≡ Some a → ⊥)
    (no_fields : program.fields ≡ []) (count : length (replicate {A = ℕ} (length program.methods) 0) ≡ length program.methods) where
  thread_is_typed : IsTypedThread program [] (record { frames = frame_at_start m ∷ []; pending = None; object = None })
  thread_is_typed = record {
    frames = (
      record {
        shape = record { locals = Unset ∷ []; stack = [] };
        has_shape = record {
          typable = record { number = m; method = method; code = code };
          is_typable = (refl, found, has_code);
          path = [];
          is_path = refl;
          arrives = refl;
          shape_is = shape;
        };
        locals = one_more Unset None [] [] (unset None) no_more;
        stack = no_more;
      },
      tt,
    );
    thrown = λ a is. absurd (cc);
    started = λ a is. absurd (cc);
  }

  pub is_typed_first : IsTypedState program (first_state program m)
  is_typed_first = record {
    objects = λ a o at. no_item _ a o at;
    texts = λ text a is. absurd (no_text text a is);
    count = sym (ap length no_fields);
    statics = λ f field v is_field is_static at. no_item _ f v at;
    cursors = count;
    threads = λ t thread at. subst (IsTypedThread program []) (sym (one_item _ thread t at).1) thread_is_typed;
    first_alone = λ t thread at none. (one_item _ thread t at).0;
    one_each = λ t u one other a at be o p. (one_item _ one t at).0 ∙ sym (one_item _ other u be).0;
  }
