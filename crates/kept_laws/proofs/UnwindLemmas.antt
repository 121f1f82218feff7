-- The unwinding of a frame keeps a typed state typed.
use Rattle.std.proofs.Common.{◌≡◌, ◌∙◌, ℕ, suc, zero, Bool, true, false, not, List, [], ◌∷◌, Option, Some, None, refl, sym, ap, subst}
use Rattle.std.specs.Prelude.{slice_get, if◌then◌else◌, option_and_then}
use Rattle.std.specs.List.{list_any}
use Rattle.std.proofs.lemmas.Bool.{false_from_ne_true, and_parts, and_from, or_parts, or_right}
use Rattle.jo_prog.specs.declared.labels.Labels.{Labels}
use Rattle.jo_prog.specs.declared.program.Program.{Program}
use Rattle.jo_prog.specs.declared.program.Code.{Code}
use Rattle.jo_prog.specs.declared.program.Method.{Method}
use Rattle.jo_prog.specs.declared.program.Row.{Row}
use Rattle.jo_prog.specs.declared.program.TypeRef.{TypeRef}
use Rattle.jo_prog.specs.declared.program.TypeRef.TheVariants.{Class as OfClass, Array as OfArray}
use Rattle.jo_prog.specs.declared.runs.SourceInput.{SourceInput}
use Rattle.jo_prog.specs.declared.typed.TypeCode.TheVariants.{WrongKind}
use Rattle.jo_prog.specs.Program.{code_at}
use Rattle.jo_prog.specs.Rows.{covers, catches_class, catches_at, row_from, row_for}
use Rattle.jo_prog.specs.Types.{type_fits}
use Rattle.jo_prog.specs.Typing.{Ref}
use Rattle.jo_prog.specs.Shapes.{is_interface}
use Rattle.jo_prog.specs.InsnTyping.{throwable, at_handler}
use Rattle.jo_prog.specs.InsnTyping as typing
use Rattle.jo_prog.specs.TypingPaths.{IsHandler, arrives_at, shape_of, row_taken, catches_wrong, wrong_kind, IsTypedMethod}
use Rattle.jo_prog.specs.Values.{ref, Info, object, array}
use Rattle.jo_prog.specs.Machine.{Frame, Thread, State, info_of, info_at}
use Rattle.machine.specs.Invocation.{class_of, type_of}
use Rattle.machine.specs.Steps.{at_pc, caught, rows_of, unwound, step_frames, step_thread, step}
use Rattle.step_laws.specs.TypedStates.{an_object, set, no_more, one_more, has_dims, IsReady, IsLeft, AreWaiting, AreFrames, StandsAt, IsTypedState}
use Rattle.step_laws.proofs.TypeLemmas.{never, same_some}
use Rattle.typing_heights.specs.FirstPaths.{HasFirstPaths}
use Rattle.kept_laws.specs.Kept.{HasTypedStep}
use Rattle.kept_laws.proofs.PathLemmas.{prolonged}
use Rattle.kept_laws.proofs.ThreadLemmas.{frames_set}

-- ---- rows

none_of : {X : Type 0} (P : X → Bool) (xs : List X) (k : ℕ) (x : X) → list_any P xs ≡ false → slice_get xs k ≡ Some x → P x ≡ false
none_of P [] k x h e = absurd (cc)
none_of {X = X} P (y ∷ ys) zero x h e = subst (λ (z : X). P z ≡ false) (same_some e) (or_parts (P y) (list_any P ys) h).0
none_of P (y ∷ ys) (suc k) x h e = none_of P ys k x (or_parts (P y) (list_any P ys) h).1 e

-- a row that is found is one of the table, and catches
row_there : (program : Program) (pc class first : ℕ) (rows : List Row) (found : ℕ × Row) → row_from program pc class first rows ≡ Some found
    → (k : ℕ) × (slice_get rows k ≡ Some found.1) × (catches_at program pc class found.1 ≡ true)
row_there program pc class first [] found e = absurd (cc)
row_there program pc class first (row ∷ rows) found e = by_test (catches_at program pc class row) refl e (λ later. row_there program pc class (suc first) rows found later)
  where
    by_test : (b : Bool) → catches_at program pc class row ≡ b → (if b then Some (first, row) else row_from program pc class (suc first) rows) ≡ Some found
        → (row_from program pc class (suc first) rows ≡ Some found → (k : ℕ) × (slice_get rows k ≡ Some found.1) × (catches_at program pc class found.1 ≡ true))
        → (k : ℕ) × (slice_get (row ∷ rows) k ≡ Some found.1) × (catches_at program pc class found.1 ≡ true)
    by_test true is at later =
        let same : row ≡ found.1 = ap (λ (x : ℕ × Row). x.1) (same_some at) in
        (0, ap (λ (x : Row). Some x) same, subst (λ (x : Row). catches_at program pc class x ≡ true) same is)
    by_test false is at later = let there = later at in (suc there.0, there.1, there.2)

-- ---- what a handler is given

throwable_dims : (program : Program) (type : TypeRef) → type_fits program type throwable ≡ true → has_dims type ≡ true
throwable_dims program (OfClass c) h = refl
throwable_dims program (OfArray desc) h = never h

class_caught : (program : Program) (info : Info) (type : TypeRef) → type_fits program (type_of info) throwable ≡ true → type_fits program (OfClass (class_of info)) type ≡ true
    → type_fits program (type_of info) type ≡ true
class_caught program (object c) type thrown h = h
class_caught program (array elements count) type thrown h = never thrown

is_caught : (program : Program) (info : Info) (catches : Option TypeRef) → type_fits program (type_of info) throwable ≡ true → catches_class program catches (class_of info) ≡ true
    → type_fits program (type_of info) (typing.caught catches) ≡ true
is_caught program info None thrown h = thrown
is_caught program info (Some type) thrown h = class_caught program info type thrown h

module _ (program : Program) (s : State) (f : Frame) (typed : IsTypedMethod program f.method) (firsts : HasFirstPaths program f.method) (left : IsLeft program s.heap f)
    (a : ℕ) (thrown : StandsAt program s.heap a throwable) where
  code_is : code_at program f.method ≡ Some left.has_shape.typable.code
  code_is =
      let is = left.has_shape.is_typable in
      ap (λ (o : Option Method). option_and_then (λ (method : Method). method.code) o) is.1 ∙ is.2

  no_wrong_row : list_any (catches_wrong program f.pc) left.has_shape.typable.code.rows ≡ false
  no_wrong_row =
      let shown = left.has_shape in
      let none : wrong_kind program shown.typable (arrives_at shown.path) (shape_of program shown.typable shown.path) ≡ false =
      false_from_ne_true _ (λ meets. typed f.pc WrongKind (record { typable = shown.typable; is_typable = shown.is_typable; path = shown.path; is_path = shown.is_path; arrives = shown.arrives; meets = meets })) in
      let row : list_any (catches_wrong program (arrives_at shown.path)) shown.typable.code.rows ≡ false = (or_parts _ (list_any (catches_wrong program (arrives_at shown.path)) shown.typable.code.rows) none).1 in
      subst (λ (pc : ℕ). list_any (catches_wrong program pc) shown.typable.code.rows ≡ false) shown.arrives row

  module _ (row : Row) (k : ℕ) (there : slice_get left.has_shape.typable.code.rows k ≡ Some row) (catches : catches_at program f.pc (class_of (info_at s a)) row ≡ true) where
    is_covered : covers row f.pc ≡ true
    is_covered = (and_parts (covers row f.pc) (catches_class program row.catches (class_of (info_at s a))) catches).0

    info_is : info_at s a ≡ thrown.found.info
    info_is = ap info_of thrown.is_there

    caught_fits : type_fits program (type_of thrown.found.info) (typing.caught row.catches) ≡ true
    caught_fits =
        let h : catches_class program row.catches (class_of (info_at s a)) ≡ true = (and_parts (covers row f.pc) (catches_class program row.catches (class_of (info_at s a))) catches).1 in
        is_caught program thrown.found.info row.catches thrown.fits (subst (λ (info : Info). catches_class program row.catches (class_of info) ≡ true) info_is h)

    caught_throwable : type_fits program (typing.caught row.catches) throwable ≡ true
    caught_throwable = by_test (type_fits program (typing.caught row.catches) throwable) refl
      where
        by_test : (b : Bool) → type_fits program (typing.caught row.catches) throwable ≡ b → type_fits program (typing.caught row.catches) throwable ≡ true
        by_test true e = e
        by_test false e =
            let none : catches_wrong program f.pc row ≡ false = none_of (catches_wrong program f.pc) left.has_shape.typable.code.rows k row no_wrong_row there in
            let some : catches_wrong program f.pc row ≡ true = and_from (covers row f.pc) _ is_covered (ap (λ (b : Bool). not b) e) in
            never (sym none ∙ some)

    handled : IsReady program s.heap (at_pc f row.handler (ref a ∷ []))
    handled =
        let shown = left.has_shape in
        let takes : IsHandler shown.typable.code (arrives_at shown.path) row.handler k = record { row = row; found = there; covered = subst (λ (pc : ℕ). typing.covers pc row ≡ true) (sym shown.arrives) is_covered; leads = refl } in
        record {
          shape = at_handler row left.shape;
          has_shape = record {
            typable = shown.typable;
            is_typable = shown.is_typable;
            path = record { pc = row.handler; row = Some k } ∷ shown.path;
            is_path = prolonged program f.method typed firsts shown.typable shown.is_typable shown.path shown.is_path (Some k) row.handler takes;
            arrives = refl;
            shape_is = ap (λ (o : Option Row). row_taken o (shape_of program shown.typable shown.path)) there ∙ ap (at_handler row) shown.shape_is;
          };
          locals = left.locals;
          stack = one_more (Ref (typing.caught row.catches)) (ref a) [] []
              (set (Ref (typing.caught row.catches)) (ref a) (an_object (typing.caught row.catches) a thrown.found thrown.is_there
              (or_right (is_interface program (typing.caught row.catches)) (type_fits program (type_of thrown.found.info) (typing.caught row.catches)) caught_fits)
              (throwable_dims program (typing.caught row.catches) caught_throwable)))
              no_more;
        }

-- a frame below one that is dropped is left by the exception
dropped : (program : Program) (s : State) (a callee : ℕ) (below : List Frame) → AreWaiting program s.heap callee below → AreFrames program s.heap (Some a) below
dropped program s a callee [] waiting = tt
dropped program s a callee (f ∷ below) waiting = (record { shape = waiting.0.shape; has_shape = waiting.0.has_shape; locals = waiting.0.locals }, waiting.1)

-- ---- the state

module _ (program : Program) (s : State) (state : IsTypedState program s) (t : ℕ) (thread : Thread) (at : slice_get s.threads t ≡ Some thread)
    (f : Frame) (below : List Frame) (a : ℕ) (typed : IsTypedMethod program f.method) (firsts : HasFirstPaths program f.method)
    (left : IsLeft program s.heap f) (waiting : AreWaiting program s.heap f.method below) (thrown : StandsAt program s.heap a throwable) where
  by_row : (found : Option (ℕ × Row)) → row_for program left.has_shape.typable.code.rows f.pc (class_of (info_at s a)) ≡ found → HasTypedStep program (caught s t f below a found)
  by_row None none = record {
    next = _;
    is_next = refl;
    typed = frames_set program s state t thread at below (Some a) (dropped program s a f.method below waiting)
        (λ b same. subst (λ (x : ℕ). StandsAt program s.heap x throwable) (same_some same) thrown);
  }
  by_row (Some found) is =
      let there = row_there program f.pc (class_of (info_at s a)) 0 left.has_shape.typable.code.rows found is in
      record {
        next = _;
        is_next = refl;
        typed = frames_set program s state t thread at (at_pc f (found.1).handler (ref a ∷ []) ∷ below) None
            (handled program s f typed firsts left a thrown found.1 there.0 there.1 there.2, waiting) (λ b none. absurd (cc));
      }

  unwound_typed : HasTypedStep program (unwound program s t f below a)
  unwound_typed =
      subst (λ (o : Option Code). HasTypedStep program (caught s t f below a (row_for program (rows_of o) f.pc (class_of (info_at s a))))) (sym (code_is program s f typed firsts left a thrown))
      (by_row (row_for program left.has_shape.typable.code.rows f.pc (class_of (info_at s a))) refl)

pub unwinding_typed : (program : Program) (labels : Labels) (inputs : List SourceInput) (s : State) → IsTypedState program s → (t : ℕ) (thread : Thread) (f : Frame) (below : List Frame) (a : ℕ)
    → slice_get s.threads t ≡ Some thread → thread.pending ≡ Some a → thread.frames ≡ f ∷ below → IsTypedMethod program f.method → HasFirstPaths program f.method
    → HasTypedStep program (step program labels inputs s t)
unwinding_typed program labels inputs s state t thread f below a at some frames typed firsts =
    let held : AreFrames program s.heap thread.pending thread.frames = (state.threads t thread at).frames in
    let held1 : AreFrames program s.heap (Some a) thread.frames = subst (λ (o : Option ℕ). AreFrames program s.heap o thread.frames) some held in
    let held2 : AreFrames program s.heap (Some a) (f ∷ below) = subst (λ (fs : List Frame). AreFrames program s.heap (Some a) fs) frames held1 in
    subst (λ (o : Option Thread). HasTypedStep program (step_thread program labels inputs s t o)) (sym at)
    (subst (λ (o : Option ℕ). HasTypedStep program (step_frames program labels inputs s t o thread.frames)) (sym some)
    (subst (λ (fs : List Frame). HasTypedStep program (step_frames program labels inputs s t (Some a) fs)) (sym frames)
    (unwound_typed program s state t thread at f below a typed firsts held2.0 held2.1 ((state.threads t thread at).thrown a some))))
