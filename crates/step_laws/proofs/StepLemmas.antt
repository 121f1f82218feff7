-- A typed thread whose top frame doesn't stand at a call has a next step.
use Rattle.std.proofs.Common.{◌≡◌, ◌∙◌, ℕ, ◌^◌, ◌≤◌, Bool, true, false, not, ◌||◌, List, [], ◌∷◌, length, Option, Some, None, Result, Ok, Err, refl, sym, ap, subst, arith}
use Rattle.std.specs.Prelude.{nat_lt, slice_get, is_some, option_map, option_and_then, if◌then◌else◌}
use Rattle.std.specs.List.{list_any}
use Rattle.std.proofs.lemmas.Bool.{false_from_ne_true, and_parts, or_parts, or_from, not-false, cond-true}
use Rattle.jo_insn.specs.Instructions.{decoded}
use Rattle.jo_insn.specs.declared.instructions.Insn.{Insn}
use Rattle.jo_insn.specs.declared.instructions.InsnFault.{InsnFault}
use Rattle.jo_insn.proofs.SpelledFromDecoded.{decoded_is_spelled}
use Rattle.jo_prog.specs.declared.program.Program.{Program}
use Rattle.jo_prog.specs.declared.program.Method.{Method}
use Rattle.jo_prog.specs.declared.program.Code.{Code}
use Rattle.jo_prog.specs.declared.program.Row.{Row}
use Rattle.jo_prog.specs.declared.labels.Labels.{Labels}
use Rattle.jo_prog.specs.declared.runs.SourceInput.{SourceInput}
use Rattle.jo_prog.specs.declared.typed.TypeCode.TheVariants.{FallsOff}
use Rattle.jo_prog.specs.Program.{code_at}
use Rattle.jo_prog.specs.Rows.{row_for}
use Rattle.jo_prog.specs.Typing.{Kind, Int, Null, Ref, Unset}
use Rattle.jo_prog.specs.declared.program.TypeRef.TheVariants.{Class as OfClass, Array as OfArray}
use Rattle.jo_prog.specs.Shapes.{Need, Anything, AnInt, AReference, OfEach, AnArray, ArrayOfReferences, ArrayOf, Nothing, passes, Effect, all_pass}
use Rattle.jo_prog.specs.InsnTyping.{insn_at, as_placed, effect_of}
use Rattle.jo_prog.specs.TypingPaths.{arrives_at, effect_in, effect_at, falls_off, leads_outside, successors_at, handler_outside, local_passes, IsTypedMethod}
use Rattle.jo_prog.specs.Machine.{Frame, Thread, State, info_at}
use Rattle.machine.specs.Instructions.{Instruction, with_next, instruction_in, instruction_at}
use Rattle.machine.specs.Invocation.{class_of}
use Rattle.machine.specs.Steps.{fetched, executed, caught, rows_of, step_at, step_frames, step_thread, step}
use Rattle.step_laws.specs.TypedStates.{IsReady, AreFrames, IsTypedState}
use Rattle.step_laws.specs.Premises.{HasSoundHierarchy}
use Rattle.step_laws.specs.Effects.{HasEffect, array_created, array_measured, cast, checked, created, element_loaded, element_stored, field_got, field_put, int_loaded, int_pushed, int_stepped, int_stored, jumped, nothing_done, nothing_returned, null_pushed, null_tested, one_doubled, one_doubled_under_one, one_doubled_under_two, one_dropped, one_narrowed, one_negated, one_tested, reference_loaded, reference_put, reference_stored, reference_taken, references_compared, static_got, static_put, switched, text_pushed, thrown, two_compared, two_computed, two_doubled, two_doubled_under_one, two_doubled_under_two, two_dropped, two_swapped, value_returned}
use Rattle.step_laws.specs.Fetches.{HasStep}
use Rattle.step_laws.specs.Tables.{is_nothing, asks_nothing, HasSoundCode, is_call}
use Rattle.step_laws.proofs.TypeLemmas.{never}
use Rattle.step_laws.proofs.FetchLemmas.{pops_there, right_kinds, all_right, frames_step}
use Rattle.step_laws.proofs.TableLemmas.{insn_effects}

-- ---- an instruction that is no call is executed

pub no_call : (program : Program) (labels : Labels) (inputs : List SourceInput) (s : State) (t : ℕ) (f : Frame) (below : List Frame) (next : ℕ) (i : Instruction) (e : Effect) → HasEffect program i e
    → step_at program labels inputs s t f below (Some (i, next)) ≡ executed program s t f below next i (fetched i f)
no_call program labels inputs s t f below next i e nothing_done = refl
no_call program labels inputs s t f below next i e null_pushed = refl
no_call program labels inputs s t f below next i e (int_pushed z fit) = refl
no_call program labels inputs s t f below next i e (text_pushed text a is) = refl
no_call program labels inputs s t f below next i e (int_loaded k) = refl
no_call program labels inputs s t f below next i e (reference_loaded k) = refl
no_call program labels inputs s t f below next i e (int_stored k) = refl
no_call program labels inputs s t f below next i e (reference_stored k) = refl
no_call program labels inputs s t f below next i e (int_stepped k by) = refl
no_call program labels inputs s t f below next i e (element_loaded letters are) = refl
no_call program labels inputs s t f below next i e reference_taken = refl
no_call program labels inputs s t f below next i e (element_stored letters are) = refl
no_call program labels inputs s t f below next i e reference_put = refl
no_call program labels inputs s t f below next i e one_dropped = refl
no_call program labels inputs s t f below next i e two_dropped = refl
no_call program labels inputs s t f below next i e one_doubled = refl
no_call program labels inputs s t f below next i e one_doubled_under_one = refl
no_call program labels inputs s t f below next i e one_doubled_under_two = refl
no_call program labels inputs s t f below next i e two_doubled = refl
no_call program labels inputs s t f below next i e two_doubled_under_one = refl
no_call program labels inputs s t f below next i e two_doubled_under_two = refl
no_call program labels inputs s t f below next i e two_swapped = refl
no_call program labels inputs s t f below next i e (two_computed op) = refl
no_call program labels inputs s t f below next i e one_negated = refl
no_call program labels inputs s t f below next i e (one_narrowed op) = refl
no_call program labels inputs s t f below next i e (one_tested op target) = refl
no_call program labels inputs s t f below next i e (two_compared op target) = refl
no_call program labels inputs s t f below next i e (references_compared op target) = refl
no_call program labels inputs s t f below next i e (null_tested op target) = refl
no_call program labels inputs s t f below next i e (jumped target) = refl
no_call program labels inputs s t f below next i e (switched cases other) = refl
no_call program labels inputs s t f below next i e (value_returned type) = refl
no_call program labels inputs s t f below next i e nothing_returned = refl
no_call program labels inputs s t f below next i e (static_got g type is) = refl
no_call program labels inputs s t f below next i e (static_put g type is) = refl
no_call program labels inputs s t f below next i e (field_got g type owner has holds) = refl
no_call program labels inputs s t f below next i e (field_put g type owner has holds) = refl
no_call program labels inputs s t f below next i e (created c class found made) = refl
no_call program labels inputs s t f below next i e (array_created type same) = refl
no_call program labels inputs s t f below next i e array_measured = refl
no_call program labels inputs s t f below next i e thrown = refl
no_call program labels inputs s t f below next i e (cast type dims) = refl
no_call program labels inputs s t f below next i e (checked type) = refl

-- ---- nothing is asked that no place has

nothing_passes : (program : Program) (need : Need) (kind : Kind) → passes program need kind ≡ true → is_nothing need ≡ false
nothing_passes program Anything kind p = refl
nothing_passes program AnInt kind p = refl
nothing_passes program AReference kind p = refl
nothing_passes program (OfEach types) kind p = refl
nothing_passes program AnArray kind p = refl
nothing_passes program ArrayOfReferences kind p = refl
nothing_passes program (ArrayOf letters) kind p = refl
nothing_passes program Nothing Int p = never p
nothing_passes program Nothing Null p = never p
nothing_passes program Nothing (Ref (OfClass c)) p = never p
nothing_passes program Nothing (Ref (OfArray desc)) p = never p
nothing_passes program Nothing Unset p = never p

pub asks_some : (program : Program) (needs : List Need) (kinds : List Kind) → all_pass program needs kinds ≡ true → length needs ≤ length kinds → asks_nothing needs ≡ false
asks_some program [] kinds p enough = refl
asks_some program (need ∷ needs) [] p enough = absurd (omega arith)
asks_some program (need ∷ needs) (kind ∷ kinds) p enough =
    let both = and_parts (passes program need kind) (all_pass program needs kinds) p in
    or_from (is_nothing need) (asks_nothing needs) (nothing_passes program need kind both.0) (asks_some program needs kinds both.1 (omega arith))

-- ---- the instruction at a pc

pub insn_there : (code : Code) (pc : ℕ) → is_some (insn_at code pc) ≡ true → (insn : Insn) × (next : ℕ) × (nat_lt (length code.bytes) (2 ^ 16) ≡ true) × (decoded code.bytes pc ≡ Ok (insn, next))
insn_there code pc h = by_tests (nat_lt (length code.bytes) (2 ^ 16)) (decoded code.bytes pc) refl refl h
  where
    by_tests : (b : Bool) (r : Result (Insn × ℕ) InsnFault) → nat_lt (length code.bytes) (2 ^ 16) ≡ b → decoded code.bytes pc ≡ r → is_some (if b then as_placed pc r else None) ≡ true
        → (insn : Insn) × (next : ℕ) × (nat_lt (length code.bytes) (2 ^ 16) ≡ true) × (decoded code.bytes pc ≡ Ok (insn, next))
    by_tests true (Ok found) short is h = (found.0, found.1, short, is)
    by_tests true (Err fault) short is h = never h
    by_tests false r short is h = never h

module _ (program : Program) (labels : Labels) (inputs : List SourceInput) (sound : HasSoundHierarchy program) (s : State) (state : IsTypedState program s) (f : Frame)
    (typed : IsTypedMethod program f.method) (ready : IsReady program s.heap f) where
  inside : is_some (insn_at ready.has_shape.typable.code f.pc) ≡ true
  inside =
      let shown = ready.has_shape in
      let code = shown.typable.code in
      let none : falls_off code (arrives_at shown.path) ≡ false =
      false_from_ne_true _ (λ meets. typed f.pc FallsOff (record { typable = shown.typable; is_typable = shown.is_typable; path = shown.path; is_path = shown.is_path; arrives = shown.arrives; meets = meets })) in
      let here : falls_off code f.pc ≡ false = subst (λ (pc : ℕ). falls_off code pc ≡ false) shown.arrives none in
      let first = or_parts (not (is_some (insn_at code f.pc)) || leads_outside code (successors_at code f.pc)) (list_any (handler_outside code f.pc) code.rows) here in
      not-false (is_some (insn_at code f.pc)) (or_parts (not (is_some (insn_at code f.pc))) (leads_outside code (successors_at code f.pc)) first.0).0

  code_is : code_at program f.method ≡ Some ready.has_shape.typable.code
  code_is =
      let is = ready.has_shape.is_typable in
      ap (λ (o : Option Method). option_and_then (λ (method : Method). method.code) o) is.1 ∙ is.2

  not_wrong : (effect_at program ready.has_shape.typable f.pc).wrong ≡ false
  not_wrong =
      let e = effect_at program ready.has_shape.typable f.pc in
      let first = or_parts (e.wrong || not (all_pass program e.pops ready.shape.stack) || not (local_passes program ready.shape e.reads)) _ (right_kinds program s.heap f typed ready) in
      let second = or_parts (e.wrong || not (all_pass program e.pops ready.shape.stack)) (not (local_passes program ready.shape e.reads)) first.0 in
      (or_parts e.wrong (not (all_pass program e.pops ready.shape.stack)) second.0).0

  pub top_steps : HasSoundCode program f.method ready.has_shape.typable.code
      → ((insn : Insn) (next : ℕ) → decoded ready.has_shape.typable.code.bytes f.pc ≡ Ok (insn, next) → is_call insn ≡ false)
      → (t : ℕ) (below : List Frame) → HasStep (step_at program labels inputs s t f below (instruction_at program f.method f.pc))
  top_steps right no_call_there t below =
      let shown = ready.has_shape in
      let code = shown.typable.code in
      let there = insn_there code f.pc inside in
      let insn = there.0 in
      let next = there.1 in
      let placed : insn_at code f.pc ≡ Some (record { pc = f.pc; insn = insn; next = next }) =
      cond-true (nat_lt (length code.bytes) (2 ^ 16)) (as_placed f.pc (decoded code.bytes f.pc)) None there.2 ∙ ap (as_placed f.pc) there.3 in
      let effect_first : effect_at program shown.typable f.pc ≡ effect_of program shown.typable.number shown.typable.method insn = ap (effect_in program shown.typable) placed in
      let effect_is : effect_at program shown.typable f.pc ≡ effect_of program f.method shown.typable.method insn =
      effect_first ∙ ap (λ (m : ℕ). effect_of program m shown.typable.method insn) shown.is_typable.0 in
      let read = decoded_is_spelled code.bytes f.pc next insn right.bytes there.3 in
      let wrong : (effect_of program f.method shown.typable.method insn).wrong ≡ false = subst (λ (e : Effect). e.wrong ≡ false) effect_is not_wrong in
      let some : asks_nothing (effect_of program f.method shown.typable.method insn).pops ≡ false =
      subst (λ (e : Effect). asks_nothing e.pops ≡ false) effect_is
      (asks_some program (effect_at program shown.typable f.pc).pops ready.shape.stack (all_right program s.heap f typed ready) (pops_there program s.heap f typed ready)) in
      let known = insn_effects program f.method shown.typable.method shown.is_typable.1 code.bytes f.pc insn read.1 read.3 (right.operands f.pc next insn (record { typable = shown.typable; is_typable = shown.is_typable; path = shown.path; is_path = shown.is_path; arrives = shown.arrives }) there.3) (no_call_there insn next there.3) wrong some in
      let has : HasEffect program known.instruction (effect_at program shown.typable f.pc) = subst (HasEffect program known.instruction) (sym effect_is) known.has in
      let at_first : instruction_in program f.method (Some code) f.pc ≡ with_next program f.method code.bytes f.pc (Ok (insn, next)) =
      cond-true (nat_lt (length code.bytes) (2 ^ 16)) (with_next program f.method code.bytes f.pc (decoded code.bytes f.pc)) None there.2
      ∙ ap (with_next program f.method code.bytes f.pc) there.3 in
      let at : instruction_at program f.method f.pc ≡ Some (known.instruction, next) =
      ap (λ (o : Option Code). instruction_in program f.method o f.pc) code_is ∙ at_first ∙ ap (option_map (λ (i : Instruction). (i, next))) known.is in
      subst (λ (o : Option (Instruction × ℕ)). HasStep (step_at program labels inputs s t f below o)) (sym at)
      (subst HasStep (sym (no_call program labels inputs s t f below next known.instruction (effect_at program shown.typable f.pc) has))
      (frames_step program sound s state f typed ready known.instruction has t below next))

-- ---- threads

pub thread_steps : (program : Program) (labels : Labels) (inputs : List SourceInput) → HasSoundHierarchy program → (s : State) → IsTypedState program s
    → (t : ℕ) (thread : Thread) (f : Frame) (below : List Frame) → slice_get s.threads t ≡ Some thread → thread.pending ≡ None → thread.frames ≡ f ∷ below
    → IsTypedMethod program f.method
    → ((code : Code) → code_at program f.method ≡ Some code → HasSoundCode program f.method code)
    → ((code : Code) (insn : Insn) (next : ℕ) → code_at program f.method ≡ Some code → decoded code.bytes f.pc ≡ Ok (insn, next) → is_call insn ≡ false)
    → HasStep (step program labels inputs s t)
thread_steps program labels inputs sound s state t thread f below at none frames typed right no_call_there =
    let held : AreFrames program s.heap thread.pending thread.frames = (state.threads t thread at).frames in
    let held1 : AreFrames program s.heap None thread.frames = subst (λ (o : Option ℕ). AreFrames program s.heap o thread.frames) none held in
    let held2 : AreFrames program s.heap None (f ∷ below) = subst (λ (fs : List Frame). AreFrames program s.heap None fs) frames held1 in
    let ready : IsReady program s.heap f = held2.0 in
    let is = code_is program labels inputs sound s state f typed ready in
    subst (λ (o : Option Thread). HasStep (step_thread program labels inputs s t o)) (sym at)
    (subst (λ (o : Option ℕ). HasStep (step_frames program labels inputs s t o thread.frames)) (sym none)
    (subst (λ (fs : List Frame). HasStep (step_frames program labels inputs s t None fs)) (sym frames)
    (top_steps program labels inputs sound s state f typed ready (right ready.has_shape.typable.code is) (λ insn next read. no_call_there ready.has_shape.typable.code insn next is read) t below)))

caught_steps : (s : State) (t : ℕ) (f : Frame) (below : List Frame) (a : ℕ) (row : Option (ℕ × Row)) → HasStep (caught s t f below a row)
caught_steps s t f below a None = record { next = _; is_next = refl }
caught_steps s t f below a (Some found) = record { next = _; is_next = refl }

pub unwinding_steps : (program : Program) (labels : Labels) (inputs : List SourceInput) (s : State) (t : ℕ) (thread : Thread) (f : Frame) (below : List Frame) (a : ℕ)
    → slice_get s.threads t ≡ Some thread → thread.pending ≡ Some a → thread.frames ≡ f ∷ below → HasStep (step program labels inputs s t)
unwinding_steps program labels inputs s t thread f below a at some frames =
    subst (λ (o : Option Thread). HasStep (step_thread program labels inputs s t o)) (sym at)
    (subst (λ (o : Option ℕ). HasStep (step_frames program labels inputs s t o thread.frames)) (sym some)
    (subst (λ (fs : List Frame). HasStep (step_frames program labels inputs s t (Some a) fs)) (sym frames)
    (caught_steps s t f below a (row_for program (rows_of (code_at program f.method)) f.pc (class_of (info_at s a))))))
