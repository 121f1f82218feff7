-- A return keeps a typed state typed: the frame below goes on behind its call, with the result.
use Rattle.std.proofs.Common.{◌≡◌, ◌∙◌, ℕ, true, false, List, [], ◌∷◌, ◌++◌, map, length, drop, pos, Option, Some, None, refl, sym, ap, subst}
use Rattle.std.specs.Prelude.{is_some, slice_get, Contains, option_map}
use Rattle.jo_text.specs.declared.descriptors.FieldDesc.{FieldDesc}
use Rattle.jo_text.specs.declared.descriptors.MethodDesc.{MethodDesc}
use Rattle.jo_insn.specs.declared.instructions.Insn.{Insn}
use Rattle.jo_insn.specs.declared.instructions.Insn.TheVariants.{Plain}
use Rattle.jo_prog.specs.declared.labels.Labels.{Labels}
use Rattle.jo_prog.specs.declared.program.Program.{Program}
use Rattle.jo_prog.specs.declared.program.Code.{Code}
use Rattle.jo_prog.specs.declared.program.Method.{Method}
use Rattle.jo_prog.specs.declared.runs.SourceInput.{SourceInput}
use Rattle.jo_prog.specs.Program.{method_at, code_at}
use Rattle.jo_prog.specs.MethodTypes.{method_desc_in}
use Rattle.jo_prog.specs.Typing.{Kind, Shape}
use Rattle.jo_prog.specs.Shapes.{Need, Origin, Effect, kind_of_type, kind_from, after}
use Rattle.jo_prog.specs.InsnTyping.{stack_effect, result_kind_of, result_origins, effect_of}
use Rattle.jo_prog.specs.TypingPaths.{shape_of, effect_at, successors_at, IsTypedMethod}
use Rattle.jo_prog.specs.Values.{Value}
use Rattle.jo_prog.specs.Machine.{Frame, Thread, HeapObject, State, info_at}
use Rattle.machine.specs.Instructions as code
use Rattle.machine.specs.Instructions.{Instruction, instruction_at, method_desc, result_of}
use Rattle.machine.specs.Execution as does
use Rattle.machine.specs.Execution.{Ways, Fits, Outcome, cell_read, exec}
use Rattle.machine.specs.Steps.{ways, fits, read_from, next_pc, result_on, resumed, apply_outcome, executed, step}
use Rattle.step_laws.specs.TypedStates.{PlaceHasKind, IsOnStack, Pairwise, one_more, HasShape, IsReady, IsWaiting, AreWaiting, AreFrames, IsTypedState}
use Rattle.step_laws.specs.Premises.{HasSoundHierarchy}
use Rattle.step_laws.specs.Effects.{IsResult, Follows, by_push, by_write, by_put, by_jump, by_raise, by_throw, by_new, by_return}
use Rattle.step_laws.specs.Tables.{HasSoundCode}
use Rattle.step_laws.proofs.TypeLemmas.{never, same_some}
use Rattle.step_laws.proofs.ExecLemmas.{instructions_go}
use Rattle.step_laws.proofs.FetchLemmas.{frame_gives}
use Rattle.step_laws.proofs.StepLemmas.{no_call}
use Rattle.kept_laws.specs.Going.{is_return, is_calling}
use Rattle.kept_laws.specs.Kept.{HasTypedStep}
use Rattle.kept_laws.specs.Paths.{AreAllTyped, prolonged_by}
use Rattle.typing_heights.specs.FirstPaths.{HasFirstPaths}
use Rattle.kept_laws.proofs.PathLemmas.{prolonged}
use Rattle.kept_laws.proofs.ThreadLemmas.{frames_set}
use Rattle.kept_laws.proofs.StandLemmas.{StandsOn, code_is, not_wrong, insn_says, stands_on}
use Rattle.kept_laws.proofs.TopLemmas.{has_effect, top_ready, by_top}
use Rattle.kept_laws.proofs.CallLemmas.{on, call, effect_is, count_is, result_is}

-- ---- the frame behind an instruction that writes no local

module _ (program : Program) (f : Frame) (shape : Shape) (shown : HasShape program f shape) (typed : IsTypedMethod program f.method) (firsts : HasFirstPaths program f.method)
    (pops : List Need) (pushes : List Origin) (effect_here : effect_at program shown.typable f.pc ≡ stack_effect pops pushes) where
  pub goes_behind : (heap : List HeapObject) (next : ℕ) → Contains (successors_at shown.typable.code f.pc) (pos next) → (stack : List (Value ℕ))
      → Pairwise (PlaceHasKind program heap) shape.locals f.locals
      → Pairwise (IsOnStack program heap) (map (kind_from program shape) pushes ++ drop (length pops) shape.stack) stack
      → IsReady program heap (record { method = f.method; pc = next; locals = f.locals; stack = stack })
  goes_behind heap next leads stack locals held = record {
    shape = after program (stack_effect pops pushes) shape;
    has_shape = record {
      typable = shown.typable;
      is_typable = shown.is_typable;
      path = prolonged_by None next shown.path;
      is_path = prolonged program f.method typed firsts shown.typable shown.is_typable shown.path shown.is_path None next
          (subst (λ (pc : ℕ). Contains (successors_at shown.typable.code pc) (pos next)) (sym shown.arrives) leads);
      arrives = refl;
      shape_is = ap (λ (pc : ℕ). after program (effect_at program shown.typable pc) (shape_of program shown.typable shown.path)) shown.arrives
          ∙ ap (λ (e : Effect). after program e (shape_of program shown.typable shown.path)) effect_here
          ∙ ap (after program (stack_effect pops pushes)) shown.shape_is;
    };
    locals = locals;
    stack = held;
  }

-- ---- results

-- the result is of the type, where there is one
abbrev pub IsResultOf : Program → List HeapObject → Option FieldDesc → Option (Value ℕ) → Type 0
IsResultOf program heap (Some type) (Some v) = IsOnStack program heap (kind_of_type program type) v
IsResultOf program heap None None = Unit {0}
IsResultOf program heap type result = ⊥

pub result_held : (program : Program) (heap : List HeapObject) (shape : Shape) (type : Option FieldDesc) (result : Option (Value ℕ)) → IsResultOf program heap type result
    → (kinds : List Kind) (stack : List (Value ℕ)) → Pairwise (IsOnStack program heap) kinds stack
    → Pairwise (IsOnStack program heap) (map (kind_from program shape) (result_origins program type) ++ kinds) (result_on result stack)
result_held program heap shape None None is kinds stack held = held
result_held program heap shape (Some type) (Some v) is kinds stack held = one_more (kind_of_type program type) v kinds stack is held
result_held program heap shape None (Some v) is kinds stack held = absurd is
result_held program heap shape (Some type) None is kinds stack held = absurd is

-- ---- the frame below

module _ (program : Program) (sound : HasSoundHierarchy program) (all : AreAllTyped program) (heap : List HeapObject) where
  next_is : (f : Frame) (i : Instruction) (next : ℕ) → instruction_at program f.method f.pc ≡ Some (i, next) → next_pc program f ≡ next
  next_is f i next at = rw at refl

  resumed_ready : (callee : ℕ) (f : Frame) → IsWaiting program heap callee f → (result : Option (Value ℕ)) → IsResultOf program heap (result_of (method_desc (method_at program callee))) result
      → IsReady program heap (record { method = f.method; pc = next_pc program f; locals = f.locals; stack = result_on result f.stack })
  resumed_ready callee f w result is =
      let shown = w.has_shape in
      let typed = all.typed f.method in
      let effect_here = effect_is program sound.no_cycle f w.shape shown typed w.op w.owner w.named w.count w.next w.at_call in
      let pops_are : length _ ≡ w.count = sym (ap (λ (e : Effect). length e.pops) effect_here) ∙ count_is program sound.no_cycle f w.shape shown typed w.op w.owner w.named w.count w.next w.at_call in
      let stands = on program sound.no_cycle f w.shape shown typed w.op w.owner w.named w.count w.next w.at_call in
      let is_call = call program sound.no_cycle f w.shape shown typed w.op w.owner w.named w.count w.next w.at_call in
      let type_is : result_of (method_desc (method_at program callee)) ≡ is_call.type.result =
      w.same_result ∙ result_is program sound.no_cycle f w.shape shown typed w.op w.owner w.named w.count w.next w.at_call in
      let below : Pairwise (IsOnStack program heap) (drop (length _) w.shape.stack) f.stack = subst (λ (n : ℕ). Pairwise (IsOnStack program heap) (drop n w.shape.stack) f.stack) (sym pops_are) w.stack in
      subst (λ (pc : ℕ). IsReady program heap (record { method = f.method; pc = pc; locals = f.locals; stack = result_on result f.stack })) (sym (next_is f _ w.next w.at_call))
      (goes_behind program f w.shape shown typed (all.firsts f.method) _ _ effect_here heap w.next (stands.leads.behind refl) (result_on result f.stack) w.locals
      (result_held program heap w.shape is_call.type.result result (subst (λ (o : Option FieldDesc). IsResultOf program heap o result) type_is is) _ f.stack below))

  pub resumed_frames : (callee : ℕ) (below : List Frame) → AreWaiting program heap callee below → (result : Option (Value ℕ))
      → IsResultOf program heap (result_of (method_desc (method_at program callee))) result → AreFrames program heap None (resumed program result below)
  resumed_frames callee [] waiting result is = tt
  resumed_frames callee (f ∷ below) waiting result is = (resumed_ready callee f waiting.0 result is, waiting.1)

-- ---- what comes of a return

-- the two returns
pub data IsReturn : Instruction → Type 0 where
  by_value : (type : FieldDesc) → IsReturn (code.returns_value type)
  by_nothing : IsReturn code.returns_nothing

pub return_of : (i : Instruction) → is_return i ≡ true → IsReturn i
return_of code.passes e = never e
return_of code.pushes_null e = never e
return_of (code.pushes_int z) e = never e
return_of (code.pushes_text text) e = never e
return_of (code.loads k) e = never e
return_of (code.stores k) e = never e
return_of (code.increments k by) e = never e
return_of code.loads_element e = never e
return_of code.stores_element e = never e
return_of (code.shuffles op) e = never e
return_of (code.computes op) e = never e
return_of code.negates e = never e
return_of (code.narrows op) e = never e
return_of (code.tests op target) e = never e
return_of (code.compares op target) e = never e
return_of (code.compares_references op target) e = never e
return_of (code.tests_null op target) e = never e
return_of (code.jumps_to target) e = never e
return_of (code.switches cases other) e = never e
return_of (code.returns_value type) e = by_value type
return_of code.returns_nothing e = by_nothing
return_of (code.gets_static f) e = never e
return_of (code.puts_static f type) e = never e
return_of (code.gets_field f) e = never e
return_of (code.puts_field f type) e = never e
return_of (code.creates c) e = never e
return_of (code.creates_array type) e = never e
return_of code.measures e = never e
return_of code.throws e = never e
return_of (code.casts type) e = never e
return_of (code.checks type) e = never e
return_of (code.calls op type method count) e = never e

not_calling : (i : Instruction) → IsReturn i → is_calling i ≡ false
not_calling i (by_value type) = refl
not_calling i by_nothing = refl

-- it returns this, and writes nothing
abbrev Returns : Outcome ℕ → Type 0
Returns outcome = (result : Option (Value ℕ)) × (outcome ≡ record { effect = does.returns result; written = None })

returns_alone : (w : Ways ℕ) (fitting : Fits) (i : Instruction) → IsReturn i → (read : Option (Value ℕ)) (vs : List (Value ℕ)) (outcome : Outcome ℕ) → exec w fitting i read vs ≡ Some outcome → Returns outcome
returns_alone w fitting i (by_value type) read [] outcome is = absurd (cc)
returns_alone w fitting i (by_value type) read (v ∷ []) outcome is = (_, sym (same_some is))
returns_alone w fitting i (by_value type) read (v ∷ x ∷ vs) outcome is = absurd (cc)
returns_alone w fitting i by_nothing read [] outcome is = (_, sym (same_some is))
returns_alone w fitting i by_nothing read (v ∷ vs) outcome is = absurd (cc)

module _ (program : Program) (s : State) (i : Instruction) (e : Effect) (shape : Shape) where
  result_follows : (outcome : Outcome ℕ) (result : Option (Value ℕ)) → outcome.effect ≡ does.returns result → Follows program s i e shape outcome → IsResult program s.heap i result
  result_follows outcome result is (by_push vs none held) = absurd (cc)
  result_follows outcome result is (by_write cell v none no_push takes) = absurd (cc)
  result_follows outcome result is (by_put k origin v writes no_push holds) = absurd (cc)
  result_follows outcome result is (by_jump target none no_push jumps) = absurd (cc)
  result_follows outcome result is (by_raise cause) = absurd (cc)
  result_follows outcome result is (by_throw a thrown) = absurd (cc)
  result_follows outcome result is (by_new info type none pushes dims made) = absurd (cc)
  result_follows outcome result is (by_return own no_push h) = subst (IsResult program s.heap i) (same_result is) h
    where
      same_result : {a b : Option (Value ℕ)} → does.returns a ≡ does.returns b → a ≡ b
      same_result x = cc

-- as the method's descriptor says
of_type : (program : Program) (heap : List HeapObject) (i : Instruction) (type : Option FieldDesc) → IsReturn i → ((own : FieldDesc) → i ≡ code.returns_value own → type ≡ Some own)
    → (i ≡ code.returns_nothing → type ≡ None) → (result : Option (Value ℕ)) → IsResult program heap i result → IsResultOf program heap type result
of_type program heap i type (by_value own) value nothing (Some v) h = subst (λ (o : Option FieldDesc). IsResultOf program heap o (Some v)) (sym (value own refl)) h
of_type program heap i type (by_value own) value nothing None h = absurd h
of_type program heap i type by_nothing value nothing (Some v) h = absurd h
of_type program heap i type by_nothing value nothing None h = subst (λ (o : Option FieldDesc). IsResultOf program heap o None) (sym (nothing refl)) h

no_kind : (program : Program) (o : Option MethodDesc) → is_some (result_kind_of program o) ≡ false → result_of o ≡ None
no_kind program None h = never (sym h)
no_kind program (Some type) h = by_result type.result h
  where
    by_result : (r : Option FieldDesc) → is_some (option_map (kind_of_type program) r) ≡ false → r ≡ None
    by_result None h = refl
    by_result (Some own) h = never (sym h)

module _ (program : Program) (sound : HasSoundHierarchy program) (all : AreAllTyped program) (labels : Labels) (inputs : List SourceInput) (s : State) (state : IsTypedState program s)
    (t : ℕ) (thread : Thread) (f : Frame) (below : List Frame) (at : slice_get s.threads t ≡ Some thread) (none : thread.pending ≡ None) (frames : thread.frames ≡ f ∷ below)
    (right : (of : Code) → code_at program f.method ≡ Some of → HasSoundCode program f.method of) where
  ready : IsReady program s.heap f
  ready = (top_ready program labels inputs s state t thread f below at none frames).0

  waiting : AreWaiting program s.heap f.method below
  waiting = (top_ready program labels inputs s state t thread f below at none frames).1

  own_result : (i : Instruction) (next : ℕ) → StandsOn program f ready.has_shape.typable i next → IsReturn i → (result : Option (Value ℕ)) → IsResult program s.heap i result
      → IsResultOf program s.heap (result_of (method_desc (method_at program f.method))) result
  unfolding effect_of
  own_result i next stands returns result h =
      of_type program s.heap i (result_of (method_desc (method_at program f.method))) returns value nothing result h
    where
      shown : HasShape program f ready.shape
      shown = ready.has_shape

      value : (own : FieldDesc) → i ≡ code.returns_value own → result_of (method_desc (method_at program f.method)) ≡ Some own
      value own e = insn_says program f.method shown.typable.code.bytes f.pc stands.insn (code.returns_value own) (stands.is_insn ∙ ap (λ (x : Instruction). Some x) e)

      nothing : i ≡ code.returns_nothing → result_of (method_desc (method_at program f.method)) ≡ None
      nothing e =
          let insn_is : stands.insn ≡ Plain 177 = insn_says program f.method shown.typable.code.bytes f.pc stands.insn code.returns_nothing (stands.is_insn ∙ ap (λ (x : Instruction). Some x) e) in
          let wrong : (effect_of program f.method shown.typable.method (Plain 177)).wrong ≡ false =
          subst (λ (insn : Insn). (effect_of program f.method shown.typable.method insn).wrong ≡ false) insn_is
          (subst (λ (x : Effect). x.wrong ≡ false) stands.effect_is (not_wrong program f ready.shape shown (all.typed f.method))) in
          ap (λ (o : Option Method). result_of (method_desc o)) shown.is_typable.1 ∙ no_kind program (method_desc_in shown.typable.method.desc) wrong

  pub return_typed : (i : Instruction) (next : ℕ) → instruction_at program f.method f.pc ≡ Some (i, next) → is_return i ≡ true → HasTypedStep program (step program labels inputs s t)
  return_typed i next is returns =
      let shown = ready.has_shape in
      let typed = all.typed f.method in
      let a_return = return_of i returns in
      let stands = stands_on program f ready.shape shown typed i next is in
      let has = has_effect program s f typed ready (right shown.typable.code (code_is program f ready.shape shown typed)) i next stands (not_calling i a_return) in
      let given = frame_gives program s.heap f typed ready i has in
      let goes = instructions_go program sound s state.objects state i (effect_at program shown.typable f.pc) has ready.shape given.values given.given in
      let alone = returns_alone (ways program s) (fits program) i a_return (read_from s (cell_read (info_at s) i given.values)) given.values goes.gives goes.is_given in
      let result = result_follows program s i (effect_at program shown.typable f.pc) ready.shape goes.gives alone.0 (ap (λ (o : Outcome ℕ). o.effect) alone.1) goes.follows in
      by_top program labels inputs s state t thread f below at none frames i next is
      (subst (HasTypedStep program) (sym (no_call program labels inputs s t f below next i (effect_at program shown.typable f.pc) has))
      (subst (λ (o : Option (List (Value ℕ) × List (Value ℕ))). HasTypedStep program (executed program s t f below next i o)) (sym given.is_fetched)
      (subst (λ (o : Option (Outcome ℕ)). HasTypedStep program (apply_outcome program s t f below next given.rest o)) (sym (goes.is_given ∙ ap (λ (o : Outcome ℕ). Some o) alone.1))
      (record {
        next = _;
        is_next = refl;
        typed = frames_set program s state t thread at (resumed program alone.0 below) None
            (resumed_frames program sound all s.heap f.method below waiting alone.0 (own_result i next stands a_return alone.0 result)) (λ a no_one. absurd (cc));
      }))))
