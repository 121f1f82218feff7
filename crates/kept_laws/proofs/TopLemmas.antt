-- The step of a thread by the instruction at which its top frame stands.
use Rattle.std.proofs.Common.{◌≡◌, ◌∙◌, ℕ, ◌≤◌, Bool, true, false, List, ◌∷◌, Option, Some, None, Ok, refl, sym, ap, subst, inl, inr, arith}
use Rattle.std.specs.Prelude.{◌==◌, nat_le, slice_get, if◌then◌else◌, option_map, option_and_then}
use Rattle.std.proofs.lemmas.Bool.{cases_Bool, and_parts, leb-true, ne_eqb}
use Rattle.jo_text.specs.declared.descriptors.MethodDesc.{MethodDesc}
use Rattle.jo_insn.specs.Instructions.{decoded}
use Rattle.jo_insn.specs.declared.instructions.Insn.{Insn}
use Rattle.jo_insn.specs.declared.instructions.Insn.TheVariants.{Plain, Local, Iinc, Push, Pooled, Array, Jump, TableSwitch, LookupSwitch}
use Rattle.jo_insn.proofs.SpelledFromDecoded.{decoded_is_spelled}
use Rattle.jo_prog.specs.declared.labels.Labels.{Labels}
use Rattle.jo_prog.specs.declared.program.Program.{Program}
use Rattle.jo_prog.specs.declared.program.Code.{Code}
use Rattle.jo_prog.specs.declared.program.MemberRef.{MemberRef}
use Rattle.jo_prog.specs.declared.program.TypeRef.{TypeRef}
use Rattle.jo_prog.specs.declared.program.Operand.{Operand}
use Rattle.jo_prog.specs.declared.program.Operand.TheVariants.{Unused, Int as IntOperand, Text, OfType, Member}
use Rattle.jo_prog.specs.declared.runs.SourceInput.{SourceInput}
use Rattle.jo_prog.specs.Program.{code_at, operand_at}
use Rattle.jo_prog.specs.MethodTypes.{method_desc_in}
use Rattle.jo_prog.specs.Operations.{within}
use Rattle.jo_prog.specs.Shapes.{Effect}
use Rattle.jo_prog.specs.InsnTyping
use Rattle.jo_prog.specs.InsnTyping.{constant_of, named_effect, pooled_effect, type_effect, effect_of}
use Rattle.jo_prog.specs.TypingPaths.{effect_at, IsTypedMethod}
use Rattle.jo_prog.specs.Machine.{Frame, Thread, State}
use Rattle.machine.specs.Instructions as code
use Rattle.machine.specs.Instructions.{Instruction, method_named, values_taken, names_field, names_method, pooled_instruction, instruction_of, instruction_at}
use Rattle.machine.specs.Steps.{step_at, step_frames, step_thread, step}
use Rattle.step_laws.specs.TypedStates.{IsReady, AreWaiting, AreFrames, IsTypedState}
use Rattle.step_laws.specs.Premises.{HasSoundHierarchy}
use Rattle.step_laws.specs.Effects.{HasEffect}
use Rattle.step_laws.specs.Tables.{asks_nothing, is_call, HasSoundCode}
use Rattle.step_laws.proofs.TypeLemmas.{never, same_some}
use Rattle.step_laws.proofs.FetchLemmas.{pops_there, all_right}
use Rattle.step_laws.proofs.StepLemmas.{asks_some, no_call}
use Rattle.step_laws.proofs.TableLemmas.{insn_effects}
use Rattle.kept_laws.specs.Going.{is_return, is_calling, HasRaisedClasses}
use Rattle.kept_laws.specs.Kept.{HasTypedStep}
use Rattle.typing_heights.specs.FirstPaths.{HasFirstPaths}
use Rattle.kept_laws.proofs.KeepLemmas.{executed_typed}
use Rattle.kept_laws.proofs.StandLemmas.{StandsOn, code_is, not_wrong, stands_on}

-- ---- a call of the class file is one of the machine

pub within_parts : (low high op : ℕ) → within low high op ≡ true → (low ≤ op) × (op ≤ high)
within_parts low high op e = let both = and_parts (nat_le low op) (nat_le op high) e in (leb-true low op both.0, leb-true op high both.1)

pub not_within : (low high op : ℕ) → ((low ≤ op) × (op ≤ high) → ⊥) → within low high op ≡ false
not_within low high op outside = elim (cases_Bool (within low high op)) [ inl is ↦ absurd (outside (within_parts low high op is)) | inr other ↦ other ]

module _ (program : Program) (m : ℕ) where
  type_wrong : (op : ℕ) (type : TypeRef) → within 182 185 op ≡ true → (type_effect program op type).wrong ≡ true
  type_wrong op type is =
      let both = within_parts 182 185 op is in
      let a : (op == 187) ≡ false = ne_eqb op 187 (λ e. omega (arith, both.1, e)) in
      let b : (op == 189) ≡ false = ne_eqb op 189 (λ e. omega (arith, both.1, e)) in
      let c : (op == 192) ≡ false = ne_eqb op 192 (λ e. omega (arith, both.1, e)) in
      let d : (op == 193) ≡ false = ne_eqb op 193 (λ e. omega (arith, both.1, e)) in
      rw (a, b, c, d) refl

  -- what a call of the class file names, where its effect isn't wrong
  pub record CallsMember (op : ℕ) (operand : Option Operand) : Type 0 where
    pub ref : MemberRef
    pub type : MethodDesc
    pub is_member : operand ≡ Some (Member ref)
    pub is_typed : method_desc_in ref.desc ≡ Some type

  pub call_operand : (current op : ℕ) (operand : Option Operand) → within 182 185 op ≡ true → (pooled_effect program current op operand).wrong ≡ false → CallsMember op operand
  call_operand current op operand is wrong = by_operand operand (subst (λ (b : Bool). (if b then constant_of operand else named_effect program current op operand).wrong ≡ false) small wrong)
    where
      small : within 18 19 op ≡ false
      small = let low = (within_parts 182 185 op is).0 in not_within 18 19 op (λ h. omega (arith, low, h.1))

      other : within 178 181 op ≡ false
      other = let low = (within_parts 182 185 op is).0 in not_within 178 181 op (λ h. omega (arith, low, h.1))

      by_type : (ref : MemberRef) (o : Option MethodDesc) → method_desc_in ref.desc ≡ o → (InsnTyping.call_effect program op current ref o).wrong ≡ false → CallsMember op (Some (Member ref))
      by_type ref None e h = never (sym h)
      by_type ref (Some type) e h = record { ref = ref; type = type; is_member = refl; is_typed = e }

      by_operand : (o : Option Operand) → (named_effect program current op o).wrong ≡ false → CallsMember op o
      by_operand None h = never (sym h)
      by_operand (Some Unused) h = never (sym h)
      by_operand (Some (IntOperand z)) h = never (sym h)
      by_operand (Some (Text text)) h = never (sym h)
      by_operand (Some (OfType type)) h = never (sym h ∙ type_wrong op type is)
      by_operand (Some (Member ref)) h = by_type ref (method_desc_in ref.desc) refl (rw (other, is) at h)

  names_calls : (op : ℕ) (ref : MemberRef) (o : Option ℕ) (p : Option MethodDesc) (i : Instruction)
      → option_and_then (λ method. option_map (λ (type : MethodDesc). code.calls op ref.owner method (values_taken op type)) p) o ≡ Some i → is_calling i ≡ true
  names_calls op ref None p i e = absurd (cc)
  names_calls op ref (Some named) None i e = absurd (cc)
  names_calls op ref (Some named) (Some type) i e = ap is_calling (sym (same_some e))

  call_calls : (current op index : ℕ) (i : Instruction) → within 182 185 op ≡ true → (pooled_effect program current op (operand_at program m index)).wrong ≡ false
      → pooled_instruction program op (operand_at program m index) ≡ Some i → is_calling i ≡ true
  call_calls current op index i is wrong e =
      let found = call_operand current op (operand_at program m index) is wrong in
      let other : within 178 181 op ≡ false = (let low = (within_parts 182 185 op is).0 in not_within 178 181 op (λ h. omega (arith, low, h.1))) in
      let e1 : pooled_instruction program op (Some (Member found.ref)) ≡ Some i = subst (λ (o : Option Operand). pooled_instruction program op o ≡ Some i) found.is_member e in
      let e2 : names_method program op found.ref ≡ Some i = subst (λ (b : Bool). (if b then names_field program op found.ref else names_method program op found.ref) ≡ Some i) other e1 in
      names_calls op found.ref (method_named program found.ref) (method_desc_in found.ref.desc) i e2

-- ---- an instruction that is no call has an effect

module _ (program : Program) (s : State) (f : Frame) (typed : IsTypedMethod program f.method) (ready : IsReady program s.heap f) where
  no_call_insn : (i : Instruction) (next : ℕ) (on : StandsOn program f ready.has_shape.typable i next) → is_calling i ≡ false → is_call on.insn ≡ false
  unfolding effect_of
  no_call_insn i next on plain = by_insn on.insn on.is_insn (subst (λ (e : Effect). e.wrong ≡ false) on.effect_is (not_wrong program f ready.shape ready.has_shape typed))
    where
      by_call : (op index : ℕ) (b : Bool) → within 182 185 op ≡ b → pooled_instruction program op (operand_at program f.method index) ≡ Some i
          → (pooled_effect program ready.has_shape.typable.method.class op (operand_at program f.method index)).wrong ≡ false → b ≡ false
      by_call op index true is e wrong = never (sym plain ∙ call_calls program f.method ready.has_shape.typable.method.class op index i is wrong e)
      by_call op index false is e wrong = refl

      by_insn : (insn : Insn) → instruction_of program f.method ready.has_shape.typable.code.bytes f.pc insn ≡ Some i → (effect_of program f.method ready.has_shape.typable.method insn).wrong ≡ false
          → is_call insn ≡ false
      by_insn (Plain op) e wrong = refl
      by_insn (Local op k wide) e wrong = refl
      by_insn (Iinc k by wide) e wrong = refl
      by_insn (Push op value) e wrong = refl
      by_insn (Pooled op index) e wrong = by_call op index (within 182 185 op) refl e wrong
      by_insn (Array kind) e wrong = refl
      by_insn (Jump op by) e wrong = refl
      by_insn (TableSwitch other low high at) e wrong = refl
      by_insn (LookupSwitch other pairs at) e wrong = refl

  -- as the bytes say
  pub record HasOwnEffect (insn : Insn) : Type 0 where
    pub instruction : Instruction
    pub is_insn : instruction_of program f.method ready.has_shape.typable.code.bytes f.pc insn ≡ Some instruction
    pub has : HasEffect program instruction (effect_at program ready.has_shape.typable f.pc)

  pub insn_has_effect : HasSoundCode program f.method ready.has_shape.typable.code → (insn : Insn) (next : ℕ) → decoded ready.has_shape.typable.code.bytes f.pc ≡ Ok (insn, next)
      → effect_at program ready.has_shape.typable f.pc ≡ effect_of program f.method ready.has_shape.typable.method insn → is_call insn ≡ false → HasOwnEffect insn
  insn_has_effect right insn next is_read effect_is no_call_there =
      let shown = ready.has_shape in
      let read = decoded_is_spelled shown.typable.code.bytes f.pc next insn right.bytes is_read in
      let wrong : (effect_of program f.method shown.typable.method insn).wrong ≡ false = subst (λ (e : Effect). e.wrong ≡ false) effect_is (not_wrong program f ready.shape shown typed) in
      let some : asks_nothing (effect_of program f.method shown.typable.method insn).pops ≡ false =
      subst (λ (e : Effect). asks_nothing e.pops ≡ false) effect_is
      (asks_some program (effect_at program shown.typable f.pc).pops ready.shape.stack (all_right program s.heap f typed ready) (pops_there program s.heap f typed ready)) in
      let known = insn_effects program f.method shown.typable.method shown.is_typable.1 shown.typable.code.bytes f.pc insn read.1 read.3
      (right.operands f.pc next insn (record { typable = shown.typable; is_typable = shown.is_typable; path = shown.path; is_path = shown.is_path; arrives = shown.arrives }) is_read)
      no_call_there wrong some in
      record { instruction = known.instruction; is_insn = known.is; has = subst (HasEffect program known.instruction) (sym effect_is) known.has }

  pub has_effect : HasSoundCode program f.method ready.has_shape.typable.code → (i : Instruction) (next : ℕ) (on : StandsOn program f ready.has_shape.typable i next) → is_calling i ≡ false
      → HasEffect program i (effect_at program ready.has_shape.typable f.pc)
  has_effect right i next on plain =
      let known = insn_has_effect right on.insn next on.is_read on.effect_is (no_call_insn i next on plain) in
      subst (λ (x : Instruction). HasEffect program x (effect_at program ready.has_shape.typable f.pc)) (same_some (sym known.is_insn ∙ on.is_insn)) known.has

-- ---- the step of a thread is that of its top frame

module _ (program : Program) (labels : Labels) (inputs : List SourceInput) (s : State) (state : IsTypedState program s) (t : ℕ) (thread : Thread) (f : Frame) (below : List Frame)
    (at : slice_get s.threads t ≡ Some thread) (none : thread.pending ≡ None) (frames : thread.frames ≡ f ∷ below) where
  pub top_ready : IsReady program s.heap f × AreWaiting program s.heap f.method below
  top_ready =
      let held : AreFrames program s.heap thread.pending thread.frames = (state.threads t thread at).frames in
      let held1 : AreFrames program s.heap None thread.frames = subst (λ (o : Option ℕ). AreFrames program s.heap o thread.frames) none held in
      subst (λ (fs : List Frame). AreFrames program s.heap None fs) frames held1

  pub by_top : (i : Instruction) (next : ℕ) → instruction_at program f.method f.pc ≡ Some (i, next) → HasTypedStep program (step_at program labels inputs s t f below (Some (i, next)))
      → HasTypedStep program (step program labels inputs s t)
  by_top i next is h =
      subst (λ (o : Option Thread). HasTypedStep program (step_thread program labels inputs s t o)) (sym at)
      (subst (λ (o : Option ℕ). HasTypedStep program (step_frames program labels inputs s t o thread.frames)) (sym none)
      (subst (λ (fs : List Frame). HasTypedStep program (step_frames program labels inputs s t None fs)) (sym frames)
      (subst (λ (o : Option (Instruction × ℕ)). HasTypedStep program (step_at program labels inputs s t f below o)) (sym is) h)))

  pub instruction_typed : HasSoundHierarchy program → HasRaisedClasses program → IsTypedMethod program f.method → HasFirstPaths program f.method
      → ((of : Code) → code_at program f.method ≡ Some of → HasSoundCode program f.method of) → (i : Instruction) (next : ℕ) → instruction_at program f.method f.pc ≡ Some (i, next)
      → is_calling i ≡ false → is_return i ≡ false → HasTypedStep program (step program labels inputs s t)
  instruction_typed sound raised typed firsts right i next is plain no_result =
      let ready = top_ready.0 in
      let shown = ready.has_shape in
      let on = stands_on program f ready.shape shown typed i next is in
      let has = has_effect program s f typed ready (right shown.typable.code (code_is program f ready.shape shown typed)) i next on plain in
      by_top i next is
      (subst (HasTypedStep program) (sym (no_call program labels inputs s t f below next i (effect_at program shown.typable f.pc) has))
      (executed_typed program sound raised s state t thread at f below typed firsts ready top_ready.1 i next has on.leads no_result))
