-- Every thread that may step has a next state, which is typed.
use Rattle.std.proofs.Common.{◌≡◌, ◌∙◌, ℕ, suc, ◌+◌, ◌≤◌, Bool, true, false, List, [], ◌∷◌, ◌++◌, length, take, drop, Option, Some, None, Ok, refl, sym, ap, subst, inl, inr, arith}
use Rattle.std.specs.Prelude.{◌==◌, ◌||◌, slice_get, if◌then◌else◌, option_map, option_and_then, Contains}
use Rattle.std.proofs.lemmas.Bool.{cases_Bool, and_parts, or_cases, eqb-true}
use mathlib.Core.List.{reverse}
use Rattle.jo_text.specs.declared.descriptors.FieldDesc.{FieldDesc}
use Rattle.jo_text.specs.declared.descriptors.MethodDesc.{MethodDesc}
use Rattle.jo_insn.specs.Instructions.{decoded}
use Rattle.jo_insn.specs.declared.instructions.Insn.{Insn}
use Rattle.jo_insn.specs.declared.instructions.Insn.TheVariants.{Plain, Local, Iinc, Push, Pooled, Array, Jump, TableSwitch, LookupSwitch}
use Rattle.jo_prog.specs.declared.labels.Labels.{Labels}
use Rattle.jo_prog.specs.declared.program.Program.{Program}
use Rattle.jo_prog.specs.declared.program.MemberRef.{MemberRef}
use Rattle.jo_prog.specs.declared.program.TypeRef.{TypeRef}
use Rattle.jo_prog.specs.declared.program.TypeRef.TheVariants.{Class as OfClass}
use Rattle.jo_prog.specs.declared.program.Operand.TheVariants.{Member}
use Rattle.jo_prog.specs.declared.runs.SourceInput.{SourceInput}
use Rattle.jo_prog.specs.MethodTypes.{method_desc_in}
use Rattle.jo_prog.specs.Operations.{within}
use Rattle.jo_prog.specs.Program.{method_at, code_at, operand_at}
use Rattle.jo_prog.specs.Shapes.{Need, OfEach, Effect, is_interface, takes_type, fits_each}
use Rattle.jo_prog.specs.InsnTyping.{argument_needs, special_types, receiver_needs, effect_of}
use Rattle.jo_prog.specs.TypingPaths.{effect_at, IsTypedMethod}
use Rattle.jo_prog.specs.Values.{Value, ref}
use Rattle.jo_prog.specs.Machine.{Frame, Thread, State, popped, info_at}
use Rattle.machine.specs.Instructions as code
use Rattle.machine.specs.Instructions.{Instruction, method_named, values_taken, names_field, names_method, instruction_of, instruction_at, pooled_instruction, method_desc, result_of}
use Rattle.machine.specs.Invocation.{Invoked, callee, type_of, invoked}
use Rattle.machine.specs.Heaps.{was_started}
use Rattle.machine.specs.Steps.{class_of_method, called, invoked_step, call_step, step}
use Rattle.machine.specs.Runs.{may_step, enabled_from, enabled}
use Rattle.step_laws.specs.TypedStates.{IsOnStack, Pairwise, one_more, HasShape, IsReady, StandsAt, IsTypedState}
use Rattle.step_laws.specs.Effects.{ArePopped}
use Rattle.step_laws.specs.Needs.{InfoMeets, StandsWith, Meets}
use Rattle.step_laws.specs.Tables.{is_call}
use Rattle.step_laws.proofs.TypeLemmas.{never, same_some}
use Rattle.step_laws.proofs.FetchLemmas.{popped_is, pairwise_length, pairwise_drop, popped_given, pops_there, all_right}
use Rattle.jo_prog.proofs.WalkLemmas.{none_there, head_or_behind}
use Rattle.kept_laws.specs.Going.{is_return, is_calling}
use Rattle.kept_laws.specs.Kept.{HasTypedStep}
use Rattle.kept_laws.specs.Premises.{IsSoundCall, HasPremises}
use Rattle.kept_laws.specs.Calls.{ComesTo}
use Rattle.kept_laws.proofs.UnwindLemmas.{unwinding_typed}
use Rattle.kept_laws.proofs.StandLemmas.{IsCallOf, code_is, not_wrong, ReadsAt, reads_at}
use Rattle.kept_laws.proofs.TopLemmas.{within_parts, not_within, CallsMember, call_operand, insn_has_effect, top_ready, by_top, instruction_typed}
use Rattle.kept_laws.proofs.ReturnLemmas.{return_typed}
use Rattle.kept_laws.proofs.CallLemmas.{on, call, is_within, effect_is, count_is, result_is}
use Rattle.kept_laws.proofs.InvokeLemmas.{invoked_typed}
use Rattle.kept_laws.proofs.TakenLemmas.{takes_fits}
use Rattle.kept_laws.proofs.CalledLemmas.{asked, given_in_order, comes}

-- ---- a thread whose top frame stands at a call

module _ (program : Program) (labels : Labels) (inputs : List SourceInput) (premises : HasPremises program labels inputs) (s : State) (state : IsTypedState program s)
    (t : ℕ) (thread : Thread) (f : Frame) (below : List Frame) (at : slice_get s.threads t ≡ Some thread) (none : thread.pending ≡ None) (frames : thread.frames ≡ f ∷ below) where
  abbrev ready : IsReady program s.heap f
  ready = (top_ready program labels inputs s state t thread f below at none frames).0

  abbrev shown : HasShape program f ready.shape
  shown = ready.has_shape

  abbrev typed : IsTypedMethod program f.method
  typed = premises.all_typed.typed f.method

  own_code : code_at program f.method ≡ Some shown.typable.code
  own_code = code_is program f ready.shape shown typed

  abbrev current : ℕ
  current = class_of_method (method_at program f.method)

  current_is : current ≡ shown.typable.method.class
  current_is = ap class_of_method shown.is_typable.1

  no_interface : is_interface program (OfClass current) ≡ false
  no_interface = premises.methods.bodies f.method shown.typable.code own_code

  sound_call : (op index next : ℕ) (to : MemberRef) → decoded shown.typable.code.bytes f.pc ≡ Ok (Pooled op index, next) → within 182 185 op ≡ true → operand_at program f.method index ≡ Some (Member to)
      → IsSoundCall program current op to
  sound_call op index next to read is names = (premises.calls f.method shown.typable.code own_code).calls f.pc next op index to
      (record { typable = shown.typable; is_typable = shown.is_typable; path = shown.path; is_path = shown.is_path; arrives = shown.arrives }) read is names

  module _ (op : ℕ) (owner : TypeRef) (named count next : ℕ) (at_call : instruction_at program f.method f.pc ≡ Some (code.calls op owner named count, next)) where
    abbrev it : IsCallOf program f.method (on program premises.hierarchy.no_cycle f ready.shape shown typed op owner named count next at_call).insn op owner named count
    it = call program premises.hierarchy.no_cycle f ready.shape shown typed op owner named count next at_call

    is_a_call : within 182 185 op ≡ true
    is_a_call = is_within program premises.hierarchy.no_cycle f ready.shape shown typed op owner named count next at_call

    right : IsSoundCall program current op it.ref
    right =
        let stands = on program premises.hierarchy.no_cycle f ready.shape shown typed op owner named count next at_call in
        sound_call op it.index next it.ref (stands.is_read ∙ ap (λ (insn : Insn). Ok (insn, next)) it.is_insn) is_a_call it.names

    named_is : right.named ≡ named
    named_is = same_some (sym right.is_named ∙ it.is_named)

    abbrev needs : List Need
    needs = argument_needs program it.type.params ++ receiver_needs program op current it.ref

    pops_are : (effect_at program shown.typable f.pc).pops ≡ needs
    pops_are =
        ap (λ (e : Effect). e.pops) (effect_is program premises.hierarchy.no_cycle f ready.shape shown typed op owner named count next at_call)
        ∙ ap (λ (c : ℕ). argument_needs program it.type.params ++ receiver_needs program op c it.ref) (sym current_is)

    count_there : length (effect_at program shown.typable f.pc).pops ≡ count
    count_there = count_is program premises.hierarchy.no_cycle f ready.shape shown typed op owner named count next at_call

    values_popped : ArePopped program s.heap needs ready.shape.stack (take count f.stack)
    values_popped =
        subst (λ (ns : List Need). ArePopped program s.heap ns ready.shape.stack (take count f.stack)) pops_are
        (subst (λ (n : ℕ). ArePopped program s.heap (effect_at program shown.typable f.pc).pops ready.shape.stack (take n f.stack)) count_there
        (popped_given program s.heap (effect_at program shown.typable f.pc).pops ready.shape.stack f.stack (all_right program s.heap f typed ready) (pops_there program s.heap f typed ready) ready.stack))

    enough : count ≤ length f.stack
    enough = omega (arith, count_there, pops_there program s.heap f typed ready, pairwise_length (IsOnStack program s.heap) ready.shape.stack f.stack ready.stack)

    outcome : ComesTo program s it.type.result (called program labels s f.method op owner named (take count f.stack))
    outcome =
        subst (λ (type : TypeRef). ComesTo program s it.type.result (invoked (callee program labels current op type named) (info_at s) (was_started s) (reverse (take count f.stack)))) it.of_owner
        (subst (λ (m : ℕ). ComesTo program s it.type.result (invoked (callee program labels current op it.ref.owner m) (info_at s) (was_started s) (reverse (take count f.stack)))) named_is
        (comes program labels premises.hierarchy premises.methods premises.threads premises.natives s state current op it.ref it.type right (within_parts 182 185 op is_a_call) no_interface it.is_typed
        (reverse (take count f.stack)) (given_in_order program premises.hierarchy s state op current it.ref it.type.params ready.shape.stack (take count f.stack) values_popped)))

    pub call_typed : HasTypedStep program (step program labels inputs s t)
    call_typed = by_top program labels inputs s state t thread f below at none frames (code.calls op owner named count) next at_call
        (subst (λ (o : Option (List (Value ℕ) × List (Value ℕ))). HasTypedStep program (call_step program labels inputs s t f below next op owner named o)) (sym (popped_is count f.stack enough))
        (subst (λ (o : Option (Invoked ℕ)). HasTypedStep program (invoked_step program inputs s t f below next (drop count f.stack) o)) (sym outcome.is_outcome)
        (invoked_typed program premises.hierarchy premises.raised premises.all_typed inputs premises.ints s state t thread at f below ready
        (top_ready program labels inputs s state t thread f below at none frames).1 op owner named count next at_call (drop count f.stack)
        (pairwise_drop (IsOnStack program s.heap) count ready.shape.stack f.stack ready.stack) outcome.outcome outcome.follows)))

    -- in the terms of the method that is named
    pub come_to : (values rest : List (Value ℕ)) → popped count f.stack ≡ Some (values, rest)
        → ComesTo program s (result_of (method_desc (method_at program named))) (called program labels s f.method op owner named values)
    come_to values rest is_popped =
        let same : take count f.stack ≡ values = ap (λ (p : List (Value ℕ) × List (Value ℕ)). p.0) (same_some (sym (popped_is count f.stack enough) ∙ is_popped)) in
        subst (λ (vs : List (Value ℕ)). ComesTo program s (result_of (method_desc (method_at program named))) (called program labels s f.method op owner named vs)) same
        (subst (λ (type : Option FieldDesc). ComesTo program s type (called program labels s f.method op owner named (take count f.stack)))
        (sym (result_is program premises.hierarchy.no_cycle f ready.shape shown typed op owner named count next at_call)) outcome)

    -- ---- its receiver

    receiver_first : (a : ℕ) (more : List TypeRef) (needs : List Need) (vs arguments : List (Value ℕ)) → vs ≡ ref a ∷ arguments
        → Pairwise (Meets program s.heap) (OfEach (it.ref.owner ∷ more) ∷ needs) vs → StandsWith s.heap a (InfoMeets program (OfEach (it.ref.owner ∷ more)))
    receiver_first a more needs vs arguments is (one_more need v others rest h later) =
        let same : v ≡ ref a = (let e = is in cc) in
        subst (Meets program s.heap (OfEach (it.ref.owner ∷ more))) same h

    receiver_of : (a : ℕ) (more : List TypeRef) → (op == 182 || op == 183) ≡ true → StandsWith s.heap a (InfoMeets program (OfEach (it.ref.owner ∷ more))) → StandsAt program s.heap a owner
    receiver_of a more by_class stands =
        let first = and_parts (takes_type program (type_of stands.found.info) it.ref.owner) (fits_each program (type_of stands.found.info) more) stands.fits in
        subst (StandsAt program s.heap a) it.of_owner
        (record { found = stands.found; is_there = stands.is_there; fits = takes_fits program premises.hierarchy (type_of stands.found.info) it.ref.owner (right.of_class by_class) first.0 })

    pub receiver_below : (op == 182 || op == 183) ≡ true → (values rest arguments : List (Value ℕ)) (a : ℕ) → popped count f.stack ≡ Some (values, rest) → reverse values ≡ ref a ∷ arguments
        → StandsAt program s.heap a owner
    receiver_below by_class values rest arguments a is_popped is =
        let same : take count f.stack ≡ values = ap (λ (p : List (Value ℕ) × List (Value ℕ)). p.0) (same_some (sym (popped_is count f.stack enough) ∙ is_popped)) in
        by_tests (op == 184) (op == 183) refl (subst (λ (vs : List (Value ℕ)). Pairwise (Meets program s.heap) (receiver_needs program op current it.ref ++ asked program premises.hierarchy s state it.type.params) (reverse vs)) same
        (given_in_order program premises.hierarchy s state op current it.ref it.type.params ready.shape.stack (take count f.stack) values_popped))
      where
        no_static : (op == 184) ≡ true → ⊥
        no_static e =
            let is_static = eqb-true op 184 e in
            elim (or_cases (op == 182) (op == 183) by_class) [
              | inl same ↦ let other = eqb-true op 182 same in omega (arith, is_static, other)
              | inr same ↦ let other = eqb-true op 183 same in omega (arith, is_static, other)
            ]

        by_tests : (x y : Bool) → (op == 184) ≡ x
            → Pairwise (Meets program s.heap) ((if x then [] else if y then OfEach (it.ref.owner ∷ special_types program current it.ref) ∷ [] else OfEach (it.ref.owner ∷ []) ∷ []) ++ asked program premises.hierarchy s state it.type.params) (reverse values)
            → StandsAt program s.heap a owner
        by_tests true y e held = absurd (no_static e)
        by_tests false true e held = receiver_of a (special_types program current it.ref) by_class (receiver_first a (special_types program current it.ref) _ (reverse values) arguments is held)
        by_tests false false e held = receiver_of a [] by_class (receiver_first a [] _ (reverse values) arguments is held)

  -- ---- whatever the top frame stands at

  pub record StandsSomewhere : Type 0 where
    pub instruction : Instruction
    pub next : ℕ
    pub is_there : instruction_at program f.method f.pc ≡ Some (instruction, next)

  module _ (r : ReadsAt program f ready.shape shown typed) where
    there : (i : Instruction) → instruction_of program f.method shown.typable.code.bytes f.pc r.insn ≡ Some i → StandsSomewhere
    there i is = record { instruction = i; next = r.next; is_there = r.at ∙ ap (option_map (λ (x : Instruction). (x, r.next))) is }

    wrong_not : (effect_of program f.method shown.typable.method r.insn).wrong ≡ false
    wrong_not = subst (λ (e : Effect). e.wrong ≡ false) r.effect_is (not_wrong program f ready.shape shown typed)

    by_member : (op index : ℕ) → r.insn ≡ Pooled op index → within 182 185 op ≡ true → (effect_of program f.method shown.typable.method (Pooled op index)).wrong ≡ false → StandsSomewhere
    unfolding effect_of
    by_member op index is within_calls wrong =
        let found : CallsMember program f.method op (operand_at program f.method index) = call_operand program f.method shown.typable.method.class op (operand_at program f.method index) within_calls wrong in
        let sound = sound_call op index r.next found.ref (r.is_read ∙ ap (λ (insn : Insn). Ok (insn, r.next)) is) within_calls found.is_member in
        let no_field : within 178 181 op ≡ false = (let low = (within_parts 182 185 op within_calls).0 in not_within 178 181 op (λ h. omega (arith, low, h.1))) in
        let first : pooled_instruction program op (operand_at program f.method index) ≡ names_method program op found.ref =
        ap (pooled_instruction program op) found.is_member ∙ ap (λ (b : Bool). if b then names_field program op found.ref else names_method program op found.ref) no_field in
        let second : names_method program op found.ref ≡ Some (code.calls op found.ref.owner sound.named (values_taken op found.type)) =
        ap (option_and_then (λ method. option_map (λ (type : MethodDesc). code.calls op found.ref.owner method (values_taken op type)) (method_desc_in found.ref.desc))) sound.is_named
        ∙ ap (option_map (λ (type : MethodDesc). code.calls op found.ref.owner sound.named (values_taken op type))) found.is_typed in
        there (code.calls op found.ref.owner sound.named (values_taken op found.type)) (ap (instruction_of program f.method shown.typable.code.bytes f.pc) is ∙ first ∙ second)

    by_call : (insn : Insn) → r.insn ≡ insn → is_call insn ≡ true → StandsSomewhere
    by_call (Plain op) is e = never e
    by_call (Local op k wide) is e = never e
    by_call (Iinc k by wide) is e = never e
    by_call (Push op value) is e = never e
    by_call (Pooled op index) is e = by_member op index is e (subst (λ (insn : Insn). (effect_of program f.method shown.typable.method insn).wrong ≡ false) is wrong_not)
    by_call (Array kind) is e = never e
    by_call (Jump op by) is e = never e
    by_call (TableSwitch other low high table) is e = never e
    by_call (LookupSwitch other pairs table) is e = never e

    by_insn : StandsSomewhere
    by_insn = elim (cases_Bool (is_call r.insn)) [
      | inl e ↦ by_call r.insn refl e
      | inr e ↦
          let known = insn_has_effect program s f typed ready (premises.code f.method shown.typable.code own_code) r.insn r.next r.is_read r.effect_is e in
          there known.instruction known.is_insn
    ]

  stands : StandsSomewhere
  stands = by_insn (reads_at program f ready.shape shown typed)

  by_instruction : (i : Instruction) (next : ℕ) → instruction_at program f.method f.pc ≡ Some (i, next) → HasTypedStep program (step program labels inputs s t)
  by_instruction i next is = by_calling i is
    where
      others : (x : Instruction) → instruction_at program f.method f.pc ≡ Some (x, next) → is_calling x ≡ false → HasTypedStep program (step program labels inputs s t)
      others x is plain = elim (cases_Bool (is_return x)) [
        | inl e ↦ return_typed program premises.hierarchy premises.all_typed labels inputs s state t thread f below at none frames (premises.code f.method) x next is e
        | inr e ↦ instruction_typed program labels inputs s state t thread f below at none frames premises.hierarchy premises.raised typed (premises.all_typed.firsts f.method) (premises.code f.method) x next is plain e
      ]

      by_calling : (x : Instruction) → instruction_at program f.method f.pc ≡ Some (x, next) → HasTypedStep program (step program labels inputs s t)
      by_calling (code.calls op owner named count) is = call_typed op owner named count next is
      by_calling code.passes is = others code.passes is refl
      by_calling code.pushes_null is = others code.pushes_null is refl
      by_calling (code.pushes_int z) is = others (code.pushes_int z) is refl
      by_calling (code.pushes_text text) is = others (code.pushes_text text) is refl
      by_calling (code.loads k) is = others (code.loads k) is refl
      by_calling (code.stores k) is = others (code.stores k) is refl
      by_calling (code.increments k by) is = others (code.increments k by) is refl
      by_calling code.loads_element is = others code.loads_element is refl
      by_calling code.stores_element is = others code.stores_element is refl
      by_calling (code.shuffles op) is = others (code.shuffles op) is refl
      by_calling (code.computes op) is = others (code.computes op) is refl
      by_calling code.negates is = others code.negates is refl
      by_calling (code.narrows op) is = others (code.narrows op) is refl
      by_calling (code.tests op target) is = others (code.tests op target) is refl
      by_calling (code.compares op target) is = others (code.compares op target) is refl
      by_calling (code.compares_references op target) is = others (code.compares_references op target) is refl
      by_calling (code.tests_null op target) is = others (code.tests_null op target) is refl
      by_calling (code.jumps_to target) is = others (code.jumps_to target) is refl
      by_calling (code.switches cases other) is = others (code.switches cases other) is refl
      by_calling (code.returns_value type) is = others (code.returns_value type) is refl
      by_calling code.returns_nothing is = others code.returns_nothing is refl
      by_calling (code.gets_static g) is = others (code.gets_static g) is refl
      by_calling (code.puts_static g type) is = others (code.puts_static g type) is refl
      by_calling (code.gets_field g) is = others (code.gets_field g) is refl
      by_calling (code.puts_field g type) is = others (code.puts_field g type) is refl
      by_calling (code.creates c) is = others (code.creates c) is refl
      by_calling (code.creates_array type) is = others (code.creates_array type) is refl
      by_calling code.measures is = others code.measures is refl
      by_calling code.throws is = others code.throws is refl
      by_calling (code.casts type) is = others (code.casts type) is refl
      by_calling (code.checks type) is = others (code.checks type) is refl

  pub top_typed : HasTypedStep program (step program labels inputs s t)
  top_typed = by_instruction stands.instruction stands.next stands.is_there

-- ---- threads that may step

module _ (program : Program) (labels : Labels) (inputs : List SourceInput) (premises : HasPremises program labels inputs) (s : State) (state : IsTypedState program s) where
  by_frames : (t : ℕ) (thread : Thread) → slice_get s.threads t ≡ Some thread → (pending : Option ℕ) (frames : List Frame) → thread.pending ≡ pending → thread.frames ≡ frames
      → may_step program labels s pending frames ≡ true → HasTypedStep program (step program labels inputs s t)
  by_frames t thread at pending [] e is may = never may
  by_frames t thread at (Some a) (f ∷ below) e is may =
      unwinding_typed program labels inputs s state t thread f below a at e is (premises.all_typed.typed f.method) (premises.all_typed.firsts f.method)
  by_frames t thread at None (f ∷ below) e is may = top_typed program labels inputs premises s state t thread f below at e is

  -- the first of these threads has the number first
  listed : (first : ℕ) (threads : List Thread) (t : ℕ) → Contains (enabled_from program labels s first threads) t
      → (k : ℕ) × (thread : Thread) × (t ≡ first + k) × (slice_get threads k ≡ Some thread) × (may_step program labels s thread.pending thread.frames ≡ true)
  listed first [] t c = absurd (none_there t c)
  listed first (thread ∷ threads) t c = by_test (may_step program labels s thread.pending thread.frames) refl c (λ later. listed (suc first) threads t later)
    where
      by_later : (k : ℕ) × (other : Thread) × (t ≡ suc first + k) × (slice_get threads k ≡ Some other) × (may_step program labels s other.pending other.frames ≡ true)
          → (k : ℕ) × (other : Thread) × (t ≡ first + k) × (slice_get (thread ∷ threads) k ≡ Some other) × (may_step program labels s other.pending other.frames ≡ true)
      by_later found = (suc found.0, found.1, (let e = found.2 in omega (arith, e)), found.3, found.4)

      by_test : (b : Bool) → may_step program labels s thread.pending thread.frames ≡ b
          → Contains (if b then first ∷ enabled_from program labels s (suc first) threads else enabled_from program labels s (suc first) threads) t
          → (Contains (enabled_from program labels s (suc first) threads) t → (k : ℕ) × (other : Thread) × (t ≡ suc first + k) × (slice_get threads k ≡ Some other) × (may_step program labels s other.pending other.frames ≡ true))
          → (k : ℕ) × (other : Thread) × (t ≡ first + k) × (slice_get (thread ∷ threads) k ≡ Some other) × (may_step program labels s other.pending other.frames ≡ true)
      by_test true may c go = elim (head_or_behind first (enabled_from program labels s (suc first) threads) t c) [
        | inl same ↦ (0, thread, (let e = same in omega (arith, e)), refl, may)
        | inr later ↦ by_later (go later)
      ]
      by_test false may c go = by_later (go c)

  pub enabled_typed : (t : ℕ) → Contains (enabled program labels s) t → HasTypedStep program (step program labels inputs s t)
  enabled_typed t c =
      let found = listed 0 s.threads t c in
      let same : t ≡ found.0 = omega (arith, found.2) in
      by_frames t found.1 (ap (slice_get s.threads) same ∙ found.3) found.1.pending found.1.frames refl refl found.4
