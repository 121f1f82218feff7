-- A step by where a thread stands.
use Rattle.std.proofs.Common.{◌≡◌, ◌∙◌, sym, ap, refl, subst, ℕ, List, [], ◌∷◌, Option, Some, Result, Ok, slice_get}
use Rattle.std.specs.Prelude.{IfSome}
use Rattle.std.specs.declared.alloc.AllocError.{AllocError}
use Rattle.jo_prog.specs.declared.program.Program.{Program}
use Rattle.jo_prog.specs.declared.program.TypeRef.{TypeRef}
use Rattle.jo_prog.specs.declared.labels.Labels.{Labels}
use Rattle.jo_prog.specs.declared.runs.SourceInput.{SourceInput}
use Rattle.jo_prog.specs.Machine.{Frame, State, Stepped}
use Rattle.machine.specs.Instructions.{Instruction as OfInstruction, instruction_at}
use Rattle.machine.specs.Steps.{fetched, executed, unwound, step_at, step}
use Rattle.jvm_values.specs.declared.resolved.Instruction.{Instruction}
use Rattle.jvm_values.specs.declared.resolved.Instruction.TheVariants.{Calls}
use Rattle.jvm_values.specs.declared.resolved.Resolved.{Resolved}
use Rattle.jvm_values.specs.Resolved.{seen, IsSeenAt}
use Rattle.jvm_step.specs.declared.moves.Moved.{Moved}
use Rattle.jvm_step.specs.declared.moves.Moved.TheVariants.{Stuck}
use Rattle.jvm_step.specs.declared.states.Standing.TheVariants.{Ended, Thrown, Here}
use Rattle.jvm_step.specs.States.{HasTop, frames_at}
use Rattle.jvm_step.specs.Moves.{Steps, StepsAt}
use Rattle.jvm_step.specs.Standings.{StandsAs}
use Rattle.jvm_step.proofs.StateLemmas.{step_ended, step_thrown, step_here}

-- what a look-up has found is the machine's instruction
pub found_seen : (program : Program) (wanted : Option (OfInstruction × ℕ)) (found : Option Resolved) (one : Resolved) → Some one ≡ found
    → IfSome found (λ r. IsSeenAt program wanted (Some r)) → IsSeenAt program wanted (Some one)
found_seen program wanted found one is sound =
    let P : Option Resolved → Type 0 = λ o. IfSome o (λ r. IsSeenAt program wanted (Some r)) in
    subst P (sym is) sound

module _ (program : Program) (labels : Labels) (inputs : List SourceInput) (t : ℕ) where
  -- an instruction that is no call is executed
  pub executes : (s : State) (f : Frame) (below : List Frame) (next : ℕ) (i : Instruction) → ((op m count : ℕ) (owner : TypeRef) → i ≡ Calls op owner m count → ⊥)
      → executed program s t f below next (seen program i) (fetched (seen program i) f) ≡ step_at program labels inputs s t f below (Some (seen program i, next))
  executes s f below next (Calls op owner m count) other = absurd (other op m count owner refl)
  executes s f below next i other = refl

  module _ (old : State) where
    pub ended_stuck : StandsAs (slice_get old.threads t) Ended → Steps old old (step program labels inputs old t) (Ok Stuck)
    ended_stuck stands = (step_ended program labels inputs old t (slice_get old.threads t) stands, refl)

    pub method_here : (m pc : ℕ) → StandsAs (slice_get old.threads t) (Here m pc) → (f : Frame) (below : List Frame) → HasTop old.threads t f below → f.method ≡ m
    method_here m pc (g, (others, (there, (pending, (same_m, same_pc))))) f below top =
        let both : f ∷ below ≡ g ∷ others = sym top ∙ there in
        let same : f ≡ g = cc in
        ap (λ (h : Frame). h.method) same ∙ same_m

    -- a thread that stands so has a frame
    pub thrown_has_frame : {P : Type 0} (a : ℕ) → StandsAs (slice_get old.threads t) (Thrown a) → frames_at (slice_get old.threads t) ≡ [] → P
    thrown_has_frame a (f, (below, (top, pending))) none = let both : ◌≡◌ {A = List Frame} [] (f ∷ below) = sym none ∙ top in absurd (cc)

    pub here_has_frame : {P : Type 0} (m pc : ℕ) → StandsAs (slice_get old.threads t) (Here m pc) → frames_at (slice_get old.threads t) ≡ [] → P
    here_has_frame m pc (f, (below, (top, rest))) none = let both : ◌≡◌ {A = List Frame} [] (f ∷ below) = sym none ∙ top in absurd (cc)

    module _ (new : State) (result : Result Moved AllocError) where
      pub thrown_steps : (a : ℕ) → StandsAs (slice_get old.threads t) (Thrown a) → StepsAt old new t (λ f below. unwound program old t f below a) result
          → Steps old new (step program labels inputs old t) result
      thrown_steps a (f, (below, (top, pending))) steps =
          subst (λ (w : Option Stepped). Steps old new w result) (sym (step_thrown program labels inputs old t (slice_get old.threads t) f below a top pending)) (steps f below top)

      pub here_steps : (m pc : ℕ) → StandsAs (slice_get old.threads t) (Here m pc) → StepsAt old new t (λ f below. step_at program labels inputs old t f below (instruction_at program m pc)) result
          → Steps old new (step program labels inputs old t) result
      here_steps m pc (f, (below, (top, (pending, (same_m, same_pc))))) steps =
          let at : ℕ → ℕ → Option Stepped = λ n k. step_at program labels inputs old t f below (instruction_at program n k) in
          let is : step program labels inputs old t ≡ at m pc =
          step_here program labels inputs old t (slice_get old.threads t) f below top pending ∙ ap (λ (n : ℕ). at n f.pc) same_m ∙ ap (at m) same_pc in
          subst (λ (w : Option Stepped). Steps old new w result) (sym is) (steps f below top)
