-- Steps of threads in typed states.
use Rattle.std.proofs.Common.{◌≡◌, ℕ, List, Contains, Option, Some, None, Result, Ok, Err, sym, ap, subst, ◌∙◌}
use Rattle.std.specs.declared.alloc.AllocError.{AllocError}
use Rattle.jo_prog.specs.declared.program.Program.{Program}
use Rattle.jo_prog.specs.declared.labels.Labels.{Labels}
use Rattle.jo_prog.specs.declared.runs.SourceInput.{SourceInput}
use Rattle.jo_prog.specs.Machine.{State, Stepped}
use Rattle.machine.specs.Steps.{step}
use Rattle.machine.specs.Runs.{enabled}
use Rattle.step_laws.specs.TypedStates.{IsTypedState}
use Rattle.kept_laws.specs.Kept.{HasTypedStep}
use Rattle.kept_laws.specs.Premises.{HasPremises}
use Rattle.kept_laws.proofs.WholeLemmas.{enabled_typed}
use Rattle.jvm_step.specs.declared.moves.Moved.{Moved}
use Rattle.jvm_step.specs.declared.moves.Moved.TheVariants.{Stuck, Went}
use Rattle.jvm_step.specs.Moves.{Steps, GoesOnTyped}

abbrev next_in : Stepped → Option Stepped → Stepped
next_in other None = other
next_in other (Some next) = next

typed_by : (program : Program) (old new : State) (wanted : Option Stepped) (result : Result Moved AllocError) → Steps old new wanted result → HasTypedStep program wanted → GoesOnTyped program new result
typed_by program old new wanted (Ok Stuck) steps has = let no : ◌≡◌ {A = Option Stepped} (Some has.next) None = sym has.is_next ∙ steps.0 in absurd (cc)
typed_by program old new wanted (Ok (Went event)) steps has =
    let same = ap (next_in has.next) (sym has.is_next ∙ steps) in
    subst (λ (s : Stepped). IsTypedState program s.state) same has.typed
typed_by program old new wanted (Err memory) steps has = tt

pub goes_on_typed : (program : Program) (labels : Labels) (inputs : List SourceInput) (t : ℕ) (old new : State) (result : Result Moved AllocError) → Steps old new (step program labels inputs old t) result
    → HasPremises program labels inputs → IsTypedState program old → Contains (enabled program labels old) t → GoesOnTyped program new result
goes_on_typed program labels inputs t old new result steps premises typed among =
    typed_by program old new (step program labels inputs old t) result steps (enabled_typed program labels inputs premises old typed t among)
