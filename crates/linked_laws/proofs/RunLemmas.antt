-- Where typed steps go on, each state of a run is typed.
use Rattle.std.proofs.Common.{◌≡◌, ◌∙◌, ℕ, List, Some, sym, subst}
use Rattle.std.specs.List.{Contains}
use Rattle.std.proofs.lemmas.Option.{same_Some}
use Rattle.jo_prog.specs.declared.labels.Labels.{Labels}
use Rattle.jo_prog.specs.declared.program.Program.{Program}
use Rattle.jo_prog.specs.declared.runs.SourceInput.{SourceInput}
use Rattle.jo_prog.specs.Machine.{State, Stepped, start}
use Rattle.machine.specs.Runs.{enabled}
use Rattle.machine.specs.Steps.{step}
use Rattle.step_laws.specs.TypedStates.{IsTypedState}
use Rattle.kept_laws.specs.Kept.{HasTypedStep}
use Rattle.linked_laws.specs.RunStates.{IsStateOfRun, at_start, goes_on}

module _ (program : Program) (labels : Labels) (inputs : List SourceInput) (first : IsTypedState program (start program labels))
    (onward : (s : State) → IsTypedState program s → (t : ℕ) → Contains (enabled program labels s) t → HasTypedStep program (step program labels inputs s t)) where
  pub states_typed : {s : State} → IsStateOfRun program labels inputs s → IsTypedState program s
  states_typed at_start = first
  states_typed (goes_on s t next run among is) =
      let found = onward s (states_typed run) t among in
      subst (λ (x : Stepped). IsTypedState program x.state) (same_Some found.next next (sym found.is_next ∙ is)) found.typed

  pub steps_there : {s : State} → IsStateOfRun program labels inputs s → (t : ℕ) → Contains (enabled program labels s) t → (next : Stepped) × (step program labels inputs s t ≡ Some next)
  steps_there {s = s} run t among = let found = onward s (states_typed run) t among in (found.next, found.is_next)
