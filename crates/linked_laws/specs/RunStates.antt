-- The states that a program's runs come to, by steps of threads that may step (this project's own).
use Rattle.std.specs.Prelude.{◌≡◌, ℕ, List, Contains, Some}
use Rattle.jo_prog.specs.declared.labels.Labels.{Labels}
use Rattle.jo_prog.specs.declared.program.Program.{Program}
use Rattle.jo_prog.specs.declared.runs.SourceInput.{SourceInput}
use Rattle.jo_prog.specs.Machine.{State, Stepped, start}
use Rattle.machine.specs.Runs.{enabled}
use Rattle.machine.specs.Steps.{step}

pub data IsStateOfRun (program : Program) (labels : Labels) (inputs : List SourceInput) : State → Type 0 where
  at_start : IsStateOfRun program labels inputs (start program labels)
  goes_on : (s : State) (t : ℕ) (next : Stepped) → IsStateOfRun program labels inputs s → Contains (enabled program labels s) t → step program labels inputs s t ≡ Some next
      → IsStateOfRun program labels inputs next.state
