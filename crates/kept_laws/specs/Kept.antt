-- Steps that keep states typed (JVM Specification SE 8, 4.10; the form is this project's own).
use Rattle.std.specs.Prelude.{◌≡◌, Option, Some}
use Rattle.jo_prog.specs.declared.program.Program.{Program}
use Rattle.jo_prog.specs.Machine.{Stepped}
use Rattle.step_laws.specs.TypedStates.{IsTypedState}

-- the machine has a next state, and it is typed
pub record HasTypedStep (program : Program) (stepped : Option Stepped) : Type 0 where
  pub next : Stepped
  pub is_next : stepped ≡ Some next
  pub typed : IsTypedState program next.state
