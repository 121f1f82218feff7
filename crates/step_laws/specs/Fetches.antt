-- What typing gives an instruction at a frame: the values that it pops or loads are there, each of a kind that its effect asks (JVM
-- Specification SE 8, 4.10.1 and 6.5; the form is this project's own).
use Rattle.std.specs.Prelude.{◌≡◌, ℕ, List, length, drop, Option, Some}
use Rattle.jo_prog.specs.declared.program.Program.{Program}
use Rattle.jo_prog.specs.Typing.{Shape}
use Rattle.jo_prog.specs.Shapes.{Effect}
use Rattle.jo_prog.specs.Values.{Value}
use Rattle.jo_prog.specs.Machine.{Frame, HeapObject, Stepped}
use Rattle.machine.specs.Instructions.{Instruction}
use Rattle.machine.specs.Steps.{fetched}
use Rattle.step_laws.specs.TypedStates.{IsOnStack, Pairwise}
use Rattle.step_laws.specs.Effects.{AreGiven}

pub record IsGivenValues (program : Program) (heap : List HeapObject) (instruction : Instruction) (effect : Effect) (shape : Shape) (f : Frame) : Type 0 where
  pub values : List (Value ℕ)
  pub rest : List (Value ℕ)
  pub is_fetched : fetched instruction f ≡ Some (values, rest)
  pub given : AreGiven program heap effect.reads effect.pops shape values
  -- the stack below them
  pub below : Pairwise (IsOnStack program heap) (drop (length effect.pops) shape.stack) rest

-- the machine has a next state
pub record HasStep (stepped : Option Stepped) : Type 0 where
  pub next : Stepped
  pub is_next : stepped ≡ Some next
