-- What waits: a call that joins a thread.
use Rattle.std.proofs.Common.{◌≡◌, sym, refl, ℕ, false, List, Option, Some, None, option_map}
use Rattle.std.proofs.lemmas.Bool.{false≢true}
use Rattle.jo_prog.specs.declared.program.Program.{Program}
use Rattle.jo_prog.specs.declared.program.TypeRef.{TypeRef}
use Rattle.jo_prog.specs.declared.labels.Labels.{Labels}
use Rattle.jo_prog.specs.Values.{Value}
use Rattle.jo_prog.specs.Machine.{Frame, State}
use Rattle.machine.specs.Instructions.{Instruction, calls}
use Rattle.machine.specs.Runs.{waits_for, waits_with, waits_at}
use Rattle.jvm_values.specs.declared.resolved.Instruction.{Instruction as OfInstruction}
use Rattle.jvm_values.specs.declared.resolved.Instruction.TheVariants.{Calls}
use Rattle.jvm_values.specs.Resolved.{seen}
use Rattle.jvm_calls.specs.declared.invocation.Call.{Call}
use Rattle.jvm_calls.specs.declared.invocation.Invoked.{Invoked}
use Rattle.jvm_calls.specs.declared.invocation.Invoked.TheVariants.{Joins}
use Rattle.jvm_calls.specs.Invokes.{invoked_of}
use Rattle.resolved_insns.specs.Tables.{is_call}
use Rattle.jvm_step.specs.Fetches.{called_by}

-- only a join waits
pub waits_not : (s : State) (values : List (Value ℕ)) (found : Option Invoked) → ((a : ℕ) → found ≡ Some (Joins a) → ⊥) → false ≡ waits_for s (option_map (invoked_of values) found)
waits_not s values None other = refl
waits_not s values (Some (Joins a)) other = absurd (other a refl)
waits_not s values (Some found) other = refl

module _ (program : Program) (labels : Labels) (s : State) (f : Frame) where
  pub waits_if_called : (call : Call) (found : Option (List (Value ℕ) × List (Value ℕ))) → waits_for s (called_by program labels s f.method call found) ≡ waits_with program labels s f call.op call.owner.now call.method found
  waits_if_called call None = refl
  waits_if_called call (Some found) = refl

  -- only a call waits
  pub instruction_waits_not : (next : ℕ) (i : OfInstruction) → ((op m count : ℕ) (owner : TypeRef) → i ≡ Calls op owner m count → ⊥) → false ≡ waits_at program labels s f (Some (seen program i, next))
  instruction_waits_not next (Calls op owner m count) other = absurd (other op m count owner refl)
  instruction_waits_not next i other = refl

  pub no_call_waits : (found : Option (Instruction × ℕ)) → is_call found ≡ false → false ≡ waits_at program labels s f found
  no_call_waits (Some (calls op owner m count, next)) is = absurd (false≢true (sym is))
  no_call_waits found is = refl
