-- What instructions and calls take from a frame, and what they leave.
use Rattle.std.proofs.Common.{◌≡◌, sym, ap, refl, subst, ℕ, Bool, true, false, nat_le, List, length, drop, Option, Some, None, option_map}
use Rattle.std.specs.Prelude.{IfSome, slice_get}
use Rattle.std.proofs.lemmas.Option.{none-some}
use Rattle.jo_prog.specs.declared.program.Program.{Program}
use Rattle.jo_prog.specs.declared.labels.Labels.{Labels}
use Rattle.jo_prog.specs.declared.runs.SourceInput.{SourceInput}
use Rattle.jo_prog.specs.Values.{Value}
use Rattle.jo_prog.specs.Machine.{Frame, State, info_at, popped, fetched_local}
use Rattle.machine.specs.Instructions.{Instruction, loads, increments}
use Rattle.machine.specs.Execution.{Outcome, cell_read, pops, local_taken}
use Rattle.machine.specs.Steps.{ways, fits, read_from, fetched, executed, apply_outcome, call_step, invoked_step}
use Rattle.jvm_exec.specs.Forms.{executes}
use Rattle.jvm_exec.specs.Outcomes.{outcome_of}
use Rattle.jvm_exec.specs.declared.outcomes.Outcome.{Outcome as OfOutcome}
use Rattle.jvm_calls.specs.declared.invocation.Call.{Call}
use Rattle.jvm_step.specs.Fetches.{performed_by, performed, IsQuiet, called_by}
use Rattle.jvm_step.proofs.QuietLemmas.{quiet}

-- a local is taken in the place of values of the stack
local_pops : (i : Instruction) (k : ℕ) → local_taken i ≡ Some k → pops i ≡ 0
local_pops (loads j) k is = refl
local_pops (increments j by) k is = refl
local_pops _ k is = absurd (none-some k is)

module _ (n : ℕ) (stack : List (Value ℕ)) where
  popped_leaves : IfSome (popped n stack) (λ found. found.1 ≡ drop n stack)
  popped_leaves = by_test (nat_le n (length stack)) refl
    where
      by_test : (b : Bool) → nat_le n (length stack) ≡ b → IfSome (popped n stack) (λ found. found.1 ≡ drop n stack)
      by_test true is = rw is refl
      by_test false is = rw is tt

module _ (i : Instruction) (f : Frame) where
  local_leaves : (found : Option (Option (Value ℕ))) → pops i ≡ 0 → IfSome (fetched_local found f.stack) (λ found. found.1 ≡ drop (pops i) f.stack)
  local_leaves None none = tt
  local_leaves (Some None) none = tt
  local_leaves (Some (Some v)) none = rw none refl

  fetched_leaves : IfSome (fetched i f) (λ found. found.1 ≡ drop (pops i) f.stack)
  fetched_leaves = by_taken (local_taken i) refl
    where
      by_taken : (taken : Option ℕ) → local_taken i ≡ taken → IfSome (fetched i f) (λ found. found.1 ≡ drop (pops i) f.stack)
      by_taken None is = rw is (popped_leaves (pops i) f.stack)
      by_taken (Some k) is = rw is (local_leaves (slice_get f.locals k) (local_pops i k is))

  pub fetched_of_local : (k : ℕ) → local_taken i ≡ Some k → fetched i f ≡ fetched_local (slice_get f.locals k) f.stack
  fetched_of_local k is = rw is refl

module _ (program : Program) (s : State) (t : ℕ) (f : Frame) (below : List Frame) (next : ℕ) (i : Instruction) where
  pub executed_is : executed program s t f below next i (fetched i f) ≡ apply_outcome program s t f below next (drop (pops i) f.stack) (performed program s f i)
  executed_is = by_found (fetched i f) (fetched_leaves i f)
    where
      by_found : (found : Option (List (Value ℕ) × List (Value ℕ))) → IfSome found (λ one. one.1 ≡ drop (pops i) f.stack) → executed program s t f below next i found ≡ apply_outcome program s t f below next (drop (pops i) f.stack) (performed_by program s i found)
      by_found None is = refl
      by_found (Some found) is = ap (λ (stack : List (Value ℕ)). apply_outcome program s t f below next stack (executes program s i found.0)) is

pub called_is : (program : Program) (labels : Labels) (inputs : List SourceInput) (s : State) (t : ℕ) (f : Frame) (below : List Frame) (next : ℕ) (call : Call) (count : ℕ) → call_step program labels inputs s t f below next call.op call.owner.now call.method (popped count f.stack) ≡ invoked_step program inputs s t f below next (drop count f.stack) (called_by program labels s f.method call (popped count f.stack))
called_is program labels inputs s t f below next call count = by_found (popped count f.stack) (popped_leaves count f.stack)
  where
    by_found : (found : Option (List (Value ℕ) × List (Value ℕ))) → IfSome found (λ one. one.1 ≡ drop count f.stack) → call_step program labels inputs s t f below next call.op call.owner.now call.method found ≡ invoked_step program inputs s t f below next (drop count f.stack) (called_by program labels s f.method call found)
    by_found None is = refl
    by_found (Some found) is = ap (λ (stack : List (Value ℕ)). invoked_step program inputs s t f below next stack (called_by program labels s f.method call (Some found))) is

pub outcome_quiet : (program : Program) (s : State) (i : Instruction) (values : List (Value ℕ)) (found : Option OfOutcome) → option_map outcome_of found ≡ executes program s i values → IfSome found (λ o. IsQuiet (outcome_of o))
outcome_quiet program s i values None is = tt
outcome_quiet program s i values (Some o) is =
    let all = quiet (ways program s) (fits program) i (read_from s (cell_read (info_at s) i values)) values in
    let P : Option (Outcome ℕ) → Type 0 = λ outcome. IfSome outcome IsQuiet in
    subst P (sym is) all
