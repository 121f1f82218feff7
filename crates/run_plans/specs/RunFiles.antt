-- Run files (this project's own). First each key must be there and of its kind, then each key of the inputs
-- must spell a source, then each integer must be in its range: that of the steps, the schedule's and the
-- inputs'.
use Rattle.std.specs.Prelude.{◌≡◌, ℕ, Bool, true, false, if◌then◌else◌, List, [], ◌∷◌, Option, Some, None, option_and_then, Ok, Err}
use Rattle.toml.specs.Data.{Members}
use Rattle.jo_prog.specs.declared.labels.Label.{Label}
use Rattle.jo_prog.specs.declared.labels.Label.TheVariants as label
use Rattle.jo_prog.specs.declared.labels.Labels.{Labels}
use Rattle.jo_prog.specs.declared.program.Program.{Program}
use Rattle.jo_prog.specs.declared.runs.SourceInput.{SourceInput}
use Rattle.jo_prog.specs.Labels.{label_of}
use Rattle.policy_tree.specs.declared.runs.RunFileFault.{RunFileFault}
use Rattle.policy_tree.specs.declared.runs.RunFileFault.TheVariants.{NotToml, Source, Range, Memory}
use Rattle.policy_tree.specs.declared.runs.WrittenInput.{WrittenInput}
use Rattle.policy_tree.specs.declared.runs.WrittenRun.{WrittenRun}
use Rattle.policy_tree.specs.Outcomes.{◌>>=◌}
use Rattle.policy_tree.specs.RunTree.{RunRead, written_run}
use Rattle.run_plans.specs.declared.run_file.PlacedInput.{PlacedInput}
use Rattle.run_plans.specs.declared.run_file.RunPlan.{RunPlan}
use Rattle.jo_policy.specs.FileMethods.{method_named}
use Rattle.jo_policy.specs.Policies.{IsTree}

abbrev pub or_source : {A : Type 0} → Option A → RunRead A
or_source None = Err Source
or_source (Some x) = Ok x

abbrev pub or_range : {A : Type 0} → Option A → RunRead A
or_range None = Err Range
or_range (Some x) = Ok x

abbrev pub is_source : Option Label → Bool
is_source (Some (label.Source level)) = true
is_source _ = false

-- the source that a text spells
unfoldable pub source_named : Program → Labels → List ℕ → Option ℕ
source_named program labels text =
    option_and_then (λ m. if is_source (label_of labels m) then Some m else None) (method_named program text)

unfoldable pub placed_input : Program → Labels → WrittenInput → RunRead PlacedInput
placed_input program labels input = do
  source ← or_source (source_named program labels input.source)
  Ok (record { source = source; values = input.values })

abbrev pub placed_inputs : Program → Labels → List WrittenInput → RunRead (List PlacedInput)
placed_inputs program labels [] = Ok []
placed_inputs program labels (input ∷ inputs) = do
  placed ← placed_input program labels input
  more ← placed_inputs program labels inputs
  Ok (placed ∷ more)

-- numbers that are all in their range
abbrev pub within : {A : Type 0} → List (Option A) → RunRead (List A)
within [] = Ok []
within (value ∷ values) = do
  number ← or_range value
  more ← within values
  Ok (number ∷ more)

abbrev pub inputs_within : List PlacedInput → RunRead (List SourceInput)
inputs_within [] = Ok []
inputs_within (input ∷ inputs) = do
  values ← within input.values
  more ← inputs_within inputs
  Ok (record { source = input.source; values = values } ∷ more)

abbrev pub plan_by : Program → Labels → WrittenRun → RunRead RunPlan
plan_by program labels written = do
  placed ← placed_inputs program labels written.inputs
  steps ← or_range written.steps
  schedule ← within written.schedule
  inputs ← inputs_within placed
  Ok (record { steps = steps; schedule = schedule; inputs = inputs })

-- the plan that a tree gives for a program and its labels
abbrev pub plan_of : Program → Labels → Members → RunRead RunPlan
plan_of program labels tree = do
  written ← written_run tree
  plan_by program labels written

-- the first fault of a text
pub data IsRunFault (program : Program) (labels : Labels) (text : List ℕ) (fault : RunFileFault) : Type 0 where
  no_tree : fault ≡ NotToml → ((tree : Members) → IsTree text tree → ⊥)
      → IsRunFault program labels text fault
  of_tree : (tree : Members) → IsTree text tree → plan_of program labels tree ≡ Err fault
      → IsRunFault program labels text fault

-- want of memory says nothing
abbrev pub OrNoMemory : (RunFileFault → Type 0) → RunFileFault → Type 0
OrNoMemory F Memory = Unit {0}
OrNoMemory F fault = F fault
