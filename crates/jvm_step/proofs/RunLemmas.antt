-- Runs, a number of the schedule at a time.
use Rattle.std.proofs.Common.{◌≡◌, ◌≢◌, ◌∙◌, sym, ap, refl, ℕ, suc, ◌+◌, ◌-◌, ◌<◌, ◌≤◌, ◌%◌, List, [], ◌∷◌, ◌++◌, length, map, Option, Some, None, Ok, slice_get, append_assoc, arith}
use Rattle.std.specs.Option.{option_to_list}
use Rattle.std.proofs.lemmas.List.{append-nil}
use Rattle.std.proofs.lemmas.Option.{none-some, get_or_from_slice_get, slice_get-get_or}
use Rattle.std.proofs.Math.Nat.{mod-lt}
use Rattle.jo_prog.specs.declared.program.Program.{Program}
use Rattle.jo_prog.specs.declared.labels.Labels.{Labels}
use Rattle.jo_prog.specs.declared.runs.SourceInput.{SourceInput}
use Rattle.jo_prog.specs.declared.runs.Event.{Event}
use Rattle.jo_prog.specs.declared.runs.Trace.{Trace}
use Rattle.jo_prog.specs.Machine.{State, Stepped}
use Rattle.jo_prog.specs.Numbers.{count_from}
use Rattle.jo_prog.specs.Runs.{all_ended, unmoved, with_event}
use Rattle.jo_prog.specs.Running.{behind}
use Rattle.machine.specs.Steps.{step}
use Rattle.machine.specs.Runs.{advanced_by, advanced, run_from}
use Rattle.run_plans.specs.Schedules.{picked, repeated}
use Rattle.jvm_step.specs.Moves.{Steps, event_of}
use Rattle.jvm_step.specs.declared.moves.Moved.{Moved}
use Rattle.jvm_step.specs.declared.moves.Moved.TheVariants.{Stuck, Went}

-- ---- one number

-- a step was made, or there is none
pub moved_is : (old new : State) (wanted : Option Stepped) (moved : Moved) → Steps old new wanted (Ok moved) → unmoved old wanted ≡ record { state = new; event = event_of moved }
moved_is old new wanted Stuck (none, same) = ap (unmoved old) none ∙ ap (λ (s : State). let to : Stepped = record { state = s; event = None } in to) (sym same)
moved_is old new wanted (Went event) is = ap (unmoved old) is

module _ (program : Program) (labels : Labels) (inputs : List SourceInput) (s : State) (number : ℕ) where
  pub advanced_none : (ts : List ℕ) → length ts ≡ 0 → advanced_by program labels inputs s number ts ≡ record { state = s; event = None }
  advanced_none [] none = refl
  advanced_none (t ∷ ts) none = absurd (omega arith)

  pub advanced_picked : (ts : List ℕ) (t : ℕ) → Some t ≡ slice_get ts (number % length ts) → advanced_by program labels inputs s number ts ≡ unmoved s (step program labels inputs s t)
  advanced_picked [] t at = absurd (none-some t (sym at))
  advanced_picked (first ∷ ts) t at =
      ap (λ (n : ℕ). unmoved s (step program labels inputs s n)) (get_or_from_slice_get (first ∷ ts) (number % length (first ∷ ts)) t 0 (sym at))

  pub always_picks : {P : Type 0} (ts : List ℕ) → length ts ≢ 0 → None ≡ slice_get ts (number % length ts) → P
  always_picks ts some none =
      let inside : number % length ts < length ts = mod-lt number (omega arith) in
      absurd (none-some _ (none ∙ slice_get-get_or ts (number % length ts) 0 inside))

-- ---- a run

run_from-cons : (program : Program) (labels : Labels) (inputs : List SourceInput) (s : State) (number : ℕ) (schedule : List ℕ) (stepped : Stepped) → advanced program labels inputs s number ≡ stepped → run_from program labels inputs s (number ∷ schedule) ≡ with_event stepped.event (run_from program labels inputs stepped.state schedule)
unfolding run_from
run_from-cons program labels inputs s number schedule stepped e =
    ap (λ (x : Stepped). with_event x.event (run_from program labels inputs x.state schedule)) e

run_from-nil : (program : Program) (labels : Labels) (inputs : List SourceInput) (s : State) → run_from program labels inputs s [] ≡ record { events = []; ended = all_ended s.threads }
unfolding run_from
run_from-nil program labels inputs s = refl

behind-shown : (events : List Event) (shown : Option Event) (trace : Trace) → behind events (with_event shown trace) ≡ behind (events ++ option_to_list shown) trace
behind-shown events (Some event) trace =
    ap (λ es. let t : Trace = record { events = es; ended = trace.ended } in t) (sym (append_assoc events (event ∷ []) trace.events))
behind-shown events None trace = ap (λ es. behind es trace) (sym (append-nil events))

-- the numbers of a schedule from a step on
abbrev pub rest_of : List ℕ → ℕ → ℕ → List ℕ
rest_of schedule steps i = map (picked schedule) (count_from i (steps - i))

rest_more : (schedule : List ℕ) (steps i : ℕ) → i < steps → rest_of schedule steps i ≡ picked schedule i ∷ rest_of schedule steps (i + 1)
rest_more schedule steps i inside =
    let left : steps - i ≡ suc (steps - (i + 1)) = omega arith in
    let next : suc i ≡ i + 1 = omega arith in
    ap (λ (n : ℕ). map (picked schedule) (count_from i n)) left
    ∙ ap (λ (n : ℕ). picked schedule i ∷ map (picked schedule) (count_from n (steps - (i + 1)))) next

rest_none : (schedule : List ℕ) (steps i : ℕ) → steps ≤ i → rest_of schedule steps i ≡ []
rest_none schedule steps i past =
    let left : steps - i ≡ 0 = omega arith in
    ap (λ (n : ℕ). map (picked schedule) (count_from i n)) left

-- no step yet
pub run_none : (program : Program) (labels : Labels) (inputs : List SourceInput) (schedule : List ℕ) (steps : ℕ) (s : State) (events : List Event) → events ≡ []
    → behind events (run_from program labels inputs s (rest_of schedule steps 0)) ≡ run_from program labels inputs s (repeated schedule steps)
run_none program labels inputs schedule steps s events none =
    let all : steps - 0 ≡ steps = omega arith in
    ap (λ es. behind es (run_from program labels inputs s (rest_of schedule steps 0))) none
    ∙ ap (λ (n : ℕ). run_from program labels inputs s (map (picked schedule) (count_from 0 n))) all

module _ (program : Program) (labels : Labels) (inputs : List SourceInput) (schedule : List ℕ) (steps : ℕ) (s : State) (i : ℕ) (events : List Event) (whole : Trace) (so_far : behind events (run_from program labels inputs s (rest_of schedule steps i)) ≡ whole) where
  -- one number more
  pub run_more : (more : List Event) (new : State) (event : Option Event) → i < steps → advanced program labels inputs s (picked schedule i) ≡ record { state = new; event = event } → more ≡ events ++ option_to_list event
      → behind more (run_from program labels inputs new (rest_of schedule steps (i + 1))) ≡ whole
  run_more more new event inside e shown =
      let rest = run_from program labels inputs new (rest_of schedule steps (i + 1)) in
      ap (λ es. behind es rest) shown
      ∙ sym (behind-shown events event rest)
      ∙ ap (behind events)
      (sym (ap (run_from program labels inputs s) (rest_more schedule steps i inside)
      ∙ run_from-cons program labels inputs s (picked schedule i) (rest_of schedule steps (i + 1)) (record { state = new; event = event }) e))
      ∙ so_far

  -- all steps
  pub run_all : steps ≤ i → record { events = events; ended = all_ended s.threads } ≡ whole
  run_all past =
      ap (λ es. let t : Trace = record { events = es; ended = all_ended s.threads } in t) (sym (append-nil events))
      ∙ ap (behind events) (sym (ap (run_from program labels inputs s) (rest_none schedule steps i past) ∙ run_from-nil program labels inputs s))
      ∙ so_far
