-- Security of a program for its policy: termination-insensitive observational determinism with releases (this project's
-- own; low-security observational determinism is after Giffhorn and Snelting 2015).
use Rattle.std.specs.Prelude.{◌≡◌, ◌≢◌, ◌⊎◌, ℕ, Bool, true, List, [], ◌∷◌, Contains, Option, Some, None}
use Rattle.jo_prog.specs.declared.program.Program.{Program}
use Rattle.jo_prog.specs.declared.labels.Label.{Label}
use Rattle.jo_prog.specs.declared.labels.Label.TheVariants.{Source}
use Rattle.jo_prog.specs.declared.labels.Labels.{Labels}
use Rattle.jo_prog.specs.declared.runs.SourceInput.{SourceInput}
use Rattle.jo_prog.specs.declared.runs.Event.{Event}
use Rattle.jo_prog.specs.declared.runs.Event.TheVariants.{Release as Released}
use Rattle.jo_prog.specs.declared.runs.Trace.{Trace}
use Rattle.jo_prog.specs.Labels.{label_of, lets_out, reaches, misses}
use Rattle.jo_prog.specs.Machine.{input_at}
use Rattle.jo_prog.specs.Runs.{run, seen}

-- releases of one method with unequal values, and what it lets out doesn't flow to the observer
abbrev pub DifferInRelease : Labels → ℕ → Event → Event → Type 0
DifferInRelease labels observer (Released m v) (Released n w) = (m ≡ n) × (v ≢ w) × (misses labels observer (lets_out (label_of labels m)) ≡ true)
DifferInRelease labels observer _ _ = ⊥

-- What one observer sees of two runs agrees. One list is empty, and both are if both runs ended; or the heads are equal
-- and the rests agree; or the heads differ in a release that may let more out than this observer is told.
abbrev pub Agree : Labels → ℕ → List Event → Bool → List Event → Bool → Type 0
Agree labels observer [] ended [] other_ended = Unit {0}
Agree labels observer [] ended (y ∷ ys) other_ended = ended ≡ true → other_ended ≡ true → ⊥
Agree labels observer (x ∷ xs) ended [] other_ended = ended ≡ true → other_ended ≡ true → ⊥
Agree labels observer (x ∷ xs) ended (y ∷ ys) other_ended = ((x ≡ y) × Agree labels observer xs ended ys other_ended) ⊎ DifferInRelease labels observer x y

-- the level of a source
abbrev pub source_level : Option Label → Option ℕ
source_level (Some (Source level)) = Some level
source_level _ = None

-- the inputs give equal ints on each source whose level flows to the observer, each list continued by zeros
abbrev pub AgreeOnInputs : Labels → ℕ → List SourceInput → List SourceInput → Type 0
AgreeOnInputs labels observer inputs others = (source : ℕ) → reaches labels observer (source_level (label_of labels source)) ≡ true
    → (place : ℕ) → input_at inputs source place ≡ input_at others source place

-- what an observer sees of two runs agrees
abbrev pub TracesAgree : Labels → ℕ → Trace → Trace → Type 0
TracesAgree labels observer one other = Agree labels observer (seen labels observer one.events) one.ended (seen labels observer other.events) other.ended

-- for each observer, all inputs that agree there, and all schedules
abbrev pub Secure : Program → Labels → Type 0
Secure program labels = (observer : ℕ) → Contains labels.observers observer
    → (inputs others : List SourceInput) → AgreeOnInputs labels observer inputs others
    → (schedule other_schedule : List ℕ) → TracesAgree labels observer (run program labels inputs schedule) (run program labels others other_schedule)
