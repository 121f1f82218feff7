-- What the security of plain code needs of the machine, of typing and of the dependence graph, and nothing else: plain code is
-- a line of assignments to places, each done by one step, and what leads from a source to a sink there is found in the graph.
use Rattle.std.proofs.Common.{◌≡◌, ℕ, ◌+◌, ◌==◌, ℤ, Bool, true, false, cond, List, [], ◌∷◌, map, Option, Some, None, Contains}
use Rattle.std.specs.Prelude.{slice_index, slice_set}
use Rattle.jo_prog.specs.declared.labels.Labels.{Labels}
use Rattle.jo_prog.specs.declared.program.Program.{Program}
use Rattle.jo_prog.specs.declared.runs.SourceInput.{SourceInput}
use Rattle.jo_prog.specs.declared.runs.Event.TheVariants.{Out}
use Rattle.jo_prog.specs.Labels.{label_of, reaches}
use Rattle.jo_prog.specs.Machine.{State, Stepped, start, input_at}
use Rattle.jo_prog.specs.Runs.{advanced, all_ended, sink_level}
use Rattle.dependence.specs.declared.flow.Place.{Place}
use Rattle.dependence.specs.declared.flow.Place.TheVariants.{Local, Stack, Pending}
use Rattle.low_run.specs.Security.{source_level}
use Rattle.low_run.specs.ByEdges.{CleanByEdges}

-- ---- a line of assignments

-- the int that each place holds
abbrev pub Store : Type 0
Store = Place → ℤ

abbrev pub same_place : Place → Place → Bool
same_place (Local a) (Local b) = a == b
same_place (Stack a) (Stack b) = a == b
same_place Pending Pending = true
same_place _ _ = false

abbrev pub with_int : Store → Place → ℤ → Store
with_int store v z = λ w. cond (same_place w v) z (store w)

-- what is done at a spot of the line, and the spot where it goes on
pub data Doing (Spot : Type 0) : Type 0 where
  -- what comes of the ints at some places goes to a place
  assigns : List Place → Place → (List ℤ → ℤ) → Spot → Doing Spot
  -- a source gives its next int to a place
  takes : ℕ → Place → Spot → Doing Spot
  -- a sink shows the int at a place
  shows : ℕ → Place → Spot → Doing Spot
  -- the thread ends
  returns : Doing Spot

abbrev pub read_by : {Spot : Type 0} → Doing Spot → List Place
read_by (assigns places v value next) = places
read_by (takes source v next) = []
read_by (shows sink v next) = v ∷ []
read_by returns = []

abbrev pub written_by : {Spot : Type 0} → Doing Spot → Option Place
written_by (assigns places v value next) = Some v
written_by (takes source v next) = Some v
written_by (shows sink v next) = None
written_by returns = None

abbrev pub behind : {Spot : Type 0} → Doing Spot → Option Spot
behind (assigns places v value next) = Some next
behind (takes source v next) = Some next
behind (shows sink v next) = Some next
behind returns = None

-- from the one spot on up to the other a place isn't written
pub data Keeps {Spot : Type 0} (doing : Spot → Doing Spot) (v : Place) : Spot → Spot → Type 0 where
  here : (p : Spot) → Keeps doing v p p
  further : (p next last : Spot) → behind (doing p) ≡ Some next → (written_by (doing p) ≡ Some v → ⊥) → Keeps doing v next last → Keeps doing v p last

-- the one spot writes a place that the other reads, and nothing between writes it
pub record Feeds {Spot : Type 0} (doing : Spot → Doing Spot) (p q : Spot) : Type 0 where
  pub place : Place
  pub next : Spot
  pub writes : written_by (doing p) ≡ Some place
  pub on : behind (doing p) ≡ Some next
  pub keeps : Keeps doing place next q
  pub reads : Contains (read_by (doing q)) place

-- a chain of such spots
pub data Leads {Spot : Type 0} (doing : Spot → Doing Spot) : Spot → Spot → Type 0 where
  ends : (p : Spot) → Leads doing p p
  goes : (p q last : Spot) → Feeds doing p q → Leads doing q last → Leads doing p last

-- ---- the laws

-- what a step leads to and shows, by what is done at the spot
abbrev pub Moves : {Spot : Type 0} → (Spot → Store → List ℕ → State → Type 0) → (State → Type 0) → List SourceInput → Store → List ℕ → Doing Spot → Stepped → Type 0
Moves Stands IsOver inputs store cursors (assigns places v value next) after = (after.event ≡ None) × Stands next (with_int store v (value (map store places))) cursors after.state
Moves Stands IsOver inputs store cursors (takes source v next) after =
    (after.event ≡ None) × Stands next (with_int store v (input_at inputs source (slice_index cursors source))) (slice_set cursors source (slice_index cursors source + 1)) after.state
Moves Stands IsOver inputs store cursors (shows sink v next) after = (after.event ≡ Some (Out sink (store v))) × Stands next store cursors after.state
Moves Stands IsOver inputs store cursors returns after = (after.event ≡ None) × IsOver after.state

pub record PlainLaws (program : Program) (labels : Labels) : Type 1 where
  -- where a thread may stand, and what is done there
  pub Spot : Type 0
  pub doing : Spot → Doing Spot
  -- the states whose one thread stands at a spot, with these ints in its places and these cursors
  pub Stands : Spot → Store → List ℕ → State → Type 0
  -- the states whose thread has ended
  pub IsOver : State → Type 0
  -- at the start it stands at a spot
  pub first : Spot
  pub store : Store
  pub cursors : List ℕ
  pub starts : Stands first store cursors (start program labels)
  -- each number of the schedule moves a thread that stands
  pub moves : (p : Spot) (ints : Store) (given : List ℕ) (s : State) → Stands p ints given s → (inputs : List SourceInput) (number : ℕ)
      → Moves Stands IsOver inputs ints given (doing p) (advanced program labels inputs s number)
  pub unended : (p : Spot) (ints : Store) (given : List ℕ) (s : State) → Stands p ints given s → all_ended s.threads ≡ false
  -- once the thread has ended nothing changes
  pub rests : (s : State) → IsOver s → (inputs : List SourceInput) (number : ℕ) → advanced program labels inputs s number ≡ record { state = s; event = None }
  pub ended : (s : State) → IsOver s → all_ended s.threads ≡ true
  -- without an illegal chain for an observer, a source that leads to a sink which it sees flows to it
  pub flows_there : (observer : ℕ) → CleanByEdges program labels observer → (p q next after : Spot) (source sink : ℕ) (v w : Place) → doing p ≡ takes source v next → doing q ≡ shows sink w after
      → reaches labels observer (sink_level (label_of labels sink)) ≡ true → Leads doing p q → reaches labels observer (source_level (label_of labels source)) ≡ true
