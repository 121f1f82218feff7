-- Two runs of a clean plain program side by side, and one run alone, over the laws of plain code: after as many steps both stand
-- at one spot, and the places that bear on what an observer sees hold the same ints.
use Rattle.std.proofs.Common.{◌≡◌, ℕ, suc, ◌+◌, ℤ, Bool, true, false, cond, List, [], ◌∷◌, map, Option, Some, None, Contains, refl, sym, ap, subst, ◌∙◌, inl, arith}
use Rattle.std.specs.Prelude.{slice_index, slice_set}
use Rattle.std.proofs.lemmas.Bool.{false≢true, eqb-true, eq-eqb}
use Rattle.std.proofs.lemmas.Option.{same_Some, none-some}
use Rattle.jo_prog.specs.declared.labels.Labels.{Labels}
use Rattle.jo_prog.specs.declared.program.Program.{Program}
use Rattle.jo_prog.specs.declared.runs.SourceInput.{SourceInput}
use Rattle.jo_prog.specs.declared.runs.Event.{Event}
use Rattle.jo_prog.specs.declared.runs.Event.TheVariants.{Out}
use Rattle.jo_prog.specs.declared.runs.Trace.{Trace}
use Rattle.jo_prog.specs.Labels.{label_of, reaches}
use Rattle.jo_prog.specs.Machine.{State, Stepped, start, input_at}
use Rattle.jo_prog.specs.Runs.{advanced, with_event, run_from, seen, sink_level}
use Rattle.dependence.specs.declared.flow.Place.{Place}
use Rattle.dependence.specs.declared.flow.Place.TheVariants.{Local, Stack, Pending}
use Rattle.low_run.specs.Security.{Agree, AgreeOnInputs, TracesAgree, Secure}
use Rattle.low_run.specs.ByEdges.{CleanByEdges, AllCleanByEdges}
use Rattle.low_run.proofs.PlainLaws.{Store, same_place, with_int, Doing, assigns, takes, shows, returns, read_by, written_by, behind, Keeps, here, further, Leads, ends, goes, Moves, PlainLaws}

-- ---- stores

same_place-is : (v w : Place) → same_place v w ≡ true → v ≡ w
same_place-is (Local a) (Local b) e = ap (λ k. Local k) (eqb-true a b e)
same_place-is (Local a) (Stack b) e = absurd (false≢true e)
same_place-is (Local a) Pending e = absurd (false≢true e)
same_place-is (Stack a) (Local b) e = absurd (false≢true e)
same_place-is (Stack a) (Stack b) e = ap (λ k. Stack k) (eqb-true a b e)
same_place-is (Stack a) Pending e = absurd (false≢true e)
same_place-is Pending (Local b) e = absurd (false≢true e)
same_place-is Pending (Stack b) e = absurd (false≢true e)
same_place-is Pending Pending e = refl

same_place-self : (v : Place) → same_place v v ≡ true
same_place-self (Local a) = eq-eqb a a refl
same_place-self (Stack a) = eq-eqb a a refl
same_place-self Pending = refl

-- the ints at some places are the same where the stores are
same_ints : (one other : Store) (places : List Place) → ((v : Place) → Contains places v → one v ≡ other v) → map one places ≡ map other places
same_ints one other [] same = refl
same_ints one other (v ∷ places) same =
    ap (λ z. z ∷ map one places) (same v (0, omega arith, refl))
    ∙ ap (λ zs. other v ∷ zs) (same_ints one other places (λ w among. same w (suc among.0, omega (arith, among.1), among.2)))

-- ---- agreement

unended_left : (labels : Labels) (observer : ℕ) (ys : List Event) (ended : Bool) → Agree labels observer [] false ys ended
unended_left labels observer [] ended = tt
unended_left labels observer (y ∷ ys) ended = λ is other. false≢true is

unended_right : (labels : Labels) (observer : ℕ) (xs : List Event) (ended : Bool) → Agree labels observer xs ended [] false
unended_right labels observer [] ended = tt
unended_right labels observer (x ∷ xs) ended = λ is other. false≢true other

-- neither run shows anything, or both show an int at one sink, the same if the observer sees it
pub data EventsAlike (labels : Labels) (observer : ℕ) : Option Event → Option Event → Type 0 where
  silence : EventsAlike labels observer None None
  at_sink : (m : ℕ) (x y : ℤ) → (reaches labels observer (sink_level (label_of labels m)) ≡ true → x ≡ y) → EventsAlike labels observer (Some (Out m x)) (Some (Out m y))

at_sink_agree : (labels : Labels) (observer m : ℕ) (x y : ℤ) (xs ys : List Event) (ended other_ended b : Bool) → (b ≡ true → x ≡ y) → Agree labels observer xs ended ys other_ended
    → Agree labels observer (cond b (Out m x ∷ xs) xs) ended (cond b (Out m y ∷ ys) ys) other_ended
at_sink_agree labels observer m x y xs ys ended other_ended true same agree = inl (ap (λ z. Out m z) (same refl), agree)
at_sink_agree labels observer m x y xs ys ended other_ended false same agree = agree

events_agree : (labels : Labels) (observer : ℕ) (a b : Option Event) (t u : Trace) → EventsAlike labels observer a b → TracesAgree labels observer t u → TracesAgree labels observer (with_event a t) (with_event b u)
events_agree labels observer a b t u silence agree = agree
events_agree labels observer a b t u (at_sink m x y same) agree =
    at_sink_agree labels observer m x y (seen labels observer t.events) (seen labels observer u.events) t.ended u.ended (reaches labels observer (sink_level (label_of labels m))) same agree

-- ---- what bears on what an observer sees

module _ (program : Program) (labels : Labels) (laws : PlainLaws program labels) (observer : ℕ) where
  -- the spot leads to a sink that the observer sees
  record IsRelevant (p : laws.Spot) : Type 0 where
    pub last : laws.Spot
    pub next : laws.Spot
    pub sink : ℕ
    pub place : Place
    pub shown : laws.doing last ≡ shows sink place next
    pub is_seen : reaches labels observer (sink_level (label_of labels sink)) ≡ true
    pub chain : Leads laws.doing p last

  -- a relevant spot reads the place before it is written
  record IsNeeded (v : Place) (p : laws.Spot) : Type 0 where
    pub reader : laws.Spot
    pub keeps : Keeps laws.doing v p reader
    pub reads : Contains (read_by (laws.doing reader)) v
    pub relevant : IsRelevant reader

  -- who writes a place that is needed behind it is relevant
  needed_writer : (p next : laws.Spot) (v : Place) → written_by (laws.doing p) ≡ Some v → behind (laws.doing p) ≡ Some next → IsNeeded v next → IsRelevant p
  needed_writer p next v writes on need =
      let r = need.relevant in
      record {
        last = r.last;
        next = r.next;
        sink = r.sink;
        place = r.place;
        shown = r.shown;
        is_seen = r.is_seen;
        chain = goes p need.reader r.last (record { place = v; next = next; writes = writes; on = on; keeps = need.keeps; reads = need.reads }) r.chain;
      }

  needed_before : (p next : laws.Spot) (v : Place) → (written_by (laws.doing p) ≡ Some v → ⊥) → behind (laws.doing p) ≡ Some next → IsNeeded v next → IsNeeded v p
  needed_before p next v other on need = record { reader = need.reader; keeps = further p next need.reader on other need.keeps; reads = need.reads; relevant = need.relevant }

  needed_here : (p : laws.Spot) (v : Place) → Contains (read_by (laws.doing p)) v → IsRelevant p → IsNeeded v p
  needed_here p v reads relevant = record { reader = p; keeps = here p; reads = reads; relevant = relevant }

  abbrev StoresAlike : laws.Spot → Store → Store → Type 0
  StoresAlike p one other = (v : Place) → IsNeeded v p → one v ≡ other v

  -- both runs have ended, or both stand at one spot
  data Together : State → State → Type 0 where
    over : (s t : State) → laws.IsOver s → laws.IsOver t → Together s t
    stand : (p : laws.Spot) (one other : Store) (cursors : List ℕ) (s t : State) → laws.Stands p one cursors s → laws.Stands p other cursors t → StoresAlike p one other → Together s t

  -- a place is written in both, with the same int if the spot is relevant
  written_alike : (p next : laws.Spot) (v : Place) (x y : ℤ) (one other : Store) → written_by (laws.doing p) ≡ Some v → behind (laws.doing p) ≡ Some next → (IsRelevant p → x ≡ y) → StoresAlike p one other
      → StoresAlike next (with_int one v x) (with_int other v y)
  written_alike p next v x y one other writes on same alike w need = by_place (same_place w v) refl
    where
      by_place : (b : Bool) → same_place w v ≡ b → cond b x (one w) ≡ cond b y (other w)
      by_place true is = same (needed_writer p next v writes on (subst (λ u. IsNeeded u next) (same_place-is w v is) need))
      by_place false is =
          alike w (needed_before p next w (λ e. false≢true (sym is ∙ ap (same_place w) (same_Some v w (sym writes ∙ e)) ∙ same_place-self w)) on need)

  -- nothing is written
  kept_alike : (p next : laws.Spot) (one other : Store) → written_by (laws.doing p) ≡ None → behind (laws.doing p) ≡ Some next → StoresAlike p one other → StoresAlike next one other
  kept_alike p next one other none on alike w need = alike w (needed_before p next w (λ e. none-some w (sym none ∙ e)) on need)

  module _ (clean : CleanByEdges program labels observer) (inputs others : List SourceInput) (agree : AgreeOnInputs labels observer inputs others) where
    -- a relevant source gives the same in both
    same_input : (p next : laws.Spot) (source place : ℕ) (v : Place) → laws.doing p ≡ takes source v next → IsRelevant p → input_at inputs source place ≡ input_at others source place
    same_input p next source place v is r = agree source (laws.flows_there observer clean p r.last next r.next source r.sink v r.place is r.shown r.is_seen r.chain) place

    record BothMove (one other : Stepped) : Type 0 where
      pub events : EventsAlike labels observer one.event other.event
      pub together : Together one.state other.state

    quiet_both : (one other : Stepped) → one.event ≡ None → other.event ≡ None → Together one.state other.state → BothMove one other
    quiet_both one other e f together = record {
      events = subst (λ a. EventsAlike labels observer a other.event) (sym e) (subst (λ b. EventsAlike labels observer None b) (sym f) silence);
      together = together;
    }

    both_move : (p : laws.Spot) (store other_store : Store) (cursors : List ℕ) (one other : Stepped) → StoresAlike p store other_store → (doing : Doing laws.Spot) → laws.doing p ≡ doing
        → Moves laws.Stands laws.IsOver inputs store cursors doing one → Moves laws.Stands laws.IsOver others other_store cursors doing other → BothMove one other
    both_move p store other_store cursors one other alike (assigns places v value next) is first second =
        quiet_both one other first.0 second.0
        (stand next (with_int store v (value (map store places))) (with_int other_store v (value (map other_store places))) cursors one.state other.state first.1 second.1
        (written_alike p next v (value (map store places)) (value (map other_store places)) store other_store (ap written_by is) (ap behind is)
        (λ relevant. ap value (same_ints store other_store places (λ w among. alike w (needed_here p w (subst (λ d. Contains (read_by d) w) (sym is) among) relevant)))) alike))
    both_move p store other_store cursors one other alike (takes source v next) is first second =
        let place = slice_index cursors source in
        quiet_both one other first.0 second.0
        (stand next (with_int store v (input_at inputs source place)) (with_int other_store v (input_at others source place)) (slice_set cursors source (place + 1)) one.state other.state first.1 second.1
        (written_alike p next v (input_at inputs source place) (input_at others source place) store other_store (ap written_by is) (ap behind is) (same_input p next source place v is) alike))
    both_move p store other_store cursors one other alike (shows sink v next) is first second = record {
      events = subst (λ a. EventsAlike labels observer a other.event) (sym first.0)
          (subst (λ b. EventsAlike labels observer (Some (Out sink (store v))) b) (sym second.0)
          (at_sink sink (store v) (other_store v) (λ is_seen.
          alike v (needed_here p v (subst (λ d. Contains (read_by d) v) (sym is) (0, omega arith, refl))
          (record { last = p; next = next; sink = sink; place = v; shown = is; is_seen = is_seen; chain = ends p })))));
      together = stand next store other_store cursors one.state other.state first.1 second.1 (kept_alike p next store other_store (ap written_by is) (ap behind is) alike);
    }
    both_move p store other_store cursors one other alike returns is first second =
        quiet_both one other first.0 second.0 (over one.state other.state first.1 second.1)

    -- ---- runs

    run_over : (ins : List SourceInput) (s : State) (schedule : List ℕ) → laws.IsOver s → run_from program labels ins s schedule ≡ record { events = []; ended = true }
    unfolding run_from
    run_over ins s [] is = ap (λ b. let t : Trace = record { events = []; ended = b } in t) (laws.ended s is)
    run_over ins s (number ∷ schedule) is =
        ap (λ (x : Stepped). with_event x.event (run_from program labels ins x.state schedule)) (laws.rests s is ins number) ∙ run_over ins s schedule is

    run_on : (ins : List SourceInput) (s : State) (number : ℕ) (schedule : List ℕ)
        → with_event (advanced program labels ins s number).event (run_from program labels ins (advanced program labels ins s number).state schedule) ≡ run_from program labels ins s (number ∷ schedule)
    unfolding run_from
    run_on ins s number schedule = refl

    run_none : (ins : List SourceInput) (p : laws.Spot) (store : Store) (cursors : List ℕ) (s : State) → laws.Stands p store cursors s → record { events = []; ended = false } ≡ run_from program labels ins s []
    unfolding run_from
    run_none ins p store cursors s is = ap (λ b. let t : Trace = record { events = []; ended = b } in t) (sym (laws.unended p store cursors s is))

    over_agree : (s t : State) (schedule other_schedule : List ℕ) → laws.IsOver s → laws.IsOver t → TracesAgree labels observer (run_from program labels inputs s schedule) (run_from program labels others t other_schedule)
    over_agree s t schedule other_schedule is other_is =
        subst (λ u. TracesAgree labels observer u (run_from program labels others t other_schedule)) (sym (run_over inputs s schedule is))
        (subst (λ u. TracesAgree labels observer (record { events = []; ended = true }) u) (sym (run_over others t other_schedule other_is)) tt)

    -- from states that are together, whatever the schedules
    together_agree : (schedule other_schedule : List ℕ) (s t : State) → Together s t → TracesAgree labels observer (run_from program labels inputs s schedule) (run_from program labels others t other_schedule)
    together_agree [] other_schedule s t (over a b is other_is) = over_agree a b [] other_schedule is other_is
    together_agree (number ∷ schedule) other_schedule s t (over a b is other_is) = over_agree a b (number ∷ schedule) other_schedule is other_is
    together_agree [] other_schedule s t (stand p one other cursors a b is other_is alike) =
        let rest = run_from program labels others b other_schedule in
        subst (λ u. TracesAgree labels observer u rest) (run_none inputs p one cursors a is) (unended_left labels observer (seen labels observer rest.events) rest.ended)
    together_agree (number ∷ schedule) [] s t (stand p one other cursors a b is other_is alike) =
        let rest = run_from program labels inputs a (number ∷ schedule) in
        subst (λ u. TracesAgree labels observer rest u) (run_none others p other cursors b other_is) (unended_right labels observer (seen labels observer rest.events) rest.ended)
    together_agree (number ∷ schedule) (other_number ∷ other_schedule) s t (stand p one other cursors a b is other_is alike) =
        let first = advanced program labels inputs a number in
        let second = advanced program labels others b other_number in
        let both = both_move p one other cursors first second alike (laws.doing p) refl (laws.moves p one cursors a is inputs number) (laws.moves p other cursors b other_is others other_number) in
        subst (λ u. TracesAgree labels observer u (run_from program labels others b (other_number ∷ other_schedule))) (run_on inputs a number schedule)
        (subst (λ u. TracesAgree labels observer (with_event first.event (run_from program labels inputs first.state schedule)) u) (run_on others b other_number other_schedule)
        (events_agree labels observer first.event second.event (run_from program labels inputs first.state schedule) (run_from program labels others second.state other_schedule) both.events
        (together_agree schedule other_schedule first.state second.state both.together)))

    pub runs_agree : (schedule other_schedule : List ℕ) → TracesAgree labels observer (run_from program labels inputs (start program labels) schedule) (run_from program labels others (start program labels) other_schedule)
    runs_agree schedule other_schedule =
        together_agree schedule other_schedule (start program labels) (start program labels)
        (stand laws.first laws.store laws.store laws.cursors (start program labels) (start program labels) laws.starts laws.starts (λ v need. refl))

-- a clean program with these laws is secure
pub secure_by_laws : (program : Program) (labels : Labels) → PlainLaws program labels → AllCleanByEdges program labels → Secure program labels
secure_by_laws program labels laws clean observer among inputs others agree schedule other_schedule =
    runs_agree program labels laws observer (clean observer among) inputs others agree schedule other_schedule
