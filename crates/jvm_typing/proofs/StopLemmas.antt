-- The pcs from which typing paths go on.
use Rattle.std.proofs.Common.{◌≡◌, ◌↔◌, ℕ, ◌+◌, ◌<◌, ◌≤◌, Bool, true, false, List, [], ◌∷◌, ◌++◌, length, get_or, Option, Some, None, Contains, refl, sym, ◌∙◌, ap, subst, inl, inr, arith, ltb}
use Rattle.std.proofs.lemmas.Bool.{cases_eq, ltb-true, ltb-false}
use Rattle.std.proofs.lemmas.List.{length-append, length-map, get_or_past, get_or_append_left, get_or-append-add}
use Rattle.std.proofs.lemmas.List.Elements.{Contains-get_or}
use Rattle.jo_prog.specs.declared.program.Program.{Program}
use Rattle.jo_prog.specs.Shapes.{Effect}
use Rattle.jo_prog.specs.TypingPaths.{Typable, effect_at}
use Rattle.typing_effects.specs.Effects.{need_in, effect_in}
use Rattle.typing_heights.specs.Adds.{Adds, From}
use Rattle.typing_heights.specs.declared.moves.Move.{Move}
use Rattle.typing_heights.specs.Moves.{LeavesAt, IsMove, other_height}
use Rattle.typing_heights.specs.Searches.{height_at}
use Rattle.jvm_typing.specs.declared.stops.Stop.{Stop}
use Rattle.jvm_typing.specs.Stops.{LeadsOn, GoesFrom, IsStop, IsStopAt, AreStops}
use Rattle.typing_heights.proofs.AddsLemmas.{adds_none, adds_alike, adds_pushed, adds_all}
use Rattle.jvm_typing.proofs.FlowLemmas.{not_there, is_there, pops_there}

-- ---- one step

pub not_kept : (S : Move → Type 0) (heights : List (Option ℕ)) (step : Move) → other_height (height_at heights step.to) step.height ≡ true → Adds S S (LeadsOn heights step)
not_kept S heights step other =
    adds_none S (LeadsOn heights step) (λ m leads. not_there (height_at heights step.to) step.height other (subst (λ (n : Move). height_at heights n.to ≡ Some n.height) leads.0 leads.1))

pub step_kept : (old new : List Move) (heights : List (Option ℕ)) (step : Move) → other_height (height_at heights step.to) step.height ≡ false → new ≡ old ++ step ∷ [] → Adds (Contains old) (Contains new) (LeadsOn heights step)
step_kept old new heights step same made =
    let at = is_there (height_at heights step.to) step.height same in
    adds_alike (Contains old) (Contains new) (λ m. m ≡ step) (LeadsOn heights step) (adds_pushed old new step made)
    (λ m. (λ e. (e, subst (λ (n : Move). height_at heights n.to ≡ Some n.height) (sym e) at), λ leads. leads.0))

-- ---- one pc

module _ (program : Program) (t : Typable) (heights : List (Option ℕ)) where
  leaves_it : (pc : ℕ) (m : Move) (o : Option ℕ) → LeavesAt program t pc o m → m.from ≡ pc
  leaves_it pc m None leaves = absurd leaves
  leaves_it pc m (Some height) leaves = leaves.from_it

  moves_from : (pc : ℕ) (m : Move) → LeavesAt program t pc (height_at heights pc) m → IsMove program t heights m
  moves_from pc m leaves = subst (λ (x : ℕ). LeavesAt program t x (height_at heights x) m) (sym (leaves_it pc m (height_at heights pc) leaves)) leaves

  pub stop_none : (pc : ℕ) → height_at heights pc ≡ None → IsStopAt program t heights pc None
  stop_none pc none m goes =
      subst (λ (o : Option ℕ). LeavesAt program t pc o m) none (subst (λ (x : ℕ). LeavesAt program t x (height_at heights x) m) goes.from_it goes.is_move)

  -- no step leads on
  pub stop_stays : (pc : ℕ) (all : List Move) → Adds (Contains []) (Contains all) (LeavesAt program t pc (height_at heights pc)) → length all ≡ 0 → IsStopAt program t heights pc None
  stop_stays pc all adds none m goes =
      let among = (adds_all all (LeavesAt program t pc (height_at heights pc)) adds m).1 (subst (λ (x : ℕ). LeavesAt program t x (height_at heights x) m) goes.from_it goes.is_move) in
      omega (arith, among.1, none)

  pub stop_is : (pc : ℕ) (stop : Stop) (all : List Move) → height_at heights pc ≡ Some stop.height → effect_in stop.effect ≡ effect_at program t pc → Adds (Contains []) (Contains all) (LeavesAt program t pc (height_at heights pc))
      → 0 < length all → ((m : Move) → Contains stop.moves.items m ↔ From all (LeadsOn heights) m) → IsStop program t heights pc stop
  stop_is pc stop all at effect adds some kept = record {
    at_height = at;
    same_effect = effect;
    pops_there =
        let first : Move = get_or all 0 (record { from = 0; row = None; to = 0; height = 0 }) in
        let leaves = (adds_all all (LeavesAt program t pc (height_at heights pc)) adds first).0 (Contains-get_or all 0 (record { from = 0; row = None; to = 0; height = 0 }) some) in
        let from_it = leaves_it pc first (height_at heights pc) leaves in
        let fit = pops_there program t heights first stop.height (moves_from pc first leaves) (ap (height_at heights) from_it ∙ at) in
        let here : length (effect_at program t pc).pops ≤ stop.height = subst (λ (x : ℕ). length (effect_at program t x).pops ≤ stop.height) from_it fit in
        let same = ap (λ (e : Effect). length e.pops) effect in
        let long = length-map stop.effect.pops.items need_in in
        omega arith;
    moves = λ m. (λ among. there m ((kept m).0 among), λ goes. (kept m).1 (back m goes));
  }
    where
      there : (m : Move) → From all (LeadsOn heights) m → GoesFrom program t heights pc m
      there m leads =
          let leaves = (adds_all all (LeavesAt program t pc (height_at heights pc)) adds leads.0).0 leads.1 in
          let is = leads.2 in
          subst (λ (n : Move). (height_at heights n.to ≡ Some n.height) → GoesFrom program t heights pc n) (sym is.0)
          (λ to_height. record { is_move = moves_from pc leads.0 leaves; from_it = leaves_it pc leads.0 (height_at heights pc) leaves; to_height = to_height }) is.1

      back : (m : Move) → GoesFrom program t heights pc m → From all (LeadsOn heights) m
      back m goes = (
        m,
        (adds_all all (LeavesAt program t pc (height_at heights pc)) adds m).1 (subst (λ (x : ℕ). LeavesAt program t x (height_at heights x) m) goes.from_it goes.is_move),
        (refl, goes.to_height),
      )

  -- ---- all pcs

  -- those of the pcs below the end stand there
  abbrev pub StopsBelow : ℕ → List (Option Stop) → Type 0
  StopsBelow end stops = (length stops ≡ end) × ((pc : ℕ) → pc < end → IsStopAt program t heights pc (get_or stops pc None))

  pub stops_none : StopsBelow 0 []
  stops_none = (refl, λ pc low. absurd (omega (arith, low)))

  pub stops_more : (end : ℕ) (stops new : List (Option Stop)) (stop : Option Stop) → StopsBelow end stops → IsStopAt program t heights end stop → new ≡ stops ++ stop ∷ [] → StopsBelow (end + 1) new
  stops_more end stops new stop below is made =
      subst (λ (l : List (Option Stop)). StopsBelow (end + 1) l) (sym made) (
        length_more stops below.0,
        λ pc low. elim (cases_eq pc end) [
          | inl same ↦
              subst (λ (x : ℕ). IsStopAt program t heights x (get_or (stops ++ stop ∷ []) x None)) (sym same)
              (subst (λ (o : Option Stop). IsStopAt program t heights end o) (sym (last_is stops below.0)) is)
          | inr other ↦
              subst (λ (o : Option Stop). IsStopAt program t heights pc o) (sym (get_or_append_left stops (stop ∷ []) None pc (let e = below.0 in omega (arith, low, other, e)))) (below.1 pc (omega (arith, low, other)))
        ],
      )
    where
      length_more : (xs : List (Option Stop)) → length xs ≡ end → length (xs ++ stop ∷ []) ≡ end + 1
      length_more xs e = let long = length-append xs (stop ∷ []) in omega arith

      last_is : (xs : List (Option Stop)) → length xs ≡ end → get_or (xs ++ stop ∷ []) end None ≡ stop
      last_is xs e = ap (λ n. get_or (xs ++ stop ∷ []) n None) (let f : end ≡ length xs + 0 = omega arith in f) ∙ get_or-append-add xs (stop ∷ []) 0 None

  pub stops_all : (end : ℕ) (stops : List (Option Stop)) → StopsBelow end stops → length heights ≤ end → AreStops program t heights stops
  stops_all end stops below past pc = by_test (ltb pc end) refl
    where
      by_test : (b : Bool) → ltb pc end ≡ b → IsStopAt program t heights pc (get_or stops pc None)
      by_test true low = below.1 pc (ltb-true pc end low)
      by_test false high =
          let far = ltb-false pc end high in
          subst (λ (o : Option Stop). IsStopAt program t heights pc o) (sym (get_or_past stops pc None (let e = below.0 in omega arith)))
          (stop_none pc (get_or_past heights pc None (omega arith)))
