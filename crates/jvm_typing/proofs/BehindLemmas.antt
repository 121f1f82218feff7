-- What is brought behind steps.
use Rattle.std.proofs.Common.{◌≡◌, ℕ, ◌+◌, ◌<◌, List, [], Option, Some, None, option_map, sym, ◌∙◌, ap, subst, arith}
use Rattle.std.specs.Prelude.{◌^◌, slice_get}
use Rattle.std.proofs.lemmas.Option.{slice_get-map}
use Rattle.jo_prog.specs.declared.program.Program.{Program}
use Rattle.jo_prog.specs.Shapes.{Change, Effect}
use Rattle.jo_prog.specs.TypingPaths.{Typable}
use Rattle.typing_effects.specs.Effects.{effect_in}
use Rattle.typing_heights.specs.Adds.{From}
use Rattle.typing_heights.specs.declared.moves.Move.{Move}
use Rattle.typing_heights.specs.Searches.{height_at}
use Rattle.jvm_typing.specs.declared.facts.Fact.{Fact}
use Rattle.jvm_typing.specs.declared.stops.Stop.{Stop}
use Rattle.jvm_typing.specs.KindPasses.{Item, item_in, items_of, Source, Fixed, FromPlace, Grows, Carries, CarriesTo, FixesBehind, CarriesBehind, FixesFrom, CarriesFrom, GoesAlong, frame_of, row_at, row_source, step_source}
use Rattle.jvm_typing.specs.Sources.{Feeds}
use Rattle.jvm_typing.specs.Stops.{GoesFrom, IsStop, IsStopAt}
use Rattle.typing_heights.proofs.AddsLemmas.{from_none}
use Rattle.jvm_typing.proofs.GrowLemmas.{grows_alike}
use Rattle.jvm_typing.proofs.KindLemmas.{some_same}

abbrev pub none : Move
none = record { from = 0; row = None; to = 0; height = 0 }

pub no_moves : {A : Type 0} (makes : A → Item → Type 0) (x : Item) → From [] makes x → ⊥
no_moves makes x b = from_none makes x b

pub item_at : (facts : List Fact) (n : ℕ) (fact : Fact) → slice_get facts n ≡ Some fact → slice_get (items_of facts) n ≡ Some (item_in fact)
item_at facts n fact e = slice_get-map item_in facts n ∙ ap (λ (o : Option Fact). option_map item_in o) e

pub no_item_at : (facts : List Fact) (n : ℕ) → slice_get facts n ≡ None → slice_get (items_of facts) n ≡ None
no_item_at facts n e = slice_get-map item_in facts n ∙ ap (λ (o : Option Fact). option_map item_in o) e

module _ (program : Program) (t : Typable) (heights : List (Option ℕ)) where
  -- a step from a stop goes from its height
  height_is : (pc : ℕ) (stop : Stop) → IsStop program t heights pc stop → (m : Move) (height : ℕ) → GoesAlong program t heights height m → m.from ≡ pc → height ≡ stop.height
  height_is pc stop is m height along from_it = some_same height stop.height (sym along.at_height ∙ ap (height_at heights) from_it ∙ is.at_height)

  along_it : (pc : ℕ) (stop : Stop) → IsStop program t heights pc stop → (m : Move) → GoesFrom program t heights pc m → GoesAlong program t heights stop.height m
  along_it pc stop is m goes = record { is_move = goes.is_move; at_height = ap (height_at heights) goes.from_it ∙ is.at_height; to_height = goes.to_height }

  goes_it : (pc : ℕ) (m : Move) (height : ℕ) → GoesAlong program t heights height m → m.from ≡ pc → GoesFrom program t heights pc m
  goes_it pc m height along from_it = record { is_move = along.is_move; from_it = from_it; to_height = along.to_height }

  pub fixes_from : (pc : ℕ) (stop : Stop) → IsStop program t heights pc stop → (old new : List Item) → Grows (From stop.moves.items (λ m. FixesBehind program t m stop.height)) old new
      → Grows (FixesFrom program t heights pc) old new
  fixes_from pc stop is old new grows = grows_alike (From stop.moves.items (λ m. FixesBehind program t m stop.height)) (FixesFrom program t heights pc) old new grows (λ x. (there x, back x))
    where
      there : (x : Item) → From stop.moves.items (λ m. FixesBehind program t m stop.height) x → FixesFrom program t heights pc x
      there x b =
          let goes = (is.moves b.0).0 b.1 in
          record { step = b.0; height = stop.height; along = along_it pc stop is b.0 goes; from_it = goes.from_it; fixes = b.2 }

      back : (x : Item) → FixesFrom program t heights pc x → From stop.moves.items (λ m. FixesBehind program t m stop.height) x
      back x f =
          let same = height_is pc stop is f.step f.height f.along f.from_it in
          (f.step, (is.moves f.step).1 (goes_it pc f.step f.height f.along f.from_it), subst (λ (h : ℕ). FixesBehind program t f.step h x) same f.fixes)

  pub carries_from : (y : Item) (stop : Stop) → IsStop program t heights y.pc stop → (old new : List Item) → Grows (From stop.moves.items (λ m. CarriesBehind program t y m stop.height)) old new
      → Grows (CarriesFrom program t heights y) old new
  carries_from y stop is old new grows = grows_alike (From stop.moves.items (λ m. CarriesBehind program t y m stop.height)) (CarriesFrom program t heights y) old new grows (λ x. (there x, back x))
    where
      there : (x : Item) → From stop.moves.items (λ m. CarriesBehind program t y m stop.height) x → CarriesFrom program t heights y x
      there x b =
          let goes = (is.moves b.0).0 b.1 in
          record { step = b.0; height = stop.height; along = along_it y.pc stop is b.0 goes; from_it = goes.from_it; carries = b.2 }

      back : (x : Item) → CarriesFrom program t heights y x → From stop.moves.items (λ m. CarriesBehind program t y m stop.height) x
      back x f =
          let same = height_is y.pc stop is f.step f.height f.along f.from_it in
          (f.step, (is.moves f.step).1 (goes_it y.pc f.step f.height f.along f.from_it), subst (λ (h : ℕ). CarriesBehind program t y f.step h x) same f.carries)

  pub fixes_nothing : (pc : ℕ) → IsStopAt program t heights pc None → (x : Item) → FixesFrom program t heights pc x → ⊥
  fixes_nothing pc never x f = never f.step (goes_it pc f.step f.height f.along f.from_it)

  pub carries_nothing : (y : Item) → IsStopAt program t heights y.pc None → (x : Item) → CarriesFrom program t heights y x → ⊥
  carries_nothing y never x f = never f.step (goes_it y.pc f.step f.height f.along f.from_it)

  -- ---- among the places that may take a kind from one are all that do

  takes_it : (y x : Item) (to place : ℕ) (source : Source) → Carries program y to place source x → (change : Change) × (source ≡ FromPlace y.place change)
  takes_it y x to place (Fixed kind) b = absurd b
  takes_it y x to place (FromPlace before change) b = (change, ap (λ (p : ℕ). FromPlace p change) b.0)

  pub carries_behind : (stop : Stop) (m : Move) → IsStop program t heights m.from stop → (y : Item) (places : List ℕ) → Feeds (frame_of t stop.height) (effect_in stop.effect) y.place places
      → (old new : List Item) → t.code.max_locals + m.height < 2 ^ 17 → Grows (From places (CarriesTo program t y m stop.height)) old new → Grows (CarriesBehind program t y m stop.height) old new
  carries_behind stop m is y places feeds old new small grows =
      grows_alike (From places (CarriesTo program t y m stop.height)) (CarriesBehind program t y m stop.height) old new grows (λ x. (there x, back x))
    where
      there : (x : Item) → From places (CarriesTo program t y m stop.height) x → CarriesBehind program t y m stop.height x
      there x b = let c = b.2 in (b.0, c.below, c.carries)

      back : (x : Item) → CarriesBehind program t y m stop.height x → From places (CarriesTo program t y m stop.height) x
      back x b =
          let takes = takes_it y x m.to b.0 (step_source program t m stop.height b.0) b.2 in
          let source = subst (λ (e : Effect). row_source program (frame_of t stop.height) e (row_at t.code.rows m.row) b.0 ≡ FromPlace y.place takes.0) (sym is.same_effect) takes.1 in
          let low = b.1 in
          (b.0, feeds program (row_at t.code.rows m.row) b.0 takes.0 (omega (arith, low, small)) source, record { below = b.1; carries = b.2 })
