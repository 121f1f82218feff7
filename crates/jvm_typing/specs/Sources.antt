-- What the sources of this crate stand for.
use Rattle.std.specs.Prelude.{◌≡◌, ℕ, ◌≤◌, ◌<◌, ◌^◌, List, map, Contains, Option}
use Rattle.jo_prog.specs.declared.program.Program.{Program}
use Rattle.jo_prog.specs.declared.program.Row.{Row}
use Rattle.jo_prog.specs.Shapes.{Origin, OfStack, Same, Change, Effect}
use Rattle.jvm_typing.specs.declared.sources.Source.{Source as SourceHere}
use Rattle.jvm_typing.specs.declared.sources.Source.TheVariants.{Fixed as FixedHere, FromPlace as FromPlaceHere}
use Rattle.jvm_typing.specs.declared.sources.Sizes.{Sizes}
use Rattle.typing_effects.specs.Kinds.{kind_in, change_in}
use Rattle.jvm_typing.specs.KindPasses.{Source, Fixed, FromPlace, Frame, row_source}

abbrev pub source_in : SourceHere → Source
source_in (FixedHere kind) = Fixed (kind_in kind)
source_in (FromPlaceHere place change) = FromPlace place (change_in change)

abbrev pub frame_in : Sizes → Frame
frame_in sizes = record { locals = sizes.locals; height = sizes.height }

abbrev pub copies : List ℕ → List Origin
copies places = map (λ k. OfStack k Same) places

-- the list keeps what it had, and has the places from the one to the other
pub record HasFrom (old : List ℕ) (from end : ℕ) (new : List ℕ) : Type 0 where
  pub kept : (q : ℕ) → Contains old q → Contains new q
  pub has : (q : ℕ) → from ≤ q → q < end → Contains new q

-- all places behind a step that take their kind from that place are among these
abbrev pub Feeds : Frame → Effect → ℕ → List ℕ → Type 0
Feeds f effect place places =
    (program : Program) (row : Option Row) (q : ℕ) (change : Change) → q < 2 ^ 17 → row_source program f effect row q ≡ FromPlace place change → Contains places q
