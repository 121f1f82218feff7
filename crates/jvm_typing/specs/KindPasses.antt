-- Which kinds places may hold, and how they spread along the steps of the code (this project's own).
use Rattle.std.specs.Prelude.{◌≡◌, ◌↔◌, ℕ, ◌+◌, ◌-◌, ◌<◌, ◌==◌, nat_lt, if◌then◌else◌, List, ◌++◌, map, length, Contains, Option, Some, None, slice_get}
use Rattle.jo_prog.specs.declared.program.Program.{Program}
use Rattle.jo_prog.specs.declared.program.Row.{Row}
use Rattle.jo_prog.specs.InsnTyping.{caught, shape_at_start}
use Rattle.jo_prog.specs.Typing.{Kind, Ref, Unset, Shape}
use Rattle.jo_prog.specs.Shapes.{Change, Same, changed, Origin, Always, OfStack, OfLocal, Effect}
use Rattle.jo_prog.specs.TypingPaths.{Typable, Step, arrives_at, height_of, shape_of, effect_at, TypingPath}
use Rattle.jvm_typing.specs.declared.facts.Fact.{Fact}
use Rattle.typing_heights.specs.declared.moves.Move.{Move}
use Rattle.typing_effects.specs.Kinds.{kind_in}
use Rattle.typing_heights.specs.Adds.{Adds, FromBelow}
use Rattle.typing_heights.specs.Moves.{IsMove}
use Rattle.typing_heights.specs.Searches.{height_at}

-- ---- a place of a shape: the locals come first, then the stack from its top

abbrev pub flat : Shape → List Kind
flat s = s.locals ++ s.stack

-- a kind in a place at a pc
pub record Item : Type 0 where
  pub pc : ℕ
  pub place : ℕ
  pub kind : Kind

abbrev pub item_in : Fact → Item
item_in fact = record { pc = fact.pc; place = fact.place; kind = kind_in fact.kind }

abbrev pub items_of : List Fact → List Item
items_of facts = map item_in facts

-- some typing path that arrives with the height of the first one has that kind there
pub record Holds (program : Program) (t : Typable) (heights : List (Option ℕ)) (x : Item) : Type 0 where
  pub path : List Step
  pub is_path : TypingPath program t path
  pub arrives : arrives_at path ≡ x.pc
  pub same_height : height_at heights x.pc ≡ Some (height_of program t path)
  pub holds : slice_get (flat (shape_of program t path)) x.place ≡ Some x.kind

-- ---- where the kind of a place behind a step comes from

pub data Source : Type 0 where
  Fixed : Kind → Source
  FromPlace : ℕ → Change → Source

-- there are so many locals, and the stack has this height before the step
pub record Frame : Type 0 where
  pub locals : ℕ
  pub height : ℕ

abbrev pub origin_source : Program → Frame → Origin → Source
origin_source program f (Always kind) = Fixed kind
origin_source program f (OfStack k change) = if nat_lt k f.height then FromPlace (f.locals + k) change else Fixed (changed program change Unset)
origin_source program f (OfLocal k change) = if nat_lt k f.locals then FromPlace k change else Fixed (changed program change Unset)

abbrev pub written_source : Program → Frame → Option (ℕ × Origin) → ℕ → Source
written_source program f None place = FromPlace place Same
written_source program f (Some (k, origin)) place = if k == place then origin_source program f origin else FromPlace place Same

abbrev pub pushed_source : Program → Frame → Effect → ℕ → Option Origin → Source
pushed_source program f effect k (Some origin) = origin_source program f origin
pushed_source program f effect k None = FromPlace (f.locals + (length effect.pops + (k - length effect.pushes))) Same

abbrev pub plain_source : Program → Frame → Effect → ℕ → Source
plain_source program f effect place =
    if nat_lt place f.locals then written_source program f effect.writes place
    else pushed_source program f effect (place - f.locals) (slice_get effect.pushes (place - f.locals))

abbrev pub handler_source : Frame → Row → ℕ → Source
handler_source f row place = if nat_lt place f.locals then FromPlace place Same else Fixed (Ref (caught row.catches))

abbrev pub row_source : Program → Frame → Effect → Option Row → ℕ → Source
row_source program f effect None place = plain_source program f effect place
row_source program f effect (Some row) place = handler_source f row place

-- ---- what a step brings to the pc that it leads to, by what is held

abbrev pub Gives : Program → List Item → ℕ → Source → Kind → Type 0
Gives program items from (Fixed known) kind = kind ≡ known
Gives program items from (FromPlace place change) kind =
    (before : Kind) × Contains items (record { pc = from; place = place; kind = before }) × (kind ≡ changed program change before)

-- what a source brings into a place
pub record Brings (program : Program) (items : List Item) (from to place : ℕ) (source : Source) (x : Item) : Type 0 where
  pub at_pc : x.pc ≡ to
  pub at_place : x.place ≡ place
  pub gives : Gives program items from source x.kind

-- the new list begins with the old one, and has this besides
pub record Grows (More : Item → Type 0) (old new : List Item) : Type 0 where
  pub stays : (k : ℕ) (x : Item) → slice_get old k ≡ Some x → slice_get new k ≡ Some x
  pub adds : Adds (Contains old) (Contains new) More

-- what a source gives a place, whatever is held
abbrev pub Fixes : ℕ → ℕ → Source → Item → Type 0
Fixes to place (Fixed kind) x = x ≡ record { pc = to; place = place; kind = kind }
Fixes to place (FromPlace before change) x = ⊥

-- what it gives because of what is held there
abbrev pub Carries : Program → Item → ℕ → ℕ → Source → Item → Type 0
Carries program y to place (Fixed kind) x = ⊥
Carries program y to place (FromPlace before change) x = (before ≡ y.place) × (x ≡ record { pc = to; place = place; kind = changed program change y.kind })

-- ---- one step of the code

abbrev pub frame_of : Typable → ℕ → Frame
frame_of t height = record { locals = t.code.max_locals; height = height }

abbrev pub row_at : List Row → Option ℕ → Option Row
row_at rows None = None
row_at rows (Some place) = slice_get rows place

abbrev pub step_source : Program → Typable → Move → ℕ → ℕ → Source
step_source program t m height place = row_source program (frame_of t height) (effect_at program t m.from) (row_at t.code.rows m.row) place

-- each place below the end has what the step brings
abbrev pub ClosedBelow : Program → Typable → Move → ℕ → ℕ → List Item → Type 0
ClosedBelow program t m height end items =
    (place : ℕ) → place < end → (x : Item) → Brings program items m.from m.to place (step_source program t m height place) x → Contains items x

-- the same where it leads to a pc at the height that this has
abbrev pub ClosedAt : Program → Typable → List (Option ℕ) → Move → List Item → Type 0
ClosedAt program t heights m items =
    (height : ℕ) → height_at heights m.from ≡ Some height → height_at heights m.to ≡ Some m.height → ClosedBelow program t m height (t.code.max_locals + m.height) items

abbrev pub ClosedFor : Program → Typable → List (Option ℕ) → List Item → Type 0
ClosedFor program t heights items = (m : Move) → IsMove program t heights m → ClosedAt program t heights m items

abbrev pub FixesBehind : Program → Typable → Move → ℕ → Item → Type 0
FixesBehind program t m height x = FromBelow (t.code.max_locals + m.height) (λ place. Fixes m.to place (step_source program t m height place)) x

abbrev pub CarriesBehind : Program → Typable → Item → Move → ℕ → Item → Type 0
CarriesBehind program t y m height x = FromBelow (t.code.max_locals + m.height) (λ place. Carries program y m.to place (step_source program t m height place)) x

-- the same of one place, if it is there
pub record CarriesTo (program : Program) (t : Typable) (y : Item) (m : Move) (height place : ℕ) (x : Item) : Type 0 where
  pub below : place < t.code.max_locals + m.height
  pub carries : Carries program y m.to place (step_source program t m height place) x

-- a step from this height that leads to a pc at the height that this has
pub record GoesAlong (program : Program) (t : Typable) (heights : List (Option ℕ)) (height : ℕ) (m : Move) : Type 0 where
  pub is_move : IsMove program t heights m
  pub at_height : height_at heights m.from ≡ Some height
  pub to_height : height_at heights m.to ≡ Some m.height

-- by the steps from a pc
pub record FixesFrom (program : Program) (t : Typable) (heights : List (Option ℕ)) (pc : ℕ) (x : Item) : Type 0 where
  pub step : Move
  pub height : ℕ
  pub along : GoesAlong program t heights height step
  pub from_it : step.from ≡ pc
  pub fixes : FixesBehind program t step height x

pub record CarriesFrom (program : Program) (t : Typable) (heights : List (Option ℕ)) (y x : Item) : Type 0 where
  pub step : Move
  pub height : ℕ
  pub along : GoesAlong program t heights height step
  pub from_it : step.from ≡ y.pc
  pub carries : CarriesBehind program t y step height x

-- what a method's places hold at its start
abbrev pub Starts : Program → Typable → Item → Type 0
Starts program t x = (x.pc ≡ 0) × (slice_get (shape_at_start program t.method t.code).locals x.place ≡ Some x.kind)

-- exactly what holds
abbrev pub AreKinds : Program → Typable → List (Option ℕ) → List Item → Type 0
AreKinds program t heights items = (x : Item) → Contains items x ↔ Holds program t heights x

-- what one place holds at the start
abbrev pub StartAt : List Kind → ℕ → Item → Type 0
StartAt kinds place x = (x.pc ≡ 0) × (x.place ≡ place) × (slice_get kinds place ≡ Some x.kind)

-- All that is found holds. What holds at the start, what steps fix, and what they carry on from the first facts is found.
pub record Found (program : Program) (t : Typable) (heights : List (Option ℕ)) (done : ℕ) (items : List Item) : Type 0 where
  pub sound : (x : Item) → Contains items x → Holds program t heights x
  pub starts : (x : Item) → Starts program t x → Contains items x
  pub fixed : (pc : ℕ) (x : Item) → FixesFrom program t heights pc x → Contains items x
  pub carried : (k : ℕ) (y : Item) → k < done → slice_get items k ≡ Some y → (x : Item) → CarriesFrom program t heights y x → Contains items x
