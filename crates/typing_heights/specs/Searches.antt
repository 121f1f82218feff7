-- How heights are found, breadth first: what it does at one pc, and what is known of the pcs that were found (this project's own).
use Rattle.std.specs.Prelude.{◌≡◌, ◌⊎◌, ℕ, true, false, List, [], Contains, Option, Some, None, slice_index_or}
use Rattle.std.specs.List.Sorted.{IsStrictlyIncreasing}
use Rattle.jo_prog.specs.declared.program.Program.{Program}
use Rattle.jo_prog.specs.TypingPaths.{Typable, Step, arrives_at, height_of, effect_at, height_after, ends_at, TakesStep, IsFirst, TypingPath}

-- the height at a pc, where one is known
abbrev pub height_at : List (Option ℕ) → ℕ → Option ℕ
height_at heights pc = slice_index_or heights pc None

-- the height behind a step from a pc: that of a handler is 1
abbrev pub height_behind : Program → Typable → ℕ → ℕ → Option ℕ → ℕ
height_behind program t pc height None = height_after (effect_at program t pc) height
height_behind program t pc height (Some row) = 1

-- a step from a pc leads there and gives that height, a plain step where there is one
pub record Gets (program : Program) (t : Typable) (pc height to given : ℕ) : Type 0 where
  pub row : Option ℕ
  pub takes : TakesStep t.code pc row to
  pub plain_first : TakesStep t.code pc None to → row ≡ None
  pub same_height : given ≡ height_behind program t pc height row

abbrev pub HasSome : Option ℕ → Type 0
HasSome found = (h : ℕ) × (found ≡ Some h)

-- Heights are given to the pcs that had none, and to these alone, by the steps from a pc. The pcs that are found are these, in order.
pub record Visits (program : Program) (t : Typable) (pc height : ℕ) (old new : List (Option ℕ)) (found : List ℕ) : Type 0 where
  pub kept : (x h : ℕ) → height_at old x ≡ Some h → height_at new x ≡ Some h
  pub gets : (x h : ℕ) → height_at old x ≡ None → height_at new x ≡ Some h → Gets program t pc height x h
  pub all : (row : Option ℕ) (x : ℕ) → TakesStep t.code pc row x → HasSome (height_at new x)
  pub rises : IsStrictlyIncreasing found
  pub is_new : (x : ℕ) → Contains found x → (height_at old x ≡ None) × HasSome (height_at new x)
  pub has_new : (x h : ℕ) → height_at old x ≡ None → height_at new x ≡ Some h → Contains found x

-- at a pc where the code ends nothing is found
pub record Rests (old new : List (Option ℕ)) (found : List ℕ) : Type 0 where
  pub same : new ≡ old
  pub none : found ≡ []

abbrev pub VisitsOrRests : Program → Typable → ℕ → ℕ → List (Option ℕ) → List (Option ℕ) → List ℕ → Type 0
VisitsOrRests program t pc height old new found =
    ((ends_at program t pc height ≡ false) × Visits program t pc height old new found)
    ⊎ ((ends_at program t pc height ≡ true) × Rests old new found)

-- the same at a pc that may have no height
abbrev pub VisitsAt : Program → Typable → ℕ → Option ℕ → List (Option ℕ) → List (Option ℕ) → List ℕ → Type 0
VisitsAt program t pc None old new found = Rests old new found
VisitsAt program t pc (Some height) old new found = VisitsOrRests program t pc height old new found

abbrev pub Advances : Program → Typable → ℕ → List (Option ℕ) → List (Option ℕ) → List ℕ → Type 0
Advances program t pc old new found = VisitsAt program t pc (height_at old pc) old new found

-- the heights of a method: exactly those of the first typing paths
pub record AreHeights (program : Program) (t : Typable) (heights : List (Option ℕ)) : Type 0 where
  pub is_first : (pc h : ℕ) → height_at heights pc ≡ Some h → (path : List Step) × IsFirst (TypingPath program t) pc path × (height_of program t path ≡ h)
  pub has_first : (pc : ℕ) (path : List Step) → IsFirst (TypingPath program t) pc path → height_at heights pc ≡ Some (height_of program t path)
  pub reached : (path : List Step) → TypingPath program t path → HasSome (height_at heights (arrives_at path))
