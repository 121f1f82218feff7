-- The order of faults (this project's own).
use Rattle.std.specs.Prelude.{◌≡◌, ◌⊎◌, ℕ, ◌+◌, ◌*◌, ◌≤◌, Bool, false, nat_le, List, [], Contains, Option, Some, None}
use Rattle.jo_prog.specs.declared.typed.TypeFault.{TypeFault}
use Rattle.jo_prog.specs.TypingPaths.{number_of}

-- by pcs, then by the number of the fault, which is below 8
abbrev pub key_of : TypeFault → ℕ
key_of fault = fault.pc * 8 + number_of fault.code

pub record IsFirstFault (found : List TypeFault) (first : TypeFault) : Type 0 where
  pub among : Contains found first
  pub least : (fault : TypeFault) → Contains found fault → key_of first ≤ key_of fault

-- none exactly of no faults
abbrev pub IsFirstOf : List TypeFault → Option TypeFault → Type 0
IsFirstOf found None = found ≡ []
IsFirstOf found (Some first) = IsFirstFault found first

-- the one that comes first of what was found and one more
abbrev pub IsSooner : Option TypeFault → TypeFault → Option TypeFault → Type 0
IsSooner None fault sooner = sooner ≡ Some fault
IsSooner (Some other) fault sooner = ((sooner ≡ Some fault) × (key_of fault ≤ key_of other)) ⊎ ((sooner ≡ Some other) × (key_of other ≤ key_of fault))

-- there are no more locals than that number
abbrev pub is_outside : ℕ → Option ℕ → Bool
is_outside count None = false
is_outside count (Some local) = nat_le count local
