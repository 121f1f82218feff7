-- Places by their heights on the stack (this project's own form).
use Rattle.std.specs.Prelude.{◌≡◌, ℕ, ◌-◌, Bool, false, nat_lt, List, Contains, Option}
use Rattle.dependence.specs.declared.flow.Place.{Place}
use Rattle.dependence.specs.declared.flow.Place.TheVariants.{Stack}
use Rattle.method_views.specs.Heights.{HeightIs}

abbrev pub is_lower : Place → Place → Bool
is_lower (Stack low) (Stack high) = nat_lt low high
is_lower _ _ = false

-- none of the places is lower
abbrev pub IsLeastOf : List Place → Place → Type 0
IsLeastOf places v = (other : Place) → Contains places other → is_lower other v ≡ false

-- so far below the top of the stack, counted from 1
abbrev pub IsBelowTop : List (Option ℕ) → ℕ → ℕ → Place → Type 0
IsBelowTop typed pc depth v = (height : ℕ) × HeightIs typed pc height × (v ≡ Stack (height - depth))
