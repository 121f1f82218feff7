-- What is added to a list of which only its members matter (this project's own).
use Rattle.std.specs.Prelude.{◌↔◌, ◌⊎◌, List, Contains}

-- the new list has what the old one has, and the things of which P holds
abbrev pub AddsThose : {A : Type 0} → (A → Type 0) → List A → List A → Type 0
AddsThose {A} P old new = (x : A) → Contains new x ↔ (Contains old x ⊎ P x)

-- the list has exactly the things of which P holds
abbrev pub HasThose : {A : Type 0} → (A → Type 0) → List A → Type 0
HasThose {A} P xs = (x : A) → Contains xs x ↔ P x
