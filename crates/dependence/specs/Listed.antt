-- Lists of exactly what there is, each thing once (this project's own).
use Rattle.std.specs.Prelude.{◌↔◌, ◌⊎◌, List, Contains}
use Rattle.dep_nodes.specs.OnceLists.{IsOnceEach}

-- the list has exactly the things of which P holds, each once
pub record ListsExactly {A : Type 0} (P : A → Type 0) (xs : List A) : Type 0 where
  pub each : (x : A) → Contains xs x ↔ P x
  pub once : IsOnceEach xs

-- The new list has what the old one has and the things of which P holds; each once, if the old one has none of these.
pub record AddsExactly {A : Type 0} (P : A → Type 0) (old new : List A) : Type 0 where
  pub each : (x : A) → Contains new x ↔ (Contains old x ⊎ P x)
  pub once : IsOnceEach old → ((x : A) → Contains old x → P x → ⊥) → IsOnceEach new
