-- What a sink has taken, where that is told.
use Rattle.std.specs.Prelude.{◌≡◌, ℕ, List, ◌++◌, Option, Some, None}
pub use Rattle.jo_io.specs.Counts.{Rose}

-- the bytes given before, and then these: what was untold stays untold
abbrev pub Extends : Option (List ℕ) → Option (List ℕ) → List ℕ → Type 0
Extends None new bytes = new ≡ None
Extends (Some given) new bytes = new ≡ Some (given ++ bytes)

-- the bytes given before, and then a beginning of these
abbrev pub ExtendsByPrefix : Option (List ℕ) → Option (List ℕ) → List ℕ → Type 0
ExtendsByPrefix old new bytes =
    (front : List ℕ) × (rest : List ℕ) × (front ++ rest ≡ bytes) × Extends old new front
