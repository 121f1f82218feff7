-- Sets of pool indices that grow. Private functions compute these.
use Rattle.std.specs.Prelude.{◌≡◌, ℕ, ◌<◌, Bool, ◌||◌, List, length}
use Rattle.jo_ids.specs.Rows.{has_number}

-- those are added that pass the test
pub record AddsThose (old new : List Bool) (test : ℕ → Bool) : Type 0 where
  pub same_length : length new ≡ length old
  pub each : (k : ℕ) → k < length old → has_number new k ≡ (has_number old k || test k)
