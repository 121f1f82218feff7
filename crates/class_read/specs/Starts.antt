-- The checks of jumps and rows, where a test says what starts at a pc.
use Rattle.std.specs.Prelude.{ℕ, suc, ◌+◌, ◌*◌, Bool, true, ◌&&◌, ◌||◌, nat_lt, ◌==◌, ℤ, pos, List, [], ◌∷◌, Option, Some, None, Result, Ok, Err}
use Rattle.class_pool.specs.declared.faults.ClassCode.{ClassCode}
use Rattle.class_pool.specs.declared.faults.ClassCode.TheVariants.{CodeBounds, PoolIndex}
use Rattle.class_pool.specs.declared.faults.ClassFault.{ClassFault}
use Rattle.class_pool.specs.declared.classes.RowInfo.{RowInfo}
use Rattle.class_pool.specs.declared.entries.PoolEntry.{PoolEntry}
use Rattle.class_pool.specs.Items.{fault}
use Rattle.class_pool.specs.Pool.{first_failing}
use Rattle.class_pool.specs.Code.{has_dims_that, dims_at}

-- the checks of jumps and of rows, as answers
abbrev pub jumps_pass : ℕ → Option ℕ → Result (Unit {0}) ClassFault
jumps_pass place None = Ok tt
jumps_pass place (Some pc) = Err (fault CodeBounds (place + pc))

abbrev pub rows_pass : ℕ → Option (ClassCode × ℕ) → Result (Unit {0}) ClassFault
rows_pass place None = Ok tt
rows_pass place (Some (code, k)) = Err (fault code (place + 8 * k))

abbrev pub fits_by : (ℤ → Bool) → ℕ → RowInfo → Bool
fits_by starts size row = nat_lt row.start row.end && (starts (pos row.start) && (starts (pos row.handler) && (row.end == size || starts (pos row.end))))

abbrev pub row_by : (ℤ → Bool) → List PoolEntry → ℕ → RowInfo → Option ClassCode
row_by starts pool size row = first_failing ((fits_by starts size row, CodeBounds) ∷ (row.catch_type == 0 || has_dims_that (λ _. true) (dims_at pool row.catch_type), PoolIndex) ∷ [])

abbrev pub at_row : Option ClassCode → ℕ → Option (ClassCode × ℕ) → Option (ClassCode × ℕ)
at_row None k later = later
at_row (Some code) k later = Some (code, k)

-- the first row with a fault
abbrev pub rows_by : (ℤ → Bool) → List PoolEntry → ℕ → ℕ → List RowInfo → Option (ClassCode × ℕ)
rows_by starts pool size k [] = None
rows_by starts pool size k (row ∷ more) = at_row (row_by starts pool size row) k (rows_by starts pool size (suc k) more)
