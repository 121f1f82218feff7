-- The version of a class file.
use Rattle.std.specs.Prelude.{ℕ, ◌&&◌, nat_le, List, Result, Ok}
use Rattle.class_pool.specs.declared.faults.ClassCode.TheVariants.{Version}
use Rattle.class_pool.specs.declared.faults.ClassFault.{ClassFault}
use Rattle.class_pool.specs.Items.{◌>>=◌, place_of, passing, number}

abbrev pub read_version : ℕ → List ℕ → Result ((ℕ × ℕ) × List ℕ) ClassFault
read_version size rest = do
  minor ← number size 2 rest
  major ← number size 2 minor.1
  passing (nat_le 45 major.0 && nat_le major.0 52) Version (place_of size minor.1) (Ok ((minor.0, major.0), major.1))
