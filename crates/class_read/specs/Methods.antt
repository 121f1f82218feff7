-- One attribute of a method.
use Rattle.std.specs.Prelude.{ℕ, Bool, true, false, List, Option, Some, None, Result, Ok, codes}
use Rattle.class_pool.specs.declared.entries.PoolEntry.{PoolEntry}
use Rattle.class_pool.specs.declared.classes.CodeInfo.{CodeInfo}
use Rattle.class_pool.specs.declared.faults.ClassFault.{ClassFault}
use Rattle.class_pool.specs.Items.{◌>>=◌, place_of, number, bytes_of}
use Rattle.class_pool.specs.Pool.{utf8_at}
use Rattle.class_pool.specs.ClassOrder.{text_index, is_named, read_code}

-- a Code, or another attribute that is stepped over
abbrev pub code_or_other : Bool → Result (CodeInfo × List ℕ) ClassFault → Result (List ℕ × List ℕ) ClassFault → Result (Option CodeInfo × List ℕ) ClassFault
code_or_other true code skipped = code >>= λ x. Ok (Some x.0, x.1)
code_or_other false code skipped = skipped >>= λ x. Ok (None, x.1)

unfoldable pub method_attribute : ℕ → List PoolEntry → List ℕ → Result (Option CodeInfo × List ℕ) ClassFault
method_attribute size pool rest = do
  name ← text_index size pool rest
  count ← number size 4 name.1
  code_or_other (is_named (codes "Code") (utf8_at pool name.0)) (read_code size pool (place_of size name.1) count.0 count.1) (bytes_of size count.0 count.1)
