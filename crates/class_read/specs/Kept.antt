-- The counts behind the indices of invokeinterface.
use Rattle.std.specs.Prelude.{ℕ, List, Option, Some}
use Rattle.class_pool.specs.declared.entries.PoolEntry.{PoolEntry}
use Rattle.class_pool.specs.declared.entries.PoolEntry.TheVariants.{InterfaceMethodRef}
use Rattle.class_pool.specs.Pool.{desc_at}
use Rattle.class_pool.specs.Known.{words_in}

-- the count for an entry of a pool
abbrev pub words_of : List PoolEntry → Option PoolEntry → ℕ
words_of pool (Some (InterfaceMethodRef class type)) = words_in (desc_at pool type)
words_of pool _ = 0
