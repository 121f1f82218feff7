-- A pool under construction in memory. Private functions compute this; the definition cites `Needs` alone.
use Rattle.std.specs.Prelude.{◌≡◌, ℕ, ◌≤◌, List, length, map, Option, Some, None, Result, Ok, Err}
use Rattle.class_pool.specs.declared.entries.PoolEntry.{PoolEntry}
use Rattle.class_pool.specs.Writing.{spelled_entry}
use Rattle.class_asm.specs.declared.pool_maker.PoolMaker.{PoolMaker}
use Rattle.class_asm.specs.declared.pool_maker.Lack.{Lack}
use Rattle.class_asm.specs.declared.pool_maker.Lack.TheVariants.{Range, Memory}
use Rattle.class_asm.specs.Needs.{Needed}

-- the spellings are those of the entries, which aren't too many
pub record IsMaker (maker : PoolMaker) : Type 0 where
  pub spellings : map (λ spelling. spelling.items) maker.spellings.keys ≡ map spelled_entry maker.pool
  pub few : length maker.pool ≤ 65534

abbrev pub Lacks : {X : Type 0} → Lack → Option X → Type 0
Lacks Range needed = needed ≡ None
Lacks Memory needed = Unit {0}

-- the index that was returned, with this pool, is what a need gives
abbrev pub Makes : Result ℕ Lack → List PoolEntry → Needed → Type 0
Makes (Ok index) pool needed = needed ≡ Some (pool, index)
Makes (Err lack) pool needed = Lacks lack needed

abbrev pub HeadMade : Result (ℕ × ℕ) Lack → List PoolEntry → Option (List PoolEntry × ℕ × ℕ) → Type 0
HeadMade (Ok head) pool needed = needed ≡ Some (pool, head.0, head.1)
HeadMade (Err lack) pool needed = Lacks lack needed

abbrev pub ValueMade : Result (Option ℕ) Lack → List PoolEntry → Option (List PoolEntry × Option ℕ) → Type 0
ValueMade (Ok value) pool needed = needed ≡ Some (pool, value)
ValueMade (Err lack) pool needed = Lacks lack needed
