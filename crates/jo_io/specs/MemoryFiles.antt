-- What a `MemoryFiles` shows.
use Rattle.std.specs.Prelude.{◌≡◌, ℕ, Bool, true, false, List, [], ◌∷◌, Option, Some, None, ◌||◌, is_none, if◌then◌else◌, bytes_eq, string_bytes, String, Vec, Result, Ok, Err}
use Rattle.std.specs.declared.alloc.Global.{Global}
use Rattle.jo_io.specs.declared.files.FileFault.{FileFault}
use Rattle.jo_io.specs.declared.files.FileFault.TheVariants.{Failed, Memory}
use Rattle.jo_io.specs.Counts.{is_listed, next_count}

pub record StoredFiles : Type 0 where
  -- each name with its bytes
  pub pairs : List (List ℕ × List ℕ)
  -- the numbers of the reads that are to fail
  pub failing : List ℕ
  pub reads : ℕ
  pub faults : ℕ
  -- the name of the last read that failed
  pub last_failed : List ℕ

-- a name and its bytes, as the program holds them
abbrev pub pair_of : String Global × Vec ℕ Global → List ℕ × List ℕ
pair_of pair = (string_bytes pair.0, pair.1.items)

-- the bytes under a name: of two pairs with one name the first counts
abbrev pub bytes_under : List (List ℕ × List ℕ) → List ℕ → Option (List ℕ)
bytes_under [] name = None
bytes_under (pair ∷ pairs) name = if bytes_eq pair.0 name then Some pair.1 else bytes_under pairs name

-- the next read of this name is to fail, or nothing is under it
abbrev pub is_to_fail : StoredFiles → List ℕ → Bool
is_to_fail files name = is_listed files.failing files.reads || is_none (bytes_under files.pairs name)

-- what a read leaves, and when it fails
abbrev pub ReadEnds : StoredFiles → StoredFiles → List ℕ → Result (Vec ℕ Global) FileFault → Type 0
ReadEnds old new name (Ok bytes) =
    (is_to_fail old name ≡ false) × (new ≡ record old { reads = next_count old.reads })
ReadEnds old new name (Err Failed) =
    (is_to_fail old name ≡ true) × (new ≡ record old { reads = next_count old.reads; faults = next_count old.faults; last_failed = name })
ReadEnds old new name (Err Memory) = new ≡ old
