-- What a `StdFiles` shows, and what a read leaves.
use Rattle.std.specs.Prelude.{◌≡◌, ℕ, List, Vec, Result, Ok, Err}
use Rattle.std.specs.declared.alloc.Global.{Global}
use Rattle.jo_io.specs.Counts.{next_count}
use Rattle.jo_io.specs.declared.files.FileFault.{FileFault}
use Rattle.jo_io.specs.declared.files.FileFault.TheVariants.{Failed, Memory}

pub record HostFiles : Type 0 where
  pub faults : ℕ
  -- the name of the last read that failed
  pub last_failed : List ℕ

-- what a read leaves
abbrev pub ReadLeaves : HostFiles → HostFiles → List ℕ → Result (Vec ℕ Global) FileFault → Type 0
ReadLeaves old new name (Ok bytes) = new ≡ old
ReadLeaves old new name (Err Failed) = new ≡ record { faults = next_count old.faults; last_failed = name }
ReadLeaves old new name (Err Memory) = new ≡ old
