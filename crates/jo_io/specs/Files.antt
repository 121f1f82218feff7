-- How a read ends.
use Rattle.std.specs.Prelude.{⊤, Result, Ok, Err, Option, Some, None, List, [], ℕ, string_bytes, String, codes}
use Rattle.std.specs.declared.alloc.Global.{Global}
use Rattle.jo_io.specs.declared.files.FileFault.{FileFault}
use Rattle.jo_io.specs.declared.files.FileFault.TheVariants.{Failed, Memory}
pub use Rattle.jo_io.specs.Counts.{Rose}

-- unless the read has failed
abbrev pub UnlessFailed : {T : Type 0} → Result T FileFault → Type 0 → Type 0
UnlessFailed (Ok value) P = P
UnlessFailed (Err Memory) P = P
UnlessFailed (Err Failed) P = ⊤

-- where the read has failed
abbrev pub OnFailed : {T : Type 0} → Result T FileFault → Type 0 → Type 0
OnFailed (Ok value) P = ⊤
OnFailed (Err Memory) P = ⊤
OnFailed (Err Failed) P = P

-- the bytes of a name that may not be there yet
abbrev pub name_of : Option (String Global) → List ℕ
name_of None = []
name_of (Some name) = string_bytes name

-- what a fault prints
abbrev pub fault_text : FileFault → List ℕ
fault_text Failed = codes "a read failed"
fault_text Memory = codes "out of memory"
