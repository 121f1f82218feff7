-- A command with one file: what it reads, and what is said of the file.
use Rattle.std.specs.Prelude.{◌≡◌, ℕ, List}
use Rattle.joana_base.specs.Files.{Held, IsToldAs}

-- its one read is of the file
abbrev pub IsOnlyRead : List ℕ → ℕ → List ℕ → Type 0
IsOnlyRead file number name = (number ≡ 0) × (name ≡ file)

-- this is said of bytes that are those of the file where they are told
abbrev pub OfFile : Held → List ℕ → (List ℕ → Type 0) → Type 0
OfFile held file Says = (bytes : List ℕ) × IsToldAs held file bytes × Says bytes
