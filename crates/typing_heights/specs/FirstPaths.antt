-- Typing paths that are the first at their ends (JVM Specification SE 8, 4.10; the form by paths is this project's own).
use Rattle.std.specs.Prelude.{ℕ, List}
use Rattle.jo_prog.specs.declared.program.Program.{Program}
use Rattle.jo_prog.specs.TypingPaths.{Typable, Step, IsTypable, TypingPath, IsFirst, arrives_at}

-- each pc of a method at which a typing path arrives has a first one
abbrev pub HasFirstPaths : Program → ℕ → Type 0
HasFirstPaths program m = (t : Typable) → IsTypable program m t → (path : List Step) → TypingPath program t path
    → (first : List Step) × IsFirst (TypingPath program t) (arrives_at path) first
