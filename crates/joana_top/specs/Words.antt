-- The words of a command (this project's own).
use Rattle.std.specs.Prelude.{ℕ, if◌then◌else◌, List, [], ◌∷◌, map, Option, Some, None, String, string_bytes, codes}
use Rattle.std.specs.Str.{bytes_eq}
use Rattle.std.specs.declared.alloc.Global.{Global}
use Rattle.joana_base.specs.Files.{ProgramNames, names_of}
use Rattle.joana_top.specs.declared.words.Kind.{Kind}
use Rattle.joana_top.specs.declared.words.Kind.TheVariants.{Check, Run, Asm, Dis, Help}
use Rattle.joana_top.specs.declared.words.Command as lent
use Rattle.joana_top.specs.declared.words.Command.TheVariants as lents

-- a command with the names of its files
pub data Command : Type 0 where
  check : ProgramNames → Command
  run : ProgramNames → Command
  asm : List ℕ → Command
  dis : List ℕ → Command
  help : Command

-- the first words, the names of files that stand behind them, and the commands that they mean
abbrev pub command_words : List (List ℕ × List ℕ × Kind)
command_words =
    (codes "check", codes " CLASSES POLICY", Check)
    ∷ (codes "run", codes " CLASSES POLICY RUNFILE", Run)
    ∷ (codes "asm", codes " FILE", Asm)
    ∷ (codes "dis", codes " FILE", Dis)
    ∷ (codes "help", [], Help)
    ∷ []

abbrev pub kind_in : List (List ℕ × List ℕ × Kind) → List ℕ → Option Kind
kind_in [] word = None
kind_in (row ∷ rows) word = if bytes_eq row.0 word then Some row.2 else kind_in rows word

-- the command with these names of files, where it takes so many
abbrev pub with_names : Kind → List (List ℕ) → Option Command
with_names Check (classes ∷ policy ∷ []) = Some (check (record { classes = classes; policy = policy; third = None }))
with_names Run (classes ∷ policy ∷ file ∷ []) = Some (run (record { classes = classes; policy = policy; third = Some file }))
with_names Asm (file ∷ []) = Some (asm file)
with_names Dis (file ∷ []) = Some (dis file)
with_names Help [] = Some help
with_names kind names = None

abbrev pub with_kind : Option Kind → List (List ℕ) → Option Command
with_kind None names = None
with_kind (Some kind) names = with_names kind names

-- the command, where the words are exactly of one of these forms
abbrev pub command_of : List (List ℕ) → Option Command
command_of [] = None
command_of (word ∷ names) = with_kind (kind_in command_words word) names

-- ---- in memory

abbrev pub command_in : List (String Global) → Option Command
command_in words = command_of (map string_bytes words)

abbrev pub as_command : lent.Command → Command
as_command (lents.Check names) = check (names_of names)
as_command (lents.Run names) = run (names_of names)
as_command (lents.Asm file) = asm file.now
as_command (lents.Dis file) = dis file.now
as_command lents.Help = help
