-- `help`: a line for each command, in the order of the table of words. It reads nothing, so nothing refuses it.
use Rattle.std.specs.Prelude.{◌≡◌, ℕ, List, ◌++◌, Result, codes}
use Rattle.std.specs.List.{flat_map}
use Rattle.joana_base.specs.declared.status.Status.{Status}
use Rattle.joana_base.specs.declared.status.Status.TheVariants.{Done}
use Rattle.joana_base.specs.declared.answers.Answer.{Answer}
use Rattle.joana_base.specs.declared.answers.Stop.{Stop}
use Rattle.joana_top.specs.Words.{command_words}
use Rattle.joana_top.specs.Answers.{IsReadOutcome}

-- the line of a command with this first word and these names of files
abbrev pub command_line : List ℕ → List ℕ → List ℕ
command_line word names = codes "joana " ++ word ++ names ++ codes "\n"

abbrev pub help_text : List ℕ
help_text = flat_map (λ row. command_line row.0 row.1) command_words

-- the text that it shows
abbrev pub IsHelpText : Status → List ℕ → Type 0
IsHelpText Done text = text ≡ help_text
IsHelpText status text = ⊥

-- what it comes to
abbrev pub IsHelpOutcome : Result Answer Stop → Type 0
IsHelpOutcome result = IsReadOutcome IsHelpText (λ refusal. ⊥) result
