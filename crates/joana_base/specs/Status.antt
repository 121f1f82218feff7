-- The status of a run, its code, and what a command comes to (this project's own).
use Rattle.std.specs.Prelude.{ℕ, List}
use Rattle.joana_base.specs.declared.status.Status.{Status}
use Rattle.joana_base.specs.declared.status.Status.TheVariants.{Done, Refused, Words, Input, Limit, Outside, Memory}
use Rattle.joana_base.specs.declared.status.Refusal.{Refusal}
use Rattle.joana_base.specs.declared.status.Refusal.TheVariants as refusals
use Rattle.joana_base.specs.declared.answers.Answer.{Answer}
use Rattle.joana_base.specs.declared.answers.Answer.TheVariants.{Yes, No}

-- the exit status of the process
abbrev pub code_of : Status → ℕ
code_of Done = 0
code_of Refused = 1
code_of Words = 2
code_of (Input fault) = 3
code_of (Limit kind) = 4
code_of (Outside fault) = 5
code_of Memory = 6

-- the status of a command whose files are refused
abbrev pub status_for : Refusal → Status
status_for (refusals.Input fault) = Input fault
status_for (refusals.Limit kind) = Limit kind

-- the status and the text of an answer
abbrev pub status_of : Answer → Status
status_of (Yes text) = Done
status_of (No text) = Refused

abbrev pub text_of : Answer → List ℕ
text_of (Yes text) = text.items
text_of (No text) = text.items
