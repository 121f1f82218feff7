-- What a command comes to before anything is put, and what is put of it.
use Rattle.std.specs.Prelude.{◌≡◌, ◌⊎◌, List, ℕ, Result, Ok, Err, string_bytes, ⊤}
use Rattle.joana_base.specs.Status.{status_for, status_of, text_of}
use Rattle.joana_base.specs.Notes.{words_line, file_line, output_line, refusal_line}
use Rattle.joana_base.specs.declared.status.Status.{Status}
use Rattle.joana_base.specs.declared.status.Status.TheVariants.{Done, Refused, Words, Outside, Memory as NoMemory}
use Rattle.joana_base.specs.declared.status.OutsideFault.TheVariants.{File, Output, Notes}
use Rattle.joana_base.specs.declared.status.Refusal.{Refusal}
use Rattle.joana_base.specs.declared.answers.Answer.{Answer}
use Rattle.joana_base.specs.declared.answers.Stop.{Stop}
use Rattle.joana_base.specs.declared.answers.Stop.TheVariants.{Faulty, Unread, Memory}
use Rattle.joana_top.specs.Sinks.{SinkChange, TookAll, TookPart, TookNothing, TookAllOrPart}

-- this is said of an answer's status and text, and of what refuses the files
abbrev pub IsOutcome : (Status → List ℕ → Type 0) → (Refusal → Type 0) → Result Answer Stop → Type 0
IsOutcome IsAnswer IsRefusal (Ok answer) = IsAnswer (status_of answer) (text_of answer)
IsOutcome IsAnswer IsRefusal (Err (Faulty refusal)) = IsRefusal refusal
IsOutcome IsAnswer IsRefusal (Err stop) = ⊤

-- the same once all files were read
abbrev pub IsReadOutcome : (Status → List ℕ → Type 0) → (Refusal → Type 0) → Result Answer Stop → Type 0
IsReadOutcome IsAnswer IsRefusal (Ok answer) = IsAnswer (status_of answer) (text_of answer)
IsReadOutcome IsAnswer IsRefusal (Err (Faulty refusal)) = IsRefusal refusal
IsReadOutcome IsAnswer IsRefusal (Err (Unread unread)) = ⊥
IsReadOutcome IsAnswer IsRefusal (Err Memory) = ⊤

-- What the output was given: a whole text of which this is said, with a status of a text; a part of one where its put failed;
-- nothing otherwise.
abbrev pub Puts : (Status → List ℕ → Type 0) → Status → SinkChange → Type 0
Puts IsText Done out = (text : List ℕ) × IsText Done text × TookAll out text
Puts IsText Refused out = (text : List ℕ) × IsText Refused text × TookAll out text
Puts IsText (Outside Output) out = (status : Status) × (text : List ℕ) × IsText status text × TookPart out text
Puts IsText status out = TookNothing out

-- ---- the ends of a run

-- the status where the words are no command
abbrev pub IsWordless : Status → SinkChange → Type 0
IsWordless status notes =
    ((status ≡ Words) × TookAll notes words_line) ⊎ ((status ≡ Outside Notes) × TookPart notes words_line)

-- the status, and what the output was given of an answer
abbrev pub IsPut : Answer → Status → SinkChange → Type 0
IsPut answer status out =
    ((status ≡ status_of answer) × TookAll out (text_of answer))
    ⊎ ((status ≡ Outside Output) × TookPart out (text_of answer))

-- a put that fails has a line of notes, which is tried
abbrev pub NotesOfPut : Status → SinkChange → Type 0
NotesOfPut (Outside Output) notes = TookAllOrPart notes output_line
NotesOfPut status notes = TookNothing notes

-- the status, and what the notes were given, where there is no answer
abbrev pub IsNoted : Stop → Status → SinkChange → Type 0
IsNoted (Faulty refusal) status notes =
    ((status ≡ status_for refusal) × TookAll notes (refusal_line refusal))
    ⊎ (((status ≡ Outside Notes) × TookPart notes (refusal_line refusal))
    ⊎ ((status ≡ NoMemory) × TookNothing notes))
IsNoted (Unread unread) status notes =
    ((status ≡ Outside (File unread.number)) × TookAllOrPart notes (file_line (string_bytes unread.name)))
    ⊎ ((status ≡ NoMemory) × TookNothing notes)
IsNoted Memory status notes = (status ≡ NoMemory) × TookNothing notes
