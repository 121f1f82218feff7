-- The clauses of the top call: what its answer says of the words, the reads, what was put, and the files. Where the words are no
-- command, nothing is said of files.
use Rattle.std.specs.Prelude.{◌≡◌, ◌⊎◌, ◌≤◌, ℕ, List, Option, Some, None, ⊤}
use Rattle.jo_io.specs.Counts.{Rose}
use Rattle.joana_base.specs.Notes.{words_line, file_line, output_line, refusal_line}
use Rattle.joana_base.specs.Files.{Held}
use Rattle.joana_base.specs.Reading.{FilesChange}
use Rattle.joana_base.specs.declared.status.Status.{Status}
use Rattle.joana_base.specs.declared.status.Status.TheVariants.{Words, Input, Limit, Outside, Memory}
use Rattle.joana_base.specs.declared.status.OutsideFault.TheVariants.{File, Output, Notes}
use Rattle.joana_base.specs.declared.status.Refusal.{Refusal}
use Rattle.joana_base.specs.declared.status.Refusal.TheVariants as refusals
use Rattle.joana_top.specs.Words.{Command}
use Rattle.joana_top.specs.Words.Command.{check, run, asm, dis}
use Rattle.joana_top.specs.Sinks.{SinkChange, TookAll, TookPart, TookNothing, TookAllOrPart}
use Rattle.joana_top.specs.Answers.{Puts}
use Rattle.joana_top.specs.Commands.{IsReadName, IsTextOf, Refuses}
use Rattle.joana_top.specs.Check.{IsCheckAnswer, IsSecureCheck}
use Rattle.joana_top.specs.Run.{IsRunAnswer}
use Rattle.joana_top.specs.Asm.{IsAsmAnswer}
use Rattle.joana_top.specs.Dis.{IsDisAnswer}

-- the words are no command, or are one
abbrev pub FitsWords : Option Command → Status → Type 0
FitsWords None status = (status ≡ Words) ⊎ (status ≡ Outside Notes)
FitsWords (Some command) Words = ⊥
FitsWords (Some command) status = ⊤

-- the read with that number failed
abbrev pub IsFailedRead : Held → Option Command → ℕ → List ℕ → Type 0
IsFailedRead held None number name = ⊥
IsFailedRead held (Some command) number name = IsReadName held command number name

-- the files' count rises where a read failed, and that read is the last that failed
abbrev pub FitsReads : Option Command → Status → FilesChange → Type 0
FitsReads command (Outside (File number)) files =
    Rose files.faults_before files.faults_after × IsFailedRead files.held command number files.last_failed
FitsReads command Memory files = files.faults_before ≤ files.faults_after
FitsReads command status files = files.faults_after ≡ files.faults_before

-- what the output was given: a text of the command, or a part of one, or nothing
abbrev pub FitsOutput : Option Command → Status → SinkChange → Type 0
FitsOutput None status out = TookNothing out
FitsOutput (Some command) status out = Puts (IsTextOf command) status out

-- what the notes were given where the put of their line failed: of the words, or of what refuses a command
abbrev pub TookPartOfLine : Option Command → SinkChange → Type 0
TookPartOfLine None notes = TookPart notes words_line
TookPartOfLine (Some command) notes = (refusal : Refusal) × TookPart notes (refusal_line refusal)

-- what the notes were given, where this is the name of the last read that failed
abbrev pub FitsNotes : Option Command → Status → List ℕ → SinkChange → Type 0
FitsNotes command Words failed notes = TookAll notes words_line
FitsNotes command (Input fault) failed notes = TookAll notes (refusal_line (refusals.Input fault))
FitsNotes command (Limit kind) failed notes = TookAll notes (refusal_line (refusals.Limit kind))
FitsNotes command (Outside (File number)) failed notes = TookAllOrPart notes (file_line failed)
FitsNotes command (Outside Output) failed notes = TookAllOrPart notes output_line
FitsNotes command (Outside Notes) failed notes = TookPartOfLine command notes
FitsNotes command status failed notes = TookNothing notes

-- the files are refused so
abbrev pub FitsRefusals : Held → Option Command → Status → SinkChange → Type 0
FitsRefusals held (Some command) (Input fault) notes = Refuses held command (refusals.Input fault)
FitsRefusals held (Some command) (Limit kind) notes = Refuses held command (refusals.Limit kind)
FitsRefusals held (Some command) (Outside Notes) notes =
    (refusal : Refusal) × Refuses held command refusal × TookPart notes (refusal_line refusal)
FitsRefusals held command status notes = ⊤

-- the text of a check says so of its files
abbrev pub FitsVerdict : Held → Option Command → Status → SinkChange → Type 0
FitsVerdict held (Some (check names)) status out = Puts (IsCheckAnswer held names) status out
FitsVerdict held command status out = ⊤

-- accepted means secure
abbrev pub IsSecureIfAccepted : Held → Option Command → Status → Type 0
IsSecureIfAccepted held (Some (check names)) status = IsSecureCheck held names status
IsSecureIfAccepted held command status = ⊤

-- the text is the trace of its run
abbrev pub FitsTrace : Held → Option Command → Status → SinkChange → Type 0
FitsTrace held (Some (run names)) status out = Puts (IsRunAnswer held names) status out
FitsTrace held command status out = ⊤

-- the bytes are the class file of its text
abbrev pub FitsAssembly : Held → Option Command → Status → SinkChange → Type 0
FitsAssembly held (Some (asm file)) status out = Puts (IsAsmAnswer held file) status out
FitsAssembly held command status out = ⊤

-- the text is the listing of its file
abbrev pub FitsListing : Held → Option Command → Status → SinkChange → Type 0
FitsListing held (Some (dis file)) status out = Puts (IsDisAnswer held file) status out
FitsListing held command status out = ⊤
