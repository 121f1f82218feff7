-- What is said of each command.
use Rattle.std.specs.Prelude.{ℕ, List, Result}
use Rattle.joana_base.specs.Files.{Held}
use Rattle.joana_base.specs.Reading.{FilesChange, IsProgramRead, AfterReads}
use Rattle.joana_base.specs.declared.status.Status.{Status}
use Rattle.joana_base.specs.declared.status.Refusal.{Refusal}
use Rattle.joana_base.specs.declared.answers.Answer.{Answer}
use Rattle.joana_base.specs.declared.answers.Stop.{Stop}
use Rattle.joana_top.specs.Words.{Command}
use Rattle.joana_top.specs.Words.Command.{check, run, asm, dis, help}
use Rattle.joana_top.specs.Answers.{IsOutcome}
use Rattle.joana_top.specs.Check.{IsCheckText, IsCheckAnswer, CheckRefuses}
use Rattle.joana_top.specs.Run.{IsRunText, IsRunAnswer, RunRefuses}
use Rattle.joana_top.specs.OneFile.{IsOnlyRead}
use Rattle.joana_top.specs.Asm.{IsAsmText, IsAsmAnswer, AsmRefuses}
use Rattle.joana_top.specs.Dis.{IsDisText, IsDisAnswer, DisRefuses}
use Rattle.joana_top.specs.Help.{IsHelpText}

-- the name of the read with that number
abbrev pub IsReadName : Held → Command → ℕ → List ℕ → Type 0
IsReadName held (check names) number name = IsProgramRead held names number name
IsReadName held (run names) number name = IsProgramRead held names number name
IsReadName held (asm file) number name = IsOnlyRead file number name
IsReadName held (dis file) number name = IsOnlyRead file number name
IsReadName held help number name = ⊥

-- the texts that it may show with a status
abbrev pub IsTextOf : Command → Status → List ℕ → Type 0
IsTextOf (check names) status text = IsCheckText status text
IsTextOf (run names) status text = IsRunText status text
IsTextOf (asm file) status text = IsAsmText status text
IsTextOf (dis file) status text = IsDisText status text
IsTextOf help status text = IsHelpText status text

-- what a text with a status says of its files
abbrev pub IsAnswerOf : Held → Command → Status → List ℕ → Type 0
IsAnswerOf held (check names) status text = IsCheckAnswer held names status text
IsAnswerOf held (run names) status text = IsRunAnswer held names status text
IsAnswerOf held (asm file) status text = IsAsmAnswer held file status text
IsAnswerOf held (dis file) status text = IsDisAnswer held file status text
IsAnswerOf held help status text = IsHelpText status text

-- what refuses its files
abbrev pub Refuses : Held → Command → Refusal → Type 0
Refuses held (check names) refusal = CheckRefuses held names refusal
Refuses held (run names) refusal = RunRefuses held names refusal
Refuses held (asm file) refusal = AsmRefuses held file refusal
Refuses held (dis file) refusal = DisRefuses held file refusal
Refuses held help refusal = ⊥

-- ---- what the parts of the code say

abbrev pub AfterCommandReads : {T : Type 0} → Command → Result T Stop → FilesChange → Type 0
AfterCommandReads command result files = AfterReads (IsReadName files.held command) result files

abbrev pub IsCommandOutcome : Held → Command → Result Answer Stop → Type 0
IsCommandOutcome held command result = IsOutcome (IsAnswerOf held command) (Refuses held command) result
