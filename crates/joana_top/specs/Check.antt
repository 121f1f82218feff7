-- `check CLASSES POLICY`: the program that the files make, what it shows of it, and what refuses the files. Programs are of the
-- first form: the entry's code is one straight line.
use Rattle.std.specs.Prelude.{◌≡◌, ℕ, ◌^◌, ◌<◌, List, Some, Result, Ok, Err, codes, ⊤}
use Rattle.jo_prog.specs.declared.program.Program.{Program}
use Rattle.jo_prog.specs.declared.program.Code.{Code}
use Rattle.jo_prog.specs.declared.labels.Labels.{Labels}
use Rattle.jo_prog.specs.Program.{code_at}
use Rattle.jo_prog.specs.PlainCode.{IsPlainFrom, IsPlainProgram}
use Rattle.dep_nodes.specs.Nodes.{Node}
use Rattle.dep_nodes.specs.Chains.{Link}
use Rattle.chain_report.specs.Report.{chain_text}
use Rattle.low_run.specs.Verdict.{HasCleanGraph, HasReport}
use Rattle.low_run.specs.Security.{Secure}
use Rattle.joana_base.specs.Files.{Held, ProgramNames, ProgramFiles, AreProgramFiles}
use Rattle.joana_base.specs.declared.status.Status.{Status}
use Rattle.joana_base.specs.declared.status.Status.TheVariants as statuses
use Rattle.joana_base.specs.declared.status.InputFault.TheVariants as faults
use Rattle.joana_base.specs.declared.status.Refusal.{Refusal}
use Rattle.joana_base.specs.declared.status.Refusal.TheVariants.{Input}
use Rattle.joana_base.specs.declared.answers.Answer.{Answer}
use Rattle.joana_base.specs.declared.answers.Answer.TheVariants.{Yes, No}
use Rattle.joana_base.specs.declared.answers.Stop.{Stop}
use Rattle.joana_base.specs.declared.answers.Stop.TheVariants.{Faulty, Memory}
use Rattle.joana_top.specs.Answers.{IsOutcome, IsReadOutcome}
use Rattle.joana_top.specs.Stops.{IsTypedProgram, GivesLabels, RefusesLabelling, IsProgramOf, IsRefusalBy}
use Rattle.joana_top.specs.declared.commands.check.Decision.{Decision}
use Rattle.joana_top.specs.declared.commands.check.Decision.TheVariants.{NotBuilt, Accepted, Refused}

-- ---- the program

-- its dependence graph is clean for each observer
abbrev pub IsClean : Program → Labels → Type 0
IsClean program labels = HasCleanGraph program labels

-- the text reports an illegal chain of the first observer that has one
abbrev pub IsReportOf : Program → Labels → List ℕ → Type 0
IsReportOf program labels text = HasReport program labels text

-- the entry's code is one straight line
abbrev pub IsFormOf : Program → Labels → Type 0
IsFormOf program labels =
    (code : Code) × (code_at program labels.entry ≡ Some code) × IsPlainFrom program labels labels.entry code 0

-- a policy of this text gives the program these labels, with which it is of the first form
pub record IsFirstForm (program : Program) (policy : List ℕ) (labels : Labels) : Type 0 where
  pub labels_are : GivesLabels program policy labels
  pub plain : IsPlainProgram program labels

-- The files of a check are in the first form: they make this program, which is typed and to which the policy gives these labels.
pub record IsInput (files : ProgramFiles) (program : Program) (labels : Labels) : Type 0 where
  pub made : IsProgramOf files program
  pub typed : IsTypedProgram program
  pub form : IsFirstForm program files.policy labels

-- ---- what it shows

abbrev pub accepted_text : List ℕ
accepted_text = codes "accepted\n"

-- a text of a report
abbrev pub IsReportText : List ℕ → Type 0
IsReportText text =
    (program : Program) × (labels : Labels) × (observer : ℕ) × (from : Node) × (links : List Link)
    × (text ≡ chain_text program labels observer from links)

-- the texts that it may show with a status
abbrev pub IsCheckText : Status → List ℕ → Type 0
IsCheckText statuses.Done text = text ≡ accepted_text
IsCheckText statuses.Refused text = IsReportText text
IsCheckText status text = ⊥

-- what a text with a status says of files
abbrev pub IsVerdictOn : ProgramFiles → Status → List ℕ → Type 0
IsVerdictOn files statuses.Done text =
    (text ≡ accepted_text) × (program : Program) × (labels : Labels) × IsInput files program labels
    × IsClean program labels
IsVerdictOn files statuses.Refused text =
    (program : Program) × (labels : Labels) × IsInput files program labels × IsReportOf program labels text
IsVerdictOn files status text = ⊥

-- it says so of files that are those with these names wherever they are told, so of exactly those where all are
abbrev pub IsCheckAnswer : Held → ProgramNames → Status → List ℕ → Type 0
IsCheckAnswer held names status text =
    (files : ProgramFiles) × AreProgramFiles held names files × IsVerdictOn files status text

-- accepted: such files make a program, which is clean, and it is secure
abbrev pub IsSecureCheck : Held → ProgramNames → Status → Type 0
IsSecureCheck held names statuses.Done =
    (files : ProgramFiles) × AreProgramFiles held names files × (program : Program) × (labels : Labels)
    × IsInput files program labels × IsClean program labels × Secure program labels
IsSecureCheck held names status = ⊤

-- ---- what refuses its files

-- what refuses a program with a policy: the first fault of typing, else that of the policy, else that it is in no form that is built
pub data RefusesProgram (program : Program) (policy : List ℕ) : Refusal → Type 0 where
  of_labelling : (refusal : Refusal) → RefusesLabelling program policy refusal → RefusesProgram program policy refusal
  of_form : (labels : Labels) → IsTypedProgram program → GivesLabels program policy labels → (IsFormOf program labels → ⊥)
      → RefusesProgram program policy (Input faults.NotBuilt)

abbrev pub IsRefusalOf : ProgramFiles → Refusal → Type 0
IsRefusalOf files refusal = IsRefusalBy (λ program refused. RefusesProgram program files.policy refused) files refusal

abbrev pub CheckRefuses : Held → ProgramNames → Refusal → Type 0
CheckRefuses held names refusal =
    (files : ProgramFiles) × AreProgramFiles held names files × IsRefusalOf files refusal

-- ---- what the parts of the code say

-- the limits of a method's code
abbrev pub HasLimits : Program → ℕ → ℕ → ℕ → Type 0
HasLimits program m stack locals =
    (code : Code) → code_at program m ≡ Some code → (code.max_stack ≡ stack) × (code.max_locals ≡ locals)

-- the limits of a method's code are numbers of 16 bits
abbrev pub HasShortLimits : Program → ℕ → Type 0
HasShortLimits program m =
    (code : Code) → code_at program m ≡ Some code → (code.max_stack < 2 ^ 16) × (code.max_locals < 2 ^ 16)

-- the decision on a program of the first form
abbrev pub IsVerdict : Program → Labels → Decision → Type 0
IsVerdict program labels NotBuilt = ⊥
IsVerdict program labels Accepted = IsClean program labels
IsVerdict program labels (Refused text) = IsReportOf program labels text.items

-- the decision on a program that is well labelled
abbrev pub IsDecision : Program → Labels → Decision → Type 0
IsDecision program labels NotBuilt = IsFormOf program labels → ⊥
IsDecision program labels Accepted = IsFormOf program labels × IsClean program labels
IsDecision program labels (Refused text) = IsFormOf program labels × IsReportOf program labels text.items

-- what a text with a status says of a program and a policy
abbrev pub IsVerdictOf : Program → List ℕ → Status → List ℕ → Type 0
IsVerdictOf program policy statuses.Done text =
    (text ≡ accepted_text) × IsTypedProgram program × (labels : Labels) × IsFirstForm program policy labels × IsClean program labels
IsVerdictOf program policy statuses.Refused text =
    IsTypedProgram program × (labels : Labels) × IsFirstForm program policy labels × IsReportOf program labels text
IsVerdictOf program policy status text = ⊥

abbrev pub IsProgramOutcome : Program → List ℕ → Result Answer Stop → Type 0
IsProgramOutcome program policy result = IsReadOutcome (IsVerdictOf program policy) (RefusesProgram program policy) result

-- what is shown of a decision
abbrev pub IsShown : Decision → Result Answer Stop → Type 0
IsShown NotBuilt (Err (Faulty refusal)) = refusal ≡ Input faults.NotBuilt
IsShown Accepted (Ok (Yes text)) = text.items ≡ accepted_text
IsShown (Refused report) (Ok (No text)) = text.items ≡ report.items
IsShown decision (Err Memory) = ⊤
IsShown decision _ = ⊥

-- what it comes to on files that were read, and on those with these names
abbrev pub IsFilesOutcome : ProgramFiles → Result Answer Stop → Type 0
IsFilesOutcome files result = IsReadOutcome (IsVerdictOn files) (IsRefusalOf files) result

abbrev pub IsCheckOutcome : Held → ProgramNames → Result Answer Stop → Type 0
IsCheckOutcome held names result = IsOutcome (IsCheckAnswer held names) (CheckRefuses held names) result
