-- `run CLASSES POLICY RUNFILE`: one run of the program that the files make, over the schedule of the run file, and what refuses the
-- files.
use Rattle.std.specs.Prelude.{◌≡◌, ℕ, List, [], Option, Some, None, Result}
use Rattle.jo_prog.specs.declared.program.Program.{Program}
use Rattle.jo_prog.specs.declared.labels.Labels.{Labels}
use Rattle.jo_prog.specs.declared.runs.Trace.{Trace}
use Rattle.machine.specs.Runs.{run}
use Rattle.run_plans.specs.declared.run_file.RunPlan.{RunPlan}
use Rattle.run_plans.specs.Schedules.{repeated}
use Rattle.joana_base.specs.Files.{Held, ProgramNames, ProgramFiles, AreProgramFiles}
use Rattle.joana_base.specs.declared.status.Status.{Status}
use Rattle.joana_base.specs.declared.status.Status.TheVariants.{Done}
use Rattle.joana_base.specs.declared.status.Refusal.{Refusal}
use Rattle.joana_base.specs.declared.answers.Answer.{Answer}
use Rattle.joana_base.specs.declared.answers.Stop.{Stop}
use Rattle.joana_top.specs.Answers.{IsOutcome, IsReadOutcome}
use Rattle.joana_top.specs.Stops.{IsTypedProgram, GivesLabels, RefusesLabelling, GivesPlan, RefusesRunFile, IsProgramOf, IsRefusalBy}
use Rattle.joana_top.specs.Traces.{trace_text}

-- the text of the run file; a run has one
abbrev pub run_file_in : Option (List ℕ) → List ℕ
run_file_in None = []
run_file_in (Some text) = text

-- the plan of a run
abbrev pub run_by : Program → Labels → RunPlan → Trace
run_by program labels plan = run program labels plan.inputs (repeated plan.schedule plan.steps)

-- The files of a run: they make this program, which is typed, the policy gives it these labels, and the run file this plan.
pub record IsRunInput (files : ProgramFiles) (program : Program) (labels : Labels) (plan : RunPlan) : Type 0 where
  pub made : IsProgramOf files program
  pub typed : IsTypedProgram program
  pub labels_are : GivesLabels program files.policy labels
  pub plan_is : GivesPlan program labels (run_file_in files.third) plan

-- ---- what it shows

-- the texts that it may show with a status
abbrev pub IsRunText : Status → List ℕ → Type 0
IsRunText Done text = (program : Program) × (trace : Trace) × (text ≡ trace_text program trace)
IsRunText status text = ⊥

-- what a text with a status says of files
abbrev pub IsTraceOf : ProgramFiles → Status → List ℕ → Type 0
IsTraceOf files Done text =
    (program : Program) × (labels : Labels) × (plan : RunPlan) × IsRunInput files program labels plan
    × (text ≡ trace_text program (run_by program labels plan))
IsTraceOf files status text = ⊥

-- it says so of files that are those with these names wherever they are told, so of exactly those where all are
abbrev pub IsRunAnswer : Held → ProgramNames → Status → List ℕ → Type 0
IsRunAnswer held names status text =
    (files : ProgramFiles) × AreProgramFiles held names files × IsTraceOf files status text

-- ---- what refuses its files

-- what refuses a program with a policy and a run file: the first fault of typing, else that of the policy, else that of the run file
pub data RefusesRun (program : Program) (policy run_file : List ℕ) : Refusal → Type 0 where
  of_labelling : (refusal : Refusal) → RefusesLabelling program policy refusal → RefusesRun program policy run_file refusal
  of_run_file : (labels : Labels) (refusal : Refusal) → IsTypedProgram program → GivesLabels program policy labels
      → RefusesRunFile program labels run_file refusal → RefusesRun program policy run_file refusal

abbrev pub IsRunRefusalOf : ProgramFiles → Refusal → Type 0
IsRunRefusalOf files refusal =
    IsRefusalBy (λ program refused. RefusesRun program files.policy (run_file_in files.third) refused) files refusal

abbrev pub RunRefuses : Held → ProgramNames → Refusal → Type 0
RunRefuses held names refusal =
    (files : ProgramFiles) × AreProgramFiles held names files × IsRunRefusalOf files refusal

-- ---- what the parts of the code say

-- what a text with a status says of a program, a policy and a run file
abbrev pub IsTraceBy : Program → List ℕ → List ℕ → Status → List ℕ → Type 0
IsTraceBy program policy run_file Done text =
    IsTypedProgram program × (labels : Labels) × GivesLabels program policy labels × (plan : RunPlan) × GivesPlan program labels run_file plan
    × (text ≡ trace_text program (run_by program labels plan))
IsTraceBy program policy run_file status text = ⊥

abbrev pub IsProgramRun : Program → List ℕ → List ℕ → Result Answer Stop → Type 0
IsProgramRun program policy run_file result = IsReadOutcome (IsTraceBy program policy run_file) (RefusesRun program policy run_file) result

-- what it comes to on files that were read, and on those with these names
abbrev pub IsFilesRun : ProgramFiles → Result Answer Stop → Type 0
IsFilesRun files result = IsReadOutcome (IsTraceOf files) (IsRunRefusalOf files) result

abbrev pub IsRunOutcome : Held → ProgramNames → Result Answer Stop → Type 0
IsRunOutcome held names result = IsOutcome (IsRunAnswer held names) (RunRefuses held names) result
