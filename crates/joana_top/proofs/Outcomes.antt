-- From the classes of the files and the decision to what a command comes to.
use Rattle.std.proofs.Common.{◌≡◌, ℕ, ◌<◌, ◌^◌, List, length, Result, Ok, Err, sym, subst, arith}
use Rattle.std.proofs.lemmas.List.{length-map}
use Rattle.std.specs.Prelude.{Vec}
use Rattle.std.specs.declared.alloc.Global.{Global}
use Rattle.class_pool.specs.declared.classes.ClassFile.{ClassFile}
use Rattle.jo_prog.specs.declared.program.Program.{Program}
use Rattle.jo_prog.specs.declared.labels.Labels.{Labels}
use Rattle.jo_prog.specs.PlainCode.{IsWellLabelled}
use Rattle.low_run.proofs.Verdicts.{clean_graph_secure}
use Rattle.joana_base.specs.Files.{Held, ProgramNames, ProgramFiles, AreProgramFiles, IsToldAs, classes_of, AreReadable, of_classes, HaveClasses}
use Rattle.joana_base.specs.Reading.{FilesChange, in_bytes, AfterReads, ReadsProgram, AreClasses, IsUnlessMemory}
use Rattle.joana_base.specs.declared.reading.ProgramFiles as memory
use Rattle.joana_base.proofs.ReadFiles.{few_files}
use Rattle.joana_base.specs.declared.status.Status.{Status}
use Rattle.joana_base.specs.declared.status.Status.TheVariants as statuses
use Rattle.joana_base.specs.declared.status.Refusal.{Refusal}
use Rattle.joana_base.specs.declared.answers.Answer.{Answer}
use Rattle.joana_base.specs.declared.answers.Answer.TheVariants.{Yes, No}
use Rattle.joana_base.specs.declared.answers.Stop.{Stop}
use Rattle.joana_base.specs.declared.answers.Stop.TheVariants.{Faulty, Unread, Memory}
use Rattle.joana_top.specs.Answers.{IsOutcome, IsReadOutcome}
use Rattle.joana_top.specs.Stops.{StopsBy, IsLinked, IsLinkStop, IsTypedProgram, IsTypingStop, GivesLabels, IsLabelStop, RefusesLabelling, of_typing, of_policy, IsLabellingStop, RefusesRunFile, IsRunFileStop, IsProgramOf, RefusesMaking, in_files, in_classes, IsMakingStop, IsRefusalBy, in_making, in_program}
use Rattle.joana_top.specs.Check as check
use Rattle.joana_top.specs.Check.{IsReportOf, IsReportText, IsCheckText, IsCheckAnswer, IsSecureCheck, RefusesProgram, of_form, IsDecision, IsShown, IsVerdictOf, IsProgramOutcome, IsFilesOutcome}
use Rattle.joana_top.specs.Run as runs
use Rattle.joana_top.specs.Run.{run_file_in, IsRunText, IsRunAnswer, RefusesRun, IsTraceBy, IsProgramRun, IsFilesRun}
use Rattle.joana_top.specs.OneFile.{OfFile}
use Rattle.joana_top.specs.declared.commands.check.Decision.{Decision}
use Rattle.joana_top.specs.declared.commands.check.Decision.TheVariants as decisions
use Rattle.joana_top.proofs.Forms.{first_form}

-- ---- from files that were read to a command

-- where all files were read nothing more is
pub quiet_outcome : (IsText : Status → List ℕ → Type 0) (Faults : Refusal → Type 0) (IsName : ℕ → List ℕ → Type 0) (result : Result Answer Stop) (files : FilesChange)
    → files.faults_after ≡ files.faults_before → IsReadOutcome IsText Faults result → AfterReads IsName result files
quiet_outcome IsText Faults IsName (Ok answer) files same said = same
quiet_outcome IsText Faults IsName (Err (Faulty refusal)) files same said = same
quiet_outcome IsText Faults IsName (Err (Unread unread)) files same said = absurd said
quiet_outcome IsText Faults IsName (Err Memory) files same said = omega (arith, same)

-- what is said of files that were read is said of those with these names
pub named_outcome : (IsAnswer : ProgramFiles → Status → List ℕ → Type 0) (IsRefusal : ProgramFiles → Refusal → Type 0) (held : Held) (names : ProgramNames) (files : ProgramFiles) (result : Result Answer Stop)
    → AreProgramFiles held names files → IsReadOutcome (IsAnswer files) (IsRefusal files) result
    → IsOutcome (λ status text. (files : ProgramFiles) × AreProgramFiles held names files × IsAnswer files status text) (λ refusal. (files : ProgramFiles) × AreProgramFiles held names files × IsRefusal files refusal) result
named_outcome IsAnswer IsRefusal held names files (Ok answer) are said = (files, are, said)
named_outcome IsAnswer IsRefusal held names files (Err (Faulty refusal)) are said = (files, are, said)
named_outcome IsAnswer IsRefusal held names files (Err (Unread unread)) are said = tt
named_outcome IsAnswer IsRefusal held names files (Err Memory) are said = tt

-- where a read stops, or nothing is read for what refuses the files, whatever refuses the program
pub read_stopped : (IsAnswer : Status → List ℕ → Type 0) (RefusesBy : ProgramFiles → Program → Refusal → Type 0) (held : Held) (names : ProgramNames) (stop : Stop) → ReadsProgram held names (Err stop)
    → IsOutcome IsAnswer (λ refusal. (files : ProgramFiles) × AreProgramFiles held names files × IsRefusalBy (RefusesBy files) files refusal) (Err stop)
read_stopped IsAnswer RefusesBy held names (Faulty refusal) read = (read.0, read.1, in_making refusal (in_files refusal read.2))
read_stopped IsAnswer RefusesBy held names (Unread unread) read = tt
read_stopped IsAnswer RefusesBy held names Memory read = tt

-- a stop by what refuses a part is one by what refuses the whole
pub stop_outcome : (IsAnswer : Status → List ℕ → Type 0) (Part Whole : Refusal → Type 0) → ((refusal : Refusal) → Part refusal → Whole refusal) → (stop : Stop) → StopsBy Part stop → IsReadOutcome IsAnswer Whole (Err stop)
stop_outcome IsAnswer Part Whole of_part (Faulty refusal) stopped = of_part refusal stopped
stop_outcome IsAnswer Part Whole of_part (Unread unread) stopped = absurd stopped
stop_outcome IsAnswer Part Whole of_part Memory stopped = tt

-- one file, then an outcome
pub file_outcome : (IsAnswer : List ℕ → Status → List ℕ → Type 0) (IsRefusal : List ℕ → Refusal → Type 0) (held : Held) (name bytes : List ℕ) (result : Result Answer Stop)
    → IsToldAs held name bytes → IsReadOutcome (IsAnswer bytes) (IsRefusal bytes) result
    → IsOutcome (λ status text. OfFile held name (λ b. IsAnswer b status text)) (λ refusal. OfFile held name (λ b. IsRefusal b refusal)) result
file_outcome IsAnswer IsRefusal held name bytes (Ok answer) told said = (bytes, told, said)
file_outcome IsAnswer IsRefusal held name bytes (Err (Faulty refusal)) told said = (bytes, told, said)
file_outcome IsAnswer IsRefusal held name bytes (Err (Unread unread)) told said = tt
file_outcome IsAnswer IsRefusal held name bytes (Err Memory) told said = tt

-- ---- the program of the files

-- what refuses the class files refuses the program that they would make
pub refused_classes : (files : ProgramFiles) → AreReadable files → (stop : Stop) → IsUnlessMemory {A = List ClassFile} (Err stop) (classes_of files.third files.classes) → IsMakingStop files stop
refused_classes files ready (Faulty refusal) stopped = in_files refusal (of_classes refusal ready stopped)
refused_classes files ready (Unread unread) stopped = absurd stopped
refused_classes files ready Memory stopped = tt

pub few_classes : (files : memory.ProgramFiles) → AreReadable (in_bytes files) → length files.classes.items < 2 ^ 32
few_classes files ready =
    let few = few_files (in_bytes files) ready in
    let mapped = length-map files.classes.items (λ (file : Vec ℕ Global). file.items) in
    omega (arith, few, mapped)

module _ (files : ProgramFiles) (ready : AreReadable files) (classes : List ClassFile) (comes : classes_of files.third files.classes ≡ Ok classes) where
  passes : HaveClasses files classes
  passes = record { readable = ready; classes_are = comes }

  -- so does what refuses them together
  pub refused_linking : (stop : Stop) → IsLinkStop classes stop → IsMakingStop files stop
  refused_linking (Faulty refusal) stopped = in_classes classes refusal passes stopped
  refused_linking (Unread unread) stopped = absurd stopped
  refused_linking Memory stopped = tt

  pub program_made : AreClasses files.classes classes → (program : Program) → IsLinked classes program → IsProgramOf files program
  program_made read program linked = record { classes = classes; are_classes = read; passes = passes; linked = linked }

-- what is said of the program and the policy is said of the files
module _ (files : ProgramFiles) (program : Program) (made : IsProgramOf files program) where
  pub of_program : (result : Result Answer Stop) → IsProgramOutcome program files.policy result → IsFilesOutcome files result
  of_program (Ok (Yes text)) said = (said.0, program, said.2, record { made = made; typed = said.1; form = said.3 }, said.4)
  of_program (Ok (No text)) said = (program, said.1, record { made = made; typed = said.0; form = said.2 }, said.3)
  of_program (Err (Faulty refusal)) said = in_program program refusal made said
  of_program (Err (Unread unread)) said = absurd said
  of_program (Err Memory) said = tt

  -- and of a run file
  pub of_run : (result : Result Answer Stop) → IsProgramRun program files.policy (run_file_in files.third) result → IsFilesRun files result
  of_run (Ok (Yes text)) said = (program, said.1, said.3, record { made = made; typed = said.0; labels_are = said.2; plan_is = said.4 }, said.5)
  of_run (Ok (No text)) said = absurd said
  of_run (Err (Faulty refusal)) said = in_program program refusal made said
  of_run (Err (Unread unread)) said = absurd said
  of_run (Err Memory) said = tt

pub making_stopped : (IsAnswer : Status → List ℕ → Type 0) (RefusesProgram : Program → Refusal → Type 0) (files : ProgramFiles) (stop : Stop) → IsMakingStop files stop → IsReadOutcome IsAnswer (IsRefusalBy RefusesProgram files) (Err stop)
making_stopped IsAnswer RefusesProgram files stop stopped = stop_outcome IsAnswer (RefusesMaking files) (IsRefusalBy RefusesProgram files) (λ refusal by. in_making refusal by) stop stopped

-- ---- a program and a policy

pub typing_labelling : (program : Program) (policy : List ℕ) (stop : Stop) → IsTypingStop program stop → IsLabellingStop program policy stop
typing_labelling program policy (Faulty refusal) stopped = of_typing refusal stopped
typing_labelling program policy (Unread unread) stopped = absurd stopped
typing_labelling program policy Memory stopped = tt

pub policy_labelling : (program : Program) (policy : List ℕ) → IsTypedProgram program → (stop : Stop) → IsLabelStop program policy stop → IsLabellingStop program policy stop
policy_labelling program policy typed (Faulty refusal) stopped = of_policy refusal typed stopped
policy_labelling program policy typed (Unread unread) stopped = absurd stopped
policy_labelling program policy typed Memory stopped = tt

module _ (program : Program) (policy : List ℕ) where
  pub refused_check : (stop : Stop) → IsLabellingStop program policy stop → IsProgramOutcome program policy (Err stop)
  refused_check stop stopped = stop_outcome (IsVerdictOf program policy) (RefusesLabelling program policy) (RefusesProgram program policy) (λ refusal by. check.of_labelling refusal by) stop stopped

  pub refused_run : (run_file : List ℕ) (stop : Stop) → IsLabellingStop program policy stop → IsProgramRun program policy run_file (Err stop)
  refused_run run_file stop stopped = stop_outcome (IsTraceBy program policy run_file) (RefusesLabelling program policy) (RefusesRun program policy run_file) (λ refusal by. runs.of_labelling refusal by) stop stopped

  pub refused_run_file : (labels : Labels) (run_file : List ℕ) → IsTypedProgram program → GivesLabels program policy labels → (stop : Stop) → IsRunFileStop program labels run_file stop → IsProgramRun program policy run_file (Err stop)
  refused_run_file labels run_file typed gives stop stopped =
      stop_outcome (IsTraceBy program policy run_file) (RefusesRunFile program labels run_file) (RefusesRun program policy run_file) (λ refusal by. runs.of_run_file labels refusal typed gives by) stop stopped

module _ (program : Program) (policy : List ℕ) (typed : IsTypedProgram program) where
  module _ (labels : Labels) (gives : GivesLabels program policy labels) (well : IsWellLabelled program labels) where
    -- what is shown of the decision says so of the program
    pub decided : (decision : Decision) (result : Result Answer Stop) → IsDecision program labels decision → IsShown decision result → IsProgramOutcome program policy result
    decided decisions.NotBuilt (Err (Faulty refusal)) none shown =
        let P : Refusal → Type 0 = RefusesProgram program policy in
        subst P (sym shown) (of_form labels typed gives none)
    decided decisions.NotBuilt (Err Memory) none shown = tt
    decided decisions.NotBuilt (Err (Unread unread)) none shown = absurd shown
    decided decisions.NotBuilt (Ok (Yes text)) none shown = absurd shown
    decided decisions.NotBuilt (Ok (No text)) none shown = absurd shown
    decided decisions.Accepted (Ok (Yes text)) clean shown = (shown, typed, labels, first_form program policy labels gives typed well clean.0, clean.1)
    decided decisions.Accepted (Ok (No text)) clean shown = absurd shown
    decided decisions.Accepted (Err Memory) clean shown = tt
    decided decisions.Accepted (Err (Faulty refusal)) clean shown = absurd shown
    decided decisions.Accepted (Err (Unread unread)) clean shown = absurd shown
    decided (decisions.Refused report) (Ok (No text)) reports shown =
        let P : List ℕ → Type 0 = IsReportOf program labels in
        (typed, labels, first_form program policy labels gives typed well reports.0, subst P (sym shown) reports.1)
    decided (decisions.Refused report) (Ok (Yes text)) reports shown = absurd shown
    decided (decisions.Refused report) (Err Memory) reports shown = tt
    decided (decisions.Refused report) (Err (Faulty refusal)) reports shown = absurd shown
    decided (decisions.Refused report) (Err (Unread unread)) reports shown = absurd shown

-- ---- what is shown of a check

report_text : (program : Program) (labels : Labels) (text : List ℕ) → IsReportOf program labels text → IsReportText text
report_text program labels text r = (program, labels, r.2.observer, r.2.from, r.2.links, r.2.text_is)

pub check_text : (held : Held) (names : ProgramNames) (status : Status) (text : List ℕ) → IsCheckAnswer held names status text → IsCheckText status text
check_text held names statuses.Done text shows = shows.2.0
check_text held names statuses.Refused text shows = report_text shows.2.0 shows.2.1 text shows.2.3
check_text held names _ text shows = absurd shows.2

pub check_secure : (held : Held) (names : ProgramNames) (text : List ℕ) → IsCheckAnswer held names statuses.Done text → IsSecureCheck held names statuses.Done
check_secure held names text shows =
    let verdict = shows.2 in
    (shows.0, shows.1, verdict.1, verdict.2, verdict.3, verdict.4, clean_graph_secure verdict.1 verdict.2 verdict.3.form.plain verdict.4)

-- ---- what is shown of a run

pub run_shown : (held : Held) (names : ProgramNames) (status : Status) (text : List ℕ) → IsRunAnswer held names status text → IsRunText status text
run_shown held names statuses.Done text shows = (shows.2.0, runs.run_by shows.2.0 shows.2.1 shows.2.2, shows.2.4)
run_shown held names _ text shows = absurd shows.2
