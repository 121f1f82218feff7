-- Why class files and a policy can't be judged, in the order in which it is told: faults of linking, then of typing, then of the
-- policy (this project's own).
use Rattle.std.specs.Prelude.{◌≡◌, ℕ, ◌<◌, length, List, [], ◌∷◌, ◌++◌, Option, Some, None, Ok, ⊤}
use Rattle.std.specs.Fmt.{decimal}
use Rattle.toml.specs.Data.{Members}
use Rattle.jo_text.specs.Escapes.{escaped}
use Rattle.class_pool.specs.declared.classes.ClassFile.{ClassFile}
use Rattle.jo_prog.specs.declared.program.Program.{Program}
use Rattle.jo_prog.specs.declared.labels.Labels.{Labels}
use Rattle.jo_prog.specs.declared.typed.TypeCode.{TypeCode}
use Rattle.jo_prog.specs.declared.typed.TypeCode.TheVariants as types
use Rattle.jo_prog.specs.Spelling.{spelled_method}
use Rattle.jo_prog.specs.TypingPaths.{IsTypedMethod}
use Rattle.jvm_typing.specs.declared.programs.MethodFault.{MethodFault}
use Rattle.jvm_typing.specs.Typings.{IsFirstMethodFault}
use Rattle.linker.specs.Linking.{linked_classes, program_of}
use Rattle.linker.specs.LinkOrder.{HasNoFault, IsLinkFault}
use Rattle.linker.specs.declared.causes.LinkFault.{LinkFault}
use Rattle.linker.specs.declared.causes.LinkCode.{LinkCode}
use Rattle.linker.specs.declared.causes.LinkCode.TheVariants as links
use Rattle.policy_tree.specs.declared.faults.LevelFault.{LevelFault}
use Rattle.policy_tree.specs.declared.faults.LevelFault.TheVariants.{Twice, TooMany, Cycle}
use Rattle.policy_tree.specs.declared.faults.PolicyFault.{PolicyFault}
use Rattle.policy_tree.specs.declared.faults.PolicyFault.TheVariants as policies
use Rattle.policy_tree.specs.declared.written.ContextsKey.{ContextsKey}
use Rattle.policy_tree.specs.declared.runs.RunFileFault.{RunFileFault}
use Rattle.policy_tree.specs.declared.runs.RunFileFault.TheVariants as runs
use Rattle.jo_policy.specs.Policies.{IsTree, IsPolicy, IsTextFault}
use Rattle.run_plans.specs.declared.run_file.RunPlan.{RunPlan}
use Rattle.run_plans.specs.RunFiles.{plan_of, IsRunFault}
use Rattle.joana_base.specs.Files.{ProgramFiles, RefusesFiles, HaveClasses}
use Rattle.joana_base.specs.Reading.{AreClasses}
use Rattle.joana_base.specs.declared.status.InputFault.TheVariants as faults
use Rattle.joana_base.specs.declared.status.LinkKind.{LinkKind}
use Rattle.joana_base.specs.declared.status.LinkKind.TheVariants as link_kinds
use Rattle.joana_base.specs.declared.status.TypingFault.{TypingFault}
use Rattle.joana_base.specs.declared.status.TypingKind.{TypingKind}
use Rattle.joana_base.specs.declared.status.TypingKind.TheVariants as typing_kinds
use Rattle.joana_base.specs.declared.status.PolicyKind.{PolicyKind}
use Rattle.joana_base.specs.declared.status.PolicyKind.TheVariants as policy_kinds
use Rattle.joana_base.specs.declared.status.RunFileKind.{RunFileKind}
use Rattle.joana_base.specs.declared.status.RunFileKind.TheVariants as run_file_kinds
use Rattle.joana_base.specs.declared.status.Refusal.{Refusal}
use Rattle.joana_base.specs.declared.status.Refusal.TheVariants.{Input}
use Rattle.joana_base.specs.declared.answers.Stop.{Stop}
use Rattle.joana_base.specs.declared.answers.Stop.TheVariants.{Faulty, Unread, Memory}

-- ---- linking

-- the program is that of these class files behind the prelude, and no class has a fault of linking
pub record IsLinked (classes : List ClassFile) (program : Program) : Type 0 where
  pub program_is : program ≡ program_of classes
  pub whole : HasNoFault (linked_classes classes)

-- the kind of a fault of linking; want of memory is none
abbrev pub link_kind : LinkCode → Option LinkKind
link_kind links.TwiceDefined = Some link_kinds.TwiceDefined
link_kind links.MissingClass = Some link_kinds.MissingClass
link_kind links.CyclicSuper = Some link_kinds.CyclicSuper
link_kind links.MissingMember = Some link_kinds.MissingMember
link_kind links.NotImplemented = Some link_kinds.NotImplemented
link_kind links.InterfaceBody = Some link_kinds.InterfaceBody
link_kind links.StaticInit = Some link_kinds.StaticInit
link_kind links.Memory = None

-- the fault of linking that is told of these classes
pub data RefusesClasses (classes : List ClassFile) : Refusal → Type 0 where
  of_linking : (fault : LinkFault) (kind : LinkKind) → IsLinkFault classes fault → link_kind fault.code ≡ Some kind
      → RefusesClasses classes (Input (faults.Link kind fault.name))

-- ---- typing

-- no typing path of a method meets a fault
abbrev pub IsTypedProgram : Program → Type 0
IsTypedProgram program = (m : ℕ) → m < length program.methods → IsTypedMethod program m

-- the kind of a fault of typing; want of memory is none
abbrev pub typing_kind : TypeCode → Option TypingKind
typing_kind types.Underflow = Some typing_kinds.Underflow
typing_kind types.Overflow = Some typing_kinds.Overflow
typing_kind types.HeightDiffers = Some typing_kinds.HeightDiffers
typing_kind types.WrongKind = Some typing_kinds.WrongKind
typing_kind types.FallsOff = Some typing_kinds.FallsOff
typing_kind types.LocalRange = Some typing_kinds.LocalRange
typing_kind types.Memory = None

-- what is told of a method's fault of this kind
abbrev pub typing_fault : Program → MethodFault → TypingKind → TypingFault
typing_fault program found kind = record { kind = kind; method = spelled_method program found.method; pc = found.fault.pc }

-- the first fault of the method with the least number that has one
pub data RefusesTyping (program : Program) : Refusal → Type 0 where
  of_method : (found : MethodFault) (kind : TypingKind) → IsFirstMethodFault program found → typing_kind found.fault.code ≡ Some kind
      → RefusesTyping program (Input (faults.Typing (typing_fault program found kind)))

-- ---- the policy

-- a policy of this text has no fault and gives the program these labels
pub record GivesLabels (program : Program) (policy : List ℕ) (labels : Labels) : Type 0 where
  pub tree : Members
  pub contexts : ContextsKey
  pub is_tree : IsTree policy tree
  pub is_policy : IsPolicy program tree labels contexts

-- the kind of a fault of a policy; want of memory is none
abbrev pub policy_kind : PolicyFault → Option PolicyKind
policy_kind policies.NotToml = Some policy_kinds.NotToml
policy_kind (policies.Key name) = Some policy_kinds.Key
policy_kind (policies.UnknownLevel name) = Some policy_kinds.UnknownLevel
policy_kind (policies.Order fault) = Some policy_kinds.Order
policy_kind (policies.MissingMethod name) = Some policy_kinds.MissingMethod
policy_kind (policies.WrongShape m) = Some policy_kinds.WrongShape
policy_kind (policies.UnlabelledNative m) = Some policy_kinds.UnlabelledNative
policy_kind (policies.TwiceLabelled m) = Some policy_kinds.TwiceLabelled
policy_kind (policies.ReleaseUpward m) = Some policy_kinds.ReleaseUpward
policy_kind (policies.ReleaseWithThreads m pc) = Some policy_kinds.ReleaseWithThreads
policy_kind policies.Entry = Some policy_kinds.Entry
policy_kind policies.Memory = None

-- the levels that a fault of their order carries
abbrev pub carried_levels : LevelFault → List ℕ
carried_levels (Twice name) = 32 ∷ escaped name
carried_levels TooMany = []
carried_levels (Cycle low high) = (32 ∷ escaped low) ++ 32 ∷ escaped high

-- what a fault carries, as it is printed: names, levels, methods and a pc, each behind a space
abbrev pub carried : Program → PolicyFault → List ℕ
carried program policies.NotToml = []
carried program (policies.Key name) = 32 ∷ escaped name
carried program (policies.UnknownLevel name) = 32 ∷ escaped name
carried program (policies.Order fault) = carried_levels fault
carried program (policies.MissingMethod name) = 32 ∷ escaped name
carried program (policies.WrongShape m) = 32 ∷ spelled_method program m
carried program (policies.UnlabelledNative m) = 32 ∷ spelled_method program m
carried program (policies.TwiceLabelled m) = 32 ∷ spelled_method program m
carried program (policies.ReleaseUpward m) = 32 ∷ spelled_method program m
carried program (policies.ReleaseWithThreads m pc) = (32 ∷ spelled_method program m) ++ 32 ∷ decimal pc
carried program policies.Entry = []
carried program policies.Memory = []

-- the first fault of the policy
pub data RefusesPolicy (program : Program) (policy : List ℕ) : Refusal → Type 0 where
  of_text : (fault : PolicyFault) (kind : PolicyKind) → IsTextFault program policy fault → policy_kind fault ≡ Some kind
      → RefusesPolicy program policy (Input (faults.Policy kind (carried program fault)))

-- what refuses a program under a policy: the first fault of typing, else that of the policy
pub data RefusesLabelling (program : Program) (policy : List ℕ) : Refusal → Type 0 where
  of_typing : (refusal : Refusal) → RefusesTyping program refusal → RefusesLabelling program policy refusal
  of_policy : (refusal : Refusal) → IsTypedProgram program → RefusesPolicy program policy refusal → RefusesLabelling program policy refusal

-- ---- the run file

-- the text of a run file has no fault and gives this plan
pub record GivesPlan (program : Program) (labels : Labels) (run_file : List ℕ) (plan : RunPlan) : Type 0 where
  pub tree : Members
  pub is_tree : IsTree run_file tree
  pub plan_is : plan_of program labels tree ≡ Ok plan

-- the kind of a fault of a run file; want of memory is none
abbrev pub run_file_kind : RunFileFault → Option RunFileKind
run_file_kind runs.NotToml = Some run_file_kinds.NotToml
run_file_kind runs.Key = Some run_file_kinds.Key
run_file_kind runs.Source = Some run_file_kinds.Source
run_file_kind runs.Range = Some run_file_kinds.Range
run_file_kind runs.Memory = None

-- the first fault of the run file
pub data RefusesRunFile (program : Program) (labels : Labels) (run_file : List ℕ) : Refusal → Type 0 where
  of_run_file : (fault : RunFileFault) (kind : RunFileKind) → IsRunFault program labels run_file fault → run_file_kind fault ≡ Some kind
      → RefusesRunFile program labels run_file (Input (faults.RunFile kind))

-- ---- the files

-- nothing refuses the files, and their classes are linked to this program
pub record IsProgramOf (files : ProgramFiles) (program : Program) : Type 0 where
  pub classes : List ClassFile
  pub are_classes : AreClasses files.classes classes
  pub passes : HaveClasses files classes
  pub linked : IsLinked classes program

-- what refuses the files before they make a program: in the files themselves, or in their classes together
pub data RefusesMaking (files : ProgramFiles) : Refusal → Type 0 where
  in_files : (refusal : Refusal) → RefusesFiles files refusal → RefusesMaking files refusal
  in_classes : (classes : List ClassFile) (refusal : Refusal) → HaveClasses files classes → RefusesClasses classes refusal
      → RefusesMaking files refusal

-- what refuses the files, where this refuses the program that they make
pub data IsRefusalBy (RefusesProgram : Program → Refusal → Type 0) (files : ProgramFiles) : Refusal → Type 0 where
  in_making : (refusal : Refusal) → RefusesMaking files refusal → IsRefusalBy RefusesProgram files refusal
  in_program : (program : Program) (refusal : Refusal) → IsProgramOf files program → RefusesProgram program refusal
      → IsRefusalBy RefusesProgram files refusal

-- ---- what the parts of the code say

-- the refusal that stops, unless memory is wanting
abbrev pub StopsBy : (Refusal → Type 0) → Stop → Type 0
StopsBy Refuses (Faulty refusal) = Refuses refusal
StopsBy Refuses (Unread unread) = ⊥
StopsBy Refuses Memory = ⊤

abbrev pub link_stop_by : Option LinkKind → List ℕ → Stop
link_stop_by None name = Memory
link_stop_by (Some kind) name = Faulty (Input (faults.Link kind name))

abbrev pub link_stop : LinkFault → Stop
link_stop fault = link_stop_by (link_kind fault.code) fault.name

abbrev pub IsLinkStop : List ClassFile → Stop → Type 0
IsLinkStop classes stop = StopsBy (RefusesClasses classes) stop

-- what is told of this fault of a method
abbrev pub IsMethodStop : Program → MethodFault → Stop → Type 0
IsMethodStop program found stop =
    StopsBy (λ refusal. (kind : TypingKind) × (typing_kind found.fault.code ≡ Some kind)
    × (refusal ≡ Input (faults.Typing (typing_fault program found kind)))) stop

abbrev pub IsTypingStop : Program → Stop → Type 0
IsTypingStop program stop = StopsBy (RefusesTyping program) stop

-- what is told of this fault of a policy
abbrev pub IsPolicyStop : Program → PolicyFault → Stop → Type 0
IsPolicyStop program fault stop =
    StopsBy (λ refusal. (kind : PolicyKind) × (policy_kind fault ≡ Some kind)
    × (refusal ≡ Input (faults.Policy kind (carried program fault)))) stop

abbrev pub IsLabelStop : Program → List ℕ → Stop → Type 0
IsLabelStop program policy stop = StopsBy (RefusesPolicy program policy) stop

abbrev pub IsLabellingStop : Program → List ℕ → Stop → Type 0
IsLabellingStop program policy stop = StopsBy (RefusesLabelling program policy) stop

abbrev pub run_file_stop_by : Option RunFileKind → Stop
run_file_stop_by None = Memory
run_file_stop_by (Some kind) = Faulty (Input (faults.RunFile kind))

abbrev pub IsRunFileStop : Program → Labels → List ℕ → Stop → Type 0
IsRunFileStop program labels run_file stop = StopsBy (RefusesRunFile program labels run_file) stop

abbrev pub IsMakingStop : ProgramFiles → Stop → Type 0
IsMakingStop files stop = StopsBy (RefusesMaking files) stop
