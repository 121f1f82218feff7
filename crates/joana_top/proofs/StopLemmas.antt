-- From what the parts answer to the stops of a check.
use Rattle.std.proofs.Common.{◌≡◌, inl, inr, ℕ, List, Option, Some, None, refl, sym, subst}
use Rattle.class_pool.specs.declared.classes.ClassFile.{ClassFile}
use Rattle.jo_prog.specs.declared.program.Program.{Program}
use Rattle.hierarchy.specs.Hierarchies.{HasItsParents}
use Rattle.linker.specs.Linking.{linked_classes, program_of}
use Rattle.linker.specs.LinkOrder.{IsLinkFault, IsLinkAnswer}
use Rattle.linker.specs.declared.causes.LinkCode.{LinkCode}
use Rattle.linker.specs.declared.causes.LinkFault.{LinkFault}
use Rattle.linker.proofs.ParentsThere.{parents_there}
use Rattle.policy_tree.specs.declared.faults.PolicyFault.{PolicyFault}
use Rattle.policy_tree.specs.declared.faults.PolicyFault.TheVariants as policies
use Rattle.jo_policy.specs.Policies.{IsTextFault, OrMemory}
use Rattle.policy_tree.specs.declared.runs.RunFileFault.{RunFileFault}
use Rattle.policy_tree.specs.declared.runs.RunFileFault.TheVariants as runs
use Rattle.run_plans.specs.RunFiles.{IsRunFault, OrNoMemory}
use Rattle.jo_prog.specs.declared.labels.Labels.{Labels}
use Rattle.jvm_typing.specs.declared.programs.MethodFault.{MethodFault}
use Rattle.jvm_typing.specs.Typings.{IsFirstMethodFault}
use Rattle.joana_base.specs.declared.status.LinkKind.{LinkKind}
use Rattle.joana_base.specs.declared.status.PolicyKind.{PolicyKind}
use Rattle.joana_base.specs.declared.status.Refusal.{Refusal}
use Rattle.joana_base.specs.declared.answers.Stop.{Stop}
use Rattle.joana_base.specs.declared.answers.Stop.TheVariants.{Faulty, Unread, Memory}
use Rattle.joana_top.specs.Stops.{link_kind, of_linking, policy_kind, RefusesPolicy, of_text, link_stop_by, link_stop, IsLinkStop, RefusesTyping, of_method, IsMethodStop, IsTypingStop, IsPolicyStop, IsLabelStop, run_file_kind, of_run_file, run_file_stop_by, IsRunFileStop}

pub has_parents : (classes : List ClassFile) (program : Program) → program ≡ program_of classes → HasItsParents program
has_parents classes program is = let P : Program → Type 0 = HasItsParents in subst P (sym is) (parents_there (linked_classes classes))

-- the fault of linking stops the check, unless memory was wanting
pub link_stopped : (classes : List ClassFile) (fault : LinkFault) → IsLinkAnswer classes fault → IsLinkStop classes (link_stop fault)
link_stopped classes fault answer =
    let P : LinkCode → Type 0 = λ code. IsLinkStop classes (link_stop_by (link_kind code) fault.name) in
    elim answer [ inl wanting ↦ subst P (sym wanting) tt | inr told ↦ by (link_kind fault.code) refl told ]
  where
    by : (kind : Option LinkKind) → link_kind fault.code ≡ kind → IsLinkFault classes fault → IsLinkStop classes (link_stop_by kind fault.name)
    by None is told = tt
    by (Some kind) is told = of_linking fault kind told is

-- so does the first fault of typing
pub method_stopped : (program : Program) (found : MethodFault) (stop : Stop) → IsFirstMethodFault program found → IsMethodStop program found stop → IsTypingStop program stop
method_stopped program found (Faulty refusal) first told =
    let P : Refusal → Type 0 = RefusesTyping program in subst P (sym told.2) (of_method found told.0 first told.1)
method_stopped program found (Unread unread) first told = absurd told
method_stopped program found Memory first told = tt

-- so does that of the policy
sure : (F : PolicyFault → Type 0) (fault : PolicyFault) (kind : PolicyKind) → policy_kind fault ≡ Some kind → OrMemory F fault → F fault
sure F policies.NotToml kind e f = f
sure F (policies.Key name) kind e f = f
sure F (policies.UnknownLevel name) kind e f = f
sure F (policies.Order levels) kind e f = f
sure F (policies.MissingMethod name) kind e f = f
sure F (policies.WrongShape m) kind e f = f
sure F (policies.UnlabelledNative m) kind e f = f
sure F (policies.TwiceLabelled m) kind e f = f
sure F (policies.ReleaseUpward m) kind e f = f
sure F (policies.ReleaseWithThreads m pc) kind e f = f
sure F policies.Entry kind e f = f
sure F policies.Memory kind e f = absurd (cc)

pub policy_stopped : (program : Program) (policy : List ℕ) (fault : PolicyFault) (stop : Stop) → OrMemory (IsTextFault program policy) fault → IsPolicyStop program fault stop → IsLabelStop program policy stop
policy_stopped program policy fault (Faulty refusal) found told =
    let P : Refusal → Type 0 = RefusesPolicy program policy in
    subst P (sym told.2) (of_text fault told.0 (sure (IsTextFault program policy) fault told.0 told.1 found) told.1)
policy_stopped program policy fault (Unread unread) found told = absurd told
policy_stopped program policy fault Memory found told = tt

-- so does that of the run file
pub run_file_stopped : (program : Program) (labels : Labels) (run_file : List ℕ) (fault : RunFileFault) → OrNoMemory (IsRunFault program labels run_file) fault → IsRunFileStop program labels run_file (run_file_stop_by (run_file_kind fault))
run_file_stopped program labels run_file runs.NotToml found = of_run_file _ _ found refl
run_file_stopped program labels run_file runs.Key found = of_run_file _ _ found refl
run_file_stopped program labels run_file runs.Source found = of_run_file _ _ found refl
run_file_stopped program labels run_file runs.Range found = of_run_file _ _ found refl
run_file_stopped program labels run_file runs.Memory found = tt
