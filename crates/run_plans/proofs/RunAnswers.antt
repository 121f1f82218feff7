-- What is answered of the tree of a run file.
use Rattle.std.proofs.Common.{◌≡◌, ℕ, ◌+◌, ◌<◌, List, [], ◌∷◌, ◌++◌, length, drop, get_or, refl, sym, ap, ◌∙◌, append_assoc}
use Rattle.std.proofs.lemmas.List.{drop_more}
use Rattle.policy_tree.specs.Outcomes.{◌>>=◌, behind}
use Rattle.policy_tree.specs.declared.runs.WrittenInput.{WrittenInput}
use Rattle.run_plans.specs.declared.run_file.PlacedInput.{PlacedInput}
use Rattle.std.specs.Prelude.{Ok, Err, IfErr}
use Rattle.toml.specs.Data.{Members}
use Rattle.jo_prog.specs.declared.labels.Labels.{Labels}
use Rattle.jo_prog.specs.declared.program.Program.{Program}
use Rattle.policy_tree.specs.declared.runs.RunFileFault.{RunFileFault}
use Rattle.policy_tree.specs.declared.runs.RunFileFault.TheVariants.{Memory}
use Rattle.policy_tree.specs.RunTree.{RunRead, RunFails, RunGives}
use Rattle.run_plans.specs.declared.run_file.RunPlan.{RunPlan}
use Rattle.jo_policy.specs.Policies.{IsTree}
use Rattle.run_plans.specs.RunFiles.{placed_input, placed_inputs, plan_of, IsRunFault, of_tree, OrNoMemory}

run_fails_to : {Y : Type 0} (read : RunRead Y) (F : RunFileFault → Type 0) → ((f : RunFileFault) → read ≡ Err f → F f) → (fault : RunFileFault) → RunFails fault read → OrNoMemory F fault
run_fails_to read F go Memory h = tt
run_fails_to read F go fault h = go fault h

pub run_fault : (program : Program) (labels : Labels) (text : List ℕ) (tree : Members) (result : RunRead RunPlan) → IsTree text tree
    → RunGives (λ x. x) result (plan_of program labels tree) → IfErr result (OrNoMemory (IsRunFault program labels text))
run_fault program labels text tree (Ok plan) is h = tt
run_fault program labels text tree (Err fault) is h = run_fails_to (plan_of program labels tree) (IsRunFault program labels text) (λ f e. of_tree tree is e) fault h

-- ---- one input more

one_behind : (front : List PlacedInput) (one : PlacedInput) (read : RunRead (List PlacedInput)) → behind (front ++ one ∷ []) read ≡ behind front (read >>= (λ more. Ok (one ∷ more)))
one_behind front one (Err fault) = refl
one_behind front one (Ok more) = ap (λ (items : List PlacedInput). let read : RunRead (List PlacedInput) = Ok items in read) (append_assoc front (one ∷ []) more)

pub next_input : (program : Program) (labels : Labels) (inputs : List WrittenInput) (i : ℕ) (input : WrittenInput) (one : PlacedInput) (front new : List PlacedInput)
    → i < length inputs → input ≡ get_or inputs i input → placed_input program labels input ≡ Ok one → new ≡ front ++ one ∷ []
    → behind front (placed_inputs program labels (drop i inputs)) ≡ placed_inputs program labels inputs
    → behind new (placed_inputs program labels (drop (i + 1) inputs)) ≡ placed_inputs program labels inputs
next_input program labels inputs i input one front new below at found is so_far =
    let rest = placed_inputs program labels (drop (i + 1) inputs) in
    let next : drop i inputs ≡ input ∷ drop (i + 1) inputs = drop_more inputs i input below ∙ ap (λ x. x ∷ drop (i + 1) inputs) (sym at) in
    ap (λ items. behind items rest) is
    ∙ one_behind front one rest
    ∙ sym (ap (λ (read : RunRead PlacedInput). behind front (read >>= (λ placed. rest >>= (λ more. Ok (placed ∷ more))))) found)
    ∙ sym (ap (λ items. behind front (placed_inputs program labels items)) next)
    ∙ so_far
