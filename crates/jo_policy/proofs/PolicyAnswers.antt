-- What is answered of a tree, step by step.
use Rattle.std.proofs.Common.{◌≡◌, ℕ, List, [], subst}
use Rattle.std.specs.Prelude.{Ok, Err, IfOk, IfErr}
use Rattle.toml.specs.Data.{Members}
use Rattle.jo_order.specs.Orders.{GiveOrder}
use Rattle.jo_prog.specs.declared.program.Program.{Program}
use Rattle.policy_tree.specs.declared.faults.PolicyFault.{PolicyFault}
use Rattle.policy_tree.specs.declared.faults.PolicyFault.TheVariants.{Memory}
use Rattle.policy_tree.specs.declared.written.WrittenPolicy.{WrittenPolicy}
use Rattle.policy_tree.specs.Outcomes.{Fails, Gives}
use Rattle.policy_tree.specs.PolicyTree.{Read, written_of}
use Rattle.jo_policy.specs.declared.numbering.NumberedPolicy.{NumberedPolicy}
use Rattle.jo_policy.specs.declared.whole.Policy.{Policy}
use Rattle.jo_policy.specs.Numbering.{numbered_of}
use Rattle.jo_policy.specs.Policies.{OrMemory, Answers, IsOrderFault, IsPolicy, IsPolicyFault, of_key, of_names, of_unknown, of_cycle, of_labels, labels_of, IsTree, IsTextFault, of_tree}

-- ---- faults

pub fails_to : {Y : Type 0} (read : Read Y) (F : PolicyFault → Type 0) → ((f : PolicyFault) → read ≡ Err f → F f) → (fault : PolicyFault) → Fails fault read → OrMemory F fault
fails_to read F go Memory h = tt
fails_to read F go fault h = go fault h

pub fails_same : {Y Z : Type 0} (read : Read Y) (other : Read Z) → ((f : PolicyFault) → read ≡ Err f → other ≡ Err f) → (fault : PolicyFault) → Fails fault read → Fails fault other
fails_same read other go Memory h = tt
fails_same read other go fault h = go fault h

pub or_memory : (F G : PolicyFault → Type 0) → ((f : PolicyFault) → F f → G f) → (fault : PolicyFault) → OrMemory F fault → OrMemory G fault
or_memory F G go Memory h = tt
or_memory F G go fault h = go fault h

pub key_stops : (program : Program) (tree : Members) (fault : PolicyFault) → Fails fault (written_of tree) → OrMemory (IsPolicyFault program tree) fault
key_stops program tree fault h = fails_to (written_of tree) (IsPolicyFault program tree) (λ f e. of_key e) fault h

-- the levels of a tree have an order without its pairs
pub record IsSaid (tree : Members) (written : WrittenPolicy) : Type 0 where
  pub said : written_of tree ≡ Ok written
  pub named : GiveOrder written.levels []

pub order_with : (written : WrittenPolicy) (names : List (List ℕ)) (pairs others : List (ℕ × ℕ)) → names ≡ written.levels → pairs ≡ others → GiveOrder names pairs → GiveOrder written.levels others
order_with written names pairs others e f h = subst (λ ps. GiveOrder written.levels ps) f (subst (λ ns. GiveOrder ns pairs) e h)

fault_with : (written : WrittenPolicy) (names : List (List ℕ)) (pairs others : List (ℕ × ℕ)) (fault : PolicyFault) → names ≡ written.levels → pairs ≡ others → IsOrderFault names pairs fault
    → IsOrderFault written.levels others fault
fault_with written names pairs others fault e f h = subst (λ ps. IsOrderFault written.levels ps fault) f (subst (λ ns. IsOrderFault ns pairs fault) e h)

pub names_stop : (program : Program) (tree : Members) (written : WrittenPolicy) (names : List (List ℕ)) (pairs : List (ℕ × ℕ)) (fault : PolicyFault) → written_of tree ≡ Ok written
    → names ≡ written.levels → pairs ≡ [] → OrMemory (IsOrderFault names pairs) fault → OrMemory (IsPolicyFault program tree) fault
names_stop program tree written names pairs fault said e f h =
    or_memory (IsOrderFault names pairs) (IsPolicyFault program tree) (λ g o. of_names written said (fault_with written names pairs [] g e f o)) fault h

pub unknown_stops : (program : Program) (tree : Members) (written : WrittenPolicy) (fault : PolicyFault) → IsSaid tree written → Fails fault (numbered_of written)
    → OrMemory (IsPolicyFault program tree) fault
unknown_stops program tree written fault is h = fails_to (numbered_of written) (IsPolicyFault program tree) (λ f e. of_unknown written is.said is.named e) fault h

pub cycle_stops : (program : Program) (tree : Members) (written : WrittenPolicy) (numbered : NumberedPolicy) (names : List (List ℕ)) (pairs : List (ℕ × ℕ)) (fault : PolicyFault)
    → IsSaid tree written → numbered_of written ≡ Ok numbered → names ≡ written.levels → pairs ≡ numbered.flows → OrMemory (IsOrderFault names pairs) fault
    → OrMemory (IsPolicyFault program tree) fault
cycle_stops program tree written numbered names pairs fault is known e f h =
    or_memory (IsOrderFault names pairs) (IsPolicyFault program tree) (λ g o. of_cycle written numbered is.said is.named known (fault_with written names pairs numbered.flows g e f o)) fault h

pub policy_answers : (program : Program) (tree : Members) (written : WrittenPolicy) (numbered : NumberedPolicy) (result : Read Policy) → IsSaid tree written → numbered_of written ≡ Ok numbered
    → GiveOrder written.levels numbered.flows → Gives (λ (policy : Policy). policy.labels) result (labels_of program written numbered)
    → IfOk result (λ (policy : Policy). policy.contexts ≡ written.contexts)
    → Answers (λ (policy : Policy). IsPolicy program tree policy.labels policy.contexts) (IsPolicyFault program tree) result
policy_answers program tree written numbered (Ok policy) is known order labels contexts = record {
  written = written;
  said = is.said;
  named = is.named;
  numbered = numbered;
  known = known;
  ordered = order;
  labelled = labels;
  by_key = contexts;
}
policy_answers program tree written numbered (Err fault) is known order labels contexts =
    fails_to (labels_of program written numbered) (IsPolicyFault program tree) (λ f e. of_labels written numbered is.said is.named known order e) fault labels

pub text_fault : {X : Type 0} (program : Program) (text : List ℕ) (tree : Members) (P : X → Type 0) (result : Read X) → IsTree text tree
    → Answers P (IsPolicyFault program tree) result → IfErr result (OrMemory (IsTextFault program text))
text_fault program text tree P (Ok x) is h = tt
text_fault program text tree P (Err fault) is h = or_memory (IsPolicyFault program tree) (IsTextFault program text) (λ f e. of_tree tree is e) fault h
