-- A policy of a program, and its first fault (this project's own).
use Rattle.std.specs.Prelude.{◌≡◌, ℕ, List, [], Option, Some, None, option_map, option_and_then, Result, Ok, Err, slice_get}
use Rattle.std.specs.Str.{IsUtf8}
use Rattle.toml.specs.Data.{Members}
use Rattle.toml.specs.Parse.{parse_document}
use Rattle.jo_order.specs.Orders.{GiveOrder, OrderFaultOf}
use Rattle.jo_order.specs.declared.OrderFault.{OrderFault}
use Rattle.jo_order.specs.declared.OrderFault.TheVariants as orders
use Rattle.jo_prog.specs.declared.labels.Label.{Label}
use Rattle.jo_prog.specs.declared.labels.Labels.{Labels}
use Rattle.jo_prog.specs.declared.program.Program.{Program}
use Rattle.jo_prog.specs.Labels.{flows_by}
use Rattle.policy_tree.specs.declared.faults.LevelFault.TheVariants.{Twice, TooMany, Cycle}
use Rattle.policy_tree.specs.declared.faults.PolicyFault.{PolicyFault}
use Rattle.policy_tree.specs.declared.faults.PolicyFault.TheVariants.{NotToml, Order, Entry, Memory}
use Rattle.policy_tree.specs.declared.written.ContextsKey.{ContextsKey}
use Rattle.policy_tree.specs.declared.written.WrittenPolicy.{WrittenPolicy}
use Rattle.policy_tree.specs.Outcomes.{◌>>=◌, or_fault, refused}
use Rattle.policy_tree.specs.PolicyTree.{Read, written_of}
use Rattle.jo_policy.specs.declared.numbering.NumberedPolicy.{NumberedPolicy}
use Rattle.jo_policy.specs.FileMethods.{entry_named}
use Rattle.jo_policy.specs.Labelling.{labelled_of}
use Rattle.jo_policy.specs.Numbering.{numbered_of}
use Rattle.jo_policy.specs.Threads.{start_beside, with_threads}

-- ---- the order of levels

-- the fault of an order, with names in the place of numbers
abbrev pub named_fault : List (List ℕ) → OrderFault → Option PolicyFault
named_fault names (orders.TwiceNamed place) = option_map (λ name. Order (Twice name)) (slice_get names place)
named_fault names orders.TooMany = Some (Order TooMany)
named_fault names (orders.Unknown place) = None
named_fault names (orders.Cycle a b) =
    option_and_then (λ low. option_map (λ high. Order (Cycle low high)) (slice_get names b)) (slice_get names a)
named_fault names orders.Memory = None

-- the levels and pairs give no order, and this is why
pub record IsOrderFault (names : List (List ℕ)) (pairs : List (ℕ × ℕ)) (fault : PolicyFault) : Type 0 where
  pub found : OrderFault
  pub is : OrderFaultOf names pairs found
  pub named : named_fault names found ≡ Some fault

-- ---- the labels of a program

abbrev pub labels_with : WrittenPolicy → NumberedPolicy → ℕ → List (ℕ × Label) → Labels
labels_with written numbered entry labelled =
    record {
      levels =
          written.levels;
      flows = numbered.flows;
      observers = numbered.observers;
      entry = entry;
      labelled = labelled;
    }

-- the labels by numbers, or what is wrong with the labelled methods, then with the entry, then a release beside a call that may start a
-- thread
abbrev pub labels_of : Program → WrittenPolicy → NumberedPolicy → Read Labels
labels_of program written numbered = do
  labelled ← labelled_of (flows_by numbered.flows) program numbered.labels
  entry ← or_fault Entry (entry_named program written.entry)
  nothing ← refused with_threads (start_beside labelled program)
  Ok (labels_with written numbered entry labelled)

-- ---- the policy

-- What a tree says is a policy of the program, with these labels: no part has a fault.
pub record IsPolicy (program : Program) (tree : Members) (labels : Labels) (contexts : ContextsKey) : Type 0 where
  pub written : WrittenPolicy
  pub said : written_of tree ≡ Ok written
  pub named : GiveOrder written.levels []
  pub numbered : NumberedPolicy
  pub known : numbered_of written ≡ Ok numbered
  pub ordered : GiveOrder written.levels numbered.flows
  pub labelled : labels_of program written numbered ≡ Ok labels
  pub by_key : contexts ≡ written.contexts

-- The first fault of a tree: a key; then the names of the levels, twice or too many; then a name that is no
-- level's; then levels that flow to each other; then the labelled methods, in the order of `labelled_of`, the entry,
-- and a release beside a call that may start a thread.
pub data IsPolicyFault (program : Program) (tree : Members) (fault : PolicyFault) : Type 0 where
  of_key : written_of tree ≡ Err fault → IsPolicyFault program tree fault
  of_names : (written : WrittenPolicy) → written_of tree ≡ Ok written
      → IsOrderFault written.levels [] fault → IsPolicyFault program tree fault
  of_unknown : (written : WrittenPolicy) → written_of tree ≡ Ok written → GiveOrder written.levels []
      → numbered_of written ≡ Err fault → IsPolicyFault program tree fault
  of_cycle : (written : WrittenPolicy) (numbered : NumberedPolicy) → written_of tree ≡ Ok written
      → GiveOrder written.levels [] → numbered_of written ≡ Ok numbered
      → IsOrderFault written.levels numbered.flows fault → IsPolicyFault program tree fault
  of_labels : (written : WrittenPolicy) (numbered : NumberedPolicy) → written_of tree ≡ Ok written
      → GiveOrder written.levels [] → numbered_of written ≡ Ok numbered
      → GiveOrder written.levels numbered.flows
      → labels_of program written numbered ≡ Err fault
      → IsPolicyFault program tree fault

-- the tree of a text in TOML
pub record IsTree (text : List ℕ) (tree : Members) : Type 0 where
  pub utf8 : IsUtf8 text
  pub parsed : parse_document text ≡ Some tree

-- the first fault of a text
pub data IsTextFault (program : Program) (text : List ℕ) (fault : PolicyFault) : Type 0 where
  no_tree : fault ≡ NotToml → ((tree : Members) → IsTree text tree → ⊥)
      → IsTextFault program text fault
  of_tree : (tree : Members) → IsTree text tree → IsPolicyFault program tree fault
      → IsTextFault program text fault

-- ---- answers

abbrev pub OrMemory : (PolicyFault → Type 0) → PolicyFault → Type 0
OrMemory F Memory = Unit {0}
OrMemory F fault = F fault

-- what was returned holds what it should, and a fault is one; want of memory says nothing
abbrev pub Answers : {X : Type 0} → (X → Type 0) → (PolicyFault → Type 0) → Result X PolicyFault → Type 0
Answers P F (Ok x) = P x
Answers P F (Err fault) = OrMemory F fault
