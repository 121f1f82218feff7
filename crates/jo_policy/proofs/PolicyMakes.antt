-- How the labels of a program are made.
use Rattle.std.proofs.Common.{◌≡◌, ℕ, Bool, length, List, sym, ap, refl}
use Rattle.std.specs.Prelude.{Result, Ok, Err}
use Rattle.jo_order.specs.declared.Levels.{Levels}
use Rattle.jo_order.specs.Flowing.{flows, FlowsBy}
use Rattle.jo_prog.specs.declared.program.Program.{Program}
use Rattle.jo_prog.specs.Labels.{flows_by}
use Rattle.policy_tree.specs.declared.faults.PolicyFault.{PolicyFault}
use Rattle.policy_tree.specs.declared.faults.PolicyFault.TheVariants.{Entry, TwiceLabelled, WrongShape, UnlabelledNative, ReleaseUpward}
use Rattle.policy_tree.specs.declared.written.WrittenPolicy.{WrittenPolicy}
use Rattle.policy_tree.specs.Outcomes.{◌>>=◌, or_fault, refused}
use Rattle.jo_policy.specs.declared.numbering.NumberedPolicy.{NumberedPolicy}
use Rattle.jo_policy.specs.declared.numbering.NumberedLabel.{NumberedLabel}
use Rattle.jo_policy.specs.FileMethods.{entry_named}
use Rattle.jo_policy.specs.Labelling.{Item, placed_by, labelled_of, first_twice, first_misshapen, first_unlabelled, first_upward, table_of, ordered_from}
use Rattle.jo_policy.specs.Policies.{labels_of, labels_with}
use Rattle.jo_policy.specs.Threads.{start_beside, with_threads}
use Rattle.jo_policy.proofs.PolicyOrders.{same_flow}

pub same_labelled : (program : Program) (pairs : List (ℕ × ℕ)) (order : Levels) (labels : List NumberedLabel) → FlowsBy pairs order
    → labelled_of (flows_by pairs) program labels ≡ labelled_of (flows order) program labels
same_labelled program pairs order labels by = ap (λ (f : ℕ → ℕ → Bool). labelled_of f program labels) (sym (same_flow pairs order by))

pub labels_made : (program : Program) (written : WrittenPolicy) (numbered : NumberedPolicy) (order : Levels) (labelled : List Item) (entry : ℕ) → FlowsBy numbered.flows order
    → labelled_of (flows order) program numbered.labels ≡ Ok labelled → or_fault Entry (entry_named program written.entry) ≡ Ok entry
    → refused with_threads (start_beside labelled program) ≡ Ok tt → labels_of program written numbered ≡ Ok (labels_with written numbered entry labelled)
labels_made program written numbered order labelled entry by is found apart = rw (same_labelled program numbered.flows order numbered.labels by, is, found, apart) refl

pub threads_stop : (program : Program) (written : WrittenPolicy) (numbered : NumberedPolicy) (order : Levels) (labelled : List Item) (entry : ℕ) (fault : PolicyFault) → FlowsBy numbered.flows order
    → labelled_of (flows order) program numbered.labels ≡ Ok labelled → or_fault Entry (entry_named program written.entry) ≡ Ok entry
    → refused with_threads (start_beside labelled program) ≡ Err fault → labels_of program written numbered ≡ Err fault
threads_stop program written numbered order labelled entry fault by is found beside = rw (same_labelled program numbered.flows order numbered.labels by, is, found, beside) refl

pub labels_stop : (program : Program) (written : WrittenPolicy) (numbered : NumberedPolicy) (order : Levels) (fault : PolicyFault) → FlowsBy numbered.flows order
    → labelled_of (flows order) program numbered.labels ≡ Err fault → labels_of program written numbered ≡ Err fault
labels_stop program written numbered order fault by is = rw (same_labelled program numbered.flows order numbered.labels by, is) refl

pub entry_stops : (program : Program) (written : WrittenPolicy) (numbered : NumberedPolicy) (order : Levels) (labelled : List Item) (fault : PolicyFault) → FlowsBy numbered.flows order
    → labelled_of (flows order) program numbered.labels ≡ Ok labelled → or_fault Entry (entry_named program written.entry) ≡ Err fault
    → labels_of program written numbered ≡ Err fault
entry_stops program written numbered order labelled fault by is found = rw (same_labelled program numbered.flows order numbered.labels by, is, found) refl

-- ---- the checks of labels, one after another

abbrev pub Read : Type 0
Read = Result (Unit {0}) PolicyFault

-- the labels are placed, and these checks are still to come
pub labelled_placed : (f : ℕ → ℕ → Bool) (program : Program) (labels : List NumberedLabel) (placed : List Item) → placed_by program labels ≡ Ok placed
    → labelled_of f program labels ≡ (refused TwiceLabelled (first_twice placed) >>= (λ _. refused WrongShape (first_misshapen program placed)
    >>= (λ _. refused UnlabelledNative (first_unlabelled program placed) >>= (λ _. refused ReleaseUpward (first_upward f placed)
    >>= (λ _. Ok (ordered_from 0 (table_of (length program.methods) placed)))))))
labelled_placed f program labels placed is = rw is refl
