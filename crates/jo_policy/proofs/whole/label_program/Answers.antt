use Rattle.std.proofs.Common.{◌≡◌, sym, subst}
use Rattle.std.specs.Prelude.{Ok, Err}
use Rattle.std.proofs.lemmas.Result.{err_from_is_err_and}
use Rattle.jo_order.specs.Flowing.{flows}
use Rattle.policy_tree.specs.declared.faults.PolicyFault.TheVariants.{Entry}
use Rattle.policy_tree.specs.Outcomes.{or_fault, refused}
use Rattle.jo_policy.specs.FileMethods.{entry_named}
use Rattle.jo_policy.specs.Labelling.{labelled_of}
use Rattle.jo_policy.specs.Policies.{labels_of}
use Rattle.jo_policy.specs.Threads.{start_beside, with_threads}
use Rattle.jo_policy.proofs.PolicyAnswers.{fails_same}
use Rattle.jo_policy.proofs.PolicyMakes.{labels_made, labels_stop, entry_stops, threads_stop}
use Rattle.jo_policy.proofs.PolicyOrders.{same_flows}
use Rattle.jo_policy.proofs.whole.label_program.Goals as goal

pub invariant_of-result : goal.invariant_of-result
invariant_of-result c = record {
  flowing = same_flows c.args.numbered.flows c.args.order c.requires.flowing;
  labelled = c.in_ok-labelled.ensures.table;
}

pub returns-in_err-labelled-clause-labels : goal.returns-in_err-labelled-clause-labels
returns-in_err-labelled-clause-labels c =
    let p = err_from_is_err_and c.from_residual-in_err-labelled.result c.from_residual-in_err-labelled.ensures.1 in
    rw (p.1, p.2) (fails_same (labelled_of (flows c.args.order) c.args.program.now c.as_slice.result.now)
    (labels_of c.args.program.now c.args.written c.args.numbered)
    (λ f e. labels_stop c.args.program.now c.args.written c.args.numbered c.args.order f c.requires.flowing
    (subst (λ ls. labelled_of (flows c.args.order) c.args.program.now ls ≡ Err f) c.as_slice.ensures e))
    c.in_err-labelled.field-0.0 c.in_err-labelled.ensures.labelled)

pub returns-in_err-entry-clause-labels : goal.returns-in_err-entry-clause-labels
returns-in_err-entry-clause-labels c =
    let p = err_from_is_err_and c.from_residual-in_err-entry.result c.from_residual-in_err-entry.ensures.1 in
    let labelled : labelled_of (flows c.args.order) c.args.program.now c.args.numbered.labels ≡ Ok c.in_ok-labelled.labelled.labelled =
    subst (λ ls. labelled_of (flows c.args.order) c.args.program.now ls ≡ Ok c.in_ok-labelled.labelled.labelled) c.as_slice.ensures c.in_ok-labelled.ensures.labelled in
    rw (p.1, p.2) (fails_same (or_fault Entry (entry_named c.args.program.now c.as_slice-2.result.now))
    (labels_of c.args.program.now c.args.written c.args.numbered)
    (λ f e. entry_stops c.args.program.now c.args.written c.args.numbered c.args.order c.in_ok-labelled.labelled.labelled f c.requires.flowing labelled
    (subst (λ t. or_fault Entry (entry_named c.args.program.now t) ≡ Err f) c.as_slice-2.ensures e))
    c.in_err-entry.field-0.0 c.in_err-entry.ensures)

pub returns-in_err-no_release_with_threads-clause-labels : goal.returns-in_err-no_release_with_threads-clause-labels
returns-in_err-no_release_with_threads-clause-labels c =
    let p = err_from_is_err_and c.from_residual-in_err-no_release_with_threads.result c.from_residual-in_err-no_release_with_threads.ensures.1 in
    let labelled : labelled_of (flows c.args.order) c.args.program.now c.args.numbered.labels ≡ Ok c.in_ok-labelled.labelled.labelled =
    subst (λ ls. labelled_of (flows c.args.order) c.args.program.now ls ≡ Ok c.in_ok-labelled.labelled.labelled) c.as_slice.ensures c.in_ok-labelled.ensures.labelled in
    let entry : or_fault Entry (entry_named c.args.program.now c.args.written.entry) ≡ Ok c.in_ok-entry.entry =
    subst (λ t. or_fault Entry (entry_named c.args.program.now t) ≡ Ok c.in_ok-entry.entry) c.as_slice-2.ensures c.in_ok-entry.ensures in
    rw (p.1, p.2) (fails_same (refused with_threads (start_beside c.as_slice-3.result.now c.args.program.now))
    (labels_of c.args.program.now c.args.written c.args.numbered)
    (λ f e. threads_stop c.args.program.now c.args.written c.args.numbered c.args.order c.in_ok-labelled.labelled.labelled c.in_ok-entry.entry f c.requires.flowing labelled entry
    (subst (λ ls. refused with_threads (start_beside ls c.args.program.now) ≡ Err f) c.as_slice-3.ensures e))
    c.in_err-no_release_with_threads.field-0.0 c.in_err-no_release_with_threads.ensures)

pub returns-clause-labels : goal.returns-clause-labels
returns-clause-labels c =
    let labelled : labelled_of (flows c.args.order) c.args.program.now c.args.numbered.labels ≡ Ok c.in_ok-labelled.labelled.labelled =
    subst (λ ls. labelled_of (flows c.args.order) c.args.program.now ls ≡ Ok c.in_ok-labelled.labelled.labelled) c.as_slice.ensures c.in_ok-labelled.ensures.labelled in
    let entry : or_fault Entry (entry_named c.args.program.now c.args.written.entry) ≡ Ok c.of.result =
    subst (λ m. or_fault Entry (entry_named c.args.program.now c.args.written.entry) ≡ Ok m) (sym c.of.ensures)
    (subst (λ t. or_fault Entry (entry_named c.args.program.now t) ≡ Ok c.in_ok-entry.entry) c.as_slice-2.ensures c.in_ok-entry.ensures) in
    let apart : refused with_threads (start_beside c.in_ok-labelled.labelled.labelled c.args.program.now) ≡ Ok tt =
    subst (λ ls. refused with_threads (start_beside ls c.args.program.now) ≡ Ok tt) c.as_slice-3.ensures c.in_ok-no_release_with_threads.ensures in
    labels_made c.args.program.now c.args.written c.args.numbered c.args.order c.in_ok-labelled.labelled.labelled c.of.result c.requires.flowing labelled entry apart
