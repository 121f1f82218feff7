use Rattle.std.proofs.Common.{◌≡◌, ◌∙◌, ◌+◌, ◌≤◌, sym, length, arith}
use Rattle.machine.specs.Runs.{enabled}
use Rattle.jvm_step.specs.States.{state_of}
use Rattle.jvm_step.proofs.EnabledLemmas.{enabled_on, count_may, count_not}
use Rattle.jvm_step.proofs.states.State.enabled_count.Goals.{then-may_step, else-may_step}
use Rattle.jvm_step.proofs.states.State.enabled_count.Goals as goal

pub loop-thread-preserved : goal.loop-thread-preserved
loop-thread-preserved c =
    let program = c.args.setting.now.program.now in
    let labels = c.args.setting.now.labels.now in
    let s = state_of c.args.self.now in
    let xs = c.as_slice-thread-items.result.now in
    let i = c.loop-thread.thread-index in
    let x = c.thread-item.result in
    let so_far = c.loop-thread.invariant.total in
    let few = c.loop-thread.invariant.few in
    let both = elim c.if-may_step.branch as (λ b. (c.if-may_step.count + length (enabled_on program labels s xs (i + 1)) ≡ length (enabled program labels s)) × (c.if-may_step.count ≤ i + 1)) [
      | then-may_step w ↦ (rw w.count-is (count_may program labels s xs i x c.loop-thread.count _ c.loop-thread-test.true c.thread-item.is (sym c.may_step.ensures ∙ w.if-may_step.true) so_far), omega arith)
      | else-may_step w ↦ (rw w.count-is (count_not program labels s xs i x c.loop-thread.count _ c.loop-thread-test.true c.thread-item.is (sym c.may_step.ensures ∙ w.if-may_step.false) so_far), omega arith)
    ] in
    record { total = both.0; few = both.1 }
