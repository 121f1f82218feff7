use Rattle.std.proofs.Common.{◌≡◌, ◌∙◌, ◌+◌, sym, ap, ℕ, List, slice_get, arith}
use Rattle.machine.specs.Runs.{enabled}
use Rattle.jvm_step.specs.States.{state_of}
use Rattle.jvm_step.proofs.EnabledLemmas.{enabled_on, place_first, place_may, place_not, none_left}
use Rattle.jvm_step.proofs.states.State.enabled.Goals.{then-may_step+else-left-eq0, else-may_step}
use Rattle.jvm_step.proofs.states.State.enabled.Goals as goal

pub loop-number-preserved : goal.loop-number-preserved
loop-number-preserved c =
    let program = c.args.setting.now.program.now in
    let labels = c.args.setting.now.labels.now in
    let s = state_of c.args.self.now in
    let xs = c.deref-thread-items.result.now in
    let i = c.loop-number.number in
    let x = c.thread-item.result in
    elim c.if-may_step.branch as (λ b. slice_get (enabled_on program labels s xs (i + 1)) c.if-may_step.left ≡ slice_get (enabled program labels s) c.args.place) [
      | then-may_step+else-left-eq0 w ↦ rw w.left-is (sym (place_may program labels s xs i x c.loop-number.left c.loop-number-test.true c.thread-item.is (sym c.may_step.ensures ∙ w.if-may_step.true) (omega arith)) ∙ c.loop-number.invariant)
      | else-may_step w ↦ rw w.left-is (sym (place_not program labels s xs i x c.loop-number.left c.loop-number-test.true c.thread-item.is (sym c.may_step.ensures ∙ w.if-may_step.false)) ∙ c.loop-number.invariant)
    ]

pub returns-then-left-eq0 : goal.returns-then-left-eq0
returns-then-left-eq0 c =
    let program = c.args.setting.now.program.now in
    let labels = c.args.setting.now.labels.now in
    let s = state_of c.args.self.now in
    let xs = c.deref-thread-items.result.now in
    sym (place_first program labels s xs c.loop-number.number c.thread-item.result c.loop-number.left c.loop-number-test.true c.thread-item.is (sym c.may_step.ensures ∙ c.if-may_step.true) c.if-left-eq0.true) ∙ c.loop-number.invariant

pub returns : goal.returns
returns c =
    let program = c.args.setting.now.program.now in
    let labels = c.args.setting.now.labels.now in
    let s = state_of c.args.self.now in
    let xs = c.deref-thread-items.result.now in
    sym (ap (λ (ns : List ℕ). slice_get ns c.loop-number.left) (none_left program labels s xs c.loop-number.number c.loop-number-test.false)) ∙ c.loop-number.invariant
