use Rattle.std.proofs.Common.{◌≡◌, ◌+◌, ◌≤◌, length}
use Rattle.jvm_step.specs.States.{state_of}
use Rattle.jvm_step.proofs.EnabledLemmas.{enabled_on}
use Rattle.machine.specs.Runs.{enabled}
use Rattle.jvm_step.proofs.states.State.enabled_count.Given as goal

abbrev pub invariant-loop-thread : goal.invariant-loop-thread
invariant-loop-thread l = record {
  total : l.count + length (enabled_on l.setting.program.now l.setting.labels.now (state_of l.self) l.thread-items l.thread-index) ≡ length (enabled l.setting.program.now l.setting.labels.now (state_of l.self));
  few : l.count ≤ l.thread-index;
}
