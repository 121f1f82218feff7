use Rattle.std.proofs.Common.{◌≡◌, slice_get}
use Rattle.jvm_step.specs.States.{state_of}
use Rattle.jvm_step.proofs.EnabledLemmas.{enabled_on}
use Rattle.machine.specs.Runs.{enabled}
use Rattle.jvm_step.proofs.states.State.enabled.Given as goal

abbrev pub invariant-loop-number : goal.invariant-loop-number
invariant-loop-number l = slice_get (enabled_on l.setting.program.now l.setting.labels.now (state_of l.self) l.thread-items l.number) l.left ≡ slice_get (enabled l.setting.program.now l.setting.labels.now (state_of l.self)) l.place
