use Rattle.std.proofs.Common.{◌≡◌, drop}
use Rattle.machine.specs.Runs.{is_running}
use Rattle.jvm_step.specs.States.{threads_of}
use Rattle.jvm_step.proofs.enabling.is_running.Given as goal

abbrev pub invariant-loop-thread : goal.invariant-loop-thread
invariant-loop-thread l = is_running (threads_of (drop l.thread-index l.threads)) l.object ≡ is_running (threads_of l.threads) l.object
