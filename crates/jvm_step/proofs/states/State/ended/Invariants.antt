use Rattle.std.proofs.Common.{◌≡◌, drop}
use Rattle.jo_prog.specs.Runs.{all_ended}
use Rattle.jvm_step.specs.States.{threads_of}
use Rattle.jvm_step.proofs.states.State.ended.Given as goal

abbrev pub invariant-loop-thread : goal.invariant-loop-thread
invariant-loop-thread l = all_ended (threads_of (drop l.thread-index l.thread-items)) ≡ all_ended (threads_of l.thread-items)
