use Rattle.step_laws.proofs.StepLemmas.{thread_steps, unwinding_steps}
use Rattle.step_laws.proofs.laws.typed_threads_step.Goals as goal

pub returns : goal.returns
returns c = record { instructions = thread_steps; exceptions = unwinding_steps }
