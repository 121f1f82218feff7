use Rattle.linked_laws.proofs.NativeLemmas.{natives_labelled, thread_methods}
use Rattle.linked_laws.proofs.laws.natives_and_threads_are_sound.Goals as goal

pub returns-clause-natives : goal.returns-clause-natives
returns-clause-natives c = natives_labelled

pub returns-clause-threads : goal.returns-clause-threads
returns-clause-threads c = thread_methods
