use Rattle.linked_laws.proofs.StartLemmas.{first_typed}
use Rattle.linked_laws.proofs.FileLemmas.{begins_with_prelude, no_cycle_of_files}
use Rattle.linked_laws.proofs.ConstantLemmas.{plain_strings, sound_constants}
use Rattle.linker.specs.Linking.{program_of}
use Rattle.linked_laws.proofs.laws.first_states_of_linked_programs_are_typed.Goals as goal

pub returns : goal.returns
returns c = λ files sound none labels entry.
    let acyclic = no_cycle_of_files files none in
    first_typed (program_of files) acyclic (plain_strings (program_of files) (begins_with_prelude files) acyclic) labels
    (λ text a is. c.strings_have_objects.ensures.object (program_of files) labels text a is) (sound_constants files sound) entry
