use Rattle.linker.specs.Linking.{program_of}
use Rattle.linked_laws.proofs.RunLemmas.{states_typed, steps_there}
use Rattle.linked_laws.proofs.laws.no_linked_step_is_stuck.Goals as goal

pub returns-clause-typed : goal.returns-clause-typed
returns-clause-typed c = λ files sound none labels well typed inputs ints s run.
    states_typed (program_of files) labels inputs (c.first_states_of_linked_programs_are_typed.ensures files sound none labels well.entry)
    (c.typed_steps_go_on.ensures (program_of files) labels inputs (c.linked_programs_have_premises.ensures files sound none labels well typed inputs ints)) run

pub returns-clause-steps : goal.returns-clause-steps
returns-clause-steps c = λ files sound none labels well typed inputs ints s run.
    steps_there (program_of files) labels inputs (c.first_states_of_linked_programs_are_typed.ensures files sound none labels well.entry)
    (c.typed_steps_go_on.ensures (program_of files) labels inputs (c.linked_programs_have_premises.ensures files sound none labels well typed inputs ints)) run
