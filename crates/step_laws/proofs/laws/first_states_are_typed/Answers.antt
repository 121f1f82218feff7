use Rattle.std.proofs.Common.{refl, codes}
use Rattle.jo_text.specs.Scan.{read_field, read_base, read_class, letter_base}
use Rattle.jo_prog.specs.MethodTypes.{method_desc_in, params_from}
use Rattle.jo_prog.specs.Constants.{string_constants}
use Rattle.jo_prog.specs.Machine.{first_heap, first_statics}
use Rattle.machine.specs.Worked.{dividing_program, dividing_code, starting_program, starting_code, method_of}
use Rattle.step_laws.proofs.FirstStates.{is_typed_first}
use Rattle.step_laws.proofs.laws.first_states_are_typed.Goals as goal

pub returns-clause-dividing : goal.returns-clause-dividing
unfolding read_field read_base read_class letter_base method_desc_in params_from string_constants first_heap first_statics
returns-clause-dividing c =
    is_typed_first dividing_program 0 (method_of 1 (codes "main") (codes "()V") 0x0008 dividing_code) dividing_code refl refl refl
    (λ text a is. absurd (cc)) refl refl

pub returns-clause-starting : goal.returns-clause-starting
unfolding read_field read_base read_class letter_base method_desc_in params_from string_constants first_heap first_statics
returns-clause-starting c =
    is_typed_first starting_program 1 (method_of 4 (codes "main") (codes "()V") 0x0008 starting_code) starting_code refl refl refl
    (λ text a is. absurd (cc)) refl refl
