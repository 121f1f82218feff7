use Rattle.std.proofs.Common.{refl}
use Rattle.jo_insn.specs.Opcodes.{opcodes, row_of}
use Rattle.jo_insn.specs.Instructions.{decoded}
use Rattle.jo_text.specs.Scan.{read_field, read_base, read_class, letter_base}
use Rattle.jo_prog.specs.MethodTypes.{method_desc_in, params_from}
use Rattle.jo_prog.specs.Hierarchy.{superclasses, superinterfaces, supertypes}
use Rattle.jo_prog.specs.Constants.{string_constants}
use Rattle.jo_prog.specs.Machine.{first_heap, first_statics}
use Rattle.machine.specs.Runs.{run_from}
use Rattle.machine.proofs.laws.worked_runs.Goals as goal

pub returns-clause-caught : goal.returns-clause-caught
unfolding opcodes row_of decoded read_field read_base read_class letter_base method_desc_in params_from superclasses superinterfaces supertypes string_constants first_heap first_statics run_from
returns-clause-caught c = refl

pub returns-clause-first : goal.returns-clause-first
unfolding opcodes row_of decoded read_field read_base read_class letter_base method_desc_in params_from superclasses superinterfaces supertypes string_constants first_heap first_statics run_from
returns-clause-first c = refl

pub returns-clause-other : goal.returns-clause-other
unfolding opcodes row_of decoded read_field read_base read_class letter_base method_desc_in params_from superclasses superinterfaces supertypes string_constants first_heap first_statics run_from
returns-clause-other c = refl

pub returns-clause-begun : goal.returns-clause-begun
unfolding opcodes row_of decoded read_field read_base read_class letter_base method_desc_in params_from superclasses superinterfaces supertypes string_constants first_heap first_statics run_from
returns-clause-begun c = refl
