use Rattle.std.proofs.Common.{List}
use Rattle.linker.specs.declared.causes.LinkCode.TheVariants.{TwiceDefined, MissingClass, CyclicSuper, MissingMember, NotImplemented, InterfaceBody, StaticInit, Memory}
use Rattle.linker.specs.Linking.{program_of, linked_classes}
use Rattle.linker.specs.LinkOrder.{HasNoFault, HasNoProgramFault}
use Rattle.class_pool.specs.declared.classes.ClassFile.{ClassFile}
use Rattle.linked_laws.proofs.laws.linked_code_is_sound.Goals as goal

no_program_fault : (files : List ClassFile) → HasNoFault (linked_classes files) → HasNoProgramFault (program_of files)
no_program_fault files none CyclicSuper c fault = none CyclicSuper c fault
no_program_fault files none MissingMember c fault = none MissingMember c fault
no_program_fault files none NotImplemented c fault = none NotImplemented c fault
no_program_fault files none TwiceDefined c fault = absurd fault
no_program_fault files none MissingClass c fault = absurd fault
no_program_fault files none InterfaceBody c fault = absurd fault
no_program_fault files none StaticInit c fault = absurd fault
no_program_fault files none Memory c fault = absurd fault

pub returns : goal.returns
returns c = λ files sound none m method code is_method has_code.
    c.code_without_faults_is_sound.ensures (program_of files) (c.linked_hierarchies_are_sound.ensures files sound none) (no_program_fault files none)
    (c.linked_programs_have_sound_pools.ensures files sound none) (c.linked_programs_have_sound_members.ensures files none) m method code is_method has_code (c.linked_code_is_whole.ensures files sound m method code is_method has_code)
