use Rattle.joana_base.proofs.FileClasses.{small_file, class_comes, fault_comes}
use Rattle.joana_base.proofs.classes.class_in.Goals as goal

pub read_class-requires : goal.read_class-requires
read_class-requires c = small_file c.args.file.now c.requires

pub returns-in-Ok-clause-value : goal.returns-in-Ok-clause-value
returns-in-Ok-clause-value c = class_comes c.args.number c.args.file.now c.in-Ok.class c.in-Ok.ensures.class

pub returns-in_default-clause-value : goal.returns-in_default-clause-value
returns-in_default-clause-value c = fault_comes c.args.number c.args.file.now c.in-Err.fault c.in_default.not-Memory c.in-Err.ensures.fault
