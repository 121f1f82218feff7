use Rattle.std.proofs.lemmas.Result.{err_from_is_err_and}
use Rattle.class_read.proofs.ClassLaws.{all_bytes, class_is_read, stop_is_fault}
use Rattle.class_read.proofs.class.read_class.Goals as goal

pub returns-in_err-whole-clause-fault : goal.returns-in_err-whole-clause-fault
returns-in_err-whole-clause-fault c =
    let p = err_from_is_err_and c.from_residual.result c.from_residual.ensures.1 in
    rw (p.1, p.2) (stop_is_fault c.args.bytes.now c.in_err-whole.field-0.0 c.in_err-whole.ensures)

pub returns-clause-class : goal.returns-clause-class
returns-clause-class c = class_is_read c.args.bytes.now c.in_ok-whole.field-0 (all_bytes c.args.bytes.now c.type_inv.bytes) c.in_ok-whole.ensures
