use Rattle.std.proofs.Common.{sym, arith}
use Rattle.jvm_exec.proofs.ShapeLemmas.{on_object_otherwise}
use Rattle.jvm_exec.proofs.shapes.on_object.Goals as goal

pub returns-in_default : goal.returns-in_default
returns-in_default c = sym (on_object_otherwise c.args.values.now (λ e. omega arith))
