use Rattle.std.proofs.Common.{sym, arith}
use Rattle.jvm_exec.proofs.ShapeLemmas.{stored_on_array_otherwise}
use Rattle.jvm_exec.proofs.shapes.stored_on_array.Goals as goal

pub returns-in_default : goal.returns-in_default
returns-in_default c = sym (stored_on_array_otherwise c.args.values.now (λ e. omega arith))
