use Rattle.std.proofs.Common.{sym, arith}
use Rattle.jvm_exec.proofs.ShapeLemmas.{two_references_otherwise}
use Rattle.jvm_exec.proofs.shapes.two_references.Goals as goal

pub returns-in_default : goal.returns-in_default
returns-in_default c = sym (two_references_otherwise c.args.values.now (λ e. omega arith))
