use Rattle.std.proofs.Common.{◌≡◌, drop}
use Rattle.class_pool.specs.Pool.{reference_fault}
use Rattle.class_pool.proofs.references.reference_fault.Given as goal

abbrev pub invariant-loop-entry : goal.invariant-loop-entry
invariant-loop-entry l = reference_fault l.size l.pool l.rest (drop l.entry-index l.pool) ≡ reference_fault l.size l.pool l.fn.rest l.pool
