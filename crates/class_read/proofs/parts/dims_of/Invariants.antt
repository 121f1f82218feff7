use Rattle.std.proofs.Common.{◌≡◌, ◌+◌, drop}
use Rattle.class_pool.specs.Code.{dims_of}
use Rattle.class_read.proofs.parts.dims_of.Given as goal

abbrev pub invariant-loop-dims : goal.invariant-loop-dims
invariant-loop-dims l = dims_of l.name ≡ l.dims + dims_of (drop l.dims l.name)
