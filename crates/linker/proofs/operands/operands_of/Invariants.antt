use Rattle.std.proofs.Common.{◌≡◌, ◌+◌, ◌++◌, drop}
use Rattle.linker.specs.Linking.{operands_from, operands_of}
use Rattle.linker.proofs.operands.operands_of.Given as goal

abbrev pub invariant-loop-place : goal.invariant-loop-place
invariant-loop-place l = l.operands ++ operands_from l.names l.file (l.place + 1) (drop l.place l.file.pool) ≡ operands_of l.names l.file
