use Rattle.std.proofs.Common.{◌≡◌, ◌++◌, drop}
use Rattle.linker.specs.Linking.{numbers_at}
use Rattle.linker.proofs.programs.numbers_at.Given as goal

abbrev pub invariant-loop-index : goal.invariant-loop-index
invariant-loop-index l = l.numbers ++ numbers_at l.names l.pool (drop l.index-index l.indices) ≡ numbers_at l.names l.pool l.indices
