use Rattle.std.proofs.Common.{◌≡◌, map, take}
use Rattle.linker.specs.Linking.{row_of}
use Rattle.linker.proofs.programs.rows_of.Given as goal

abbrev pub invariant-loop-row : goal.invariant-loop-row
invariant-loop-row l = l.made ≡ map (row_of l.names l.pool) (take l.row-index l.rows)
