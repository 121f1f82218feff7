use Rattle.std.proofs.Common.{◌≡◌, drop}
use Rattle.std.specs.List.{list_all}
use Rattle.linker.specs.LinkFaults.{is_known}
use Rattle.linker.specs.NeededClasses.{is_caught_there}
use Rattle.linker.proofs.needs.are_caught_there.Given as goal

-- what is left decides
abbrev pub invariant-loop-row : goal.invariant-loop-row
invariant-loop-row l = list_all (is_caught_there (is_known l.names) l.pool) (drop l.row-index l.rows) ≡ list_all (is_caught_there (is_known l.names) l.pool) l.rows
