use Rattle.std.proofs.Common.{◌≡◌, ◌+◌, drop}
use Rattle.linker.specs.LinkFaults.{is_known}
use Rattle.linker.specs.NeededClasses.{are_used_there}
use Rattle.linker.proofs.needs.are_used_there.Given as goal

-- what is left decides
abbrev pub invariant-loop-place : goal.invariant-loop-place
invariant-loop-place l =
    are_used_there (is_known l.names) l.class (l.place + 1) (drop l.place l.class.pool)
    ≡ are_used_there (is_known l.names) l.class 1 l.class.pool
