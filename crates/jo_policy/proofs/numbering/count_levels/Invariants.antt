use Rattle.std.proofs.Common.{◌≡◌, ◌++◌, ◌-◌}
use Rattle.jo_prog.specs.Numbers.{count_from}
use Rattle.jo_policy.proofs.numbering.count_levels.Given as goal

-- the levels before this one are there
abbrev pub invariant-loop-level : goal.invariant-loop-level
invariant-loop-level l = l.levels ++ count_from l.level (l.count - l.level) ≡ count_from 0 l.count
