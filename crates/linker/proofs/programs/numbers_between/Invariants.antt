use Rattle.std.proofs.Common.{◌≡◌, ◌-◌, ◌≤◌}
use Rattle.jo_prog.specs.Numbers.{count_from}
use Rattle.linker.proofs.programs.numbers_between.Given as goal

abbrev pub invariant-loop-number : goal.invariant-loop-number
invariant-loop-number g l = (l.first ≤ l.number) × (l.numbers ≡ count_from l.first (l.number - l.first))
