use Rattle.std.proofs.Common.{◌≡◌, ◌++◌, ◌-◌}
use Rattle.std.specs.List.{filter}
use Rattle.jo_prog.specs.Numbers.{count_from}
use Rattle.jo_policy.specs.Threads.{selects_start}
use Rattle.jo_policy.proofs.threads.thread_classes.Given as goal

-- the classes of threads before this one are there
abbrev pub invariant-loop-class : goal.invariant-loop-class
invariant-loop-class l =
    l.threads ++ filter (selects_start l.program) (count_from l.class (l.count - l.class)) ≡ filter (selects_start l.program) (count_from 0 l.count)
