use Rattle.std.proofs.Common.{◌≡◌, ◌++◌, drop}
use Rattle.std.specs.Prelude.{map}
use Rattle.class_dis.specs.Words.{spaced, label}
use Rattle.class_dis.proofs.operands.push_targets.Given as goal

abbrev pub invariant-loop-target : goal.invariant-loop-target
invariant-loop-target l = l.out.items ++ spaced (map label (drop l.target-index l.targets)) ≡ l.fn.out.items ++ spaced (map label l.targets)
