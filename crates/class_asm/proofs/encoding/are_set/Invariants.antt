use Rattle.std.proofs.Common.{◌≡◌, drop}
use Rattle.class_asm.specs.Encoding.{are_set}
use Rattle.class_asm.proofs.encoding.are_set.Given as goal

abbrev pub invariant-loop-name : goal.invariant-loop-name
invariant-loop-name l = are_set l.labels (drop l.name-index l.names) ≡ are_set l.labels l.names
