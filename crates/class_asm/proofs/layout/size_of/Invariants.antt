use Rattle.std.proofs.Common.{◌≡◌, ◌≤◌, ◌^◌, false, min, drop}
use Rattle.class_asm.specs.Layout.{size_from}
use Rattle.class_asm.proofs.layout.size_of.Given as goal

abbrev pub invariant-loop-line : goal.invariant-loop-line
invariant-loop-line l = (l.pc ≤ 2 ^ 20) × (min (size_from l.caught l.pc (drop l.line-index l.body)) (2 ^ 20) ≡ min (size_from false 0 l.body) (2 ^ 20))
