use Rattle.std.proofs.Common.{◌≡◌, map, take}
use Rattle.hierarchy.specs.Resolutions.{resolved_operand}
use Rattle.hierarchy.proofs.resolutions.resolve_class.Given as goal

abbrev pub invariant-loop-operand : goal.invariant-loop-operand
invariant-loop-operand l = l.members ≡ map (resolved_operand l.program) (take l.operand-index l.class.operands)
