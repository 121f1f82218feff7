use Rattle.std.proofs.Common.{◌≡◌, ◌++◌, drop}
use Rattle.std.specs.List.{flat_map}
use Rattle.jo_prog.specs.Constants.{text_of}
use Rattle.resolved_insns.specs.Strings.{lent}
use Rattle.resolved_insns.proofs.strings.add_operands.Given as goal

abbrev pub invariant-loop-operand : goal.invariant-loop-operand
invariant-loop-operand l = lent l.texts.items ++ flat_map text_of (drop l.operand-index l.operands) ≡ lent l.initial.texts.items ++ flat_map text_of l.operands
