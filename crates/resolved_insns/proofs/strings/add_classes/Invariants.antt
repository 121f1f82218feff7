use Rattle.std.proofs.Common.{◌≡◌, ◌++◌, drop}
use Rattle.std.specs.List.{flat_map}
use Rattle.jo_prog.specs.declared.program.Class.{Class}
use Rattle.jo_prog.specs.Constants.{text_of}
use Rattle.resolved_insns.specs.Strings.{lent}
use Rattle.resolved_insns.proofs.strings.add_classes.Given as goal

abbrev pub invariant-loop-class : goal.invariant-loop-class
invariant-loop-class l = lent l.texts.items ++ flat_map (λ (class : Class). flat_map text_of class.operands) (drop l.class-index l.classes) ≡ lent l.initial.texts.items ++ flat_map (λ (class : Class). flat_map text_of class.operands) l.classes
