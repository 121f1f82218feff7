use Rattle.jvm_typing.specs.Typings.{AreTypings}
use Rattle.jvm_typing.proofs.programs.type_all.Given as goal

abbrev pub invariant-loop-number : goal.invariant-loop-number
invariant-loop-number l = AreTypings l.program l.number l.typings
