use Rattle.typing_heights.specs.Subjects.{program_of, typable_of}
use Rattle.jvm_typing.specs.KindPasses.{items_of, Found}
use Rattle.jvm_typing.proofs.flows.kinds_of.Given as goal

abbrev pub invariant-loop-number : goal.invariant-loop-number
invariant-loop-number l = Found (program_of l.subject) (typable_of l.subject) l.heights l.number (items_of l.facts)
