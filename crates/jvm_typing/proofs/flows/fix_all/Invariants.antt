use Rattle.typing_heights.specs.Adds.{FromBelow}
use Rattle.typing_heights.specs.Subjects.{program_of, typable_of}
use Rattle.jvm_typing.specs.KindPasses.{items_of, Grows, FixesFrom}
use Rattle.jvm_typing.proofs.flows.fix_all.Given as goal

abbrev pub invariant-loop-place : goal.invariant-loop-place
invariant-loop-place l = Grows (FromBelow l.place (FixesFrom (program_of l.subject) (typable_of l.subject) l.heights)) (items_of l.initial.facts) (items_of l.facts)
