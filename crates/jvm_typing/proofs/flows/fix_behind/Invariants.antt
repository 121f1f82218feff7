use Rattle.typing_heights.specs.Adds.{FromBelow}
use Rattle.typing_heights.specs.Subjects.{program_of, typable_of}
use Rattle.jvm_typing.specs.KindPasses.{items_of, Grows, Fixes, step_source}
use Rattle.jvm_typing.proofs.flows.fix_behind.Given as goal

abbrev pub invariant-loop-place : goal.invariant-loop-place
invariant-loop-place l =
    Grows (FromBelow l.place (λ place. Fixes l.step.to place (step_source (program_of l.subject) (typable_of l.subject) l.step l.stop.height place))) (items_of l.initial.facts) (items_of l.facts)
