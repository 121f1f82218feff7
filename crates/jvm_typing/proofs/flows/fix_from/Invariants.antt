use Rattle.std.proofs.Common.{take}
use Rattle.typing_heights.specs.Adds.{From}
use Rattle.typing_heights.specs.Subjects.{program_of, typable_of}
use Rattle.jvm_typing.specs.KindPasses.{items_of, Grows, FixesBehind}
use Rattle.jvm_typing.proofs.flows.fix_from.Given as goal

abbrev pub invariant-loop-step : goal.invariant-loop-step
invariant-loop-step l =
    Grows (From (take l.step-index l.stop.moves.items) (λ m. FixesBehind (program_of l.subject) (typable_of l.subject) m l.stop.height)) (items_of l.initial.facts) (items_of l.facts)
