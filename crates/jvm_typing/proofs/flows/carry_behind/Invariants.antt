use Rattle.std.proofs.Common.{take}
use Rattle.typing_heights.specs.Adds.{From}
use Rattle.typing_heights.specs.Subjects.{program_of, typable_of}
use Rattle.jvm_typing.specs.KindPasses.{item_in, items_of, Grows, CarriesTo}
use Rattle.jvm_typing.proofs.flows.carry_behind.Given as goal

abbrev pub invariant-loop-place : goal.invariant-loop-place
invariant-loop-place l =
    Grows (From (take l.place-index l.place-items) (CarriesTo (program_of l.subject) (typable_of l.subject) (item_in l.fact) l.step l.stop.height)) (items_of l.initial.facts) (items_of l.facts)
