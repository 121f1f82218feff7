use Rattle.std.proofs.Common.{[], map, Contains}
use Rattle.typing_heights.specs.Adds.{Adds, FromBelow}
use Rattle.typing_effects.specs.Kinds.{kind_in}
use Rattle.jvm_typing.specs.KindPasses.{Item, items_of, StartAt}
use Rattle.jvm_typing.proofs.starts.start_facts.Given as goal

abbrev pub invariant-loop-place : goal.invariant-loop-place
invariant-loop-place l = Adds (Contains {X = Item} []) (Contains (items_of l.facts)) (FromBelow l.place (StartAt (map kind_in l.kinds.items)))
