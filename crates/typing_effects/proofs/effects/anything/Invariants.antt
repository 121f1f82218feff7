use Rattle.std.proofs.Common.{◌≡◌, map, replicate}
use Rattle.jo_prog.specs.Shapes.{Need, Anything}
use Rattle.typing_effects.specs.Effects.{need_in}
use Rattle.typing_effects.proofs.effects.anything.Given as goal

abbrev pub invariant-loop : goal.invariant-loop
invariant-loop l = map need_in l.needs.items ≡ replicate {A = Need} l.counter Anything
