use Rattle.std.proofs.Common.{◌≡◌, map, take}
use Rattle.typing_effects.specs.Effects.{need_in}
use Rattle.typing_effects.specs.Forms.{ask_in}
use Rattle.typing_effects.proofs.effects.asks.Given as goal

abbrev pub invariant-loop-ask : goal.invariant-loop-ask
invariant-loop-ask l = map need_in l.needs.items ≡ map ask_in (take l.ask-index l.asked)
