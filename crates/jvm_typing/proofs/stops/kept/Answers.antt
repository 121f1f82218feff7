use Rattle.std.proofs.Common.{[], List, None, Contains, sym, subst}
use Rattle.typing_heights.specs.declared.moves.Move.{Move}
use Rattle.typing_heights.specs.Adds.{Adds, From}
use Rattle.typing_heights.proofs.AddsLemmas.{over_none, over_more, over_all, adds_all}
use Rattle.jvm_typing.specs.Stops.{LeadsOn}
use Rattle.jvm_typing.proofs.stops.kept.Goals as goal

abbrev none : Move
none = record { from = 0; row = None; to = 0; height = 0 }

pub loop-step-init : goal.loop-step-init
loop-step-init c =
    subst (λ (l : List Move). Adds (Contains {X = Move} []) (Contains l) (From [] (LeadsOn c.args.heights.now))) (sym c.new-kept.ensures.items)
    (over_none c.args.moves.now (LeadsOn c.args.heights.now) (Contains {X = Move} []))

pub loop-step-preserved : goal.loop-step-preserved
loop-step-preserved c =
    over_more c.args.moves.now (LeadsOn c.args.heights.now) (Contains {X = Move} []) (Contains c.loop-step.kept.items) (Contains c.keep.new.kept.items)
    c.loop-step.step-index none c.loop-step-test.true c.loop-step.invariant c.in_ok-keep.ensures

pub returns : goal.returns
returns c =
    adds_all c.loop-step.kept.items (From c.args.moves.now (LeadsOn c.args.heights.now))
    (over_all c.args.moves.now (LeadsOn c.args.heights.now) (Contains {X = Move} []) (Contains c.loop-step.kept.items) c.loop-step.step-index c.loop-step-test.false c.loop-step.invariant)
