use Rattle.std.proofs.Common.{◌≡◌, Contains, length, subst, arith}
use Rattle.typing_heights.specs.Adds.{Adds, FromBelow}
use Rattle.typing_heights.specs.Moves.{HandlerMove}
use Rattle.typing_heights.proofs.AddsLemmas.{below_none, below_step}
use Rattle.typing_heights.proofs.moves.add_handlers.Goals as goal

pub loop-place-init : goal.loop-place-init
loop-place-init c = below_none (Contains c.args.moves.now.items) (HandlerMove c.args.rows.now c.args.from)

pub loop-place-preserved : goal.loop-place-preserved
loop-place-preserved c =
    below_step (Contains c.args.moves.now.items) (Contains c.loop-place.moves.items) (Contains c.add_handler.new.moves.items) c.loop-place.place (HandlerMove c.args.rows.now c.args.from)
    c.loop-place.invariant c.in_ok-add_handler.ensures

pub returns : goal.returns
returns c =
    let all : c.loop-place.place ≡ length c.args.rows.now = omega arith in
    subst (λ n. Adds (Contains c.args.moves.now.items) (Contains c.loop-place.moves.items) (FromBelow n (HandlerMove c.args.rows.now c.args.from))) all c.loop-place.invariant
