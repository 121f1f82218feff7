use Rattle.std.proofs.Common.{rules, ◌≡◌, ℕ, Contains}
use Rattle.typing_heights.specs.declared.moves.Move.{Move}
use Rattle.typing_heights.specs.Moves.{plain_move}
use Rattle.typing_heights.proofs.AddsLemmas.{over_none, over_more, over_all, adds_pushed}
use Rattle.typing_heights.proofs.moves.add_plain.Goals as goal

pub loop-to-init : goal.loop-to-init
loop-to-init c = over_none c.args.targets.now (λ (to : ℕ) (m : Move). m ≡ plain_move c.args.from c.args.height to) (Contains c.args.moves.now.items)

pub loop-to-preserved : goal.loop-to-preserved
loop-to-preserved c =
    over_more c.args.targets.now (λ (to : ℕ) (m : Move). m ≡ plain_move c.args.from c.args.height to) (Contains c.args.moves.now.items) (Contains c.loop-to.moves.items) (Contains c.push.new.self.items)
    c.loop-to.to-index 0 c.loop-to-test.true c.loop-to.invariant (adds_pushed c.loop-to.moves.items c.push.new.self.items _ (search rules))

pub returns : goal.returns
returns c =
    over_all c.args.targets.now (λ (to : ℕ) (m : Move). m ≡ plain_move c.args.from c.args.height to) (Contains c.args.moves.now.items) (Contains c.loop-to.moves.items)
    c.loop-to.to-index c.loop-to-test.false c.loop-to.invariant
