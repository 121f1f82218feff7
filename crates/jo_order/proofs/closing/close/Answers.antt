use Rattle.jo_order.proofs.ClosingLemmas.{closes_none, closes_more, closes_all}
use Rattle.jo_order.proofs.closing.close.Goals as goal

pub loop-level-init : goal.loop-level-init
loop-level-init c = closes_none c.args.rows.now

pub loop-level-preserved : goal.loop-level-preserved
loop-level-preserved c =
    closes_more c.loop-level.level c.args.rows.now c.loop-level.rows c.join_through.new.rows c.loop-level.invariant c.join_through.auto.rows c.join_through.ensures

pub returns : goal.returns
returns c = closes_all c.loop-level.level c.args.rows.now c.loop-level.rows c.loop-level.invariant c.loop-level-test.false
