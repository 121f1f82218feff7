use Rattle.std.proofs.Common.{arith}
use Rattle.hierarchy.proofs.OrderLemmas.{round_more, round_done}
use Rattle.hierarchy.proofs.orders.round.Goals as goal

pub loop-number-preserved : goal.loop-number-preserved
loop-number-preserved c =
    round_more c.args.graph.now c.requires.inside c.requires.acyclic c.args.orders.now.items c.loop-number.orders.items c.visit.new.orders.items c.loop-number.number
    c.loop-number.invariant c.in_ok-visit.ensures

pub returns : goal.returns
returns c =
    round_done c.args.graph.now c.requires.inside c.requires.acyclic c.args.orders.now.items c.loop-number.orders.items c.loop-number.number (omega arith) c.loop-number.invariant
