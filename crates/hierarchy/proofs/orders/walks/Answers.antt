use Rattle.std.proofs.Common.{◌≡◌, ◌+◌, suc, subst, arith}
use Rattle.hierarchy.specs.Orders.{AreMadeBy}
use Rattle.hierarchy.proofs.OrderLemmas.{walks_done}
use Rattle.hierarchy.proofs.orders.walks.Goals as goal

pub loop-preserved : goal.loop-preserved
loop-preserved c =
    let up : suc c.loop.counter ≡ c.loop.counter + 1 = omega arith in
    record {
      right = c.in_ok-round.ensures.right;
      made = subst (λ n. AreMadeBy c.args.graph.now c.round.new.orders.items n) up (c.in_ok-round.ensures.more c.loop.counter c.loop.invariant.made);
    }

pub returns : goal.returns
returns c =
    walks_done c.args.graph.now c.requires.inside c.requires.acyclic c.loop.orders.items c.loop.counter (omega arith) c.loop.invariant.right c.loop.invariant.made
