use Rattle.std.proofs.Common.{arith}
use Rattle.control_dep.proofs.PairLemmas.{below_more, are_controls}
use Rattle.control_dep.proofs.pairs.controllers.Goals as goal

pub loop-b-preserved : goal.loop-b-preserved
loop-b-preserved c = record {
  pairs = below_more c.args.flow.now c.loop-b.b c.loop-b.pairs c.add_pairs_from.new.pairs c.loop-b.invariant.pairs c.in_ok-add_pairs_from.ensures.pairs;
  found = c.in_ok-add_pairs_from.ensures.found;
  queue = c.in_ok-add_pairs_from.ensures.queue;
}

pub returns : goal.returns
returns c = are_controls c.args.flow.now c.loop-b.b c.loop-b.pairs (omega (arith, c.len-b-end.ensures, c.loop-b-test.false)) c.loop-b.invariant.pairs
