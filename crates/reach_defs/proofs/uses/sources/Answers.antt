use Rattle.std.proofs.Common.{arith}
use Rattle.reach_defs.proofs.UseLemmas.{below_more, are_uses}
use Rattle.reach_defs.proofs.uses.sources.Goals as goal

pub loop-d-preserved : goal.loop-d-preserved
loop-d-preserved c = record {
  uses = below_more c.args.flow.now c.loop-d.d c.loop-d.uses c.add_uses_from.new.uses c.loop-d.invariant.uses c.in_ok-add_uses_from.ensures.uses;
  found = c.in_ok-add_uses_from.ensures.found;
  queue = c.in_ok-add_uses_from.ensures.queue;
}

pub returns : goal.returns
returns c = are_uses c.args.flow.now c.loop-d.d c.loop-d.uses (omega (arith, c.len-d-end.ensures, c.loop-d-test.false)) c.loop-d.invariant.uses
