use Rattle.std.proofs.Common.{◌∙◌, arith}
use Rattle.instance_flows.proofs.NullLemmas.{given_none, given_more, given_all}
use Rattle.instance_flows.proofs.nulls.add_givers.Goals as goal

pub loop-n-init : goal.loop-n-init
loop-n-init c = record { edges = given_none c.args.wide.now c.args.graph.now; room = c.requires }

pub loop-n-preserved : goal.loop-n-preserved
loop-n-preserved c = record {
  edges = given_more c.args.wide.now c.args.graph.now c.loop-n.n c.loop-n.graph c.add_giver.new.graph c.loop-n.invariant.edges c.in_ok-add_giver.ensures.edges;
  room = c.in_ok-add_giver.ensures.room ∙ c.loop-n.invariant.room;
}

pub returns-clause-edges : goal.returns-clause-edges
returns-clause-edges c = given_all c.args.wide.now c.args.graph.now c.loop-n.n c.loop-n.graph (omega (arith, c.len-n-end.ensures, c.loop-n-test.false)) c.loop-n.invariant.edges
