use Rattle.std.proofs.lemmas.Result.{err_from_is_err_and}
use Rattle.std.proofs.Common.{length, ap, arith}
use Rattle.sdg.specs.TargetLinks.{LinkAt}
use Rattle.sdg.proofs.GrowthLemmas.{over_none, over_read, over_all, read_refused}
use Rattle.sdg.proofs.target_links.add_numbered.Goals as goal

pub loop-number-init : goal.loop-number-init
loop-number-init g c = over_none c.args.graph.now.nodes (LinkAt c.args.facts.now.facts) c.args.graph.now

pub node-node-requires : goal.node-node-requires
node-node-requires g c = omega (arith, ap length c.loop-number.invariant.kept.nodes, c.loop-number-test.true, c.len-number-end.ensures)

pub loop-number-preserved : goal.loop-number-preserved
loop-number-preserved g c =
    over_read c.args.graph.now.nodes (LinkAt c.args.facts.now.facts) c.args.graph.now c.loop-number.graph c.add_at.new.graph c.loop-number.graph.nodes c.loop-number.number c.node-node.result
    c.loop-number.invariant.kept.nodes c.node-node.ensures c.loop-number.invariant c.in_ok-add_at.ensures

pub returns-in_err-add_at : goal.returns-in_err-add_at
returns-in_err-add_at g c =
    let p = err_from_is_err_and c.from_residual.result c.from_residual.ensures.1 in
    rw (p.1, p.2) (read_refused c.args.graph.now.nodes (LinkAt c.args.facts.now.facts) _ c.args.graph.now c.loop-number.graph c.add_at.new.graph c.loop-number.graph.nodes c.loop-number.number c.node-node.result
    c.loop-number.invariant.kept.nodes c.node-node.ensures c.loop-number.invariant c.in_err-add_at.ensures)

pub returns : goal.returns
returns g c =
    over_all c.args.graph.now.nodes (LinkAt c.args.facts.now.facts) c.args.graph.now c.loop-number.graph c.loop-number.number (omega (arith, c.len-number-end.ensures, c.loop-number-test.false)) c.loop-number.invariant
