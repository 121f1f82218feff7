use Rattle.std.proofs.Common.{◌≡◌, length, subst, arith}
use Rattle.std.proofs.lemmas.Result.{err_from_is_err_and}
use Rattle.sdg.specs.Growth.{FromBelow, AddsLinks}
use Rattle.sdg.specs.FlowLinks.{FlowFrom}
use Rattle.sdg.proofs.GrowthLemmas.{below_none, below_step, below_refused}
use Rattle.sdg.proofs.flow_links.add_numbered.Goals as goal

pub loop-from-init : goal.loop-from-init
loop-from-init c = below_none c.args.graph.now (FlowFrom c.args.flow.now c.args.instance)

pub loop-from-preserved : goal.loop-from-preserved
loop-from-preserved c =
    below_step c.args.graph.now c.loop-from.graph c.add_from.new.graph c.loop-from.from (FlowFrom c.args.flow.now c.args.instance) c.loop-from.invariant c.in_ok-add_from.ensures

pub returns-in_err-add_from : goal.returns-in_err-add_from
returns-in_err-add_from c =
    let p = err_from_is_err_and c.from_residual.result c.from_residual.ensures.1 in
    rw (p.1, p.2) (below_refused _ c.args.graph.now c.loop-from.graph c.add_from.new.graph c.loop-from.from (length c.args.flow.now) (FlowFrom c.args.flow.now c.args.instance)
    (omega (arith, c.len-from-end.ensures, c.loop-from-test.true)) c.loop-from.invariant c.in_err-add_from.ensures)

pub returns : goal.returns
returns c =
    let all : c.loop-from.from ≡ length c.args.flow.now = omega (arith, c.len-from-end.ensures, c.loop-from-test.false) in
    subst (λ n. AddsLinks c.args.graph.now c.loop-from.graph (FromBelow n (FlowFrom c.args.flow.now c.args.instance))) all c.loop-from.invariant
