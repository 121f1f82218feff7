use Rattle.std.proofs.Common.{List, sym, subst, arith}
use Rattle.flow_graph.specs.Adding.{HasThose}
use Rattle.instance_flows.specs.declared.keeping.Way.{Way}
use Rattle.instance_flows.proofs.HeldLemmas.{WayAmong, ways_none, ways_more, ways_all}
use Rattle.instance_flows.proofs.keeping.ways_of.Goals as goal

pub loop-id-init : goal.loop-id-init
loop-id-init g c = subst (λ (ws : List Way). HasThose (WayAmong c.args.program.now c.args.method c.args.pc c.args.facts.now.objects c.held-held.result.now 0) ws) (sym c.new-ways.ensures) (ways_none c.args.program.now c.args.method c.args.pc c.args.facts.now c.held-held.result.now)

pub object-requires : goal.object-requires
object-requires g c = c.held-held.ensures.there c.id-item.result (c.loop-id.id-index, c.loop-id-test.true, sym c.id-item.is)

pub loop-id-preserved : goal.loop-id-preserved
loop-id-preserved g c =
    ways_more c.args.program.now c.args.method c.args.pc c.args.facts.now c.held-held.result.now c.loop-id.id-index c.id-item.result c.object.result c.in_ok-way.way c.loop-id.ways c.add.new.list c.loop-id-test.true c.id-item.is
    c.object.ensures c.in_ok-way.ensures c.in_ok-add.ensures c.loop-id.invariant

pub returns : goal.returns
returns g c = ways_all c.args.program.now c.args.method c.args.pc c.args.instance c.args.facts.now c.held-held.result.now c.held-held.ensures.each c.loop-id.id-index c.loop-id.ways (omega (arith, c.loop-id-test.false)) c.loop-id.invariant
