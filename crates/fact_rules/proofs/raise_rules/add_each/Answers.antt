use Rattle.fact_sets.specs.Seen.{Listed, instance_seen}
use Rattle.fact_rules.specs.Places.{instance_of}
use Rattle.fact_rules.specs.RaiseRules.{ThrowsRaised}
use Rattle.fact_rules.proofs.AddsLemmas.{over_none, over_more, over_all}
use Rattle.method_views.specs.declared.raised.Raised.{Raised}
use Rattle.jo_prog.specs.declared.sites.Cause.TheVariants.{ZeroDivisor}
use Rattle.fact_rules.proofs.raise_rules.add_each.Goals as goal

pub loop-r-init : goal.loop-r-init
loop-r-init g c =
    let list = g.X.Contexts.list in
    over_none c.args.raised.now (ThrowsRaised c.args.view.now.program.now (g.X.Contexts.policy c.args.contexts.now) (instance_seen list (instance_of c.args.view.now.method c.args.context))) (Listed list c.args.following.now.items)

pub loop-r-preserved : goal.loop-r-preserved
loop-r-preserved g c =
    let list = g.X.Contexts.list in
    let none : Raised = record { pc = 0; cause = ZeroDivisor } in
    over_more c.args.raised.now (ThrowsRaised c.args.view.now.program.now (g.X.Contexts.policy c.args.contexts.now) (instance_seen list (instance_of c.args.view.now.method c.args.context)))
    (Listed list c.args.following.now.items) (Listed list c.loop-r.following.items) (Listed list c.add_raised.new.following.items) c.loop-r.r-index none c.loop-r-test.true c.loop-r.invariant c.in_ok-add_raised.ensures

pub returns : goal.returns
returns g c =
    let list = g.X.Contexts.list in
    over_all c.args.raised.now (ThrowsRaised c.args.view.now.program.now (g.X.Contexts.policy c.args.contexts.now) (instance_seen list (instance_of c.args.view.now.method c.args.context)))
    (Listed list c.args.following.now.items) (Listed list c.loop-r.following.items) c.loop-r.r-index c.loop-r-test.false c.loop-r.invariant
