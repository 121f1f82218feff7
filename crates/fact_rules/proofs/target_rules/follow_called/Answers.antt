use Rattle.std.proofs.Common.{Option, subst}
use Rattle.std.proofs.lemmas.Result.{on_ok_weaker}
use Rattle.fact_sets.specs.Seen.{Known, Listed, instance_seen}
use Rattle.fact_rules.specs.Adds.{Adds}
use Rattle.fact_rules.specs.Callees.{static_callee}
use Rattle.fact_rules.specs.Places.{instance_of}
use Rattle.fact_rules.specs.declared.callees.Callee.{Callee}
use Rattle.fact_rules.specs.TargetRules.{StaticGivesIf, OnObjectsGive}
use Rattle.fact_rules.proofs.ListLevel.{adds_both}
use Rattle.fact_rules.proofs.target_rules.follow_called.Goals as goal

pub returns : goal.returns
returns g c =
    let view = c.args.view.now in
    let program = view.program.now in
    let list = g.X.Contexts.list in
    let facts = Known list c.args.facts.now in
    let i = instance_seen list (instance_of view.method c.args.context) in
    let call = c.args.call.now in
    let policy = g.X.Contexts.policy c.args.contexts.now in
    let old = Listed list c.args.following.now.items in
    let middle = Listed list c.add_static.new.following.items in
    let new = Listed list c.follow_receivers.new.following.items in
    on_ok_weaker c.follow_receivers.result
    (λ last.
    adds_both old middle new (StaticGivesIf program policy i call.pc (static_callee program call.op call.member.now.desc call.resolved)) (OnObjectsGive program facts i call.pc policy call.op call.member.now call.resolved)
    (subst (λ (x : Option Callee). Adds old middle (StaticGivesIf program policy i call.pc x)) c.static_callee-callee.ensures c.in_ok-add_static.ensures) last)
    c.follow_receivers.ensures
