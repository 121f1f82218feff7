use Rattle.std.proofs.Common.{refl}
use Rattle.std.proofs.lemmas.Result.{on_ok_weaker}
use Rattle.fact_sets.specs.Seen.{Known, Listed, instance_seen, object_seen}
use Rattle.fact_rules.specs.Places.{instance_of}
use Rattle.fact_rules.specs.TargetRules.{CalleeGivesIf, ObjectGives}
use Rattle.fact_rules.proofs.AddsLemmas.{adds_alike}
use Rattle.fact_rules.proofs.TargetLemmas.{object_gives}
use Rattle.fact_rules.proofs.target_rules.add_object.Goals as goal

pub returns : goal.returns
returns g c =
    let view = c.args.view.now in
    let program = view.program.now in
    let list = g.X.Contexts.list in
    let policy = g.X.Contexts.policy c.args.contexts.now in
    let facts = Known list c.args.facts.now in
    let i = instance_seen list (instance_of view.method c.args.context) in
    let o = object_seen list c.args.object.now in
    let call = c.args.call.now in
    let callee = c.in_ok-callee.callee in
    on_ok_weaker c.add_callee.result
    (λ adds.
    adds_alike (Listed list c.args.following.now.items) (Listed list c.add_callee.new.following.items) (CalleeGivesIf program facts i call.pc policy o callee)
    (ObjectGives program facts i call.pc policy call.op call.member.now call.resolved o) adds
    (object_gives program facts i call.pc policy call.op call.member.now call.resolved o callee (c.in_ok-callee.ensures o refl)))
    c.add_callee.ensures
