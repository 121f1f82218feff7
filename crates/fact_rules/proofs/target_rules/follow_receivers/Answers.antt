use Rattle.std.proofs.lemmas.Result.{on_ok_weaker}
use Rattle.fact_sets.specs.Seen.{Known, Listed, instance_seen}
use Rattle.fact_rules.specs.Places.{instance_of}
use Rattle.fact_rules.specs.TargetRules.{ObjectsGive, OnObjectsGive}
use Rattle.fact_rules.proofs.AddsLemmas.{adds_alike}
use Rattle.fact_rules.proofs.TargetLemmas.{other_number}
use Rattle.fact_rules.proofs.target_rules.follow_receivers.Goals as goal

pub returns : goal.returns
returns g c =
    let view = c.args.view.now in
    let list = g.X.Contexts.list in
    let facts = Known list c.args.facts.now in
    let i = instance_seen list (instance_of view.method c.args.context) in
    let call = c.args.call.now in
    let policy = g.X.Contexts.policy c.args.contexts.now in
    on_ok_weaker c.follow_objects.result
    (λ adds.
    adds_alike (Listed list c.args.following.now.items) (Listed list c.follow_objects.new.following.items) (ObjectsGive view.program.now facts i call.pc policy call.op call.member.now call.resolved)
    (OnObjectsGive view.program.now facts i call.pc policy call.op call.member.now call.resolved) adds (λ f. (λ p. (other_number call.op 184 c.if-call.false, p), λ q. q.1)))
    c.follow_objects.ensures
