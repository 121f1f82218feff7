use Rattle.std.proofs.Common.{◌≡◌, ◌∙◌, ap}
use Rattle.std.proofs.lemmas.Result.{on_ok_weaker}
use Rattle.fact_sets.specs.Seen.{Known, Listed, fact_seen, instance_seen, object_seen}
use Rattle.fact_rules.specs.TargetRules.{call_so, ReceiverGives}
use Rattle.fact_rules.proofs.ListLevel.{adds_both}
use Rattle.fact_rules.proofs.TargetLemmas.{call_seen, adds_fact_so}
use Rattle.fact_rules.proofs.target_rules.add_entry.Goals as goal

pub returns : goal.returns
returns g c =
    let caller = c.args.caller.now in
    let to = c.args.to.now in
    let fork = c.args.fork in
    let pc = c.args.pc in
    let old = c.args.following.now.items in
    let middle = c.add_fact.new.following.items in
    let new = c.add_receiver.new.following.items in
    on_ok_weaker c.add_receiver.result
    (λ last list tells.
    let i = instance_seen list caller in
    let j = instance_seen list to in
    adds_both (Listed list old) (Listed list middle) (Listed list new) (λ f. f ≡ call_so fork i pc j) (ReceiverGives c.args.view.now.program.now (Known list c.args.facts.now) i pc (object_seen list c.args.object.now) j)
    (adds_fact_so list old middle c.call_fact.result (call_so fork i pc j) (ap (fact_seen list) c.call_fact.ensures ∙ call_seen list fork caller pc to) (c.in_ok-add_fact.ensures list tells)) (last list tells))
    c.add_receiver.ensures
