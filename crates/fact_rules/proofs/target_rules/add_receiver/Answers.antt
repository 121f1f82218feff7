use Rattle.std.proofs.Common.{◌≡◌, sym, ◌∙◌}
use Rattle.std.proofs.lemmas.Result.{on_ok_weaker}
use Rattle.dep_nodes.specs.declared.kinds.NodeKind.TheVariants.{Param}
use Rattle.dependence.specs.declared.facts.Fact.TheVariants.{Holds}
use Rattle.fact_sets.specs.Seen.{Known, Listed, instance_seen, object_seen}
use Rattle.fact_rules.specs.TargetRules.{ReceiverGives}
use Rattle.fact_rules.proofs.AddsLemmas.{adds_none, adds_alike}
use Rattle.fact_rules.proofs.TargetLemmas.{receives_told}
use Rattle.fact_rules.proofs.target_rules.add_receiver.Goals as goal

pub returns-then-not-is_known : goal.returns-then-not-is_known
returns-then-not-is_known g c = λ list tells.
    adds_none (Listed list c.args.following.now.items)
    (ReceiverGives c.args.view.now.program.now (Known list c.args.facts.now) (instance_seen list c.args.caller.now) c.args.pc (object_seen list c.args.object.now) (instance_seen list c.args.to.now))
    (λ f p. (let has = (c.is_known.ensures list c.args.caller.now tells c.requires.named).1 p.0 in let lacks = c.if-not-is_known.true in absurd (cc)))

pub returns : goal.returns
returns g c =
    let program = c.args.view.now.program.now in
    let to = c.args.to.now in
    on_ok_weaker c.add_fact.result
    (λ adds list tells.
    let i = instance_seen list c.args.caller.now in
    let j = instance_seen list to in
    let o = object_seen list c.args.object.now in
    adds_alike (Listed list c.args.following.now.items) (Listed list c.add_fact.new.following.items) (λ f. f ≡ Holds j (Param 0) o) (ReceiverGives program (Known list c.args.facts.now) i c.args.pc o j) (adds list tells)
    (λ f. (λ e. ((c.is_known.ensures list c.args.caller.now tells c.requires.named).0 c.if-not-is_known.false, (receives_told program to.method 0).0 (sym c.receives.ensures ∙ c.if-not-receives.false), e), λ p. p.2)))
    c.add_fact.ensures
