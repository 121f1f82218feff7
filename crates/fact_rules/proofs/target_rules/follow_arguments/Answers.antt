use Rattle.std.proofs.Common.{ℕ, List, Contains, sym, subst}
use Rattle.std.proofs.lemmas.List.Elements.{Contains-get_or}
use Rattle.dependence.specs.declared.facts.InstKey.{InstKey}
use Rattle.fact_sets.specs.Seen.{Known, Listed, instance_seen}
use Rattle.fact_rules.specs.Adds.{From, FromBelow}
use Rattle.fact_rules.specs.TargetRules.{ArgumentGives, TargetsGive}
use Rattle.fact_rules.proofs.AddsLemmas.{adds_alike, over_none, over_item, over_all}
use Rattle.fact_rules.proofs.ListLevel.{OfTarget, from_targets}
use Rattle.fact_rules.proofs.TargetLemmas.{of_target}
use Rattle.fact_rules.proofs.target_rules.follow_arguments.Goals as goal

pub loop-target-init : goal.loop-target-init
loop-target-init g c = λ list tells.
    over_none c.targets-targets.result.now
    (OfTarget list tells c.args.facts.now (λ j. FromBelow c.args.end (ArgumentGives c.args.view.now.program.now (Known list c.args.facts.now) (instance_seen list c.args.caller.now) c.args.pc j)))
    (Listed list c.args.following.now.items)

pub instance-to-requires : goal.instance-to-requires
instance-to-requires g c =
    c.targets-targets.ensures.there c.target-item.result
    (subst (Contains c.targets-targets.result.now) (sym c.target-item.is) (Contains-get_or c.targets-targets.result.now c.loop-target.target-index c.target-item.result c.loop-target-test.true))

pub loop-target-preserved : goal.loop-target-preserved
loop-target-preserved g c = λ list tells.
    let lists = c.args.facts.now in
    let makes = λ (j : InstKey (List ℕ)). FromBelow c.args.end (ArgumentGives c.args.view.now.program.now (Known list lists) (instance_seen list c.args.caller.now) c.args.pc j) in
    let t = Listed list c.loop-target.following.items in
    let u = Listed list c.add_arguments.new.following.items in
    over_item c.targets-targets.result.now (OfTarget list tells lists makes) (Listed list c.args.following.now.items) t u c.loop-target.target-index c.target-item.result c.loop-target-test.true c.target-item.is
    (c.loop-target.invariant list tells)
    (adds_alike t u (makes (instance_seen list c.instance-to.result)) (OfTarget list tells lists makes c.target-item.result) (c.in_ok-add_arguments.ensures list tells)
    (of_target list tells lists c.target-item.result c.instance-to.result makes c.instance-to.ensures))

pub returns : goal.returns
returns g c = λ list tells.
    let lists = c.args.facts.now in
    let program = c.args.view.now.program.now in
    let i = instance_seen list c.args.caller.now in
    let makes = λ (j : InstKey (List ℕ)). FromBelow c.args.end (ArgumentGives program (Known list lists) i c.args.pc j) in
    let targets = c.targets-targets.result.now in
    let s = Listed list c.args.following.now.items in
    let t = Listed list c.loop-target.following.items in
    adds_alike s t (From targets (OfTarget list tells lists makes)) (TargetsGive program (Known list lists) i c.args.pc c.args.end)
    (over_all targets (OfTarget list tells lists makes) s t c.loop-target.target-index c.loop-target-test.false (c.loop-target.invariant list tells))
    (from_targets list tells lists targets c.args.instance c.args.pc c.args.caller.now makes c.instances-count.ensures.once c.requires.named c.targets-targets.ensures.each)
