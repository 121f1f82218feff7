use Rattle.std.proofs.Common.{◌≡◌, subst}
use Rattle.std.proofs.lemmas.Result.{on_ok_weaker}
use Rattle.jo_prog.specs.TypingPaths.{HasHeightAt}
use Rattle.dependence.specs.declared.facts.InstKey.{InstKey}
use Rattle.fact_sets.specs.Seen.{Known, Listed, instance_seen}
use Rattle.fact_rules.specs.Adds.{Adds, From}
use Rattle.fact_rules.specs.Places.{instance_of}
use Rattle.fact_rules.specs.RaiseRules.{ThrowsRaised}
use Rattle.method_views.specs.InstanceRules.{ByRaise}
use Rattle.fact_rules.proofs.AddsLemmas.{adds_alike}
use Rattle.fact_rules.proofs.ListLevel.{same_instance_named}
use Rattle.fact_rules.proofs.RaiseLemmas.{by_raised}
use Rattle.fact_rules.proofs.raise_rules.follow_raised.Goals as goal

pub returns : goal.returns
returns g c =
    let view = c.args.view.now in
    let program = view.program.now in
    let H = HasHeightAt program view.method in
    let list = g.X.Contexts.list in
    let policy = g.X.Contexts.policy c.args.contexts.now in
    let facts = Known list c.args.facts.now in
    let own : InstKey g.row.X-C.Denot = instance_of view.method c.context_of-context.result in
    let i = instance_seen list (instance_of view.method c.context_of-context.result) in
    let old = Listed list c.args.following.now.items in
    let new = Listed list c.add_each.new.following.items in
    on_ok_weaker c.add_each.result
    (λ adds key is_key.
    let same : own ≡ key = same_instance_named list c.args.facts.now.instances c.args.instance own key c.context_of-context.ensures is_key in
    subst (λ k. Adds old new (ByRaise program policy facts H (instance_seen list k))) same
    (adds_alike old new (From c.args.raised.now (ThrowsRaised program policy i)) (ByRaise program policy facts H i) adds
    (by_raised program policy i facts H c.args.raised.now (c.requires.raised own c.context_of-context.ensures)))) c.add_each.ensures
