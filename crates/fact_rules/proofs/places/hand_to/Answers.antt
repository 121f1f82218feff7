use Rattle.std.proofs.Common.{◌≡◌}
use Rattle.std.proofs.lemmas.Result.{on_ok_weaker}
use Rattle.dependence.specs.declared.facts.Fact.TheVariants.{Holds}
use Rattle.fact_sets.specs.Seen.{Known, Listed, instance_seen}
use Rattle.method_views.proofs.NodeLemmas.{kind_says}
use Rattle.fact_rules.specs.Adds.{From}
use Rattle.fact_rules.specs.Additions.{OfObject}
use Rattle.fact_rules.specs.Places.{HandsTo, instance_of}
use Rattle.fact_rules.proofs.AddsLemmas.{adds_alike}
use Rattle.fact_rules.proofs.ListLevel.{from_held}
use Rattle.fact_rules.proofs.PlaceLemmas.{hands_told, both_ways_on}
use Rattle.fact_rules.proofs.places.hand_to.Goals as goal

pub returns : goal.returns
returns g c =
    let wide = c.args.view.now.wide.now in
    let lists = c.args.facts.now in
    let key = instance_of c.args.view.now.method c.args.context in
    let spot = c.named_by-from.result in
    on_ok_weaker c.add_objects.result (λ adds list tells.
    let i = instance_seen list key in
    let old = Listed list c.args.following.now.items in
    let new = Listed list c.add_objects.new.following.items in
    adds_alike old new (From c.held-held.result.now (OfObject list lists.objects (λ o f. f ≡ Holds i c.args.to o))) (HandsTo wide (Known list lists) i c.args.u.now c.args.to) (adds list tells)
    (λ f. both_ways_on
    (from_held list tells lists c.held-held.result.now c.args.instance key spot (λ o f. f ≡ Holds i c.args.to o) c.names_once.ensures c.requires.named c.held-held.ensures.each f)
    (hands_told wide (Known list lists) i c.args.u.now c.args.to c.node.result.now.kind spot (kind_says wide c.args.u.now.from c.node.result.now c.node.ensures) c.named_by-from.ensures f)))
    c.add_objects.ensures
