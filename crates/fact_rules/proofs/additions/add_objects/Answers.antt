use Rattle.std.proofs.Common.{◌≡◌, Contains, sym, subst}
use Rattle.std.proofs.lemmas.List.Elements.{Contains-get_or}
use Rattle.dependence.specs.declared.facts.Fact.TheVariants.{Holds}
use Rattle.fact_sets.specs.Seen.{instance_seen, object_seen, Listed}
use Rattle.fact_rules.specs.Additions.{OfObject}
use Rattle.fact_rules.proofs.AddsLemmas.{adds_alike, over_none, over_item, over_all}
use Rattle.fact_rules.proofs.ListLevel.{of_object}
use Rattle.fact_rules.proofs.additions.add_objects.Goals as goal

pub loop-o-init : goal.loop-o-init
loop-o-init g c = λ list tells.
    over_none c.args.objects.now (OfObject list c.args.facts.now.objects (λ o f. f ≡ Holds (instance_seen list c.args.key.now) c.args.kind o)) (Listed list c.args.following.now.items)

pub object-requires : goal.object-requires
object-requires g c =
    c.requires c.o-item.result (subst (Contains c.args.objects.now) (sym c.o-item.is) (Contains-get_or c.args.objects.now c.loop-o.o-index c.o-item.result c.loop-o-test.true))

pub loop-o-preserved : goal.loop-o-preserved
loop-o-preserved g c = λ list tells.
    let objects = c.args.facts.now.objects in
    let i = instance_seen list c.args.key.now in
    let spot = c.args.kind in
    let key = c.object.result in
    let t = Listed list c.loop-o.following.items in
    let u = Listed list c.add_fact.new.following.items in
    over_item c.args.objects.now (OfObject list objects (λ o f. f ≡ Holds i spot o)) (Listed list c.args.following.now.items) t u c.loop-o.o-index c.o-item.result c.loop-o-test.true c.o-item.is
    (c.loop-o.invariant list tells)
    (adds_alike t u (λ f. f ≡ Holds i spot (object_seen list key)) (OfObject list objects (λ o f. f ≡ Holds i spot o) c.o-item.result) (c.in_ok-add_fact.ensures list tells)
    (of_object list objects c.o-item.result key (λ o f. f ≡ Holds i spot o) c.object.ensures))

pub returns : goal.returns
returns g c = λ list tells.
    over_all c.args.objects.now (OfObject list c.args.facts.now.objects (λ o f. f ≡ Holds (instance_seen list c.args.key.now) c.args.kind o))
    (Listed list c.args.following.now.items) (Listed list c.loop-o.following.items) c.loop-o.o-index c.loop-o-test.false (c.loop-o.invariant list tells)
