use Rattle.std.proofs.Common.{◌≡◌, Contains, sym, subst}
use Rattle.std.proofs.lemmas.List.Elements.{Contains-get_or}
use Rattle.dependence.specs.declared.facts.Fact.TheVariants.{Holds}
use Rattle.fact_rules.specs.Additions.{SaysHeld}
use Rattle.fact_rules.proofs.AddsLemmas.{adds_alike, over_none, over_item, over_all}
use Rattle.fact_rules.proofs.KeptLemmas.{says_held}
use Rattle.fact_rules.proofs.additions.add_held.Goals as goal

pub loop-o-init : goal.loop-o-init
loop-o-init g c = over_none c.args.objects.now (SaysHeld c.args.facts.now.objects c.args.key.now c.args.kind) (Contains c.args.following.now.items)

pub object-requires : goal.object-requires
object-requires g c =
    c.requires c.o-item.result (subst (Contains c.args.objects.now) (sym c.o-item.is) (Contains-get_or c.args.objects.now c.loop-o.o-index c.o-item.result c.loop-o-test.true))

pub loop-o-preserved : goal.loop-o-preserved
loop-o-preserved g c =
    let objects = c.args.facts.now.objects in
    let key = c.args.key.now in
    let spot = c.args.kind in
    let t = Contains c.loop-o.following.items in
    let u = Contains c.add.new.following.items in
    over_item c.args.objects.now (SaysHeld objects key spot) (Contains c.args.following.now.items) t u c.loop-o.o-index c.o-item.result c.loop-o-test.true c.o-item.is c.loop-o.invariant
    (adds_alike t u (λ f. f ≡ Holds key spot c.object.result) (SaysHeld objects key spot c.o-item.result) c.in_ok-add.ensures (says_held c.args.facts.now objects key spot c.o-item.result c.object.result c.object.ensures))

pub returns : goal.returns
returns g c =
    over_all c.args.objects.now (SaysHeld c.args.facts.now.objects c.args.key.now c.args.kind) (Contains c.args.following.now.items) (Contains c.loop-o.following.items) c.loop-o.o-index c.loop-o-test.false c.loop-o.invariant
