use Rattle.std.proofs.Common.{Contains, sym, subst}
use Rattle.std.proofs.lemmas.List.Elements.{Contains-get_or}
use Rattle.dep_nodes.specs.declared.kinds.NodeKind.TheVariants.{Throw}
use Rattle.fact_sets.specs.Seen.{instance_seen, object_seen, Listed}
use Rattle.fact_rules.specs.Adds.{From}
use Rattle.fact_rules.specs.Additions.{OfObject}
use Rattle.fact_rules.specs.CatchRules.{ThrownGives, ThrowGives}
use Rattle.fact_sets.specs.Seen.{Known}
use Rattle.fact_rules.proofs.AddsLemmas.{adds_alike, over_none, over_item, over_all}
use Rattle.fact_rules.proofs.ListLevel.{of_object, from_held}
use Rattle.fact_rules.proofs.catch_rules.follow_throw.Goals as goal

pub loop-o-init : goal.loop-o-init
loop-o-init g c = λ list tells.
    over_none c.held-held.result.now (OfObject list c.args.facts.now.objects (ThrownGives c.args.view.now.program.now (instance_seen list c.args.key.now) c.args.pc)) (Listed list c.args.following.now.items)

pub object-object-requires : goal.object-object-requires
object-object-requires g c =
    c.held-held.ensures.there c.o-item.result (subst (Contains c.held-held.result.now) (sym c.o-item.is) (Contains-get_or c.held-held.result.now c.loop-o.o-index c.o-item.result c.loop-o-test.true))

pub loop-o-preserved : goal.loop-o-preserved
loop-o-preserved g c = λ list tells.
    let objects = c.args.facts.now.objects in
    let gives = ThrownGives c.args.view.now.program.now (instance_seen list c.args.key.now) c.args.pc in
    let t = Listed list c.loop-o.following.items in
    let u = Listed list c.add_thrown.new.following.items in
    over_item c.held-held.result.now (OfObject list objects gives) (Listed list c.args.following.now.items) t u c.loop-o.o-index c.o-item.result c.loop-o-test.true c.o-item.is
    (c.loop-o.invariant list tells)
    (adds_alike t u (gives (object_seen list c.object-object.result)) (OfObject list objects gives c.o-item.result) (c.in_ok-add_thrown.ensures list tells)
    (of_object list objects c.o-item.result c.object-object.result gives c.object-object.ensures))

pub returns : goal.returns
returns g c = λ list tells.
    let facts = c.args.facts.now in
    let program = c.args.view.now.program.now in
    let i = instance_seen list c.args.key.now in
    let gives = ThrownGives program i c.args.pc in
    let held = c.held-held.result.now in
    let s = Listed list c.args.following.now.items in
    let t = Listed list c.loop-o.following.items in
    adds_alike s t (From held (OfObject list facts.objects gives)) (ThrowGives program (Known list facts) i c.args.pc)
    (over_all held (OfObject list facts.objects gives) s t c.loop-o.o-index c.loop-o-test.false (c.loop-o.invariant list tells))
    (from_held list tells facts held c.args.instance c.args.key.now (Throw c.args.pc) gives c.instances-count.ensures.once c.requires.named c.held-held.ensures.each)
