use Rattle.std.proofs.Common.{Contains, sym, subst}
use Rattle.std.proofs.lemmas.List.Elements.{Contains-get_or}
use Rattle.dep_nodes.specs.declared.kinds.NodeKind.TheVariants.{Arg}
use Rattle.fact_sets.specs.Seen.{Known, Listed, instance_seen, object_seen}
use Rattle.fact_rules.specs.Adds.{From}
use Rattle.fact_rules.specs.Additions.{OfObject}
use Rattle.fact_rules.specs.Places.{instance_of}
use Rattle.fact_rules.specs.TargetRules.{ObjectGives, ObjectsGive}
use Rattle.fact_rules.proofs.AddsLemmas.{adds_alike, over_none, over_item, over_all}
use Rattle.fact_rules.proofs.ListLevel.{of_object, from_held}
use Rattle.fact_rules.proofs.target_rules.follow_objects.Goals as goal

pub loop-o-init : goal.loop-o-init
loop-o-init g c =
    let view = c.args.view.now in
    let list = g.X.Contexts.list in
    let facts = Known list c.args.facts.now in
    let i = instance_seen list (instance_of view.method c.args.context) in
    let call = c.args.call.now in
    let gives = ObjectGives view.program.now facts i call.pc (g.X.Contexts.policy c.args.contexts.now) call.op call.member.now call.resolved in
    over_none c.held-held.result.now (OfObject list c.args.facts.now.objects gives) (Listed list c.args.following.now.items)

pub object-object-requires : goal.object-object-requires
object-object-requires g c =
    c.held-held.ensures.there c.o-item.result (subst (Contains c.held-held.result.now) (sym c.o-item.is) (Contains-get_or c.held-held.result.now c.loop-o.o-index c.o-item.result c.loop-o-test.true))

pub loop-o-preserved : goal.loop-o-preserved
loop-o-preserved g c =
    let view = c.args.view.now in
    let list = g.X.Contexts.list in
    let facts = Known list c.args.facts.now in
    let objects = c.args.facts.now.objects in
    let i = instance_seen list (instance_of view.method c.args.context) in
    let call = c.args.call.now in
    let gives = ObjectGives view.program.now facts i call.pc (g.X.Contexts.policy c.args.contexts.now) call.op call.member.now call.resolved in
    let t = Listed list c.loop-o.following.items in
    let u = Listed list c.add_object.new.following.items in
    over_item c.held-held.result.now (OfObject list objects gives) (Listed list c.args.following.now.items) t u c.loop-o.o-index c.o-item.result c.loop-o-test.true c.o-item.is c.loop-o.invariant
    (adds_alike t u (gives (object_seen list c.object-object.result)) (OfObject list objects gives c.o-item.result) c.in_ok-add_object.ensures
    (of_object list objects c.o-item.result c.object-object.result gives c.object-object.ensures))

pub returns : goal.returns
returns g c =
    let view = c.args.view.now in
    let list = g.X.Contexts.list in
    let lists = c.args.facts.now in
    let facts = Known list lists in
    let own = instance_of view.method c.args.context in
    let i = instance_seen list own in
    let call = c.args.call.now in
    let policy = g.X.Contexts.policy c.args.contexts.now in
    let gives = ObjectGives view.program.now facts i call.pc policy call.op call.member.now call.resolved in
    let held = c.held-held.result.now in
    let s = Listed list c.args.following.now.items in
    let t = Listed list c.loop-o.following.items in
    adds_alike s t (From held (OfObject list lists.objects gives)) (ObjectsGive view.program.now facts i call.pc policy call.op call.member.now call.resolved)
    (over_all held (OfObject list lists.objects gives) s t c.loop-o.o-index c.loop-o-test.false c.loop-o.invariant)
    (from_held list g.met.X.Contexts.equal_lists lists held c.args.instance own (Arg call.pc 0) gives c.instances-count.ensures.once c.requires.named c.held-held.ensures.each)
