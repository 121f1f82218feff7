use Rattle.std.proofs.Common.{Contains, Err, sym, subst}
use Rattle.std.proofs.lemmas.List.Elements.{Contains-get_or}
use Rattle.std.proofs.lemmas.Result.{err_from_is_err_and}
use Rattle.fact_sets.specs.Seen.{object_seen}
use Rattle.heap_deps.specs.ObjectCells.{OfObject}
use Rattle.heap_deps.specs.Accesses.{IsStartBy}
use Rattle.heap_deps.proofs.GrowLemmas.{grows_alike, or_stops_alike, over_item, over_stops}
use Rattle.heap_deps.proofs.ObjectLemmas.{of_object}
use Rattle.heap_deps.proofs.nodes.add_each_start.Goals as goal

pub object-object-requires : goal.object-object-requires
object-object-requires g c =
    c.requires.there c.id-item.result (subst (Contains c.args.held.now) (sym c.id-item.is) (Contains-get_or c.args.held.now c.loop-id.id-index c.id-item.result c.loop-id-test.true))

pub returns-in_err-add_start : goal.returns-in_err-add_start
returns-in_err-add_start g c =
    let p = err_from_is_err_and c.from_residual.result c.from_residual.ensures.1 in
    let list = g.X.Contexts.list in
    let objects = c.args.facts.now.objects in
    let id = c.id-item.result in
    let object = c.object-object.result in
    let e = c.in_err-add_start.field-0.0 in
    let makes = IsStartBy c.args.program.now c.args.method c.args.op c.args.named.now c.args.resolved.now c.args.node in
    rw (p.1, p.2)
    (over_stops c.args.held.now (OfObject list objects makes) e c.args.graph.now c.loop-id.graph c.add_start.new.graph c.loop-id.id-index id c.loop-id-test.true c.id-item.is c.loop-id.invariant
    (or_stops_alike (Err e) c.loop-id.graph c.add_start.new.graph (makes (object_seen list object)) (OfObject list objects makes id) c.in_err-add_start.ensures
    (of_object list objects id object c.object-object.ensures makes)))

pub loop-id-preserved : goal.loop-id-preserved
loop-id-preserved g c =
    let list = g.X.Contexts.list in
    let objects = c.args.facts.now.objects in
    let id = c.id-item.result in
    let object = c.object-object.result in
    let makes = IsStartBy c.args.program.now c.args.method c.args.op c.args.named.now c.args.resolved.now c.args.node in
    over_item c.args.held.now (OfObject list objects makes) c.args.graph.now c.loop-id.graph c.add_start.new.graph c.loop-id.id-index id c.loop-id-test.true c.id-item.is c.loop-id.invariant
    (grows_alike c.loop-id.graph c.add_start.new.graph (makes (object_seen list object)) (OfObject list objects makes id) c.in_ok-add_start.ensures
    (of_object list objects id object c.object-object.ensures makes))
