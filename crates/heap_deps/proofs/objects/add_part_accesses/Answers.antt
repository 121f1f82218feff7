use Rattle.std.proofs.Common.{◌≡◌, Contains, Err, sym, subst}
use Rattle.std.proofs.lemmas.List.Elements.{Contains-get_or}
use Rattle.std.proofs.lemmas.Result.{err_from_is_err_and}
use Rattle.dep_nodes.specs.declared.accesses.Access.{Access}
use Rattle.dep_nodes.specs.OneForm.{plain_cell}
use Rattle.heap_deps.specs.Items.{access}
use Rattle.heap_deps.specs.ObjectCells.{OfObject, IsPartAccess}
use Rattle.heap_deps.proofs.GrowLemmas.{grows_alike, or_stops_alike, over_item, over_stops}
use Rattle.heap_deps.proofs.ObjectLemmas.{part_told}
use Rattle.heap_deps.proofs.objects.add_part_accesses.Goals as goal

pub object-requires : goal.object-requires
object-requires g c =
    c.requires.there c.id-item.result (subst (Contains c.args.held.now) (sym c.id-item.is) (Contains-get_or c.args.held.now c.loop-id.id-index c.id-item.result c.loop-id-test.true))

pub returns-in_err-add_access : goal.returns-in_err-add_access
returns-in_err-add_access g c =
    let p = err_from_is_err_and c.from_residual.result c.from_residual.ensures.1 in
    let list = g.X.Contexts.list in
    let objects = c.args.facts.now.objects in
    let n = c.args.node in
    let part = c.args.access.now.part in
    let write = c.args.access.now.write in
    let id = c.id-item.result in
    let e = c.in_err-add_access.field-0.0 in
    let a : Access = record { cell = plain_cell c.cell_of.result; write = write } in
    rw (p.1, p.2)
    (over_stops c.args.held.now (OfObject list objects (IsPartAccess n part write)) e c.args.graph.now c.loop-id.graph c.add_access.new.graph c.loop-id.id-index id c.loop-id-test.true c.id-item.is c.loop-id.invariant
    (or_stops_alike (Err e) c.loop-id.graph c.add_access.new.graph (λ x. x ≡ access n a) (OfObject list objects (IsPartAccess n part write) id) c.in_err-add_access.ensures
    (part_told list objects id c.object.result c.object.ensures n part write c.name_of-name.result c.cell_of.result c.name_of-name.ensures c.cell_of.ensures)))

pub loop-id-preserved : goal.loop-id-preserved
loop-id-preserved g c =
    let list = g.X.Contexts.list in
    let objects = c.args.facts.now.objects in
    let n = c.args.node in
    let part = c.args.access.now.part in
    let write = c.args.access.now.write in
    let id = c.id-item.result in
    let a : Access = record { cell = plain_cell c.cell_of.result; write = write } in
    over_item c.args.held.now (OfObject list objects (IsPartAccess n part write)) c.args.graph.now c.loop-id.graph c.add_access.new.graph c.loop-id.id-index id c.loop-id-test.true c.id-item.is c.loop-id.invariant
    (grows_alike c.loop-id.graph c.add_access.new.graph (λ x. x ≡ access n a) (OfObject list objects (IsPartAccess n part write) id) c.in_ok-add_access.ensures
    (part_told list objects id c.object.result c.object.ensures n part write c.name_of-name.result c.cell_of.result c.name_of-name.ensures c.cell_of.ensures))
