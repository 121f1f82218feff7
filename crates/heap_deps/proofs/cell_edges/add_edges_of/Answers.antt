use Rattle.std.proofs.Common.{Contains, sym, subst, arith}
use Rattle.std.proofs.lemmas.List.Elements.{Contains-get_or}
use Rattle.std.proofs.lemmas.Result.{err_from_is_err_and}
use Rattle.heap_deps.specs.CellEdges.{EdgesBetween}
use Rattle.heap_deps.proofs.GrowLemmas.{same_count, over_item, over_stops}
use Rattle.heap_deps.proofs.cell_edges.add_edges_of.Goals as goal

pub add_edges_between-requires : goal.add_edges_between-requires
add_edges_between-requires c from to leads =
    let among : Contains c.args.all.now c.ends-item.result = subst (Contains c.args.all.now) (sym c.ends-item.is) (Contains-get_or c.args.all.now c.loop-ends.ends-index c.ends-item.result c.loop-ends-test.true) in
    let inside = c.requires c.ends-item.result from to among leads in
    let count = same_count c.args.graph.now c.loop-ends.graph c.loop-ends.invariant.frames in
    (omega (arith, inside.0, count), omega (arith, inside.1, count))

pub returns-in_err-add_edges_between : goal.returns-in_err-add_edges_between
returns-in_err-add_edges_between c =
    let p = err_from_is_err_and c.from_residual.result c.from_residual.ensures.1 in
    rw (p.1, p.2)
    (over_stops c.args.all.now EdgesBetween c.in_err-add_edges_between.field-0.0 c.args.graph.now c.loop-ends.graph c.add_edges_between.new.graph c.loop-ends.ends-index c.ends-item.result c.loop-ends-test.true c.ends-item.is c.loop-ends.invariant c.in_err-add_edges_between.ensures)

pub loop-ends-preserved : goal.loop-ends-preserved
loop-ends-preserved c =
    over_item c.args.all.now EdgesBetween c.args.graph.now c.loop-ends.graph c.add_edges_between.new.graph c.loop-ends.ends-index c.ends-item.result c.loop-ends-test.true c.ends-item.is c.loop-ends.invariant c.in_ok-add_edges_between.ensures
