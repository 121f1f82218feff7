use Rattle.std.proofs.Common.{◌≡◌, ◌<◌, ◌≤◌, length, get_or, Contains, Err, sym, subst, arith}
use Rattle.std.proofs.lemmas.List.Elements.{Contains-get_or}
use Rattle.std.proofs.lemmas.Result.{err_from_is_err_and}
use Rattle.heap_deps.specs.Items.{Grows, GrowsOrStops}
use Rattle.heap_deps.specs.CellEdges.{EdgesFrom}
use Rattle.heap_deps.proofs.GrowLemmas.{same_count, over_item, over_stops, over_all}
use Rattle.heap_deps.proofs.cell_edges.add_edges_between.Goals as goal

pub add_edges_from-requires : goal.add_edges_from-requires
add_edges_from-requires c to reads =
    let ws = c.args.ends.now.writers in
    let item = c.from-item.result in
    let i = c.loop-from.from-index in
    let below : i < length ws = subst (λ ys. i < length ys) c.as_slice-from-items.ensures c.loop-from-test.true in
    let is : item ≡ get_or ws i item = subst (λ ys. item ≡ get_or ys i item) c.as_slice-from-items.ensures c.from-item.is in
    let among : Contains ws item = subst (Contains ws) (sym is) (Contains-get_or ws i item below) in
    let inside = c.requires item to (among, subst (λ ys. Contains ys to) c.as_slice-readers.ensures reads) in
    let count = same_count c.args.graph.now c.loop-from.graph c.loop-from.invariant.frames in
    (omega (arith, inside.0, count), omega (arith, inside.1, count))

pub returns-in_err-add_edges_from : goal.returns-in_err-add_edges_from
returns-in_err-add_edges_from c =
    let p = err_from_is_err_and c.from_residual.result c.from_residual.ensures.1 in
    let ws = c.args.ends.now.writers in
    let item = c.from-item.result in
    let i = c.loop-from.from-index in
    let e = c.in_err-add_edges_from.field-0.0 in
    let below : i < length ws = subst (λ ys. i < length ys) c.as_slice-from-items.ensures c.loop-from-test.true in
    let is : item ≡ get_or ws i item = subst (λ ys. item ≡ get_or ys i item) c.as_slice-from-items.ensures c.from-item.is in
    rw (p.1, p.2)
    (over_stops ws (EdgesFrom c.args.ends.now.readers) e c.args.graph.now c.loop-from.graph c.add_edges_from.new.graph i item below is c.loop-from.invariant
    (subst (λ ys. GrowsOrStops (Err e) c.loop-from.graph c.add_edges_from.new.graph (EdgesFrom ys item)) c.as_slice-readers.ensures c.in_err-add_edges_from.ensures))

pub loop-from-preserved : goal.loop-from-preserved
loop-from-preserved c =
    let ws = c.args.ends.now.writers in
    let item = c.from-item.result in
    let i = c.loop-from.from-index in
    let below : i < length ws = subst (λ ys. i < length ys) c.as_slice-from-items.ensures c.loop-from-test.true in
    let is : item ≡ get_or ws i item = subst (λ ys. item ≡ get_or ys i item) c.as_slice-from-items.ensures c.from-item.is in
    over_item ws (EdgesFrom c.args.ends.now.readers) c.args.graph.now c.loop-from.graph c.add_edges_from.new.graph i item below is c.loop-from.invariant
    (subst (λ ys. Grows c.loop-from.graph c.add_edges_from.new.graph (EdgesFrom ys item)) c.as_slice-readers.ensures c.in_ok-add_edges_from.ensures)

pub returns : goal.returns
returns c =
    let ws = c.args.ends.now.writers in
    let past : length ws ≤ c.loop-from.from-index = subst (λ ys. length ys ≤ c.loop-from.from-index) c.as_slice-from-items.ensures c.loop-from-test.false in
    over_all ws (EdgesFrom c.args.ends.now.readers) c.args.graph.now c.loop-from.graph c.loop-from.from-index past c.loop-from.invariant
