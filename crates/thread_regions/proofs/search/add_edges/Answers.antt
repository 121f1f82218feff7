use Rattle.std.proofs.Common.{ℕ, sym, subst}
use Rattle.thread_regions.specs.Searches.{AddsSpots, EdgePart}
use Rattle.thread_regions.proofs.SpotLemmas.{each_step}
use Rattle.thread_regions.proofs.search.add_edges.Goals as goal

pub loop-from-preserved : goal.loop-from-preserved
loop-from-preserved c =
    let item = c.loop-from-item.result in
    let Part = EdgePart c.args.ends.now c.args.calls.now c.args.n in
    each_step Part c.args.search.now c.loop-from.search c.add_edge.new.search c.args.edges.now c.loop-from.from-index item c.loop-from-test.true (sym c.loop-from-item.is) c.loop-from.invariant
    (subst (λ (m : ℕ). AddsSpots c.loop-from.search c.add_edge.new.search (Part (m, item.1))) c.number.ensures c.in_ok-add_edge.ensures)
