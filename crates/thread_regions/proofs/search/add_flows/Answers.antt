use Rattle.std.proofs.Common.{ℕ, sym, subst}
use Rattle.thread_regions.specs.Searches.{AddsSpots, FlowPart}
use Rattle.thread_regions.proofs.SpotLemmas.{each_step}
use Rattle.thread_regions.proofs.search.add_flows.Goals as goal

pub loop-to-preserved : goal.loop-to-preserved
loop-to-preserved c =
    let item = c.to-item.result in
    each_step (FlowPart c.args.n) c.args.search.now c.loop-to.search c.add_flow.new.search c.args.flows.now c.loop-to.to-index item c.loop-to-test.true (sym c.to-item.is) c.loop-to.invariant
    (subst (λ (m : ℕ). AddsSpots c.loop-to.search c.add_flow.new.search (FlowPart c.args.n m)) c.number.ensures c.in_ok-add_flow.ensures)
