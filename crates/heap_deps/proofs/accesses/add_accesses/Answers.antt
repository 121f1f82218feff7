use Rattle.std.proofs.Common.{subst}
use Rattle.heap_deps.specs.Items.{Grows}
use Rattle.heap_deps.specs.FlowSets.{NumberMakes}
use Rattle.heap_deps.proofs.GrowLemmas.{below_step}
use Rattle.heap_deps.proofs.accesses.add_accesses.Goals as goal

pub loop-n-preserved : goal.loop-n-preserved
loop-n-preserved g c =
    let makes = NumberMakes c.args.program.now c.args.labels.now g.X.Contexts.list c.args.facts.now c.args.typings.now c.args.flows.now in
    below_step c.args.graph.now c.loop-n.graph c.add_accesses_of.new.graph c.loop-n.n makes c.loop-n.invariant
    (subst (λ k. Grows c.loop-n.graph c.add_accesses_of.new.graph (makes k)) c.of.ensures c.in_ok-add_accesses_of.ensures)
