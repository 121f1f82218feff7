use Rattle.std.proofs.Common.{sym, arith}
use Rattle.std.proofs.lemmas.Bool.{false≢true}
use Rattle.hierarchy.proofs.CycleLemmas.{no_way}
use Rattle.hierarchy.proofs.cycles.leads_to.Goals as goal

pub reach-requires-clause-start : goal.reach-requires-clause-start
reach-requires-clause-start c =
    omega (arith, c.requires.parents c.parent-item.result (c.loop-parent.parent-index, c.loop-parent-test.true, sym c.parent-item.is), c.number.ensures)

pub returns-clause-leads : goal.returns-clause-leads
returns-clause-leads c = (λ t. absurd (false≢true t), λ lead. absurd (no_way c.args.graph.now c.args.parents.now c.loop-parent.parent-index c.args.number (omega arith) c.loop-parent.invariant.none lead))
