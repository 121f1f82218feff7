use Rattle.std.proofs.Common.{length}
use Rattle.dep_nodes.proofs.OnceLemmas.{Walks}
use Rattle.dep_nodes.proofs.once_lists.find_linked.Given as goal

abbrev pub invariant-loop-link : goal.invariant-loop-link
invariant-loop-link g l = Walks g.T.Keyed.key (length l.last) l.items l.item l.link

abbrev pub decreases-loop-link : goal.decreases-loop-link
decreases-loop-link g l = l.link
