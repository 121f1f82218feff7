use Rattle.std.proofs.Common.{◌≡◌, subst}
use Rattle.dep_nodes.specs.OnceLists.{IsOnceEach}
use Rattle.fact_sets.proofs.NumberingLemmas.{pair_eq, pairs_decided, distinct_once}
use Rattle.fact_sets.proofs.numbering.Numbering.len.Goals as goal

pub returns-clause-once : goal.returns-clause-once
returns-clause-once g c =
    let same : c.self.inside.pairs.keys ≡ c.args.self.now = cc in
    subst IsOnceEach same
    (distinct_once (pair_eq g.C.PartialEq.eq) (pairs_decided g.C.PartialEq.eq c.self.invariant) c.self.inside.pairs.keys c.len.ensures.unique)
