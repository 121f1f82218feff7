use Rattle.std.proofs.Common.{◌≡◌, Some, IfSome, slice_get, subst}
use Rattle.fact_sets.proofs.NumberingLemmas.{pair_eq, pairs_decided, found_at}
use Rattle.fact_sets.proofs.numbering.Numbering.find.Goals as goal

pub returns-clause-found : goal.returns-clause-found
returns-clause-found g c =
    let same : c.self.inside.pairs.keys ≡ c.args.self.now = cc in
    subst (λ xs. IfSome c.get_index_of.result (λ place. slice_get xs place ≡ Some (c.args.number, c.args.context))) same
    (found_at (pair_eq g.C.PartialEq.eq) (pairs_decided g.C.PartialEq.eq c.self.invariant) c.self.inside.pairs.keys (c.args.number, c.args.context) c.get_index_of.result c.get_index_of.ensures.index)
