use Rattle.std.proofs.Common.{ap, arith}
use Rattle.slicer.proofs.SearchLemmas.{find_none}
use Rattle.slicer.proofs.finds.Finds.find.Goals as goal

pub returns-clause-none : goal.returns-clause-none
returns-clause-none c =
    let s = c.self.inside in
    find_none s.places.items c.args.self.now.found s.end c.args.node (ap (λ v. v.found) c.self.view_is) (λ k d below. c.loop-number.invariant k d (omega (arith, below)))
