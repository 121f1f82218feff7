use Rattle.std.proofs.Common.{◌≡◌, ◌+◌, ◌++◌, ◌∷◌, [], get_or, take, refl, sym, ◌∙◌, ap, subst, arith}
use Rattle.std.proofs.lemmas.List.{take_more, take_all, get_or_read}
use Rattle.slicer.specs.Slices.{BeginsWith}
use Rattle.slicer.proofs.SearchLemmas.{begins_with_none, begins_with_more}
use Rattle.slicer.proofs.search.begin.Goals as goal

pub loop-criterion-init : goal.loop-criterion-init
loop-criterion-init c = (refl, subst (λ found. BeginsWith [] found) (sym c.requires.none) begins_with_none)

pub add-requires : goal.add-requires
add-requires c =
    let i = c.loop-criterion.criterion-index in
    omega (arith, c.requires.below i 0 c.loop-criterion-test.true, c.loop-criterion.invariant.0)

pub loop-criterion-preserved : goal.loop-criterion-preserved
loop-criterion-preserved c =
    let i = c.loop-criterion.criterion-index in
    let criteria = c.args.criteria.now in
    let is : c.criterion-item.result ≡ get_or criteria i 0 = get_or_read criteria i c.criterion-item.result c.loop-criterion-test.true c.criterion-item.is 0 in
    let more : take (i + 1) criteria ≡ take i criteria ++ c.criterion-item.result ∷ [] = take_more criteria i 0 c.loop-criterion-test.true ∙ ap (λ n. take i criteria ++ n ∷ []) (sym is) in (
      c.add.ensures.count ∙ c.loop-criterion.invariant.0,
      subst (λ front. BeginsWith front c.add.new.self.found) (sym more) (begins_with_more (take i criteria) c.criterion-item.result c.loop-criterion.finds.found c.add.new.self.found c.loop-criterion.invariant.1 c.add.ensures.added),
    )

pub returns-clause-begins : goal.returns-clause-begins
returns-clause-begins c =
    subst (λ front. BeginsWith front c.loop-criterion.finds.found) (take_all c.loop-criterion.criterion-index c.args.criteria.now (omega arith)) c.loop-criterion.invariant.1
