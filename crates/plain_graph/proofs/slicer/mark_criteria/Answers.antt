use Rattle.std.proofs.Common.{◌≡◌, ◌<◌, ◌+◌, ◌++◌, ◌∷◌, [], length, set, take, sym, ap, subst, ◌∙◌, arith, length-set}
use Rattle.std.proofs.lemmas.List.{take_more, take_all}
use Rattle.plain_graph.specs.declared.slicer.Mark.TheVariants.{Criterion}
use Rattle.plain_graph.specs.Slices.{AreMarkedAs}
use Rattle.plain_graph.proofs.SlicerLemmas.{criteria-push, no_step-set}
use Rattle.plain_graph.proofs.slicer.mark_criteria.Goals as goal

pub index_mut-requires : goal.index_mut-requires
index_mut-requires c =
    let within : c.loop-criterion.criterion-index < length c.args.criteria.now = omega arith in
    let inside = c.requires.inside c.criterion-item.result (c.loop-criterion.criterion-index, within, sym c.criterion-item.is) in
    omega (arith, inside, c.loop-criterion.invariant.0, c.number.ensures, c.loop-criterion.marks.ok.0)

pub loop-criterion-preserved : goal.loop-criterion-preserved
loop-criterion-preserved c =
    let xs = c.args.criteria.now in
    let i = c.loop-criterion.criterion-index in
    let x = c.criterion-item.result in
    let marks = c.loop-criterion.marks.items in
    let within : i < length xs = omega arith in
    let inside = c.requires.inside x (i, within, sym c.criterion-item.is) in
    let more : take (i + 1) xs ≡ take i xs ++ x ∷ [] = take_more xs i x within ∙ ap (λ y. take i xs ++ y ∷ []) (sym c.criterion-item.is) in
    let below : x < length marks = omega (arith, inside, c.loop-criterion.invariant.0) in
    rw c.number.ensures (
      length-set marks x Criterion ∙ c.loop-criterion.invariant.0,
      subst (λ t. AreMarkedAs (set marks x Criterion) t) (sym more) (criteria-push marks (take i xs) x below c.loop-criterion.invariant.1),
      no_step-set marks x below c.loop-criterion.invariant.2,
    )

pub returns-clause-marked : goal.returns-clause-marked
returns-clause-marked c =
    let xs = c.args.criteria.now in
    let all : take c.loop-criterion.criterion-index xs ≡ xs = take_all c.loop-criterion.criterion-index xs (omega arith) in
    subst (λ t. AreMarkedAs c.loop-criterion.marks.items t) all c.loop-criterion.invariant.1
