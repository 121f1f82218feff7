use Rattle.std.proofs.Common.{◌<◌, List, ℕ, refl, sym, subst, arith}
use Rattle.std.specs.List.{Contains}
use Rattle.std.proofs.lemmas.Bool.{false≢true}
use Rattle.std.proofs.lemmas.List.{take_all}
use Rattle.hierarchy.proofs.ParentLemmas.{one_below}
use Rattle.hierarchy.proofs.parents.all_below.Goals as goal

pub returns-then-number-count : goal.returns-then-number-count
returns-then-number-count c = (
  λ t. absurd (false≢true t),
  λ all. absurd (omega (arith, all c.class-item.result (c.loop-class.class-index, c.loop-class-test.true, sym c.class-item.is), c.number.ensures, c.if-number-count.true)),
)

pub loop-class-preserved : goal.loop-class-preserved
loop-class-preserved c =
    let below : c.class-item.result < c.args.count = omega (arith, c.number.ensures, c.if-number-count.false) in
    one_below c.args.classes.now c.loop-class.class-index c.args.count c.class-item.result c.loop-class-test.true c.class-item.is below c.loop-class.invariant

pub returns : goal.returns
returns c =
    (λ t k among. c.loop-class.invariant k (subst (λ (ys : List ℕ). Contains ys k) (sym (take_all c.loop-class.class-index c.args.classes.now (omega arith))) among), λ all. refl)
