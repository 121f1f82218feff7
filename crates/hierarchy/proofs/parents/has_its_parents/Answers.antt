use Rattle.std.proofs.Common.{◌∙◌, length, refl, sym, arith}
use Rattle.std.proofs.lemmas.Bool.{false≢true}
use Rattle.hierarchy.specs.Hierarchies.{IsInside}
use Rattle.hierarchy.proofs.ParentLemmas.{inside_at, all_step, all_done}
use Rattle.hierarchy.proofs.parents.has_its_parents.Goals as goal

pub returns-then-not-is_inside : goal.returns-then-not-is_inside
returns-then-not-is_inside c =
    let classes = c.as_slice-classes.result.now in (
      λ t. absurd (false≢true t),
      λ there. absurd (false≢true (sym c.if-not-is_inside.true ∙ c.is_inside.ensures.1
          (inside_at c.args.program.now classes c.loop-class.class-index c.class-item.result c.as_slice-classes.ensures c.loop-class-test.true c.class-item.is there))),
    )

pub loop-class-preserved : goal.loop-class-preserved
loop-class-preserved c =
    let classes = c.as_slice-classes.result.now in
    all_step (IsInside (length classes)) classes c.loop-class.class-index c.class-item.result c.loop-class-test.true c.class-item.is
    (c.is_inside.ensures.0 c.if-not-is_inside.false) c.loop-class.invariant

pub returns : goal.returns
returns c =
    (λ t. all_done c.args.program.now c.as_slice-classes.result.now c.loop-class.class-index c.as_slice-classes.ensures (omega arith) c.loop-class.invariant, λ there. refl)
