use Rattle.std.proofs.Common.{◌≡◌, refl, sym, ap, subst}
use Rattle.slicer.specs.Finds.{HasNode}
use Rattle.slicer.specs.Slices.{criterion, AreStepsToCriterion}
use Rattle.slicer.proofs.marking.Slicer.chain.Goals as goal

pub returns-in_ok-steps-in-Some : goal.returns-in_ok-steps-in-Some
returns-in_ok-steps-in-Some c =
    let nodes = c.args.graph.now in
    let found = c.self.inside.finds.found in
    let e : found ≡ c.args.self.now.found = ap (λ v. v.found) c.self.view_is in
    let steps = c.in_ok-steps-in-Some.steps in
    record {
      start = refl;
      steps = subst (λ xs. AreStepsToCriterion nodes xs c.args.from steps) e (subst (λ n. AreStepsToCriterion nodes found n steps) (c.in-Some.ensures.node (criterion 0)) (c.in_ok-steps-in-Some.ensures (criterion 0)));
    }

pub returns-in-None : goal.returns-in-None
returns-in-None c =
    let e : c.self.inside.finds.found ≡ c.args.self.now.found = ap (λ v. v.found) c.self.view_is in
    absurd (c.in-None.ensures.none (subst (λ xs. HasNode xs c.args.from) (sym e) c.requires.marked))
