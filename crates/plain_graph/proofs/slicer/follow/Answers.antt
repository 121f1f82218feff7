use Rattle.std.proofs.Common.{◌≡◌, ◌++◌, ◌∷◌, [], sym, ap, subst, arith}
use Rattle.std.proofs.lemmas.List.{length_push}
use Rattle.plain_graph.specs.declared.slicer.Mark.TheVariants.{Next}
use Rattle.plain_graph.specs.Slices.{mark_at, distance_of, LeadsOn, IsStepFrom}
use Rattle.plain_graph.proofs.SlicerLemmas.{walk-append, walk_end-append}
use Rattle.plain_graph.proofs.slicer.follow.Goals as goal

pub loop-step-preserved : goal.loop-step-preserved
loop-step-preserved c =
    let graph = c.args.graph.now in
    let marks = c.args.marks.now in
    let from = c.args.from in
    let at = c.loop-step.at in
    let old = c.loop-step.steps in
    let step = c.in-Next.step in
    let is : Next step c.in-Next.distance ≡ mark_at marks at = c.in-Next.ensures in
    let leads : LeadsOn graph marks at (Next step c.in-Next.distance) = subst (λ m. LeadsOn graph marks at m) (sym is) (c.requires.marking.lead_on at) in
    let new : c.push_step.new.steps ≡ old ++ step ∷ [] = c.in_ok-push_step-in-Next.ensures in
    let far : c.in-Next.distance ≡ distance_of (mark_at marks at) = ap distance_of is in
    rw new (
      walk-append graph from old step c.loop-step.invariant.0 (subst (λ k. IsStepFrom graph k step) (sym c.loop-step.invariant.1) leads.0),
      walk_end-append from old step,
      leads.1,
      omega (arith, leads.2, length_push old step, c.loop-step.invariant.3),
    )
