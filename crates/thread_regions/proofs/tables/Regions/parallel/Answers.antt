use Rattle.std.proofs.Common.{◌≡◌, true, length, refl, sym, ◌∙◌, subst, arith}
use Rattle.std.proofs.lemmas.Bool.{both_ways}
use Rattle.std.proofs.lemmas.Option.{slice_get_read}
use Rattle.jo_ids.specs.Rows.{has_number}
use Rattle.thread_regions.specs.declared.tables.ForkRegions.{ForkRegions}
use Rattle.thread_regions.specs.Regions.{AreRegions}
use Rattle.thread_regions.proofs.TableLemmas.{least_fork, no_fork, below_and_here}
use Rattle.thread_regions.proofs.tables.Regions.parallel.Goals as goal
use Rattle.thread_regions.proofs.tables.Regions.parallel.Goals.{else-in_child-via-then-in_child+else-in_after, else-in_child-via-else-in_child}

pub returns-then-in_after : goal.returns-then-in_after
returns-then-in_after c = λ nodes are.
    let items = c.as_slice-regions-items.result.now in
    let same : items ≡ c.args.self.now = c.as_slice-regions-items.ensures ∙ c.self.view_is in
    let i = c.loop-regions.regions-index in
    let r = c.regions-item.result in
    least_fork nodes items (subst (AreRegions nodes) (sym same) are) c.args.a c.args.b i r (slice_get_read items (length items) i r refl c.loop-regions-test.true c.regions-item.is)
    (sym c.in_child.ensures ∙ c.if-in_child.true) (sym c.in_after.ensures ∙ c.if-in_after.true) c.loop-regions.invariant

pub loop-regions-preserved : goal.loop-regions-preserved
loop-regions-preserved c =
    let items = c.as_slice-regions-items.result.now in
    let i = c.loop-regions.regions-index in
    let r = c.regions-item.result in
    below_and_here items i r (slice_get_read items (length items) i r refl c.loop-regions-test.true c.regions-item.is)
    (λ (x : ForkRegions). has_number x.child c.args.a ≡ true → has_number x.after c.args.b ≡ true → ⊥) c.loop-regions.invariant
    (λ child after. elim c.else-in_child.branch [
      | else-in_child-via-then-in_child+else-in_after w ↦ both_ways (has_number r.after c.args.b) (sym w.in_after.ensures ∙ w.if-in_after.false) after
      | else-in_child-via-else-in_child w ↦ both_ways (has_number r.child c.args.a) (sym c.in_child.ensures ∙ w.if-in_child.false) child
    ])

pub returns : goal.returns
returns c = λ nodes are.
    let items = c.as_slice-regions-items.result.now in
    let same : items ≡ c.args.self.now = c.as_slice-regions-items.ensures ∙ c.self.view_is in
    no_fork nodes items (subst (AreRegions nodes) (sym same) are) c.args.a c.args.b c.loop-regions.regions-index (omega (arith, c.loop-regions-test.false)) c.loop-regions.invariant
