use Rattle.std.proofs.Common.{◌≡◌, Bool, true, false, ◌&&◌, length, nat_eq, refl, sym, ◌∙◌, ap, subst, arith}
use Rattle.std.proofs.lemmas.Bool.{and_parts, both_ways, eqb-true, eq-eqb}
use Rattle.std.proofs.lemmas.Option.{slice_get_read}
use Rattle.jo_ids.specs.Rows.{has_number}
use Rattle.thread_regions.specs.declared.tables.ForkRegions.{ForkRegions}
use Rattle.thread_regions.specs.Regions.{AreRegions}
use Rattle.thread_regions.proofs.TableLemmas.{parallel_told, no_such_fork, below_and_here}
use Rattle.thread_regions.proofs.tables.Regions.parallel_at.Goals as goal

pub returns-then-in_child : goal.returns-then-in_child
returns-then-in_child c = λ nodes are.
    let items = c.as_slice-regions-items.result.now in
    let same : items ≡ c.args.self.now = c.as_slice-regions-items.ensures ∙ c.self.view_is in
    let i = c.loop-regions.regions-index in
    let r = c.regions-item.result in
    let of : r.fork ≡ c.args.fork = eqb-true r.fork c.args.fork (and_parts (nat_eq r.fork c.args.fork) true (sym c.eq.ensures ∙ c.if-eq.true)).0 in
    let child : has_number r.child c.args.a ≡ true = sym c.in_child.ensures ∙ c.if-in_child.true in
    parallel_told nodes items (subst (AreRegions nodes) (sym same) are) c.args.a c.args.b i r c.args.fork c.in_after.result
    (slice_get_read items (length items) i r refl c.loop-regions-test.true c.regions-item.is) of
    (c.in_after.ensures ∙ sym (ap (λ (t : Bool). t && has_number r.after c.args.b) child))

pub returns-else-in_child : goal.returns-else-in_child
returns-else-in_child c = λ nodes are.
    let items = c.as_slice-regions-items.result.now in
    let same : items ≡ c.args.self.now = c.as_slice-regions-items.ensures ∙ c.self.view_is in
    let i = c.loop-regions.regions-index in
    let r = c.regions-item.result in
    let of : r.fork ≡ c.args.fork = eqb-true r.fork c.args.fork (and_parts (nat_eq r.fork c.args.fork) true (sym c.eq.ensures ∙ c.if-eq.true)).0 in
    let child : has_number r.child c.args.a ≡ false = sym c.in_child.ensures ∙ c.if-in_child.false in
    parallel_told nodes items (subst (AreRegions nodes) (sym same) are) c.args.a c.args.b i r c.args.fork c.in_child.result
    (slice_get_read items (length items) i r refl c.loop-regions-test.true c.regions-item.is) of
    (c.if-in_child.false ∙ sym (ap (λ (t : Bool). t && has_number r.after c.args.b) child))

pub loop-regions-preserved : goal.loop-regions-preserved
loop-regions-preserved c =
    let items = c.as_slice-regions-items.result.now in
    let i = c.loop-regions.regions-index in
    let r = c.regions-item.result in
    below_and_here items i r (slice_get_read items (length items) i r refl c.loop-regions-test.true c.regions-item.is)
    (λ (x : ForkRegions). x.fork ≡ c.args.fork → ⊥) c.loop-regions.invariant
    (λ is. both_ways (nat_eq r.fork c.args.fork && true) (sym c.eq.ensures ∙ c.if-eq.false) (ap (λ (t : Bool). t && true) (eq-eqb r.fork c.args.fork is)))

pub returns : goal.returns
returns c = λ nodes are.
    let items = c.as_slice-regions-items.result.now in
    let same : items ≡ c.args.self.now = c.as_slice-regions-items.ensures ∙ c.self.view_is in
    no_such_fork nodes items (subst (AreRegions nodes) (sym same) are) c.args.a c.args.b c.loop-regions.regions-index c.args.fork (omega (arith, c.loop-regions-test.false)) c.loop-regions.invariant
