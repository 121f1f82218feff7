use Rattle.std.proofs.Common.{◌<◌, length, sym, ◌∙◌, ap, arith}
use Rattle.std.proofs.lemmas.Bool.{not-true, not-false}
use Rattle.slicer.proofs.FindLemmas.{kept_stored, kept_same}
use Rattle.slicer.proofs.finds.Finds.add.Goals as goal

pub invariant_of-self : goal.invariant_of-self
invariant_of-self c =
    let s = c.self.inside in
    let below : c.args.found.place.node < length s.first = omega (arith, c.requires, ap (λ v. v.count) c.self.view_is) in
    kept_stored s.first s.second c.mark.new.first c.mark.new.second s.places.items c.as_mut_slice-places.result.now s.places.len s.end c.args.found c.self.invariant below c.mark.ensures.first c.mark.ensures.second
    (not-true _ (sym c.mark.ensures.new ∙ c.if-mark.true)) c.as_mut_slice-places.ensures.value (omega (arith, s.places.ok.0))

pub invariant_of-self-else-mark : goal.invariant_of-self-else-mark
invariant_of-self-else-mark c =
    let s = c.self.inside in
    let below : c.args.found.place.node < length s.first = omega (arith, c.requires, ap (λ v. v.count) c.self.view_is) in
    kept_same s.first s.second c.mark.new.first c.mark.new.second s.places.items s.end c.args.found c.self.invariant below c.mark.ensures.first c.mark.ensures.second
    (not-false _ (sym c.mark.ensures.new ∙ c.if-mark.false))
