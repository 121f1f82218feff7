use Rattle.std.proofs.Common.{rules, ◌≡◌, ◌++◌, ◌∷◌, [], ℕ, List, Option, length, sym, subst, ap, ◌∙◌}
use Rattle.typing_heights.specs.declared.gauges.Gauge.{Gauge}
use Rattle.typing_heights.specs.Gauges.{IsGaugeIf, AreGauges}
use Rattle.typing_heights.specs.Subjects.{program_of, typable_of}
use Rattle.typing_heights.proofs.GaugeLemmas.{gauges_none, gauges_more, length_more}
use Rattle.typing_heights.proofs.gauges.gauges_of.Goals as goal

pub loop-place-init : goal.loop-place-init
loop-place-init c =
    let s = c.args.subject.now in
    record {
      long = ap (λ (l : List (Option Gauge)). length l) c.new-gauges.ensures.items;
      are = subst (λ (l : List (Option Gauge)). AreGauges (program_of s) (typable_of s) l) (sym c.new-gauges.ensures.items) (gauges_none (program_of s) (typable_of s));
    }

pub loop-place-preserved : goal.loop-place-preserved
loop-place-preserved c =
    let s = c.args.subject.now in
    let same : c.in-Ok.pc ≡ c.loop-place.place = search rules in
    let made : c.push.new.self.items ≡ c.loop-place.gauges.items ++ c.in_ok-gauge.gauge ∷ [] = search rules in
    let is = subst (λ (pc : ℕ). IsGaugeIf (program_of s) (typable_of s) pc c.in_ok-gauge.gauge) same c.in_ok-gauge.ensures in
    record {
      long = length_more (program_of s) (typable_of s) c.loop-place.place c.loop-place.gauges.items c.push.new.self.items c.in_ok-gauge.gauge c.loop-place.invariant.long made;
      are = gauges_more (program_of s) (typable_of s) c.loop-place.place c.loop-place.gauges.items c.push.new.self.items c.in_ok-gauge.gauge c.loop-place.invariant.long c.loop-place.invariant.are is made;
    }
