use Rattle.std.proofs.Common.{rules, ◌≡◌, ◌≤◌, ℕ, List, length, Option, sym, subst, arith}
use Rattle.typing_heights.specs.Subjects.{program_of, typable_of}
use Rattle.jvm_typing.specs.declared.stops.Stop.{Stop}
use Rattle.jvm_typing.specs.Stops.{IsStopAt}
use Rattle.jvm_typing.proofs.StopLemmas.{StopsBelow, stops_none, stops_more, stops_all}
use Rattle.jvm_typing.proofs.stops.stops_of.Goals as goal

pub loop-place-init : goal.loop-place-init
loop-place-init c =
    let s = c.args.subject.now in
    subst (λ (l : List (Option Stop)). StopsBelow (program_of s) (typable_of s) c.args.heights.now 0 l) (sym c.new-stops.ensures.items) (stops_none (program_of s) (typable_of s) c.args.heights.now)

pub loop-place-preserved : goal.loop-place-preserved
loop-place-preserved c =
    let s = c.args.subject.now in
    let same : c.in-Ok.pc ≡ c.loop-place.place = search rules in
    let is = subst (λ (pc : ℕ). IsStopAt (program_of s) (typable_of s) c.args.heights.now pc c.in_ok-stop.stop) same c.in_ok-stop.ensures in
    stops_more (program_of s) (typable_of s) c.args.heights.now c.loop-place.place c.loop-place.stops.items c.push.new.self.items c.in_ok-stop.stop c.loop-place.invariant is (search rules)

pub returns : goal.returns
returns c =
    let s = c.args.subject.now in
    let past : length c.args.heights.now ≤ c.loop-place.place = omega arith in
    stops_all (program_of s) (typable_of s) c.args.heights.now c.loop-place.place c.loop-place.stops.items c.loop-place.invariant past
