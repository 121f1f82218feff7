use Rattle.std.proofs.Common.{rules, ◌≡◌, ◌↔◌, ◌<◌, List, length, Some, None, Contains, subst}
use Rattle.typing_heights.specs.declared.moves.Move.{Move}
use Rattle.typing_heights.specs.Adds.{Adds, From}
use Rattle.typing_heights.specs.Moves.{LeavesAt}
use Rattle.typing_heights.specs.Searches.{height_at}
use Rattle.typing_heights.specs.Subjects.{program_of, typable_of}
use Rattle.jvm_typing.specs.Stops.{LeadsOn}
use Rattle.jvm_typing.proofs.StopLemmas.{stop_none, stop_stays, stop_is}
use Rattle.jvm_typing.proofs.stops.stop_at.Goals as goal

pub returns-in_default : goal.returns-in_default
returns-in_default c =
    let s = c.args.subject.now in
    let none : height_at c.args.heights.now c.args.pc ≡ None = search rules in
    stop_none (program_of s) (typable_of s) c.args.heights.now c.args.pc none

pub returns-then-is_empty : goal.returns-then-is_empty
returns-then-is_empty c =
    let s = c.args.subject.now in
    let all = c.leave_at.new.moves.items in
    let adds = subst (λ (l : List Move). Adds (Contains l) (Contains all) (LeavesAt (program_of s) (typable_of s) c.args.pc (height_at c.args.heights.now c.args.pc))) c.new-all.ensures.items c.in_ok-leave_at.ensures in
    let empty : length all ≡ 0 = search rules in
    stop_stays (program_of s) (typable_of s) c.args.heights.now c.args.pc all adds empty

pub returns : goal.returns
returns c =
    let s = c.args.subject.now in
    let all = c.leave_at.new.moves.items in
    let adds = subst (λ (l : List Move). Adds (Contains l) (Contains all) (LeavesAt (program_of s) (typable_of s) c.args.pc (height_at c.args.heights.now c.args.pc))) c.new-all.ensures.items c.in_ok-leave_at.ensures in
    let some : 0 < length all = search rules in
    let at : height_at c.args.heights.now c.args.pc ≡ Some c.in-Some.height = search rules in
    let kept = subst (λ (l : List Move). (m : Move) → Contains c.in_ok-moves.moves.items m ↔ From l (LeadsOn c.args.heights.now) m) c.as_slice.ensures.value c.in_ok-moves.ensures in
    stop_is (program_of s) (typable_of s) c.args.heights.now c.args.pc (record { height = c.in-Some.height; effect = c.in_ok-effect.effect; moves = c.in_ok-moves.moves }) all at c.in_ok-effect.ensures adds some kept
