use Rattle.std.proofs.Common.{rules, ◌≡◌, ℕ, Contains, List, [], length, subst, sym, arith}
use Rattle.typing_heights.specs.declared.moves.Move.{Move}
use Rattle.typing_heights.specs.Adds.{Adds, FromBelow}
use Rattle.typing_heights.specs.Moves.{LeavesAt}
use Rattle.typing_heights.specs.Searches.{height_at}
use Rattle.typing_heights.specs.Subjects.{program_of, typable_of}
use Rattle.typing_heights.proofs.AddsLemmas.{below_none, below_step}
use Rattle.typing_heights.proofs.MoveLemmas.{moves_exact}
use Rattle.typing_heights.proofs.moves.moves_of.Goals as goal

pub loop-place-init : goal.loop-place-init
loop-place-init c =
    let s = c.args.subject.now in
    subst (λ (ms : List Move). Adds (Contains {X = Move} []) (Contains ms) (FromBelow 0 (λ pc. LeavesAt (program_of s) (typable_of s) pc (height_at c.args.heights.now pc)))) (sym c.new-moves.ensures.items)
    (below_none (Contains {X = Move} []) (λ pc. LeavesAt (program_of s) (typable_of s) pc (height_at c.args.heights.now pc)))

pub loop-place-preserved : goal.loop-place-preserved
loop-place-preserved c =
    let s = c.args.subject.now in
    let same : c.in-Ok.pc ≡ c.loop-place.place = search rules in
    below_step (Contains {X = Move} []) (Contains c.loop-place.moves.items) (Contains c.leave_at.new.moves.items) c.loop-place.place (λ pc. LeavesAt (program_of s) (typable_of s) pc (height_at c.args.heights.now pc))
    c.loop-place.invariant
    (subst (λ (pc : ℕ). Adds (Contains c.loop-place.moves.items) (Contains c.leave_at.new.moves.items) (LeavesAt (program_of s) (typable_of s) pc (height_at c.args.heights.now pc))) same c.in_ok-leave_at.ensures)

pub returns : goal.returns
returns c =
    let s = c.args.subject.now in
    let all : length c.args.heights.now ≡ c.loop-place.place = omega arith in
    moves_exact (program_of s) (typable_of s) c.args.heights.now c.loop-place.place c.loop-place.moves.items all c.loop-place.invariant
