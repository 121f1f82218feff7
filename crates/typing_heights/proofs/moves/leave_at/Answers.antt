use Rattle.std.proofs.Common.{rules, ◌≡◌, ℕ, Contains, Option, Some, subst}
use Rattle.typing_heights.specs.Adds.{Adds}
use Rattle.typing_heights.specs.Moves.{LeavesAt}
use Rattle.typing_heights.specs.Searches.{height_at}
use Rattle.typing_heights.specs.Subjects.{program_of, typable_of}
use Rattle.typing_heights.proofs.moves.leave_at.Goals as goal

pub returns-in_ok-leave-in-Some : goal.returns-in_ok-leave-in-Some
returns-in_ok-leave-in-Some c =
    let s = c.args.subject.now in
    let has : Some c.in-Some.height ≡ height_at c.args.heights.now c.args.pc = search rules in
    subst (λ (o : Option ℕ). Adds (Contains c.args.moves.now.items) (Contains c.leave.new.moves.items) (LeavesAt (program_of s) (typable_of s) c.args.pc o)) has c.in_ok-leave-in-Some.ensures
