use Rattle.std.proofs.Common.{rules, ◌≡◌, true, List, ℕ, length, Contains, subst}
use Rattle.jo_prog.specs.declared.program.Row.{Row}
use Rattle.jo_prog.specs.TypingPaths.{ends_at}
use Rattle.typing_heights.specs.declared.moves.Move.{Move}
use Rattle.typing_heights.specs.Adds.{Adds, From, FromBelow}
use Rattle.typing_heights.specs.Moves.{plain_move, HandlerMove}
use Rattle.typing_heights.specs.Subjects.{program_of, typable_of}
use Rattle.typing_heights.proofs.MoveLemmas.{stays, leaves}
use Rattle.typing_heights.proofs.moves.leave.Goals as goal

pub returns-in_default : goal.returns-in_default
returns-in_default c =
    let s = c.args.subject.now in
    let ends : ends_at (program_of s) (typable_of s) c.args.pc c.args.height ≡ true = search rules in
    stays (program_of s) (typable_of s) c.args.pc c.args.height (Contains c.args.moves.now.items) ends

pub returns : goal.returns
returns c =
    let s = c.args.subject.now in
    let o = c.in-Some.onward in
    let plain = subst (λ (l : List ℕ). Adds (Contains c.args.moves.now.items) (Contains c.add_plain.new.moves.items) (From l (λ (to : ℕ) (m : Move). m ≡ plain_move c.args.pc o.height to))) c.as_slice.ensures
    c.in_ok-add_plain.ensures in
    let rows = subst (λ (l : List Row). Adds (Contains c.add_plain.new.moves.items) (Contains c.add_handlers.new.moves.items) (FromBelow (length l) (HandlerMove l c.args.pc))) c.as_slice-2.ensures
    c.in_ok-add_handlers.ensures in
    leaves (program_of s) (typable_of s) c.args.pc c.args.height o (Contains c.args.moves.now.items) (Contains c.add_plain.new.moves.items) (Contains c.add_handlers.new.moves.items)
    c.in-Some.ensures plain rows
