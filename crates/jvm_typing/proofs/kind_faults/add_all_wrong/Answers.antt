use Rattle.std.proofs.Common.{rules, ◌≡◌, ℕ, length, Contains, subst, arith}
use Rattle.typing_heights.specs.Adds.{Adds, FromBelow}
use Rattle.jvm_typing.specs.KindFaults.{WrongAt}
use Rattle.typing_heights.specs.Subjects.{program_of, typable_of}
use Rattle.typing_heights.proofs.AddsLemmas.{below_none, below_step}
use Rattle.jvm_typing.proofs.kind_faults.add_all_wrong.Goals as goal

pub loop-place-init : goal.loop-place-init
loop-place-init c = below_none (Contains c.args.found.now.items) (WrongAt (program_of c.args.subject.now) (typable_of c.args.subject.now) c.args.heights.now)

pub loop-place-preserved : goal.loop-place-preserved
loop-place-preserved c =
    let s = c.args.subject.now in
    let same : c.in-Ok.pc ≡ c.loop-place.place = search rules in
    below_step (Contains c.args.found.now.items) (Contains c.loop-place.found.items) (Contains c.add_wrong.new.found.items) c.loop-place.place (WrongAt (program_of s) (typable_of s) c.args.heights.now) c.loop-place.invariant
    (subst (λ (pc : ℕ). Adds (Contains c.loop-place.found.items) (Contains c.add_wrong.new.found.items) (WrongAt (program_of s) (typable_of s) c.args.heights.now pc)) same c.in_ok-add_wrong.ensures)

pub returns : goal.returns
returns c =
    let s = c.args.subject.now in
    let all : c.loop-place.place ≡ length c.args.heights.now = omega arith in
    subst (λ (n : ℕ). Adds (Contains c.args.found.now.items) (Contains c.loop-place.found.items) (FromBelow n (WrongAt (program_of s) (typable_of s) c.args.heights.now))) all c.loop-place.invariant
