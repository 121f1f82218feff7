use Rattle.std.proofs.Common.{rules, ◌≡◌, ℕ, length, subst, arith}
use Rattle.typing_heights.specs.Adds.{FromBelow}
use Rattle.typing_heights.specs.Subjects.{program_of, typable_of}
use Rattle.jvm_typing.specs.KindPasses.{items_of, Grows, FixesFrom}
use Rattle.jvm_typing.proofs.GrowLemmas.{grows_none, grows_below}
use Rattle.jvm_typing.proofs.flows.fix_all.Goals as goal

pub loop-place-init : goal.loop-place-init
loop-place-init c =
    grows_none (FromBelow 0 (FixesFrom (program_of c.args.subject.now) (typable_of c.args.subject.now) c.args.heights.now)) (items_of c.args.facts.now) (λ x b. omega (arith, b.1))

pub loop-place-preserved : goal.loop-place-preserved
loop-place-preserved c =
    let s = c.args.subject.now in
    let same : c.in-Ok.pc ≡ c.loop-place.place = search rules in
    grows_below (items_of c.args.facts.now) (items_of c.loop-place.facts) (items_of c.fix_at.new.facts) c.loop-place.place (FixesFrom (program_of s) (typable_of s) c.args.heights.now) c.loop-place.invariant
    (subst (λ (pc : ℕ). Grows (FixesFrom (program_of s) (typable_of s) c.args.heights.now pc) (items_of c.loop-place.facts) (items_of c.fix_at.new.facts)) same c.in_ok-fix_at.ensures)

pub returns : goal.returns
returns c =
    let s = c.args.subject.now in
    let all : c.loop-place.place ≡ length c.args.heights.now = omega arith in
    subst (λ (n : ℕ). Grows (FromBelow n (FixesFrom (program_of s) (typable_of s) c.args.heights.now)) (items_of c.args.facts.now) (items_of c.loop-place.facts)) all c.loop-place.invariant
