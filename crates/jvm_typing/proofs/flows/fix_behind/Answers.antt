use Rattle.std.proofs.Common.{rules, ◌≡◌, ◌+◌, ℕ, subst, arith}
use Rattle.typing_heights.specs.Adds.{FromBelow}
use Rattle.typing_heights.specs.Subjects.{program_of, typable_of}
use Rattle.jvm_typing.specs.KindPasses.{Item, Source, items_of, Grows, Fixes, step_source}
use Rattle.jvm_typing.proofs.GrowLemmas.{grows_none, grows_below}
use Rattle.jvm_typing.proofs.flows.fix_behind.Goals as goal

pub loop-place-init : goal.loop-place-init
loop-place-init c =
    let makes : ℕ → Item → Type 0 = λ place. Fixes c.args.step.to place (step_source (program_of c.args.subject.now) (typable_of c.args.subject.now) c.args.step c.args.stop.now.height place) in
    grows_none (FromBelow 0 makes) (items_of c.args.facts.now) (λ x b. omega (arith, b.1))

pub loop-place-preserved : goal.loop-place-preserved
loop-place-preserved c =
    let makes : ℕ → Item → Type 0 = λ place. Fixes c.args.step.to place (step_source (program_of c.args.subject.now) (typable_of c.args.subject.now) c.args.step c.args.stop.now.height place) in
    grows_below (items_of c.args.facts.now) (items_of c.loop-place.facts) (items_of c.fix.new.facts) c.loop-place.place makes c.loop-place.invariant
    (subst (λ (s : Source). Grows (Fixes c.args.step.to c.loop-place.place s) (items_of c.loop-place.facts) (items_of c.fix.new.facts)) c.in_ok-source.ensures c.in_ok-fix.ensures)

pub returns : goal.returns
returns c =
    let s = c.args.subject.now in
    let makes : ℕ → Item → Type 0 = λ place. Fixes c.args.step.to place (step_source (program_of s) (typable_of s) c.args.step c.args.stop.now.height place) in
    let end : c.end_of-place-end.result ≡ (typable_of s).code.max_locals + c.args.step.height = search rules in
    let all : c.loop-place.place ≡ (typable_of s).code.max_locals + c.args.step.height = omega arith in
    subst (λ (n : ℕ). Grows (FromBelow n makes) (items_of c.args.facts.now) (items_of c.loop-place.facts)) all c.loop-place.invariant
