use Rattle.std.proofs.Common.{rules, ◌+◌, ◌<◌, ◌≤◌, subst, arith}
use Rattle.typing_heights.specs.Subjects.{program_of, typable_of}
use Rattle.jvm_typing.specs.KindPasses.{Source, item_in, items_of, Grows, Carries, CarriesTo, step_source}
use Rattle.jvm_typing.proofs.GrowLemmas.{grows_none, grows_alike}
use Rattle.jvm_typing.proofs.flows.carry_to.Goals as goal

pub returns-then-end_of-place : goal.returns-then-end_of-place
returns-then-end_of-place c =
    let s = c.args.subject.now in
    let past : (typable_of s).code.max_locals + c.args.step.height ≤ c.args.place = search rules in
    grows_none (CarriesTo (program_of s) (typable_of s) (item_in c.args.fact.now) c.args.step c.args.stop.now.height c.args.place) (items_of c.args.facts.now) (λ x b. omega (arith, past, b.below))

pub returns : goal.returns
returns c =
    let s = c.args.subject.now in
    let p = program_of s in
    let t = typable_of s in
    let y = item_in c.args.fact.now in
    let below : c.args.place < t.code.max_locals + c.args.step.height = search rules in
    let old = items_of c.args.facts.now in
    let new = items_of c.carry.new.facts in
    let grows = subst (λ (source : Source). Grows (Carries p y c.args.step.to c.args.place source) old new) c.in_ok-source.ensures c.in_ok-carry.ensures in
    grows_alike (Carries p y c.args.step.to c.args.place (step_source p t c.args.step c.args.stop.now.height c.args.place)) (CarriesTo p t y c.args.step c.args.stop.now.height c.args.place) old new grows
    (λ x. (λ b. record { below = below; carries = b }, λ b. b.carries))
