use Rattle.std.proofs.Common.{rules, ◌≡◌, true, false, Contains, ◌∙◌, sym, ap}
use Rattle.jo_prog.specs.Shapes.{Effect}
use Rattle.typing_effects.specs.Effects.{effect_in}
use Rattle.typing_effects.specs.Kinds.{kind_in}
use Rattle.jvm_typing.specs.KindFaults.{place_fails}
use Rattle.typing_heights.specs.Subjects.{program_of, typable_of}
use Rattle.jvm_typing.proofs.FailLemmas.{not_failing, failing_added}
use Rattle.jvm_typing.proofs.kind_faults.add_failing.Goals as goal

pub returns-then-not-place_fails : goal.returns-then-not-place_fails
returns-then-not-place_fails c =
    let s = c.args.subject.now in
    let p = program_of s in
    let t = typable_of s in
    let fact = c.args.fact.now in
    let test : place_fails p s.code.now.max_locals (effect_in c.args.asked.now.effect) fact.place (kind_in fact.kind) ≡ false = search rules in
    not_failing p t (Contains c.args.found.now.items) fact (ap (λ (e : Effect). place_fails p s.code.now.max_locals e fact.place (kind_in fact.kind)) (sym c.requires.asked.same_effect) ∙ test)

pub returns : goal.returns
returns c =
    let s = c.args.subject.now in
    let p = program_of s in
    let t = typable_of s in
    let fact = c.args.fact.now in
    let test : place_fails p s.code.now.max_locals (effect_in c.args.asked.now.effect) fact.place (kind_in fact.kind) ≡ true = search rules in
    failing_added p t (Contains c.args.found.now.items) (Contains c.add_fault.new.found.items) fact
    (ap (λ (e : Effect). place_fails p s.code.now.max_locals e fact.place (kind_in fact.kind)) (sym c.requires.asked.same_effect) ∙ test) c.in_ok-add_fault.ensures
