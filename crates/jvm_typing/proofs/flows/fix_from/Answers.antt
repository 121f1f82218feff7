use Rattle.std.proofs.Common.{rules, ◌≡◌, ◌<◌, ◌≤◌, [], ℕ, List, length, get_or, Contains, sym, subst}
use Rattle.std.proofs.lemmas.List.Elements.{Contains-get_or}
use Rattle.typing_heights.specs.declared.moves.Move.{Move}
use Rattle.typing_heights.specs.Adds.{From}
use Rattle.typing_heights.specs.Subjects.{program_of, typable_of}
use Rattle.jvm_typing.specs.KindPasses.{Item, items_of, Grows, FixesBehind}
use Rattle.jvm_typing.specs.Stops.{IsStop}
use Rattle.jvm_typing.proofs.GrowLemmas.{grows_none, grows_over, grows_all}
use Rattle.jvm_typing.proofs.BehindLemmas.{none, fixes_from, no_moves}
use Rattle.jvm_typing.proofs.flows.fix_from.Goals as goal

pub loop-step-init : goal.loop-step-init
loop-step-init c =
    let makes : Move → Item → Type 0 = λ m. FixesBehind (program_of c.args.subject.now) (typable_of c.args.subject.now) m c.args.stop.now.height in
    grows_none (From [] makes) (items_of c.args.facts.now) (λ x b. no_moves makes x b)

pub fix_behind-requires : goal.fix_behind-requires
fix_behind-requires c =
    let s = c.args.subject.now in
    let moves = c.as_slice-step-items.result.now in
    let same : moves ≡ c.args.stop.now.moves.items = c.as_slice-step-items.ensures.value in
    let among = Contains-get_or moves c.loop-step.step-index none c.loop-step-test.true in
    let goes = (c.requires.moves (get_or moves c.loop-step.step-index none)).0 (subst (λ (ms : List Move). Contains ms (get_or moves c.loop-step.step-index none)) same among) in
    subst (λ (pc : ℕ). IsStop (program_of s) (typable_of s) c.args.heights.now pc c.args.stop.now) (sym goes.from_it) c.requires

pub loop-step-preserved : goal.loop-step-preserved
loop-step-preserved c =
    let s = c.args.subject.now in
    let moves = c.args.stop.now.moves.items in
    let makes : Move → Item → Type 0 = λ m. FixesBehind (program_of s) (typable_of s) m c.args.stop.now.height in
    let below : c.loop-step.step-index < length moves = search rules in
    grows_over moves makes (items_of c.args.facts.now) (items_of c.loop-step.facts) (items_of c.fix_behind.new.facts) c.loop-step.step-index none below c.loop-step.invariant
    (subst (λ (ms : List Move). Grows (makes (get_or ms c.loop-step.step-index none)) (items_of c.loop-step.facts) (items_of c.fix_behind.new.facts)) c.as_slice-step-items.ensures.value c.in_ok-fix_behind.ensures)

pub returns : goal.returns
returns c =
    let s = c.args.subject.now in
    let moves = c.args.stop.now.moves.items in
    let makes : Move → Item → Type 0 = λ m. FixesBehind (program_of s) (typable_of s) m c.args.stop.now.height in
    let past : length moves ≤ c.loop-step.step-index = search rules in
    fixes_from (program_of s) (typable_of s) c.args.heights.now c.args.pc c.args.stop.now c.requires (items_of c.args.facts.now) (items_of c.loop-step.facts)
    (grows_all moves makes (items_of c.args.facts.now) (items_of c.loop-step.facts) c.loop-step.step-index past c.loop-step.invariant)
