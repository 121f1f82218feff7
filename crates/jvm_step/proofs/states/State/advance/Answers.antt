use Rattle.std.proofs.Common.{rules, ◌≡◌, ◌≢◌, ◌∙◌, sym, ap, ◌%◌, length, Option, Some, None, slice_get}
use Rattle.jo_prog.specs.declared.runs.Event.{Event}
use Rattle.jo_prog.specs.Machine.{Stepped}
use Rattle.machine.specs.Runs.{enabled}
use Rattle.machine.specs.Steps.{step}
use Rattle.jvm_step.specs.States.{state_of}
use Rattle.jvm_step.proofs.RunLemmas.{moved_is, advanced_none, advanced_picked, always_picks}
use Rattle.jvm_step.proofs.states.State.advance.Goals as goal

pub returns-then-count-eq0 : goal.returns-then-count-eq0
returns-then-count-eq0 c =
    let s = state_of c.args.self.now in
    let setting = c.args.setting.now in
    let none : length (enabled setting.program.now setting.labels.now s) ≡ 0 = search rules in
    advanced_none setting.program.now setting.labels.now setting.inputs.now s c.args.number (enabled setting.program.now setting.labels.now s) none

pub returns-in_ok-moved-in-Some : goal.returns-in_ok-moved-in-Some
returns-in_ok-moved-in-Some c =
    let s = state_of c.args.self.now in
    let setting = c.args.setting.now in
    let program = setting.program.now in
    let labels = setting.labels.now in
    let inputs = setting.inputs.now in
    let new = state_of c.step.new.self in
    let ts = enabled program labels s in
    let t = c.in-Some.thread in
    let picked : Some t ≡ slice_get ts (c.args.number % length ts) = search rules in
    advanced_picked program labels inputs s c.args.number ts t picked
    ∙ moved_is s new (step program labels inputs s t) c.in_ok-moved-in-Some.moved c.in_ok-moved-in-Some.ensures.steps
    ∙ ap (λ (e : Option Event). let to : Stepped = record { state = new; event = e } in to) (sym c.event_of.ensures)

pub returns-in-None : goal.returns-in-None
returns-in-None c =
    let s = state_of c.args.self.now in
    let setting = c.args.setting.now in
    let ts = enabled setting.program.now setting.labels.now s in
    let some : length ts ≢ 0 = search rules in
    let none : None ≡ slice_get ts (c.args.number % length ts) = search rules in
    always_picks setting.program.now setting.labels.now setting.inputs.now s c.args.number ts some none
