use Rattle.std.proofs.Common.{◌≡◌, ◌∙◌, sym, ap, refl, subst, ℕ, drop, Option, Some}
use Rattle.jo_prog.specs.Machine.{Stepped, popped}
use Rattle.machine.specs.Invocation.{Invoked}
use Rattle.machine.specs.Steps.{invoked_step, call_step}
use Rattle.jvm_calls.specs.Invokes.{invoked_of}
use Rattle.jvm_step.specs.States.{state_of}
use Rattle.jvm_step.specs.Fetches.{values_of}
use Rattle.jvm_step.specs.Moves.{Steps}
use Rattle.jvm_step.proofs.FetchLemmas.{called_is}
use Rattle.jvm_step.proofs.states.State.call.Goals as goal

pub returns-in-Some : goal.returns-in-Some
returns-in-Some c = λ f below top.
    let s = state_of c.args.self.now in
    let setting = c.args.setting.now in
    let call = c.args.call.now in
    let comes : Option (Invoked ℕ) → Option Stepped = λ i. invoked_step setting.program.now setting.inputs.now s c.args.place f below c.args.next (drop c.args.count f.stack) i in
    let is : call_step setting.program.now setting.labels.now setting.inputs.now s c.args.place f below c.args.next call.op call.owner.now call.method (popped c.args.count f.stack) ≡ comes (Some (invoked_of (values_of c.args.count f) c.in-Some.invoked)) =
    called_is setting.program.now setting.labels.now setting.inputs.now s c.args.place f below c.args.next call c.args.count ∙ ap comes (sym (c.in-Some.ensures f below top)) in
    subst (λ (w : Option Stepped). Steps s (state_of c.apply_call.new.self) w c.apply_call.result) (sym is) (c.apply_call.ensures f below top)

pub returns-in-None : goal.returns-in-None
returns-in-None c = λ f below top.
    let s = state_of c.args.self.now in
    let setting = c.args.setting.now in
    let call = c.args.call.now in
    let comes : Option (Invoked ℕ) → Option Stepped = λ i. invoked_step setting.program.now setting.inputs.now s c.args.place f below c.args.next (drop c.args.count f.stack) i in
    (called_is setting.program.now setting.labels.now setting.inputs.now s c.args.place f below c.args.next call c.args.count ∙ ap comes (sym (c.in-None.ensures f below top)), refl)
