use Rattle.std.proofs.Common.{rules, ◌≡◌, ◌∙◌, ap, ◌+◌, ◌∷◌, drop, slice_set, None}
use Rattle.std.specs.Prelude.{slice_index, ℤ}
use Rattle.std.specs.Int.{w32}
use Rattle.std.specs.Int.RustNames.{FitsSigned}
use Rattle.std.proofs.lemmas.Int.{to_z-of_z}
use Rattle.jo_prog.specs.Machine.{input_at}
use Rattle.jo_prog.specs.Values.{int}
use Rattle.machine.specs.Steps.{at_pc}
use Rattle.jvm_step.specs.States.{state_of, threads_of, framed}
use Rattle.jvm_step.proofs.CallLemmas.{asked_step}
use Rattle.jvm_step.proofs.states.State.ask.Goals as goal

pub returns-in-Ok : goal.returns-in-Ok
returns-in-Ok c = λ f below top.
    let s = state_of c.args.self.now in
    let source = c.args.source in
    let inputs = c.args.inputs.now in
    let frames = at_pc f c.args.next (int (input_at inputs source (slice_index s.cursors source)) ∷ drop c.args.count f.stack) ∷ below in
    let cursor : c.cursor_of-cursor.result ≡ slice_index s.cursors source = search rules in
    let given : c.set.new.items.items ≡ slice_set s.cursors source (slice_index s.cursors source + 1) = search rules in
    let z = c.input_at.result in
    let fits : FitsSigned w32 z = search rules in
    let same : z ≡ input_at inputs source (slice_index s.cursors source) = c.input_at.ensures ∙ ap (input_at inputs source) cursor in
    let goes = rw (to_z-of_z w32 z fits) at (c.in-Ok.ensures.ok f below top) in
    let is : threads_of c.go_on_at.new.threads.items ≡ framed s.threads c.args.place frames None =
    goes ∙ ap (λ (v : ℤ). framed s.threads c.args.place (at_pc f c.args.next (int v ∷ drop c.args.count f.stack) ∷ below) None) same in
    asked_step s c.args.place frames source c.set.new.items.items (threads_of c.go_on_at.new.threads.items) given is
