use Rattle.std.proofs.Common.{◌≡◌, ℕ, ◌+◌, List, All, ◌≤◌, sym, ap, ◌∙◌, subst, arith}
use Rattle.jo_prog.specs.declared.runs.SourceInput.{SourceInput}
use Rattle.jo_prog.specs.declared.runs.Event.{Event}
use Rattle.jo_prog.specs.Machine.{State, Stepped}
use Rattle.jo_prog.specs.Runs.{advanced, run_from}
use Rattle.jo_prog.specs.Running.{state_of, showing, frame_of, behind}
use Rattle.jo_prog.proofs.RunLemmas.{after_advance, room, run_more, run_all}
use Rattle.jo_prog.proofs.runner.run.Goals as goal

pub loop-number-init : goal.loop-number-init
loop-number-init c =
    let program = c.args.program.now in
    let labels = c.args.labels.now in
    let inputs = c.args.inputs.now in
    record {
      so_far = ap (λ (s : State). run_from program labels inputs s c.args.schedule.now) (sym c.in_ok-state.ensures.state)
          ∙ ap (λ (es : List Event). behind es (run_from program labels inputs (state_of program labels c.in_ok-state.state) c.args.schedule.now)) (sym c.new-events.ensures);
      cursors = c.in_ok-state.ensures.cursors;
    }

pub advance-requires : goal.advance-requires
advance-requires c = room c.loop-number._number-index c.loop-number.state.cursors.items (omega arith) c.loop-number.invariant.cursors

pub loop-number-preserved : goal.loop-number-preserved
loop-number-preserved c =
    let program = c.args.program.now in
    let labels = c.args.labels.now in
    let inputs = c.args.inputs.now in
    let i = c.loop-number._number-index in
    let s = state_of program labels c.loop-number.state in
    let stepped = showing program labels c.advance.new.self c.in_ok-shown.shown in
    let steps : (number : ℕ) → advanced program labels inputs s number ≡ stepped = λ number.
    ap (λ (xs : List SourceInput). advanced program labels xs s number) (sym c.as_slice.ensures) ∙ c.in_ok-shown.ensures number in
    record {
      so_far = run_more program labels inputs s i c.args.schedule.now c.loop-number.events c.add_shown.new.events stepped _ c.loop-number.invariant.so_far c.loop-number-test.true steps c.in_ok-add_shown.ensures;
      cursors = subst (λ (x : Stepped). All (λ (n : ℕ). n ≤ i + 1) x.state.cursors) (steps 0) (after_advance program labels inputs s i c.loop-number.invariant.cursors 0);
    }

pub returns : goal.returns
returns c =
    let r = c.loop-number.state in
    run_all c.args.program.now c.args.labels.now c.args.inputs.now r.cursors.items r.has_ended (frame_of c.args.program.now r) c.loop-number._number-index c.args.schedule.now c.loop-number.events _ c.loop-number.invariant.so_far c.loop-number-test.false
