use Rattle.std.proofs.Common.{◌≡◌, ◌∙◌, sym, ap, Bool}
use Rattle.jo_prog.specs.declared.runs.Trace.{Trace}
use Rattle.jo_prog.specs.Machine.{Stepped}
use Rattle.machine.specs.Runs.{advanced}
use Rattle.run_plans.specs.Schedules.{picked}
use Rattle.jvm_step.specs.States.{state_of}
use Rattle.jvm_step.proofs.RunLemmas.{run_none, run_more, run_all}
use Rattle.jvm_step.proofs.runs.run_from.Goals as goal

pub loop-step-init : goal.loop-step-init
loop-step-init c =
    let setting = c.args.setting.now in
    let plan = c.args.plan.now in
    run_none setting.program.now setting.labels.now setting.inputs.now plan.schedule plan.steps (state_of c.args.state) c.new-events.result c.new-events.ensures

pub loop-step-preserved : goal.loop-step-preserved
loop-step-preserved c =
    let setting = c.args.setting.now in
    let plan = c.args.plan.now in
    let l = c.loop-step in
    let s = state_of l.state in
    let new = state_of c.advance.new.self in
    let to : Stepped = record { state = new; event = c.in_ok-shown.shown } in
    let e : advanced setting.program.now setting.labels.now setting.inputs.now s (picked plan.schedule l.step) ≡ to =
    ap (advanced setting.program.now setting.labels.now setting.inputs.now s) (sym c.picked.ensures) ∙ c.in_ok-shown.ensures in
    run_more setting.program.now setting.labels.now setting.inputs.now plan.schedule plan.steps s l.step l.events _ l.invariant
    c.add_shown.new.events new c.in_ok-shown.shown c.loop-step-test.true e c.in_ok-add_shown.ensures

pub returns : goal.returns
returns c =
    let setting = c.args.setting.now in
    let plan = c.args.plan.now in
    let l = c.loop-step in
    ap (λ (b : Bool). let trace : Trace = record { events = l.events; ended = b } in trace) c.ended.ensures
    ∙ run_all setting.program.now setting.labels.now setting.inputs.now plan.schedule plan.steps (state_of l.state) l.step l.events _ l.invariant c.loop-step-test.false
