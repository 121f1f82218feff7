use Rattle.std.proofs.Common.{◌≡◌}
use Rattle.jo_prog.specs.Running.{behind}
use Rattle.machine.specs.Runs.{run_from}
use Rattle.run_plans.specs.Schedules.{repeated}
use Rattle.jvm_step.specs.States.{state_of}
use Rattle.jvm_step.proofs.RunLemmas.{rest_of}
use Rattle.jvm_step.proofs.runs.run_from.Given as goal

abbrev pub invariant-loop-step : goal.invariant-loop-step
invariant-loop-step l =
    behind l.events (run_from l.setting.program.now l.setting.labels.now l.setting.inputs.now (state_of l.state) (rest_of l.plan.schedule l.plan.steps l.step))
    ≡ run_from l.setting.program.now l.setting.labels.now l.setting.inputs.now (state_of l.fn.state) (repeated l.plan.schedule l.plan.steps)
