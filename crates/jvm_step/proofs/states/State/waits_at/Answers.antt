use Rattle.std.proofs.Common.{◌≡◌, Some, sym, subst}
use Rattle.machine.specs.Runs.{waits_at}
use Rattle.jvm_values.specs.declared.resolved.Instruction.{Instruction}
use Rattle.jvm_values.specs.Resolved.{seen}
use Rattle.jvm_frames.specs.Frames.{frame_of}
use Rattle.jvm_step.specs.States.{state_of}
use Rattle.jvm_step.proofs.WaitLemmas.{instruction_waits_not}
use Rattle.jvm_step.proofs.states.State.waits_at.Goals as goal

pub returns-in-Calls : goal.returns-in-Calls
returns-in-Calls c = λ next.
    let program = c.args.setting.now.program.now in
    subst (λ (i : Instruction). c.waits_with.result ≡ waits_at program c.args.setting.now.labels.now (state_of c.args.self.now) (frame_of c.args.frame.now) (Some (seen program i, next))) (sym c.in-Calls.is) c.waits_with.ensures

pub returns-in_default : goal.returns-in_default
returns-in_default c = λ next.
    instruction_waits_not c.args.setting.now.program.now c.args.setting.now.labels.now (state_of c.args.self.now) (frame_of c.args.frame.now) next c.args.instruction.now (λ op m count owner is. c.in_default.not-Calls op owner m count is)
