use Rattle.std.proofs.Common.{◌∙◌, sym, ap, subst, Option, Some}
use Rattle.std.specs.Prelude.{IfSome}
use Rattle.machine.specs.Instructions.{instruction_at}
use Rattle.machine.specs.Runs.{waits_at}
use Rattle.jvm_values.specs.declared.resolved.Resolved.{Resolved}
use Rattle.jvm_values.specs.Resolved.{IsSeenAt}
use Rattle.jvm_frames.specs.Frames.{frame_of}
use Rattle.jvm_step.specs.States.{state_of}
use Rattle.jvm_step.proofs.WaitLemmas.{no_call_waits}
use Rattle.jvm_step.proofs.states.State.waits.Goals as goal

pub returns-in-Some : goal.returns-in-Some
returns-in-Some c =
    let program = c.args.setting.now.program.now in
    let f = frame_of c.args.frame.now in
    let P : Option Resolved → Type 0 = λ o. IfSome o (λ found. IsSeenAt program (instruction_at program f.method f.pc) (Some found)) in
    let here = subst P (sym c.in-Some.ensures) (c.requires.instructions.sound f.method f.pc) in
    c.waits_at.ensures c.in-Some.found.now.next ∙ ap (waits_at program c.args.setting.now.labels.now (state_of c.args.self.now) f) (sym here.0)

pub returns-in-None : goal.returns-in-None
returns-in-None c =
    let program = c.args.setting.now.program.now in
    let f = frame_of c.args.frame.now in
    no_call_waits program c.args.setting.now.labels.now (state_of c.args.self.now) f (instruction_at program f.method f.pc) (c.requires.instructions.calls f.method f.pc (sym c.in-None.ensures))
