use Rattle.std.proofs.Common.{◌∙◌, sym, ap, subst, ℕ, Option, Some}
use Rattle.jo_prog.specs.Machine.{Stepped}
use Rattle.jo_prog.specs.Program.{method_at}
use Rattle.machine.specs.Steps.{class_of_method, step_at}
use Rattle.jvm_values.specs.declared.resolved.Instruction.{Instruction}
use Rattle.jvm_values.specs.Resolved.{seen}
use Rattle.jvm_step.specs.States.{state_of}
use Rattle.jvm_step.specs.Moves.{Steps}
use Rattle.jvm_step.proofs.StepLemmas.{executes}
use Rattle.jvm_step.proofs.states.State.perform.Goals as goal

pub call-requires-clause-from : goal.call-requires-clause-from
call-requires-clause-from c = λ f below top.
    c.class_of.ensures ∙ ap (λ (m : ℕ). class_of_method (method_at c.args.setting.now.program.now m)) (sym (c.requires.from f below top))

pub returns-in-Calls : goal.returns-in-Calls
returns-in-Calls c = λ f below top.
    let s = state_of c.args.self.now in
    let setting = c.args.setting.now in
    subst (λ (i : Instruction). Steps s (state_of c.call.new.self) (step_at setting.program.now setting.labels.now setting.inputs.now s c.args.place f below (Some (seen setting.program.now i, c.args.found.now.next))) c.call.result) (sym c.in-Calls.is)
    (c.call.ensures f below top)

pub returns-in_default : goal.returns-in_default
returns-in_default c = λ f below top.
    let s = state_of c.args.self.now in
    let setting = c.args.setting.now in
    subst (λ (w : Option Stepped). Steps s (state_of c.execute.new.self) w c.execute.result)
    (executes setting.program.now setting.labels.now setting.inputs.now c.args.place s f below c.args.found.now.next c.args.found.now.instruction (λ op m count owner is. c.in_default.not-Calls op owner m count is))
    (c.execute.ensures f below top)
