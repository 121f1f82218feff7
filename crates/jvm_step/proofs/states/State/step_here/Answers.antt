use Rattle.std.proofs.Common.{sym, ap, refl, subst, ℕ, Option}
use Rattle.machine.specs.Instructions.{Instruction, instruction_at}
use Rattle.machine.specs.Steps.{step_at}
use Rattle.jvm_values.specs.declared.resolved.Resolved.{Resolved}
use Rattle.jvm_values.specs.Resolved.{IsSeenAt}
use Rattle.jvm_step.specs.States.{state_of}
use Rattle.jvm_step.specs.Moves.{Steps}
use Rattle.jvm_step.proofs.StepLemmas.{found_seen}
use Rattle.jvm_step.proofs.states.State.step_here.Goals as goal

pub perform-requires-clause-text : goal.perform-requires-clause-text
perform-requires-clause-text c =
    (found_seen c.args.setting.now.program.now (instruction_at c.args.setting.now.program.now c.args.method c.args.pc) _ c.in-Some.found.now c.in-Some.ensures (c.requires.ready.instructions.sound c.args.method c.args.pc)).1

pub returns-in-Some : goal.returns-in-Some
returns-in-Some c = λ f below top.
    let s = state_of c.args.self.now in
    let setting = c.args.setting.now in
    let found = c.in-Some.found.now in
    let here = found_seen setting.program.now (instruction_at setting.program.now c.args.method c.args.pc) _ found c.in-Some.ensures (c.requires.ready.instructions.sound c.args.method c.args.pc) in
    subst (λ (w : Option (Instruction × ℕ)). Steps s (state_of c.perform.new.self) (step_at setting.program.now setting.labels.now setting.inputs.now s c.args.place f below w) c.perform.result) (sym here.0)
    (c.perform.ensures f below top)

pub returns-in-Ok-Some : goal.returns-in-Ok-Some
returns-in-Ok-Some c = λ f below top.
    let s = state_of c.args.self.now in
    let setting = c.args.setting.now in
    let program = setting.program.now in
    let here = subst (λ (o : Option Resolved). IsSeenAt program (instruction_at program c.args.method c.args.pc) o) c.in-Ok-Some.field-0-is c.in-Ok-Some.ensures in
    subst (λ (w : Option (Instruction × ℕ)). Steps s (state_of c.perform-in-Ok-Some.new.self) (step_at program setting.labels.now setting.inputs.now s c.args.place f below w) c.perform-in-Ok-Some.result) (sym here.0)
    (c.perform-in-Ok-Some.ensures f below top)

pub returns-in-Ok-None : goal.returns-in-Ok-None
returns-in-Ok-None c = λ f below top.
    let s = state_of c.args.self.now in
    let setting = c.args.setting.now in
    let program = setting.program.now in
    let none = subst (λ (o : Option Resolved). IsSeenAt program (instruction_at program c.args.method c.args.pc) o) c.in-Ok-None.field-0-is c.in-Ok-None.ensures in
    (ap (step_at program setting.labels.now setting.inputs.now s c.args.place f below) none, refl)
