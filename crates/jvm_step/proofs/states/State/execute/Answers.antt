use Rattle.std.proofs.Common.{◌∙◌, sym, ap, refl, subst, ℕ, drop, Option, Some}
use Rattle.jo_prog.specs.Machine.{Stepped}
use Rattle.machine.specs.Execution.{pops}
use Rattle.machine.specs.Steps.{apply_outcome}
use Rattle.jvm_values.specs.Resolved.{seen}
use Rattle.jvm_exec.specs.Outcomes.{outcome_of}
use Rattle.jvm_step.specs.States.{state_of}
use Rattle.jvm_step.specs.Moves.{Steps}
use Rattle.jvm_step.proofs.FetchLemmas.{executed_is}
use Rattle.jvm_step.proofs.states.State.execute.Goals as goal

pub returns-in-Some : goal.returns-in-Some
returns-in-Some c = λ f below top.
    let program = c.args.setting.now.program.now in
    let instruction = seen program c.args.instruction.now in
    let s = state_of c.args.self.now in
    let P : Option Stepped → Type 0 = λ wanted. Steps s (state_of c.apply_outcome.new.self) wanted c.apply_outcome.result in
    subst P
    (ap (λ (n : ℕ). apply_outcome program s c.args.place f below c.args.next (drop n f.stack) (Some (outcome_of c.in-Some.outcome))) (c.pops.ensures program)
    ∙ ap (apply_outcome program s c.args.place f below c.args.next (drop (pops instruction) f.stack)) (c.in-Some.ensures.is f below top)
    ∙ sym (executed_is program s c.args.place f below c.args.next instruction))
    (c.apply_outcome.ensures f below top)

pub returns-in-None : goal.returns-in-None
returns-in-None c = λ f below top.
    let program = c.args.setting.now.program.now in
    let instruction = seen program c.args.instruction.now in
    let s = state_of c.args.self.now in (
      executed_is program s c.args.place f below c.args.next instruction
          ∙ ap (apply_outcome program s c.args.place f below c.args.next (drop (pops instruction) f.stack)) (sym (c.in-None.ensures.is f below top)),
      refl,
    )
