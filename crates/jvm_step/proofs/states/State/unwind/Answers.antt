use Rattle.std.proofs.Common.{rules, ◌≡◌, ◌∙◌, sym, ap, refl, ℕ, Some, None}
use Rattle.jo_prog.specs.Program.{code_at}
use Rattle.jo_prog.specs.Rows.{row_for}
use Rattle.jo_prog.specs.Machine.{info_at}
use Rattle.machine.specs.Invocation.{class_of}
use Rattle.machine.specs.Steps.{rows_of}
use Rattle.jvm_step.specs.States.{state_of}
use Rattle.jvm_step.proofs.StateLemmas.{same_step}
use Rattle.jvm_step.proofs.UnwindLemmas.{caught_is, dropped_is}
use Rattle.jvm_step.proofs.states.State.unwind.Goals as goal

pub returns-in-Ok : goal.returns-in-Ok
returns-in-Ok c = λ f below top.
    let program = c.args.setting.now.program.now in
    let s = state_of c.args.self.now in
    let found = row_for program (rows_of (code_at program f.method)) f.pc (class_of (info_at s c.args.exception)) in
    let pc : c.in-Some.handler ≡ c.from.result = search rules in
    caught_is s c.args.place f below c.args.exception found c.from.result (sym (c.in-Some.ensures f below top) ∙ ap (λ (n : ℕ). Some n) pc)
    ∙ same_step None refl refl refl (sym (c.in-Ok.ensures.ok f below top))

pub returns-in-None : goal.returns-in-None
returns-in-None c = λ f below top.
    let program = c.args.setting.now.program.now in
    let s = state_of c.args.self.now in
    let found = row_for program (rows_of (code_at program f.method)) f.pc (class_of (info_at s c.args.exception)) in
    dropped_is s c.args.place f below c.args.exception found (sym (c.in-None.ensures f below top))
    ∙ same_step None refl refl refl (sym (c.leave_at.ensures f below top))
