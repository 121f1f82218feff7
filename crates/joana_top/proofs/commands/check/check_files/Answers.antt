use Rattle.std.proofs.Common.{List, ℕ, subst}
use Rattle.joana_base.specs.Reading.{in_bytes}
use Rattle.joana_top.specs.Check.{RefusesProgram, IsVerdictOn, IsProgramOutcome}
use Rattle.joana_top.proofs.Outcomes.{making_stopped, of_program}
use Rattle.joana_top.proofs.commands.check.check_files.Goals as goal

pub returns-in-Err : goal.returns-in-Err
returns-in-Err c =
    let files = in_bytes c.args.files.now in
    making_stopped (IsVerdictOn files) (λ program refused. RefusesProgram program files.policy refused) files c.in-Err.stop c.in-Err.ensures.stop

pub returns-in-Ok : goal.returns-in-Ok
returns-in-Ok c =
    let Said : List ℕ → Type 0 = λ policy. IsProgramOutcome c.in-Ok.program policy c.check_program.result in
    of_program (in_bytes c.args.files.now) c.in-Ok.program c.in-Ok.ensures.program c.check_program.result (subst Said c.as_slice.ensures.value c.check_program.ensures)
