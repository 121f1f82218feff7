use Rattle.std.proofs.Common.{List, ℕ, subst}
use Rattle.joana_base.specs.Reading.{in_bytes}
use Rattle.joana_top.specs.Run.{run_file_in, RefusesRun, IsTraceOf, IsProgramRun}
use Rattle.joana_top.proofs.Outcomes.{making_stopped, of_run}
use Rattle.joana_top.proofs.commands.run.run_files.Goals as goal

pub returns-in-Err : goal.returns-in-Err
returns-in-Err c =
    let files = in_bytes c.args.files.now in
    making_stopped (IsTraceOf files) (λ program refused. RefusesRun program files.policy (run_file_in files.third) refused) files c.in-Err.stop c.in-Err.ensures.stop

pub returns-in-Ok : goal.returns-in-Ok
returns-in-Ok c =
    let Said : List ℕ → Type 0 = λ policy. IsProgramRun c.in-Ok.program policy c.run_file.result.now c.run_program.result in
    let Of_file : List ℕ → Type 0 = λ text. IsProgramRun c.in-Ok.program c.args.files.now.policy.items text c.run_program.result in
    of_run (in_bytes c.args.files.now) c.in-Ok.program c.in-Ok.ensures.program c.run_program.result (subst Of_file c.run_file.ensures (subst Said c.as_slice.ensures.value c.run_program.ensures))
