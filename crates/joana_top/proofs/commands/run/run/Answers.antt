use Rattle.joana_base.specs.Files.{names_of}
use Rattle.joana_base.specs.Reading.{in_bytes, files_change, IsProgramRead}
use Rattle.joana_top.specs.Run.{IsTraceOf, IsRunRefusalOf, run_file_in, RefusesRun, IsRunAnswer}
use Rattle.joana_top.proofs.Outcomes.{quiet_outcome, named_outcome, read_stopped}
use Rattle.joana_top.proofs.commands.run.run.Goals as goal

pub returns-in-Ok-clause-after : goal.returns-in-Ok-clause-after
returns-in-Ok-clause-after g c =
    let held = g.F.Files.held c.args.files.now in
    let files = in_bytes c.in-Ok.read in
    quiet_outcome (IsTraceOf files) (IsRunRefusalOf files) (IsProgramRead held (names_of c.args.names)) c.run_files.result
    (files_change g.F.Files.held g.F.Files.faults g.F.Files.failed c.args.files.now c.read_program.new.files) c.in-Ok.ensures.after c.run_files.ensures

pub returns-in-Ok-clause-outcome : goal.returns-in-Ok-clause-outcome
returns-in-Ok-clause-outcome g c =
    named_outcome IsTraceOf IsRunRefusalOf (g.F.Files.held c.args.files.now) (names_of c.args.names) (in_bytes c.in-Ok.read) c.run_files.result c.in-Ok.ensures.read.1 c.run_files.ensures

pub returns-in-Err-clause-outcome : goal.returns-in-Err-clause-outcome
returns-in-Err-clause-outcome g c =
    let held = g.F.Files.held c.args.files.now in
    let names = names_of c.args.names in
    read_stopped (IsRunAnswer held names) (λ files program refused. RefusesRun program files.policy (run_file_in files.third) refused) held names c.in-Err.stop c.in-Err.ensures.read
