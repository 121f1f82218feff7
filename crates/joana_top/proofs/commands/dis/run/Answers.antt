use Rattle.std.proofs.Common.{List, ℕ, subst}
use Rattle.joana_base.specs.Reading.{files_change}
use Rattle.joana_top.specs.Answers.{IsReadOutcome}
use Rattle.joana_top.specs.OneFile.{IsOnlyRead}
use Rattle.joana_top.specs.Dis.{IsListingOf, IsClassRefusal}
use Rattle.joana_top.proofs.Outcomes.{quiet_outcome, file_outcome}
use Rattle.joana_top.proofs.commands.dis.run.Goals as goal

pub returns-in-Ok-clause-after : goal.returns-in-Ok-clause-after
returns-in-Ok-clause-after g c =
    let bytes = c.as_slice.result.now in
    quiet_outcome (IsListingOf bytes) (IsClassRefusal bytes) (IsOnlyRead c.args.name.now) c.list_file.result
    (files_change g.F.Files.held g.F.Files.faults g.F.Files.failed c.args.files.now c.read_file.new.files) c.in-Ok.ensures.after c.list_file.ensures

pub returns-in-Ok-clause-outcome : goal.returns-in-Ok-clause-outcome
returns-in-Ok-clause-outcome g c =
    let P : List ℕ → Type 0 = λ bytes. IsReadOutcome (IsListingOf bytes) (IsClassRefusal bytes) c.list_file.result in
    file_outcome IsListingOf IsClassRefusal (g.F.Files.held c.args.files.now) c.args.name.now c.in-Ok.file.items c.list_file.result c.in-Ok.ensures.read (subst P c.as_slice.ensures.value c.list_file.ensures)
