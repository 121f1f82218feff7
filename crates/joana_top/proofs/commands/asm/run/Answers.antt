use Rattle.std.proofs.Common.{List, ℕ, subst}
use Rattle.joana_base.specs.Reading.{files_change}
use Rattle.joana_top.specs.Answers.{IsReadOutcome}
use Rattle.joana_top.specs.OneFile.{IsOnlyRead}
use Rattle.joana_top.specs.Asm.{IsAssemblyOf, IsTextRefusal}
use Rattle.joana_top.proofs.Outcomes.{quiet_outcome, file_outcome}
use Rattle.joana_top.proofs.commands.asm.run.Goals as goal

pub returns-in-Ok-clause-after : goal.returns-in-Ok-clause-after
returns-in-Ok-clause-after g c =
    let bytes = c.as_slice.result.now in
    quiet_outcome (IsAssemblyOf bytes) (IsTextRefusal bytes) (IsOnlyRead c.args.name.now) c.assemble_file.result
    (files_change g.F.Files.held g.F.Files.faults g.F.Files.failed c.args.files.now c.read_file.new.files) c.in-Ok.ensures.after c.assemble_file.ensures

pub returns-in-Ok-clause-outcome : goal.returns-in-Ok-clause-outcome
returns-in-Ok-clause-outcome g c =
    let P : List ℕ → Type 0 = λ bytes. IsReadOutcome (IsAssemblyOf bytes) (IsTextRefusal bytes) c.assemble_file.result in
    file_outcome IsAssemblyOf IsTextRefusal (g.F.Files.held c.args.files.now) c.args.name.now c.in-Ok.text.items c.assemble_file.result c.in-Ok.ensures.read (subst P c.as_slice.ensures.value c.assemble_file.ensures)
