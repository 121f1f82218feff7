use Rattle.joana_base.proofs.ReadFiles.{PathsRead}
use Rattle.joana_base.proofs.reading.read_paths.Given as goal

abbrev pub invariant-loop-place : goal.invariant-loop-place
invariant-loop-place g l = PathsRead (g.F.Files.held l.fn.files) (g.F.Files.held l.files) (g.F.Files.faults l.fn.files) (g.F.Files.faults l.files) l.paths l.classes.items l.place
