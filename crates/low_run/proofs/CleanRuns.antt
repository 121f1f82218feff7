-- Plain code is secure where it is clean.
use Rattle.jo_prog.specs.declared.labels.Labels.{Labels}
use Rattle.jo_prog.specs.declared.program.Program.{Program}
use Rattle.jo_prog.specs.PlainCode.{IsPlainProgram}
use Rattle.low_run.specs.Security.{Secure}
use Rattle.low_run.specs.ByEdges.{AllCleanByEdges}
use Rattle.low_run.proofs.PlainGiven.{plain_laws}
use Rattle.low_run.proofs.TwoRuns.{secure_by_laws}

pub clean_secure : (program : Program) (labels : Labels) → IsPlainProgram program labels → AllCleanByEdges program labels → Secure program labels
clean_secure program labels plain = secure_by_laws program labels (plain_laws program labels plain)
