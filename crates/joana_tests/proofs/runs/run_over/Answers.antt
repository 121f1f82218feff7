use Rattle.std.proofs.Common.{subst}
use Rattle.jo_io.specs.MemoryFiles.{StoredFiles, bytes_under}
use Rattle.joana_top.specs.Words.{command_in}
use Rattle.joana_top.specs.Top.{IsSecureIfAccepted}
use Rattle.joana_tests.proofs.runs.run_over.Goals as goal

pub returns-clause-secure : goal.returns-clause-secure
returns-clause-secure c =
    subst (λ (files : StoredFiles). IsSecureIfAccepted (bytes_under files.pairs) (command_in c.args.words.now) c.joana-status.result) c.new-files.ensures
    c.joana-status.ensures.secure
