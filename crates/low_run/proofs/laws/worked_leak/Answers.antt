use Rattle.low_run.proofs.LeakRuns.{leak_insecure}
use Rattle.low_run.proofs.laws.worked_leak.Goals as goal

pub returns : goal.returns
returns c = leak_insecure
