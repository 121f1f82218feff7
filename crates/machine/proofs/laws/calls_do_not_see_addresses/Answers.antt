use Rattle.machine.proofs.RenamedCalls.{invoked_same}
use Rattle.machine.proofs.laws.calls_do_not_see_addresses.Goals as goal

pub returns : goal.returns
returns g c = λ one other is callee started begun flags vs ws values. invoked_same g.B.RenamedFrom.renames one other is callee started begun flags vs ws values
