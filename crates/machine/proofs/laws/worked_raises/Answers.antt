use Rattle.std.proofs.Common.{refl}
use Rattle.machine.proofs.laws.worked_raises.Goals as goal

pub returns : goal.returns
returns c = record {
  stores = refl;
  receivers = refl;
  starts = refl;
}
