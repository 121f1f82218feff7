use Rattle.std.proofs.Common.{refl}
use Rattle.machine.proofs.laws.worked_ints.Goals as goal

pub returns : goal.returns
returns c = record {
  quotients = refl;
  by_zero = refl;
  signs = refl;
  wraps = refl;
  shifts = refl;
  bits = refl;
  narrows = refl;
  kept = refl;
}
