use Rattle.step_laws.proofs.IntLemmas.{op_fits, negated_fits, kept_int_fits, narrow_fits}
use Rattle.step_laws.proofs.laws.ints_stay_ints.Goals as goal

pub returns : goal.returns
returns c = record { two = op_fits; one = negated_fits; kept = kept_int_fits; narrowed = narrow_fits }
