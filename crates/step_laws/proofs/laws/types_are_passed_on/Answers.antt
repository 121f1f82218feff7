use Rattle.step_laws.proofs.TypeLemmas.{fits_on, takes_on}
use Rattle.step_laws.proofs.laws.types_are_passed_on.Goals as goal

pub returns : goal.returns
returns c = record { subtypes = fits_on; taken = takes_on }
