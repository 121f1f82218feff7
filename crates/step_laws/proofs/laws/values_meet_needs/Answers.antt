use Rattle.step_laws.proofs.ValueLemmas.{place_meets, meets_kind}
use Rattle.step_laws.proofs.laws.values_meet_needs.Goals as goal

pub returns : goal.returns
returns c = record { onward = place_meets; back = meets_kind }
