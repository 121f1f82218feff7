use Rattle.kept_laws.proofs.GoingLemmas.{leads_on}
use Rattle.kept_laws.proofs.laws.instructions_lead_on.Goals as goal

pub returns : goal.returns
returns c = leads_on
