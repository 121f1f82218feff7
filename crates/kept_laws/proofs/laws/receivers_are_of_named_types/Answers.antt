use Rattle.kept_laws.proofs.WholeLemmas.{receiver_below}
use Rattle.kept_laws.proofs.laws.receivers_are_of_named_types.Goals as goal

pub returns : goal.returns
returns c = λ program labels inputs premises s state t thread f below at none frames. receiver_below program labels inputs premises s state t thread f below at none frames
