use Rattle.kept_laws.proofs.WholeLemmas.{come_to}
use Rattle.kept_laws.proofs.laws.calls_come_to_something.Goals as goal

pub returns : goal.returns
returns c = λ program labels inputs premises s state t thread f below at none frames. come_to program labels inputs premises s state t thread f below at none frames
