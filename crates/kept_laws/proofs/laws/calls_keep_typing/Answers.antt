use Rattle.kept_laws.proofs.WholeLemmas.{call_typed}
use Rattle.kept_laws.proofs.laws.calls_keep_typing.Goals as goal

pub returns : goal.returns
returns c = λ program labels inputs premises s state t thread f below at none frames. call_typed program labels inputs premises s state t thread f below at none frames
