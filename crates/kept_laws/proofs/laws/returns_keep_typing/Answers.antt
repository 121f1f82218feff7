use Rattle.kept_laws.proofs.ReturnLemmas.{return_typed}
use Rattle.kept_laws.proofs.laws.returns_keep_typing.Goals as goal

pub returns : goal.returns
returns c = λ program labels inputs sound all s state t thread f below at none frames right. return_typed program sound all labels inputs s state t thread f below at none frames right
