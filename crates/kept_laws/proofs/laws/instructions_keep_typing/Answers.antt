use Rattle.kept_laws.proofs.TopLemmas.{instruction_typed}
use Rattle.kept_laws.proofs.laws.instructions_keep_typing.Goals as goal

pub returns : goal.returns
returns c = λ program labels inputs sound raised s state t thread f below at none frames. instruction_typed program labels inputs s state t thread f below at none frames sound raised
