use Rattle.kept_laws.proofs.UnwindLemmas.{unwinding_typed}
use Rattle.kept_laws.proofs.laws.exceptions_keep_typing.Goals as goal

pub returns : goal.returns
returns c = unwinding_typed
