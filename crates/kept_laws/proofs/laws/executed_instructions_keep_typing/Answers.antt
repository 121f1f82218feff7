use Rattle.kept_laws.proofs.KeepLemmas.{executed_typed}
use Rattle.kept_laws.proofs.laws.executed_instructions_keep_typing.Goals as goal

pub returns : goal.returns
returns c = λ program sound raised s state t thread at f below typed firsts ready waiting i next has leads no_result. executed_typed program sound raised s state t thread at f below typed firsts ready waiting i next has leads no_result
