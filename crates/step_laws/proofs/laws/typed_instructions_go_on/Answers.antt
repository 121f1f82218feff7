use Rattle.step_laws.proofs.ExecLemmas.{instructions_go}
use Rattle.step_laws.proofs.laws.typed_instructions_go_on.Goals as goal

pub returns : goal.returns
returns c = λ program sound s state i e has shape vs given. instructions_go program sound s state.objects state i e has shape vs given
