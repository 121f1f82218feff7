use Rattle.step_laws.proofs.TableLemmas.{insn_effects}
use Rattle.step_laws.proofs.laws.instructions_have_effects.Goals as goal

pub returns : goal.returns
returns c = insn_effects
