use Rattle.low_run.proofs.Verdicts.{illegal_both}
use Rattle.low_run.proofs.laws.illegal_chains_are_of_the_program.Goals as goal

pub returns : goal.returns
returns c = λ program labels graph observer from links whole. illegal_both program labels graph whole observer from links
