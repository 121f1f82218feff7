use Rattle.prelude.specs.Texts.{runnable_text}
use Rattle.prelude.proofs.texts.runnable.Goals as goal

pub returns : goal.returns
unfolding runnable_text
returns c = c.as_bytes.ensures.value
