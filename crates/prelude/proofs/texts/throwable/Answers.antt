use Rattle.prelude.specs.Texts.{throwable_text}
use Rattle.prelude.proofs.texts.throwable.Goals as goal

pub returns : goal.returns
unfolding throwable_text
returns c = c.as_bytes.ensures.value
