use Rattle.prelude.specs.Texts.{string_text}
use Rattle.prelude.proofs.texts.string.Goals as goal

pub returns : goal.returns
unfolding string_text
returns c = c.as_bytes.ensures.value
