use Rattle.prelude.specs.Texts.{object_text}
use Rattle.prelude.proofs.texts.object.Goals as goal

pub returns : goal.returns
unfolding object_text
returns c = c.as_bytes.ensures.value
