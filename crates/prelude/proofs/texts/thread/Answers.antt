use Rattle.prelude.specs.Texts.{thread_text}
use Rattle.prelude.proofs.texts.thread.Goals as goal

pub returns : goal.returns
unfolding thread_text
returns c = c.as_bytes.ensures.value
