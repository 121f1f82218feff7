use Rattle.prelude.specs.Texts.{exception_text}
use Rattle.prelude.proofs.texts.exception.Goals as goal

pub returns : goal.returns
unfolding exception_text
returns c = c.joined.ensures
