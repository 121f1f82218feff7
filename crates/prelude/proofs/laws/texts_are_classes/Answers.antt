use Rattle.prelude.proofs.EachText.{texts_say_classes}
use Rattle.prelude.proofs.laws.texts_are_classes.Goals as goal

pub returns : goal.returns
returns c = texts_say_classes
