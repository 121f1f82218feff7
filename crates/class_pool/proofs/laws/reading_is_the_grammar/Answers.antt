use Rattle.class_pool.proofs.GrammarClass.{reading_is_the_grammar}
use Rattle.class_pool.proofs.laws.reading_is_the_grammar.Goals as goal

pub returns : goal.returns
returns c = reading_is_the_grammar
