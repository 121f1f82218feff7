use Rattle.class_pool.proofs.GrammarClass.{one_class}
use Rattle.class_pool.proofs.laws.one_class.Goals as goal

pub returns : goal.returns
returns c = one_class
