use Rattle.class_dis.proofs.NamesThere.{names_there}
use Rattle.class_dis.proofs.laws.names_are_there.Goals as goal

pub returns : goal.returns
returns c = names_there
