use Rattle.points_to.proofs.MethodLemmas.{has_its_method}
use Rattle.points_to.proofs.laws.methods_are_there.Goals as goal

pub returns : goal.returns
returns c = λ program policy entry fact within derivable. has_its_method program policy entry within fact derivable
