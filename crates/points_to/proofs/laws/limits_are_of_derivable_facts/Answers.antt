use Rattle.points_to.proofs.KeptLemmas.{kept_on, is_limit, few_there}
use Rattle.points_to.proofs.laws.limits_are_of_derivable_facts.Goals as goal

pub returns-clause-kept : goal.returns-clause-kept
returns-clause-kept g c = λ program policy entry old new items derivable kept only. kept_on program policy entry g.X.Contexts.list old new items derivable kept only

pub returns-clause-limit : goal.returns-clause-limit
returns-clause-limit g c = λ program policy entry lists fault kept over. is_limit program policy entry g.X.Contexts.list g.met.X.Contexts.equal_lists lists fault kept over

pub returns-clause-few_instances : goal.returns-clause-few_instances
returns-clause-few_instances g c = λ program policy entry lists complete few. (few_there program policy entry g.X.Contexts.list lists complete few).0

pub returns-clause-few_objects : goal.returns-clause-few_objects
returns-clause-few_objects g c = λ program policy entry lists complete few. (few_there program policy entry g.X.Contexts.list lists complete few).1
