use Rattle.jo_prog.specs.TypingPaths.{HasHeightAt}
use Rattle.dependence.proofs.FactLemmas.{closed, follows}
use Rattle.dependence.proofs.laws.facts_follow.Goals as goal

pub returns-clause-closed : goal.returns-clause-closed
returns-clause-closed c = λ program policy entry fact rule. closed program policy (HasHeightAt program) entry fact rule

pub returns-clause-follows : goal.returns-clause-follows
returns-clause-follows c = λ program policy entry fact derivable. follows program policy (HasHeightAt program) entry fact derivable
