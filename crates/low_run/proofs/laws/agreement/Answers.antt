use Rattle.low_run.proofs.Agreement.{prefix_agrees, longer_disagrees, other_out_disagrees, agree_symmetric, agree_decidable}
use Rattle.low_run.proofs.laws.agreement.Goals as goal

pub returns-clause-prefix : goal.returns-clause-prefix
returns-clause-prefix c = prefix_agrees

pub returns-clause-longer : goal.returns-clause-longer
returns-clause-longer c = longer_disagrees

pub returns-clause-out : goal.returns-clause-out
returns-clause-out c = other_out_disagrees

pub returns-clause-symmetric : goal.returns-clause-symmetric
returns-clause-symmetric c = agree_symmetric

pub returns-clause-decidable : goal.returns-clause-decidable
returns-clause-decidable c = agree_decidable
