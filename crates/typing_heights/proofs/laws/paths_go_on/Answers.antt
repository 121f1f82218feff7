use Rattle.typing_heights.proofs.PathSteps.{begins, onward, back, heights_after}
use Rattle.typing_heights.proofs.laws.paths_go_on.Goals as goal

pub returns-clause-begins : goal.returns-clause-begins
returns-clause-begins c = begins

pub returns-clause-onward : goal.returns-clause-onward
returns-clause-onward c = onward

pub returns-clause-back : goal.returns-clause-back
returns-clause-back c = back

pub returns-clause-heights : goal.returns-clause-heights
returns-clause-heights c = heights_after
