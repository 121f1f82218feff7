use Rattle.linker.proofs.PreludeLinks.{prelude_whole}
use Rattle.linker.proofs.laws.prelude_has_no_fault.Goals as goal

pub returns-clause-closed : goal.returns-clause-closed
returns-clause-closed c = prelude_whole.closed

pub returns-clause-bodies : goal.returns-clause-bodies
returns-clause-bodies c = prelude_whole.bodies

pub returns-clause-inits : goal.returns-clause-inits
returns-clause-inits c = prelude_whole.inits
