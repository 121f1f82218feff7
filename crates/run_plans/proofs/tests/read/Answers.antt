use Rattle.std.proofs.Common.{refl}
use Rattle.run_plans.proofs.tests.read.Goals as goal

pub build-requires-clause-there : goal.build-requires-clause-there
build-requires-clause-there c = c.if-not-has_its_parents.ensures.0 refl
