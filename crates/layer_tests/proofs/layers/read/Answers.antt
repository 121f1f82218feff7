use Rattle.std.proofs.Common.{refl}
use Rattle.layer_tests.proofs.layers.read.Goals as goal

pub build-requires-clause-there : goal.build-requires-clause-there
build-requires-clause-there g c = c.if-not-has_its_parents.ensures.0 refl
