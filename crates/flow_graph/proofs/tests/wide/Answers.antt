use Rattle.flow_graph.proofs.tests.wide.Goals as goal

pub build-requires-clause-there : goal.build-requires-clause-there
build-requires-clause-there c = c.has_its_parents.ensures.0 c.if-not-has_its_parents.false
