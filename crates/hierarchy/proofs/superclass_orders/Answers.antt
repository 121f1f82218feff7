use Rattle.std.proofs.Common.{arith}
use Rattle.hierarchy.specs.Hierarchies.{superclass_list}
use Rattle.hierarchy.proofs.ProgramGraphs.{superclasses_lead_inside, superclasses_acyclic, long_as_classes, superclasses_are_kept}
use Rattle.hierarchy.proofs.superclass_orders.Goals as goal

pub walks-requires-clause-short : goal.walks-requires-clause-short
walks-requires-clause-short c = let long = long_as_classes c.args.program.now superclass_list c.args.superclasses.now c.requires.lists in omega (arith, long, c.requires.short)

pub walks-requires-clause-inside : goal.walks-requires-clause-inside
walks-requires-clause-inside c = superclasses_lead_inside c.args.program.now c.requires.there c.args.superclasses.now c.requires.lists

pub walks-requires-clause-acyclic : goal.walks-requires-clause-acyclic
walks-requires-clause-acyclic c = superclasses_acyclic c.args.program.now c.requires.no_cycle c.args.superclasses.now c.requires.lists

pub returns : goal.returns
returns c = superclasses_are_kept c.args.program.now c.args.superclasses.now c.in_ok-orders.orders.items c.requires.lists c.in_ok-orders.ensures
