use Rattle.std.proofs.Common.{arith}
use Rattle.hierarchy.specs.Hierarchies.{parent_list}
use Rattle.hierarchy.proofs.ProgramGraphs.{parents_lead_inside, parents_acyclic, long_as_classes, supertypes_are_kept}
use Rattle.hierarchy.proofs.supertype_orders.Goals as goal

pub walks-requires-clause-short : goal.walks-requires-clause-short
walks-requires-clause-short c = let long = long_as_classes c.args.program.now parent_list c.args.parents.now c.requires.lists in omega (arith, long, c.requires.short)

pub walks-requires-clause-inside : goal.walks-requires-clause-inside
walks-requires-clause-inside c = parents_lead_inside c.args.program.now c.requires.there c.args.parents.now c.requires.lists

pub walks-requires-clause-acyclic : goal.walks-requires-clause-acyclic
walks-requires-clause-acyclic c = parents_acyclic c.args.program.now c.requires.no_cycle c.args.parents.now c.requires.lists

pub returns : goal.returns
returns c = supertypes_are_kept c.args.program.now c.args.parents.now c.in_ok-orders.orders.items c.requires.lists c.in_ok-orders.ensures
