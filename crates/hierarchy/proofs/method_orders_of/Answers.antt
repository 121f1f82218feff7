use Rattle.std.proofs.Common.{List, ℕ, subst, arith}
use Rattle.hierarchy.specs.Hierarchies.{interface_list, AreMethodsBy}
use Rattle.hierarchy.proofs.ProgramGraphs.{interfaces_lead_inside, interfaces_acyclic, long_as_classes, methods_are_kept}
use Rattle.hierarchy.proofs.method_orders_of.Goals as goal

pub walks-requires-clause-short : goal.walks-requires-clause-short
walks-requires-clause-short c = let long = long_as_classes c.args.program.now interface_list c.args.interfaces.now c.requires.lists in omega (arith, long, c.requires.short)

pub walks-requires-clause-inside : goal.walks-requires-clause-inside
walks-requires-clause-inside c = interfaces_lead_inside c.args.program.now c.requires.there c.args.interfaces.now c.requires.lists

pub walks-requires-clause-acyclic : goal.walks-requires-clause-acyclic
walks-requires-clause-acyclic c = interfaces_acyclic c.args.program.now c.requires.no_cycle c.args.interfaces.now c.requires.lists

pub returns : goal.returns
returns c =
    let program = c.args.program.now in
    let interfaces = c.args.interfaces.now in
    let above = c.args.superclasses.now in
    let walks = c.in_ok-interface_walks.interface_walks.items in
    let orders = c.in_ok-orders.orders.items in
    let made = subst (λ (g : List (List ℕ)). AreMethodsBy interfaces g above orders) c.as_slice-walks.ensures.value c.in_ok-orders.ensures in
    methods_are_kept program c.requires.there interfaces walks above orders c.requires.lists c.in_ok-interface_walks.ensures c.requires.above made
