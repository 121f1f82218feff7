use Rattle.std.proofs.Common.{◌≡◌, ◌∙◌, ap}
use Rattle.jo_prog.specs.Walks.{first_found}
use Rattle.jo_prog.specs.Hierarchy.{own_instance_method}
use Rattle.hierarchy.specs.Orders.{edges}
use Rattle.hierarchy.proofs.Queries.{search_here}
use Rattle.hierarchy.proofs.Hierarchy.search_from.Goals as goal

pub returns : goal.returns
returns c =
    let order : c.edges_at-order.result.now ≡ edges c.args.self.now.superclasses.items c.args.class = cc in
    c.first_instance_method.ensures ∙ ap (first_found (own_instance_method c.args.program.now c.args.name.now c.args.desc.now)) order
    ∙ search_here c.args.program.now c.args.self.now c.requires c.args.class c.args.name.now c.args.desc.now
