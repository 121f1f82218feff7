use Rattle.std.proofs.Common.{◌≡◌, ◌∙◌, ap}
use Rattle.jo_prog.specs.Walks.{first_found}
use Rattle.jo_prog.specs.Hierarchy.{own_field}
use Rattle.hierarchy.specs.Orders.{edges}
use Rattle.hierarchy.proofs.Queries.{field_here}
use Rattle.hierarchy.proofs.Hierarchy.resolve_field.Goals as goal

pub returns : goal.returns
returns c =
    let order : c.edges_at-order.result.now ≡ edges c.args.self.now.supertypes.items c.args.class = cc in
    c.first_field.ensures ∙ ap (first_found (own_field c.args.program.now c.args.name.now c.args.desc.now)) order
    ∙ field_here c.args.program.now c.args.self.now c.requires c.args.class c.args.name.now c.args.desc.now
