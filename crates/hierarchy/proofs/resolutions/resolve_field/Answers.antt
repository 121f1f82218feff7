use Rattle.std.proofs.Common.{◌≡◌, ◌∙◌, ap}
use Rattle.jo_prog.specs.Walks.{first_found}
use Rattle.jo_prog.specs.Hierarchy.{own_field}
use Rattle.hierarchy.specs.Orders.{edges}
use Rattle.hierarchy.specs.OwnMembers.{field_in}
use Rattle.hierarchy.proofs.Queries.{field_here}
use Rattle.hierarchy.proofs.MemberTables.{found_alike}
use Rattle.hierarchy.proofs.resolutions.resolve_field.Goals as goal

pub returns : goal.returns
returns c =
    let program = c.args.program.now in
    let signature = c.args.signature.now in
    let kept = edges c.args.hierarchy.now.supertypes.items c.args.class in
    let order : c.edges_at-order.result.now ≡ kept = cc in
    c.first_field.ensures ∙ ap (first_found (field_in c.args.tables.now signature)) order
    ∙ found_alike (field_in c.args.tables.now signature) (own_field program signature.name.now signature.desc.now) (λ k. c.requires.tables.fields signature k) kept
    ∙ field_here program c.args.hierarchy.now c.requires.kept c.args.class signature.name.now signature.desc.now
