use Rattle.std.proofs.Common.{◌≡◌, ◌∙◌, ap}
use Rattle.jo_prog.specs.Walks.{first_found}
use Rattle.jo_prog.specs.Hierarchy.{own_method}
use Rattle.hierarchy.specs.Orders.{edges}
use Rattle.hierarchy.specs.OwnMembers.{method_in}
use Rattle.hierarchy.proofs.Queries.{method_here}
use Rattle.hierarchy.proofs.MemberTables.{found_alike}
use Rattle.hierarchy.proofs.resolutions.resolve_method.Goals as goal

pub returns : goal.returns
returns c =
    let program = c.args.program.now in
    let signature = c.args.signature.now in
    let kept = edges c.args.hierarchy.now.methods.items c.args.class in
    let order : c.edges_at-order.result.now ≡ kept = cc in
    c.first_method.ensures ∙ ap (first_found (method_in c.args.tables.now signature)) order
    ∙ found_alike (method_in c.args.tables.now signature) (own_method program signature.name.now signature.desc.now) (λ k. c.requires.tables.methods signature k) kept
    ∙ method_here program c.args.hierarchy.now c.requires.kept c.args.class signature.name.now signature.desc.now
