use Rattle.std.proofs.Common.{◌≡◌, ◌↔◌, List, ℕ, sym, subst}
use Rattle.std.specs.List.{Contains}
use Rattle.jo_prog.specs.Hierarchy.{Subtype}
use Rattle.hierarchy.specs.Orders.{edges}
use Rattle.hierarchy.proofs.Queries.{above_here}
use Rattle.hierarchy.proofs.Hierarchy.supertypes.Goals as goal

pub returns : goal.returns
returns c = λ b.
    let order : c.edges_at.result.now ≡ edges c.args.self.now.supertypes.items c.args.class = cc in
    subst (λ (ys : List ℕ). Contains ys b ↔ Subtype c.args.program.now c.args.class b) (sym order)
    (above_here c.args.program.now c.args.self.now c.requires.kept c.args.class c.requires.there b)
