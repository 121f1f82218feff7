use Rattle.std.proofs.Common.{◌≡◌, ◌↔◌, List, ℕ, true, subst, arith}
use Rattle.std.specs.List.{Contains}
use Rattle.hierarchy.specs.Orders.{edges}
use Rattle.hierarchy.proofs.Queries.{subtype_here, subtype_itself}
use Rattle.hierarchy.proofs.Hierarchy.subtype.Goals as goal

pub returns-then-number : goal.returns-then-number
returns-then-number c =
    let same : c.args.a ≡ c.args.b = omega (arith, c.number.ensures, c.number-2.ensures, c.if-number.true) in
    subtype_itself c.args.program.now c.args.a c.args.b same

pub returns : goal.returns
returns c =
    let order : c.edges_at.result.now ≡ edges c.args.self.now.supertypes.items c.args.a = cc in
    let both = subst (λ (ys : List ℕ). (c.has_class.result ≡ true) ↔ Contains ys c.args.b) order c.has_class.ensures in
    subtype_here c.args.program.now c.args.self.now c.requires c.args.a c.args.b c.has_class.result
    (λ same. absurd (omega (arith, same, c.number.ensures, c.number-2.ensures, c.if-number.false))) both
