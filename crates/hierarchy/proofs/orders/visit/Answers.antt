use Rattle.std.proofs.Common.{List, ℕ, None, Some, subst}
use Rattle.hierarchy.specs.Orders.{edges, IsOrderOf}
use Rattle.hierarchy.proofs.OrderLemmas.{visits_none, visits_some}
use Rattle.hierarchy.proofs.orders.visit.Goals as goal

pub returns-in-None : goal.returns-in-None
returns-in-None c =
    let graph = c.args.graph.now in
    let n = c.args.number in
    let is = subst (λ o. IsOrderOf n c.edges_at-next.result.now c.as_slice-items.result.now o) c.in-None.is c.in_ok-order.ensures in
    let at_next = subst (λ (ys : List ℕ). IsOrderOf n ys c.as_slice-items.result.now None) c.edges_at-next.ensures is in
    visits_none graph c.requires.inside c.args.orders.now.items n c.requires.right
    (subst (λ (g : List (List ℕ)). IsOrderOf n (edges graph n) g None) c.as_slice-items.ensures.value at_next)

pub returns-in-Some : goal.returns-in-Some
returns-in-Some c =
    let graph = c.args.graph.now in
    let n = c.args.number in
    let order = c.in-Some.order in
    let is = subst (λ o. IsOrderOf n c.edges_at-next.result.now c.as_slice-items.result.now o) c.in-Some.is c.in_ok-order.ensures in
    let at_next = subst (λ (ys : List ℕ). IsOrderOf n ys c.as_slice-items.result.now (Some order)) c.edges_at-next.ensures is in
    visits_some graph c.requires.inside c.requires.acyclic c.args.orders.now.items n order c.requires.number c.requires.right
    (subst (λ (g : List (List ℕ)). IsOrderOf n (edges graph n) g (Some order)) c.as_slice-items.ensures.value at_next)
