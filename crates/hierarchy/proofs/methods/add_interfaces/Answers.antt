use Rattle.std.proofs.Common.{◌≡◌, ◌∙◌, ◌+◌, ◌≤◌, ◌++◌, ◌∷◌, List, ℕ, length, drop, ap, subst, arith}
use Rattle.std.specs.List.{flat_map}
use Rattle.std.proofs.lemmas.List.{drop_all}
use Rattle.hierarchy.specs.Orders.{SameFirst, edges}
use Rattle.hierarchy.proofs.OrderLemmas.{drop_here, some_more, none_more}
use Rattle.hierarchy.proofs.methods.add_interfaces.Goals as goal

pub loop-interface-preserved : goal.loop-interface-preserved
loop-interface-preserved c =
    let i = c.loop-interface.interface-index in
    let x = c.interface-item.result in
    let interfaces = c.args.interfaces.now in
    let walks = c.args.walks.now in
    let all = c.args.order.now ++ flat_map (edges walks) interfaces in
    let here : drop i interfaces ≡ x ∷ drop (i + 1) interfaces = drop_here interfaces i x c.loop-interface-test.true c.interface-item.is in
    let walk : c.edges_at.result.now ≡ edges walks x = c.edges_at.ensures ∙ ap (edges walks) c.number.ensures in
    some_more c.loop-interface.order c.add_new.new.order (edges walks x) (flat_map (edges walks) (drop (i + 1) interfaces)) all
    (subst (λ (ys : List ℕ). SameFirst c.add_new.new.order (c.loop-interface.order ++ ys)) walk c.in_ok-add_new.ensures)
    (subst (λ (ys : List ℕ). SameFirst (c.loop-interface.order ++ flat_map (edges walks) ys) all) here c.loop-interface.invariant)

pub returns : goal.returns
returns c =
    let i = c.loop-interface.interface-index in
    let interfaces = c.args.interfaces.now in
    let walks = c.args.walks.now in
    let past : length interfaces ≤ i = omega arith in
    none_more c.loop-interface.order (flat_map (edges walks) (drop i interfaces)) (c.args.order.now ++ flat_map (edges walks) interfaces)
    (ap (flat_map (edges walks)) (drop_all i interfaces past)) c.loop-interface.invariant
