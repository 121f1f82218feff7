use Rattle.std.proofs.Common.{◌≡◌, ◌+◌, ◌++◌, ◌∷◌, [], List, ℕ, drop, subst}
use Rattle.hierarchy.specs.Orders.{SameFirst}
use Rattle.hierarchy.proofs.OrderLemmas.{some_more, drop_here}
use Rattle.hierarchy.proofs.orders.add_new.Goals as goal

pub loop-class-preserved : goal.loop-class-preserved
loop-class-preserved c =
    let i = c.loop-class.class-index in
    let x = c.class-item.result in
    let more = c.args.more.now in
    let all = c.args.order.now ++ more in
    let here : drop i more ≡ x ∷ drop (i + 1) more = drop_here more i x c.loop-class-test.true c.class-item.is in
    some_more c.loop-class.order c.add_one.new.order (x ∷ []) (drop (i + 1) more) all c.in_ok-add_one.ensures
    (subst (λ (ys : List ℕ). SameFirst (c.loop-class.order ++ ys) all) here c.loop-class.invariant)
