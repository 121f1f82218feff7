use Rattle.std.proofs.Common.{rules, ◌≡◌, ◌∙◌, ◌+◌, ◌≤◌, ◌++◌, ◌∷◌, [], List, ℕ, length, drop, sym, ap, subst, arith}
use Rattle.std.specs.List.{AllByRecursion, flat_map}
use Rattle.std.proofs.lemmas.Bool.{false≢true}
use Rattle.std.proofs.lemmas.List.{drop_all}
use Rattle.hierarchy.specs.Orders.{SameFirst, IsMade, edges}
use Rattle.hierarchy.proofs.OrderLemmas.{equal_orders, drop_here, some_more, none_more}
use Rattle.hierarchy.proofs.orders.order_of.Goals as goal

pub loop-class-init : goal.loop-class-init
loop-class-init c =
    let behind = flat_map (edges c.args.orders.now) c.args.next.now in
    let grown : c.add.new.list ≡ c.args.number ∷ [] = search rules in
    record {
      made = λ h. h;
      same = equal_orders (c.add.new.list ++ behind) (c.args.number ∷ behind) (ap (λ (ys : List ℕ). ys ++ behind) grown);
    }

pub returns-then-not-is_made : goal.returns-then-not-is_made
returns-then-not-is_made c = (
  c.class-item.result,
  (c.loop-class.class-index, c.loop-class-test.true, sym c.class-item.is),
  λ made. false≢true (sym c.if-not-is_made.true ∙ c.is_made.ensures.1 (subst (IsMade c.args.orders.now) (sym c.number-place.ensures) made)),
)

pub loop-class-preserved : goal.loop-class-preserved
loop-class-preserved c =
    let i = c.loop-class.class-index in
    let x = c.class-item.result in
    let next = c.args.next.now in
    let orders = c.args.orders.now in
    let all = c.args.number ∷ flat_map (edges orders) next in
    let here : drop i next ≡ x ∷ drop (i + 1) next = drop_here next i x c.loop-class-test.true c.class-item.is in
    let made : IsMade orders x = subst (IsMade orders) c.number-place.ensures (c.is_made.ensures.0 c.if-not-is_made.false) in
    let walk : c.edges_at.result.now ≡ edges orders x = c.edges_at.ensures ∙ ap (edges orders) c.number-place.ensures in
    record {
      made = λ rest. c.loop-class.invariant.made (subst (AllByRecursion (IsMade orders)) (sym here) (made, rest));
      same = some_more c.loop-class.order c.add_new.new.order (edges orders x) (flat_map (edges orders) (drop (i + 1) next)) all
          (subst (λ (ys : List ℕ). SameFirst c.add_new.new.order (c.loop-class.order ++ ys)) walk c.in_ok-add_new.ensures)
          (subst (λ (ys : List ℕ). SameFirst (c.loop-class.order ++ flat_map (edges orders) ys) all) here c.loop-class.invariant.same);
    }

pub returns : goal.returns
returns c =
    let i = c.loop-class.class-index in
    let next = c.args.next.now in
    let orders = c.args.orders.now in
    let past : length next ≤ i = omega arith in
    let end = drop_all i next past in (
      c.loop-class.invariant.made (subst (AllByRecursion (IsMade orders)) (sym end) tt),
      none_more c.loop-class.order (flat_map (edges orders) (drop i next)) (c.args.number ∷ flat_map (edges orders) next) (ap (flat_map (edges orders)) end) c.loop-class.invariant.same,
    )
