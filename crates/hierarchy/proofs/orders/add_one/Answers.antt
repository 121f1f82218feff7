use Rattle.std.proofs.Common.{List, ℕ, subst}
use Rattle.std.specs.List.{Contains}
use Rattle.std.proofs.lemmas.Result.{on_ok_weaker}
use Rattle.hierarchy.proofs.OrderLemmas.{one_there, equal_orders}
use Rattle.hierarchy.proofs.orders.add_one.Goals as goal

pub returns-then-has_class : goal.returns-then-has_class
returns-then-has_class c =
    one_there c.args.order.now c.args.class (subst (λ (ys : List ℕ). Contains ys c.args.class) c.as_slice.ensures (c.has_class.ensures.0 c.if-has_class.true))

pub returns : goal.returns
returns c = on_ok_weaker c.add.result (λ e. equal_orders _ _ e) c.add.ensures
