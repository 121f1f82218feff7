use Rattle.std.proofs.Common.{ℕ, subst, inr, arith}
use Rattle.std.specs.Prelude.{IfNone}
use Rattle.jo_order.specs.LevelRows.{AreMutual}
use Rattle.jo_order.specs.Orders.{AreDistinct}
use Rattle.jo_order.specs.Closing.{IsFirstMutual}
use Rattle.jo_order.proofs.OrderLemmas.{first_cycle, no_cycles, is_order}
use Rattle.jo_order.proofs.Levels.build.Goals as goal

pub returns-in-Some-first_mutual-clause-fault : goal.returns-in-Some-first_mutual-clause-fault
returns-in-Some-first_mutual-clause-fault c =
    let found = c.in-Some-first_mutual in
    let rows = c.in_ok-rows.rows.items in
    inr (
      subst (λ o. IfNone o (AreDistinct c.args.names.now)) c.in_default.is c.in_ok-repeated.ensures.none,
      omega arith,
      c.in_default-first_unknown.ensures.none,
      first_cycle c.args.pairs.now rows c.in_ok-rows.ensures.closed found.a found.b (subst (λ ws. IsFirstMutual ws found.a found.b) c.as_slice.ensures.value found.ensures.found),
    )

pub invariant_of-result : goal.invariant_of-result
invariant_of-result c = record {
  ordered = is_order c.args.pairs.now c.in_ok-rows.rows.items c.in_ok-rows.ensures.closed
      (subst (λ ws. (a b : ℕ) → AreMutual ws a b → ⊥) c.as_slice.ensures.value c.in_default-first_mutual.ensures.none);
}

pub returns-clause-order : goal.returns-clause-order
returns-clause-order c = record {
  distinct = subst (λ o. IfNone o (AreDistinct c.args.names.now)) c.in_default.is c.in_ok-repeated.ensures.none;
  few = omega arith;
  known = c.in_default-first_unknown.ensures.none;
  no_cycle = no_cycles c.args.pairs.now c.in_ok-rows.rows.items c.in_ok-rows.ensures.closed
      (subst (λ ws. (a b : ℕ) → AreMutual ws a b → ⊥) c.as_slice.ensures.value c.in_default-first_mutual.ensures.none);
}
