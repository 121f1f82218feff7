use Rattle.std.proofs.Common.{◌≡◌, drop}
use Rattle.jo_order.specs.Flowing.{flows}
use Rattle.jo_policy.specs.Labelling.{first_upward}
use Rattle.jo_policy.proofs.labelling.no_upward.Given as goal

-- no release before this one lets anything up
abbrev pub invariant-loop-item : goal.invariant-loop-item
invariant-loop-item l = first_upward (flows l.order) (drop l.item-index l.placed) ≡ first_upward (flows l.order) l.placed
