-- Rows of levels that stand for the pairs of a policy.
use Rattle.std.specs.Prelude.{◌≡◌, ℕ, Option, IfSome}
use Rattle.jo_order.specs.declared.Levels.{Levels}
use Rattle.jo_order.specs.Flowing.{flows as rows_flow}
use Rattle.jo_prog.specs.declared.labels.Labels.{Labels}
use Rattle.jo_prog.specs.Labels.{flows}

-- where there are rows, they say the same as the pairs
abbrev pub KeepsFlows : Labels → Option Levels → Type 0
KeepsFlows labels order = IfSome order (λ rows. (a b : ℕ) → rows_flow rows a b ≡ flows labels a b)
