-- What flows where among levels.
use Rattle.std.specs.Prelude.{◌≡◌, ◌↔◌, ℕ, Bool, true, List}
use Rattle.jo_ids.specs.Closure.{Closure}
use Rattle.jo_order.specs.declared.Levels.{Levels}
use Rattle.jo_order.specs.LevelRows.{row_flows}

-- whether level a flows to level b
abbrev pub flows : Levels → ℕ → ℕ → Bool
flows levels a b = row_flows levels.rows.items a b

-- a level flows to another exactly where the pairs lead there
abbrev pub FlowsBy : List (ℕ × ℕ) → Levels → Type 0
FlowsBy pairs levels = (a b : ℕ) → (flows levels a b ≡ true) ↔ Closure pairs a b
