-- Each level flows to itself.
use Rattle.std.specs.Prelude.{◌≡◌, ℕ, true, List}
use Rattle.std.proofs.Common.{refl}
use Rattle.std.proofs.lemmas.Bool.{or_left, eq-eqb}
use Rattle.jo_order.specs.LevelRows.{row_flows, row_has}

pub row_flows-self : (rows : List ℕ) (a : ℕ) → row_flows rows a a ≡ true
row_flows-self rows a = or_left _ (row_has rows a a) (eq-eqb a a refl)
