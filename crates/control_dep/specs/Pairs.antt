-- How the pairs of control dependence are found (this project's own).
use Rattle.std.specs.Prelude.{◌≡◌, ◌≢◌, ◌↔◌, ℕ, Bool, true, List, length, Contains}
use Rattle.jo_ids.specs.Rows.{has_number}
use Rattle.dependence.specs.declared.flows.FlowRow.{FlowRow}
use Rattle.dependence.specs.FlowData.{ControlsIn, IsExitIn}
use Rattle.dependence.specs.Listed.{AddsExactly}

-- two of the numbers differ
pub record HasTwo (numbers : List ℕ) : Type 0 where
  pub one : ℕ
  pub other : ℕ
  pub has_one : Contains numbers one
  pub has_other : Contains numbers other
  pub differ : one ≢ other

-- the node was found and is no exit
abbrev pub IsControlled : List FlowRow → List Bool → ℕ → Type 0
IsControlled flow found n = (has_number found n ≡ true) × (IsExitIn flow n → ⊥)

-- what was found, but for exits, is what node b controls
pub record AreControlled (flow : List FlowRow) (b : ℕ) (found : List Bool) : Type 0 where
  pub same_length : length found ≡ length flow
  pub each : (n : ℕ) → IsControlled flow found n ↔ ControlsIn flow b n

-- the pairs of node b with what it controls
abbrev pub IsPairFrom : List FlowRow → ℕ → ℕ × ℕ → Type 0
IsPairFrom flow b pair = (pair.0 ≡ b) × ControlsIn flow pair.0 pair.1

abbrev pub AddsPairsFrom : List FlowRow → ℕ → List (ℕ × ℕ) → List (ℕ × ℕ) → Type 0
AddsPairsFrom flow b = AddsExactly (IsPairFrom flow b)
