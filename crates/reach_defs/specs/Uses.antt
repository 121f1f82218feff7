-- How the uses of definitions are found (this project's own).
use Rattle.std.specs.Prelude.{◌≡◌, ℕ, Bool, true, List}
use Rattle.jo_ids.specs.Rows.{has_number}
use Rattle.dependence.specs.declared.flow.Place.{Place}
use Rattle.dependence.specs.declared.flows.FlowRow.{FlowRow}
use Rattle.dependence.specs.declared.flows.Use.{Use}
use Rattle.dependence.specs.FlowData.{ReadsIn, IsUse}
use Rattle.dependence.specs.Listed.{AddsExactly}

-- the node was found and reads the place
abbrev pub IsReader : List FlowRow → List Bool → ℕ → Place → Type 0
IsReader flow found n place = (has_number found n ≡ true) × ReadsIn flow n place

-- the uses that the definition of a place at a node reaches
abbrev pub IsUseOf : List FlowRow → ℕ → Place → Use → Type 0
IsUseOf flow d place u = (u.from ≡ d) × (u.place ≡ place) × IsUse flow u

-- the uses that the definitions at a node reach
abbrev pub IsUseFrom : List FlowRow → ℕ → Use → Type 0
IsUseFrom flow d u = (u.from ≡ d) × IsUse flow u

abbrev pub AddsUsesOf : List FlowRow → ℕ → Place → List Use → List Use → Type 0
AddsUsesOf flow d place = AddsExactly (IsUseOf flow d place)

abbrev pub AddsUsesFrom : List FlowRow → ℕ → List Use → List Use → Type 0
AddsUsesFrom flow d = AddsExactly (IsUseFrom flow d)
