-- Uses of a flow graph by their nodes (this project's own form).
use Rattle.std.specs.Prelude.{◌≡◌, ◌↔◌, ◌⊎◌, ℕ, List, Contains, slice_get, IsSomeAnd}
use Rattle.dependence.specs.declared.flows.FlowRow.{FlowRow}
use Rattle.dependence.specs.declared.flows.Use.{Use}
use Rattle.dependence.specs.FlowData.{IsUse}

-- the use is in the row of a node
abbrev pub StandsAt : List (List Use) → ℕ → Use → Type 0
StandsAt table n u = IsSomeAnd (slice_get table n) (λ uses. Contains uses u)

-- each row has exactly the uses at its node
abbrev pub IsUseTable : List FlowRow → List (List Use) → Type 0
IsUseTable wide table = (n : ℕ) (u : Use) → StandsAt table n u ↔ (IsUse wide u × (u.node ≡ n))

-- the use is in the row of its node besides
abbrev pub AddsUse : List (List Use) → List (List Use) → Use → Type 0
AddsUse old new added = (n : ℕ) (u : Use) → StandsAt new n u ↔ (StandsAt old n u ⊎ ((u ≡ added) × (u.node ≡ n)))
