use Rattle.std.proofs.Common.{◌≡◌, ℕ, ◌<◌, Some, slice_get}
use Rattle.thread_regions.specs.declared.tables.ForkRegions.{ForkRegions}
use Rattle.conflicts.specs.Finding.{AreClashingAt}
use Rattle.conflicts.proofs.finding.data_conflict.Given as goal

abbrev pub invariant-loop-regions : goal.invariant-loop-regions
invariant-loop-regions l = (k : ℕ) (r : ForkRegions) → k < l.regions-index → slice_get l.forks k ≡ Some r → (a b : ℕ) → AreClashingAt l.graph r l.leads a b → ⊥
