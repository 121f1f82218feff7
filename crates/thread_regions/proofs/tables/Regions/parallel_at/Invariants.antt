use Rattle.std.proofs.Common.{◌≡◌, ℕ, ◌<◌, Some, slice_get}
use Rattle.thread_regions.specs.declared.tables.ForkRegions.{ForkRegions}
use Rattle.thread_regions.proofs.tables.Regions.parallel_at.Given as goal

abbrev pub invariant-loop-regions : goal.invariant-loop-regions
invariant-loop-regions l = (k : ℕ) (r : ForkRegions) → k < l.regions-index → slice_get l.regions-items k ≡ Some r → r.fork ≡ l.fork → ⊥
