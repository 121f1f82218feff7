use Rattle.std.proofs.Common.{◌≡◌, ℕ, ◌<◌, true, Some, slice_get}
use Rattle.jo_ids.specs.Rows.{has_number}
use Rattle.thread_regions.specs.declared.tables.ForkRegions.{ForkRegions}
use Rattle.thread_regions.proofs.tables.Regions.parallel.Given as goal

abbrev pub invariant-loop-regions : goal.invariant-loop-regions
invariant-loop-regions l =
    (k : ℕ) (r : ForkRegions) → k < l.regions-index → slice_get l.regions-items k ≡ Some r → has_number r.child l.a ≡ true → has_number r.after l.b ≡ true → ⊥
