use Rattle.std.proofs.Common.{◌≡◌, ℕ, ◌<◌, Some, slice_get}
use Rattle.low_run.specs.Verdict.{Clean}
use Rattle.low_run.proofs.refusals.refusal_by.Given as goal

-- each observer so far is clean
abbrev pub invariant-loop-observer : goal.invariant-loop-observer
invariant-loop-observer l = (k o : ℕ) → k < l.observer-index → slice_get l.labels.observers k ≡ Some o → Clean l.graph l.labels o
