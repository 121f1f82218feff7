use Rattle.std.proofs.Common.{◌≡◌, ℕ, None, Option, replicate}
use Rattle.typing_heights.proofs.search.no_heights.Given as goal

abbrev pub invariant-loop : goal.invariant-loop
invariant-loop l = l.heights.items ≡ replicate {A = Option ℕ} l.counter None
