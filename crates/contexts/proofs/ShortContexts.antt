-- A policy that keeps to two sites gives no context of more.
use Rattle.std.specs.Prelude.{ℕ, List, length, ◌≤◌}
use Rattle.std.proofs.Common.{arith}
use Rattle.contexts.specs.Policies.{ContextPolicy, KeepsTwo, IsContext, starts, calls, calls_on, makes}

nothing_is_short : 0 ≤ 2
nothing_is_short = omega arith

pub short : (policy : ContextPolicy) → KeepsTwo policy → (sites : List ℕ) → IsContext policy sites
    → length sites ≤ 2
short policy keeps _ starts = nothing_is_short
short policy keeps _ (calls caller site is) = keeps.call caller site (short policy keeps caller is)
short policy keeps _ (calls_on caller context site made_at is made) =
    keeps.call_on caller context site made_at (short policy keeps caller is) (short policy keeps context made)
short policy keeps _ (makes context site is) = keeps.heap context site (short policy keeps context is)
