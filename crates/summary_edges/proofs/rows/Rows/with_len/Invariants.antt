use Rattle.std.proofs.Common.{◌≡◌, ℕ, List, [], replicate}
use Rattle.summary_edges.proofs.rows.Rows.with_len.Given as goal

abbrev pub invariant-loop : goal.invariant-loop
invariant-loop l = l.rows.items ≡ replicate {A = List ℕ} l.counter []
