use Rattle.std.proofs.Common.{◌≡◌, ℕ, ◌<◌, [], length, get_or}
use Rattle.summary_edges.specs.Pairs.{IsPairRow}
use Rattle.summary_edges.proofs.pairs.pairs.Given as goal

abbrev pub invariant-loop-to : goal.invariant-loop-to
invariant-loop-to l = record {
  same_length : length l.rows.items ≡ l.to;
  each : (n : ℕ) → n < l.to → IsPairRow l.graph n (get_or l.rows.items n []);
  room : length l.found ≡ length l.graph;
  work : l.work ≡ length l.graph;
}
