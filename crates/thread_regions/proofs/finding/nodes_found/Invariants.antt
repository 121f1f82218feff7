use Rattle.std.proofs.Common.{◌≡◌, ℕ, ◌<◌, ◌≤◌, ◌*◌, false, length}
use Rattle.jo_ids.specs.Rows.{has_number}
use Rattle.thread_regions.proofs.finding.nodes_found.Given as goal

abbrev pub invariant-loop-n : goal.invariant-loop-n
invariant-loop-n l = record {
  same_length : length l.row ≡ l.len;
  done : (k : ℕ) → k < l.n → has_number l.row k ≡ has_number l.found (5 * k);
  rest : (k : ℕ) → l.n ≤ k → has_number l.row k ≡ false;
}
