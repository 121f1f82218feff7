-- How a search goes on: a set of nodes beside the queue of these nodes, each once.
use Rattle.std.specs.Prelude.{◌≡◌, ◌⊎◌, ℕ, ◌+◌, ◌<◌, ◌≤◌, Bool, true, not, List, length, Contains, slice_index, count_by}
use Rattle.jo_ids.specs.Rows.{has_number}
use Rattle.jo_graph.specs.Graphs.{HasEdge}

-- no edge leads out of the graph
abbrev pub LeadsInside : List (List ℕ) → Type 0
LeadsInside graph = (a b : ℕ) → HasEdge graph a b → b < length graph

-- the first places of the queue have the numbers of the set, each once
pub record IsQueueOf (found : List Bool) (queue : List ℕ) (end : ℕ) : Type 0 where
  pub same_length : length queue ≡ length found
  pub counted : end + count_by not found ≡ length found
  pub queued : (k : ℕ) → k < end → has_number found (slice_index queue k) ≡ true
  pub all : (n : ℕ) → has_number found n ≡ true → (k : ℕ) × (k < end) × (slice_index queue k ≡ n)

-- the set and the queue have the numbers besides, and what they had
pub record Follows (numbers : List ℕ) (found : List Bool) (queue : List ℕ) (end : ℕ) (new_found : List Bool) (new_queue : List ℕ) (new_end : ℕ) : Type 0 where
  pub same_length : length new_found ≡ length found
  pub grows : end ≤ new_end
  pub is_queue : IsQueueOf new_found new_queue new_end
  pub same_queue : (k : ℕ) → k < end → slice_index new_queue k ≡ slice_index queue k
  pub had : (n : ℕ) → has_number found n ≡ true → has_number new_found n ≡ true
  pub has : (n : ℕ) → Contains numbers n → has_number new_found n ≡ true
  pub only : (n : ℕ) → has_number new_found n ≡ true → (has_number found n ≡ true) ⊎ Contains numbers n
