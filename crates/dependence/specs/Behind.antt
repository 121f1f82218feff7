-- What a search of a flow graph finds behind a node: all to which a path of at least one edge leads, with no node strictly
-- between at which the search stops (this project's own). Both kinds of dependence are found by it.
use Rattle.std.specs.Prelude.{◌≡◌, ◌↔◌, ℕ, Bool, true, List, Option, Some, None, length, Contains}
use Rattle.jo_ids.specs.Rows.{has_number}
use Rattle.jo_graph.specs.Queues.{IsQueueOf, Follows}
use Rattle.dependence.specs.declared.flow.Place.{Place}
use Rattle.dependence.specs.declared.flows.FlowRow.{FlowRow}
use Rattle.dependence.specs.FlowData.{EdgeIn, WritesIn}

-- the path grows at its end
pub data Behind {N : Type 0} (E : N → N → Type 0) (Stops : N → Type 0) (d : N) : N → Type 0 where
  one : (n : N) → E d n → Behind E Stops d n
  more : (x n : N) → Behind E Stops d x → (Stops x → ⊥) → E x n → Behind E Stops d n

-- the search stops at the writers of the place, or nowhere
abbrev pub StopsIn : List FlowRow → Option Place → ℕ → Type 0
StopsIn flow None n = ⊥
StopsIn flow (Some v) n = WritesIn flow n v

abbrev pub BehindIn : List FlowRow → Option Place → ℕ → ℕ → Type 0
BehindIn flow stop start n = Behind (EdgeIn flow) (StopsIn flow stop) start n

-- exactly the nodes behind the start
pub record AreBehind (flow : List FlowRow) (stop : Option Place) (start : ℕ) (found : List Bool) : Type 0 where
  pub same_length : length found ≡ length flow
  pub each : (n : ℕ) → (has_number found n ≡ true) ↔ BehindIn flow stop start n

-- where the search goes on from a node
abbrev pub AreNext : List FlowRow → Option Place → ℕ → List ℕ → Type 0
AreNext flow stop node numbers = (b : ℕ) → Contains numbers b ↔ (EdgeIn flow node b × (StopsIn flow stop node → ⊥))

-- the set and the queue have what the search goes on to besides
pub record FollowsOn (flow : List FlowRow) (stop : Option Place) (node : ℕ) (found : List Bool) (queue : List ℕ) (end : ℕ) (new_found : List Bool) (new_queue : List ℕ) (new_end : ℕ) : Type 0 where
  pub numbers : List ℕ
  pub next : AreNext flow stop node numbers
  pub follows : Follows numbers found queue end new_found new_queue new_end

-- the set and the queue have exactly what follows the start
pub record BeginsBehind (flow : List FlowRow) (start : ℕ) (found : List Bool) (queue : List ℕ) (end : ℕ) : Type 0 where
  pub same_length : length found ≡ length flow
  pub is_queue : IsQueueOf found queue end
  pub each : (n : ℕ) → (has_number found n ≡ true) ↔ EdgeIn flow start n
