-- Data dependence and control dependence by paths, over any type of nodes. Reaching definitions are standard; control
-- dependence is this project's own: a node with two different successors controls each node but an exit to which a path of
-- at least one edge leads from it.
use Rattle.std.specs.Prelude.{◌≢◌}
use Rattle.dependence.specs.declared.flow.Place.{Place}
use Rattle.jo_ids.specs.Path.{Path}

-- The definition of a place at node d arrives at a node: there is a path of at least one edge, with no writer of the
-- place strictly between. It grows at its end.
pub data Reaches {N : Type 0} (E : N → N → Type 0) (W : N → Place → Type 0) (v : Place) (d : N) : N → Type 0 where
  one : (n : N) → E d n → W d v → Reaches E W v d n
  more : (x n : N) → Reaches E W v d x → (W x v → ⊥) → E x n → Reaches E W v d n

-- node b controls node n
pub record Controls {N : Type 0} (E : N → N → Type 0) (IsExit : N → Type 0) (b n : N) : Type 0 where
  pub one : N
  pub other : N
  pub to_one : E b one
  pub to_other : E b other
  pub differ : one ≢ other
  pub first : N
  pub leads : E b first
  pub path : Path E first n
  pub no_exit : IsExit n → ⊥
