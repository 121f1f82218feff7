-- Ways to the first node of a set, and sets that are closed under control dependence (this project's own).
use Rattle.std.specs.Prelude.{◌≡◌}
use Rattle.dependence.specs.Dependence.{Controls}

-- the set has, with each of its nodes, all that control it, and no exit
pub record IsClosed {N : Type 0} (E : N → N → Type 0) (IsExit S : N → Type 0) : Type 0 where
  pub controllers : (b n : N) → S n → Controls E IsExit b n → S b
  pub no_exit : (n : N) → S n → IsExit n → ⊥

-- a path to a node of the set, with none of its nodes before
pub data Way {N : Type 0} (E : N → N → Type 0) (S : N → Type 0) : N → N → Type 0 where
  here : (n : N) → S n → Way E S n n
  on : (x y n : N) → (S x → ⊥) → E x y → Way E S y n → Way E S x n

-- each node before the end has no successor but the next one
abbrev pub HasOneSuccessorEach : {N : Type 0} (E : N → N → Type 0) (S : N → Type 0) (x n : N) → Way E S x n → Type 0
HasOneSuccessorEach E S _ _ (here n chosen) = Unit {0}
HasOneSuccessorEach {N} E S _ _ (on x y n free edge way) = ((z : N) → E x z → z ≡ y) × HasOneSuccessorEach E S y n way

-- a path to an exit that has no node of the set
pub data WayOut {N : Type 0} (E : N → N → Type 0) (IsExit S : N → Type 0) : N → N → Type 0 where
  out : (n : N) → IsExit n → (S n → ⊥) → WayOut E IsExit S n n
  past : (x y n : N) → (S x → ⊥) → E x y → WayOut E IsExit S y n → WayOut E IsExit S x n
