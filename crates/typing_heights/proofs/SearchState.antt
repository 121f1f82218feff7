-- What a breadth-first search over typing paths knows when so many pcs of its queue are done.
use Rattle.std.proofs.Common.{◌≡◌, ◌⊎◌, ℕ, ◌<◌, false, List, [], ◌∷◌, length, get_or, Option, Some}
use Rattle.jo_prog.specs.declared.program.Program.{Program}
use Rattle.jo_prog.specs.TypingPaths.{Typable, Step, arrives_at, height_of, ends_at, TakesStep, TypingPath}
use Rattle.typing_heights.specs.Searches.{height_at}
use Rattle.typing_heights.proofs.PathOrder.{IsStrictlyBefore, IsNotAfter}

-- the path to a queued pc goes on from one that is done
pub record HasParent (way : ℕ → List Step) (done k : ℕ) : Type 0 where
  pub parent : ℕ
  pub is_done : parent < done
  pub step : Step
  pub is_way : way k ≡ step ∷ way parent

-- a pc of the queue
pub record IsQueued (queue : List ℕ) (pc : ℕ) : Type 0 where
  pub place : ℕ
  pub inside : place < length queue
  pub stands : get_or queue place 0 ≡ pc

pub record Searches (program : Program) (t : Typable) (heights : List (Option ℕ)) (queue : List ℕ) (done : ℕ) : Type 0 where
  -- the first path to each pc of the queue
  pub way : ℕ → List Step
  pub is_path : (k : ℕ) → k < length queue → TypingPath program t (way k)
  pub arrives : (k : ℕ) → k < length queue → arrives_at (way k) ≡ get_or queue k 0
  pub has_height : (k : ℕ) → k < length queue → height_at heights (get_or queue k 0) ≡ Some (height_of program t (way k))
  pub is_queued : (pc h : ℕ) → height_at heights pc ≡ Some h → IsQueued queue pc
  pub begins : 0 < length queue
  pub first_way : way 0 ≡ []
  pub parents : (k : ℕ) → k < length queue → (way k ≡ []) ⊎ HasParent way done k
  pub in_order : (j k : ℕ) → j < k → k < length queue → IsStrictlyBefore (way j) (way k)
  pub least : (k : ℕ) → k < length queue → (r : List Step) → TypingPath program t r → arrives_at r ≡ get_or queue k 0 → IsNotAfter (way k) r
  -- what is done leads to pcs of the queue
  pub closed : (j : ℕ) → j < done → j < length queue → ends_at program t (get_or queue j 0) (height_of program t (way j)) ≡ false
      → (row : Option ℕ) (to : ℕ) → TakesStep t.code (get_or queue j 0) row to → IsQueued queue to
