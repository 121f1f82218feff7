-- Levels that are put in order by pairs, and what is wrong with names and pairs that give no order (this project's own).
use Rattle.std.specs.Prelude.{◌≡◌, ◌⊎◌, ℕ, ◌<◌, ◌≤◌, List, length, Some, slice_get}
use Rattle.jo_ids.specs.Closure.{Closure}
use Rattle.jo_order.specs.declared.OrderFault.{OrderFault}
use Rattle.jo_order.specs.declared.OrderFault.TheVariants.{TwiceNamed, TooMany, Unknown, Cycle, Memory}

-- the number is the least of those of which the fact holds
pub record IsLeast (P : ℕ → Type 0) (n : ℕ) : Type 0 where
  pub holds : P n
  pub least : (m : ℕ) → P m → n ≤ m

-- the name at that place stands at an earlier one, too
pub record IsRepeated (names : List (List ℕ)) (place : ℕ) : Type 0 where
  pub inside : place < length names
  pub earlier : (first : ℕ) × (first < place) × (slice_get names first ≡ slice_get names place)

-- the pair at that place has a number that is no level's
pub record IsUnknown (count : ℕ) (pairs : List (ℕ × ℕ)) (place : ℕ) : Type 0 where
  pub pair : ℕ × ℕ
  pub there : slice_get pairs place ≡ Some pair
  pub past : (count ≤ pair.0) ⊎ (count ≤ pair.1)

-- two levels flow to each other, the first below the second in number
pub record IsCycle (pairs : List (ℕ × ℕ)) (a b : ℕ) : Type 0 where
  pub below : a < b
  pub up : Closure pairs a b
  pub down : Closure pairs b a

-- of the cycles the one with the least first and then the least second level
pub record IsFirstCycle (pairs : List (ℕ × ℕ)) (a b : ℕ) : Type 0 where
  pub cycle : IsCycle pairs a b
  pub first : (c d : ℕ) → IsCycle pairs c d → (a < c) ⊎ ((a ≡ c) × (b ≤ d))

-- no name stands twice
abbrev pub AreDistinct : List (List ℕ) → Type 0
AreDistinct names = (place : ℕ) → IsRepeated names place → ⊥

-- each pair is one of two levels
abbrev pub AreKnown : ℕ → List (ℕ × ℕ) → Type 0
AreKnown count pairs = (place : ℕ) → IsUnknown count pairs place → ⊥

-- the names and pairs give an order
pub record GiveOrder (names : List (List ℕ)) (pairs : List (ℕ × ℕ)) : Type 0 where
  pub distinct : AreDistinct names
  pub few : length names ≤ 64
  pub known : AreKnown (length names) pairs
  pub no_cycle : (a b : ℕ) → IsCycle pairs a b → ⊥

-- the fault of names and pairs: nothing that comes before it is wrong with them, and of its kind it is the first
abbrev pub OrderFaultOf : List (List ℕ) → List (ℕ × ℕ) → OrderFault → Type 0
OrderFaultOf names pairs (TwiceNamed place) = IsLeast (IsRepeated names) place
OrderFaultOf names pairs TooMany = AreDistinct names × (64 < length names)
OrderFaultOf names pairs (Unknown place) = AreDistinct names × (length names ≤ 64) × IsLeast (IsUnknown (length names) pairs) place
OrderFaultOf names pairs (Cycle a b) = AreDistinct names × (length names ≤ 64) × AreKnown (length names) pairs × IsFirstCycle pairs a b
OrderFaultOf names pairs Memory = ⊥
