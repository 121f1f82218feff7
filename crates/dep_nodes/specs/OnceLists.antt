-- Lists that hold each item once, and the table that finds the place of an item (this project's own): items with one slot
-- are chained, the last first, as in hashing with separate chains (Knuth, The Art of Computer Programming 3, 6.4).
use Rattle.std.specs.Prelude.{◌≡◌, ◌⊎◌, ℕ, zero, suc, ◌*◌, ◌/◌, ◌<◌, ◌≤◌, List, map, length, Some, slice_get, slice_index, if◌then◌else◌, nat_eq}

-- no item stands twice
abbrev pub IsOnceEach : {A : Type 0} → List A → Type 0
IsOnceEach {A} xs = (i j : ℕ) (x : A) → slice_get xs i ≡ Some x → slice_get xs j ≡ Some x → i ≡ j

-- the slot of a key below 2^32 among that many
abbrev pub slot_of : ℕ → ℕ → ℕ
slot_of slots key = key * slots / 4294967296

-- the slots of items
abbrev pub slots_of : {A : Type 0} → (A → ℕ) → ℕ → List A → List ℕ
slots_of key slots xs = map (λ x. slot_of slots (key x)) xs

-- the last place below a bound at which the number stands, plus one; 0 where there is none
abbrev pub last_place : List ℕ → ℕ → ℕ → ℕ
last_place numbers n zero = zero
last_place numbers n (suc bound) = if nat_eq (slice_index numbers bound) n then suc bound else last_place numbers n bound

-- for each slot the last place of an item with it, and for each place that of the item before with the same slot
pub record IsTable (slots last before : List ℕ) : Type 0 where
  pub room : length slots ≤ length before
  pub last_is : (slot : ℕ) → slot < length last → slice_index last slot ≡ last_place slots slot (length slots)
  pub before_is : (place : ℕ) → place < length slots → slice_index before place ≡ last_place slots (slice_index slots place) place

-- each item stands once, and the table is there or empty
pub record IsOnceList {A : Type 0} (key : A → ℕ) (xs : List A) (last before : List ℕ) : Type 0 where
  pub once : IsOnceEach xs
  pub same : length before ≡ length last
  pub few : length last ≤ 2147483648
  pub table : (length last ≡ 0) ⊎ IsTable (slots_of key (length last) xs) last before
