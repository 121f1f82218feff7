-- Items that stand under keys, each once (this project's own): the keys, and beside each of them the list of its items.
use Rattle.std.specs.Prelude.{◌≡◌, ◌↔◌, ◌⊎◌, ℕ, List, Some, length, Contains, slice_get, IsSomeAnd}
use Rattle.std.specs.List.{AllByRecursion}
use Rattle.dep_nodes.specs.OnceLists.{IsOnceEach}

-- the item stands under the key
pub record HasIn {K V : Type 0} (groups : List K × List (List V)) (k : K) (v : V) : Type 0 where
  pub place : ℕ
  pub key : slice_get groups.0 place ≡ Some k
  pub item : IsSomeAnd (slice_get groups.1 place) (λ items. Contains items v)

-- the new groups have what the old ones have, and an item under a key besides
abbrev pub AddsUnder : {K V : Type 0} → List K × List (List V) → List K × List (List V) → K → V → Type 0
AddsUnder {K} {V} old new key item = (k : K) (v : V) → HasIn new k v ↔ (HasIn old k v ⊎ ((k ≡ key) × (v ≡ item)))

-- each key has its list, and each key and each item of a list stands once
pub record AreGroups {K V : Type 0} (keys : List K) (lists : List (List V)) : Type 0 where
  pub same : length keys ≡ length lists
  pub keys_once : IsOnceEach keys
  pub items_once : AllByRecursion IsOnceEach lists
