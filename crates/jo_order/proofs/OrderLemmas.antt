-- Faults of names and pairs, and the order that they give.
use Rattle.std.proofs.Common.{◌≡◌, ℕ, ◌+◌, ◌<◌, ◌≤◌, true, List, length, take, Contains, slice_get, Some, length-take, refl, sym, ◌∙◌, ap, subst, arith, inl, inr}
use Rattle.std.proofs.lemmas.Bool.{cases_eq, cases_lt, cases_order}
use Rattle.std.proofs.lemmas.List.{get_or-take}
use Rattle.std.proofs.lemmas.Option.{slice_get-get_or, get_or_from_slice_get}
use Rattle.jo_ids.specs.Closure.{Closure}
use Rattle.jo_ids.proofs.PathLemmas.{path_on}
use Rattle.jo_order.specs.declared.OrderFault.{OrderFault}
use Rattle.jo_order.specs.declared.OrderFault.TheVariants.{TwiceNamed, TooMany, Unknown, Cycle, Memory}
use Rattle.jo_order.specs.LevelRows.{row_has, row_flows, AreMutual, IsOrder}
use Rattle.jo_order.specs.Orders.{IsLeast, IsRepeated, IsCycle, IsFirstCycle, GiveOrder, OrderFaultOf}
use Rattle.jo_order.specs.Closing.{IsClosed, IsFirstMutual}
use Rattle.jo_order.proofs.RowsLemmas.{row_flows-has, row_flows-cases}

-- ---- what a loop has passed

-- one place more holds no such fact
pub none_more : (P : ℕ → Type 0) (i : ℕ) → ((k : ℕ) → k < i → P k → ⊥) → (P i → ⊥) → (k : ℕ) → k < i + 1 → P k → ⊥
none_more P i before here k h p = elim (cases_eq k i) [
  | inl e ↦ here (subst P e p)
  | inr n ↦ before k (omega (arith, h, n)) p
]

pub least_after : (P : ℕ → Type 0) (i : ℕ) → ((k : ℕ) → k < i → P k → ⊥) → P i → IsLeast P i
least_after P i before here = record { holds = here; least = least }
  where
    least : (m : ℕ) → P m → i ≤ m
    least m p = elim (cases_lt m i) [ inl h ↦ absurd (before m h p) | inr h ↦ h ]

-- a name among those before a place is repeated there, and the other way round
pub is_repeated : (names : List (List ℕ)) (place : ℕ) (name : List ℕ) → place < length names → slice_get names place ≡ Some name
    → Contains (take place names) name → IsRepeated names place
is_repeated names place name within there among = record { inside = within; earlier = (among.0, below, same) }
  where
    below : among.0 < place
    below = omega (arith, among.1, simp length-take at (among.1))

    same : slice_get names among.0 ≡ slice_get names place
    same = slice_get-get_or names among.0 name (omega (arith, below, within)) ∙ ap (λ n. Some n) (sym (get_or-take place names among.0 name below) ∙ among.2) ∙ sym there

pub not_repeated : (names : List (List ℕ)) (place : ℕ) (name : List ℕ) → slice_get names place ≡ Some name
    → (Contains (take place names) name → ⊥) → IsRepeated names place → ⊥
not_repeated names place name there lacks repeated =
    lacks (repeated.earlier.0, within, get_or-take place names repeated.earlier.0 name repeated.earlier.1 ∙ get_or_from_slice_get names repeated.earlier.0 name name (repeated.earlier.2 ∙ there))
  where
    within : repeated.earlier.0 < length (take place names)
    within = simp length-take (omega (arith, repeated.earlier.1, repeated.inside))

-- ---- cycles are mutual rows

module _ (pairs : List (ℕ × ℕ)) (rows : List ℕ) (closed : IsClosed pairs rows) where
  has_from : (a b : ℕ) → (a ≡ b → ⊥) → Closure pairs a b → row_has rows a b ≡ true
  has_from a b n path = elim (row_flows-cases rows a b ((closed a b).1 path)) [ inl e ↦ absurd (n e) | inr has ↦ has ]

  pub mutual_from : (a b : ℕ) → IsCycle pairs a b → AreMutual rows a b
  mutual_from a b c = record {
    below = c.below;
    up = has_from a b (λ e. omega (arith, e, c.below)) c.up;
    down = has_from b a (λ e. omega (arith, e, c.below)) c.down;
  }

  cycle_from : (a b : ℕ) → AreMutual rows a b → IsCycle pairs a b
  cycle_from a b m = record {
    below = m.below;
    up = (closed a b).0 (row_flows-has rows a b m.up);
    down = (closed b a).0 (row_flows-has rows b a m.down);
  }

  pub first_cycle : (a b : ℕ) → IsFirstMutual rows a b → IsFirstCycle pairs a b
  first_cycle a b m = record { cycle = cycle_from a b m.both; first = λ c d cycle. m.first c d (mutual_from c d cycle) }

  pub no_cycles : ((a b : ℕ) → AreMutual rows a b → ⊥) → (a b : ℕ) → IsCycle pairs a b → ⊥
  no_cycles none a b cycle = none a b (mutual_from a b cycle)

  pub is_order : ((a b : ℕ) → AreMutual rows a b → ⊥) → IsOrder rows
  is_order none = record {
    transitive = λ a b c h k. (closed a c).1 (path_on ((closed a b).0 h) ((closed b c).0 k));
    antisymmetric = antisymmetric;
  }
    where
      antisymmetric : (a b : ℕ) → row_flows rows a b ≡ true → row_flows rows b a ≡ true → a ≡ b
      antisymmetric a b h k = elim (cases_order a b) [
        | inl e ↦ e
        | inr other ↦ elim other [
          | inl below ↦ absurd (no_cycles none a b (record { below = below; up = (closed a b).0 h; down = (closed b a).0 k }))
          | inr above ↦ absurd (no_cycles none b a (record { below = above; up = (closed b a).0 k; down = (closed a b).0 h }))
        ]
      ]

-- ---- one fault

least_same : {P : ℕ → Type 0} {a b : ℕ} → IsLeast P a → IsLeast P b → a ≡ b
least_same {a = a} {b = b} l k = let p = l.least b k.holds in let q = k.least a l.holds in omega arith

first_same : {pairs : List (ℕ × ℕ)} {a b c d : ℕ} → IsFirstCycle pairs a b → IsFirstCycle pairs c d → (a ≡ c) × (b ≡ d)
first_same {a = a} {b = b} {c = c} {d = d} f g = elim (f.first c d g.cycle) [
  | inl h ↦ elim (g.first a b f.cycle) [ inl k ↦ absurd (omega (arith, h, k)) | inr k ↦ absurd (omega (arith, h, k.0)) ]
  | inr h ↦ elim (g.first a b f.cycle) [ inl k ↦ absurd (omega (arith, h.0, k)) | inr k ↦ (h.0, omega (arith, h.1, k.1)) ]
]

module _ (names : List (List ℕ)) (pairs : List (ℕ × ℕ)) where
  pub one_fault : (f g : OrderFault) → OrderFaultOf names pairs f → OrderFaultOf names pairs g → f ≡ g
  one_fault (TwiceNamed i) (TwiceNamed j) h k = ap TwiceNamed (least_same h k)
  one_fault (TwiceNamed i) TooMany h k = absurd (k.0 i h.holds)
  one_fault (TwiceNamed i) (Unknown j) h k = absurd (k.0 i h.holds)
  one_fault (TwiceNamed i) (Cycle a b) h k = absurd (k.0 i h.holds)
  one_fault TooMany (TwiceNamed j) h k = absurd (h.0 j k.holds)
  one_fault TooMany TooMany h k = refl
  one_fault TooMany (Unknown j) h k = absurd (omega (arith, h.1, k.1))
  one_fault TooMany (Cycle a b) h k = absurd (omega (arith, h.1, k.1))
  one_fault (Unknown i) (TwiceNamed j) h k = absurd (h.0 j k.holds)
  one_fault (Unknown i) TooMany h k = absurd (omega (arith, h.1, k.1))
  one_fault (Unknown i) (Unknown j) h k = ap Unknown (least_same h.2 k.2)
  one_fault (Unknown i) (Cycle a b) h k = absurd (k.2 i h.2.holds)
  one_fault (Cycle a b) (TwiceNamed j) h k = absurd (h.0 j k.holds)
  one_fault (Cycle a b) TooMany h k = absurd (omega (arith, h.1, k.1))
  one_fault (Cycle a b) (Unknown j) h k = absurd (h.2 j k.2.holds)
  one_fault (Cycle a b) (Cycle c d) h k = let e = first_same h.3 k.3 in same_cycle e.0 e.1
    where
      same_cycle : {a b c d : ℕ} → a ≡ c → b ≡ d → Cycle a b ≡ Cycle c d
      same_cycle e f = cc
  one_fault Memory g h k = absurd h
  one_fault (TwiceNamed i) Memory h k = absurd k
  one_fault TooMany Memory h k = absurd k
  one_fault (Unknown i) Memory h k = absurd k
  one_fault (Cycle a b) Memory h k = absurd k

  pub no_fault : (f : OrderFault) → GiveOrder names pairs → OrderFaultOf names pairs f → ⊥
  no_fault (TwiceNamed i) gives h = gives.distinct i h.holds
  no_fault TooMany gives h = omega (arith, gives.few, h.1)
  no_fault (Unknown i) gives h = gives.known i h.2.holds
  no_fault (Cycle a b) gives h = gives.no_cycle a b h.3.cycle
  no_fault Memory gives h = h
