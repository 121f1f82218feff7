-- How the uses of definitions are found.
use Rattle.std.proofs.Common.{◌≡◌, ◌⊎◌, inl, inr, ◌↔◌, ℕ, ◌+◌, ◌<◌, ◌≤◌, Bool, true, false, IsTrue, List, [], ◌∷◌, ◌++◌, Option, Some, None, length, get_or, take, slice_get, option_map, Contains, refl, sym, ap, ◌∙◌, subst, arith}
use Rattle.std.proofs.lemmas.Bool.{cases_eq, both_ways}
use Rattle.std.proofs.lemmas.List.{take_all}
use Rattle.std.proofs.lemmas.Option.{slice_get-get_or, get_or_from_slice_get}
use Rattle.jo_ids.specs.Rows.{has_number}
use Rattle.dep_nodes.specs.OnceLists.{IsOnceEach}
use Rattle.dependence.specs.declared.flow.Place.{Place}
use Rattle.dependence.specs.declared.flows.FlowRow.{FlowRow}
use Rattle.dependence.specs.declared.flows.Use.{Use}
use Rattle.dependence.specs.FlowData.{ReadsIn, WritesIn, ReachesIn, IsUse, AreUses}
use Rattle.dependence.specs.Listed.{AddsExactly}
use Rattle.dependence.specs.Behind.{AreBehind}
use Rattle.dependence.proofs.BehindLemmas.{writes_are, read_inside, write_inside, reaches_behind, behind_reaches, reaches_writes}
use Rattle.dependence.proofs.ListedLemmas.{adds_none, adds_alike, adds_one, adds_more, lists_exactly, taken_more, taken_once}
use Rattle.reach_defs.specs.Uses.{IsReader, IsUseOf, IsUseFrom, AddsUsesOf, AddsUsesFrom}

abbrev pub use_of : ℕ → Place → ℕ → Use
use_of node place from = record { node = node; place = place; from = from }

-- ---- what tests say

pub is_there : (flow : List FlowRow) (found : List Bool) (n : ℕ) (place : Place) (b : Bool) → IsTrue b ↔ IsReader flow found n place → b ≡ true → IsReader flow found n place
is_there flow found n place b told yes_case = told.0 yes_case

pub is_absent : (flow : List FlowRow) (found : List Bool) (n : ℕ) (place : Place) (b : Bool) → IsTrue b ↔ IsReader flow found n place → b ≡ false → IsReader flow found n place → ⊥
is_absent flow found n place b told no_case is = both_ways b no_case (told.1 is)

-- an item is there, whatever stands for one that isn't
pub item_is : {A : Type 0} (xs : List A) (i : ℕ) (other : A) → i < length xs → get_or xs i other ≡ get_or xs i (get_or xs i other)
item_is xs i other below = sym (get_or_from_slice_get xs i (get_or xs i other) (get_or xs i other) (slice_get-get_or xs i other below))

-- the place of an item is written
pub written_here : (flow : List FlowRow) (d : ℕ) (places : List Place) (i : ℕ) (place : Place) → option_map (λ row. row.writes) (slice_get flow d) ≡ Some places → i < length places → place ≡ get_or places i place → WritesIn flow d place
written_here flow d places i place is below at = (writes_are flow d places is place).0 (i, below, sym at)

-- ---- the uses of one definition

-- those at nodes below a number
abbrev pub IsUseTo : List FlowRow → ℕ → Place → ℕ → Use → Type 0
IsUseTo flow d place n u = (u.from ≡ d) × (u.place ≡ place) × (u.node < n) × IsUse flow u

pub uses_first : (flow : List FlowRow) (d : ℕ) (place : Place) (uses : List Use) → AddsExactly (IsUseTo flow d place 0) uses uses
uses_first flow d place uses = adds_none (IsUseTo flow d place 0) uses (λ u is. omega (arith, is.2))

module _ (flow : List FlowRow) (d : ℕ) (place : Place) (found : List Bool) (writes : WritesIn flow d place) (behind : AreBehind flow (Some place) d found) where
  use_here : (n : ℕ) → IsReader flow found n place → IsUse flow (use_of n place d)
  use_here n reader = (reader.1, behind_reaches place d n writes ((behind.each n).0 reader.0))

  reader_here : (u : Use) → u.from ≡ d → u.place ≡ place → IsUse flow u → IsReader flow found u.node place
  reader_here u from at is =
      let reaches : ReachesIn flow place d u.node = subst (λ v. ReachesIn flow v d u.node) at (subst (λ k. ReachesIn flow u.place k u.node) from is.1) in
      ((behind.each u.node).1 (reaches_behind place d u.node reaches), subst (λ v. ReadsIn flow u.node v) at is.0)

  module _ (n : ℕ) (old uses : List Use) (before : AddsExactly (IsUseTo flow d place n) old uses) where
    pub use_added : (new : List Use) → IsReader flow found n place → new ≡ uses ++ use_of n place d ∷ [] → AddsExactly (IsUseTo flow d place (n + 1)) old new
    use_added new reader made = adds_more (IsUseTo flow d place n) (λ u. u ≡ use_of n place d) (IsUseTo flow d place (n + 1)) old uses new before (adds_one uses new (use_of n place d) made) apart (λ u. (there u, back u))
      where
        apart : (u : Use) → IsUseTo flow d place n u → u ≡ use_of n place d → ⊥
        apart u is e = let same : u.node ≡ n = ap (λ (x : Use). x.node) e in omega (arith, same, is.2)

        there : (u : Use) → IsUseTo flow d place (n + 1) u → IsUseTo flow d place n u ⊎ (u ≡ use_of n place d)
        there u is = elim (cases_eq u.node n) [
          | inl e ↦ inr (ap (λ k. use_of k u.place u.from) e ∙ ap (λ v. use_of n v u.from) is.1 ∙ ap (λ k. use_of n place k) is.0)
          | inr other ↦ inl (is.0, is.1, omega (arith, is.2, other), is.3)
        ]

        back : (u : Use) → IsUseTo flow d place n u ⊎ (u ≡ use_of n place d) → IsUseTo flow d place (n + 1) u
        back u (inl is) = (is.0, is.1, omega (arith, is.2), is.3)
        back u (inr e) =
            let from : u.from ≡ d = ap (λ (x : Use). x.from) e in
            let at : u.place ≡ place = ap (λ (x : Use). x.place) e in
            let node : u.node ≡ n = ap (λ (x : Use). x.node) e in
            (from, at, omega (arith, node), subst (IsUse flow) (sym e) (use_here n reader))

    pub use_skipped : (IsReader flow found n place → ⊥) → AddsExactly (IsUseTo flow d place (n + 1)) old uses
    use_skipped none = adds_alike (IsUseTo flow d place n) (IsUseTo flow d place (n + 1)) old uses before (λ u. (there u, λ is. (is.0, is.1, omega (arith, is.2), is.3)))
      where
        there : (u : Use) → IsUseTo flow d place (n + 1) u → IsUseTo flow d place n u
        there u is = elim (cases_eq u.node n) [
          | inl e ↦ absurd (none (subst (λ k. IsReader flow found k place) e (reader_here u is.0 is.1 is.3)))
          | inr other ↦ (is.0, is.1, omega (arith, is.2, other), is.3)
        ]

  pub uses_all : (n : ℕ) (old uses : List Use) → length flow ≤ n → AddsExactly (IsUseTo flow d place n) old uses → AddsUsesOf flow d place old uses
  uses_all n old uses past before = adds_alike (IsUseTo flow d place n) (IsUseOf flow d place) old uses before (λ u. (there u, λ is. (is.0, is.1, is.3)))
    where
      there : (u : Use) → IsUseOf flow d place u → IsUseTo flow d place n u
      there u is = (is.0, is.1, omega (arith, read_inside flow u.node u.place is.2.0, past), is.2)

-- ---- the uses of the definitions at one node

-- those of the first places
abbrev pub IsUseAmong : List FlowRow → ℕ → List Place → Use → Type 0
IsUseAmong flow d places u = (u.from ≡ d) × Contains places u.place × IsUse flow u

pub among_first : (flow : List FlowRow) (d : ℕ) (uses : List Use) → AddsExactly (IsUseAmong flow d []) uses uses
among_first flow d uses = adds_none (IsUseAmong flow d []) uses (λ u is. omega (arith, is.1.1))

pub among_more : (flow : List FlowRow) (d : ℕ) (places : List Place) (i : ℕ) (place : Place) (old uses new : List Use) → IsOnceEach places → i < length places → place ≡ get_or places i place
    → AddsExactly (IsUseAmong flow d (take i places)) old uses → AddsUsesOf flow d place uses new → AddsExactly (IsUseAmong flow d (take (i + 1) places)) old new
among_more flow d places i place old uses new once below is before more = adds_more (IsUseAmong flow d (take i places)) (IsUseOf flow d place) (IsUseAmong flow d (take (i + 1) places)) old uses new before more apart (λ u. (there u, back u))
  where
    apart : (u : Use) → IsUseAmong flow d (take i places) u → IsUseOf flow d place u → ⊥
    apart u among of = taken_once places i place once below is (subst (λ v. Contains (take i places) v) of.1 among.1)

    there : (u : Use) → IsUseAmong flow d (take (i + 1) places) u → IsUseAmong flow d (take i places) u ⊎ IsUseOf flow d place u
    there u among = elim ((taken_more places i place u.place below is).0 among.1) [
      | inl first ↦ inl (among.0, first, among.2)
      | inr last ↦ inr (among.0, last, among.2)
    ]

    back : (u : Use) → IsUseAmong flow d (take i places) u ⊎ IsUseOf flow d place u → IsUseAmong flow d (take (i + 1) places) u
    back u (inl among) = (among.0, (taken_more places i place u.place below is).1 (inl among.1), among.2)
    back u (inr of) = (of.0, (taken_more places i place u.place below is).1 (inr of.1), of.2)

pub among_all : (flow : List FlowRow) (d : ℕ) (places : List Place) (i : ℕ) (old uses : List Use) → option_map (λ row. row.writes) (slice_get flow d) ≡ Some places → length places ≤ i
    → AddsExactly (IsUseAmong flow d (take i places)) old uses → AddsUsesFrom flow d old uses
among_all flow d places i old uses writes past before = adds_alike (IsUseAmong flow d (take i places)) (IsUseFrom flow d) old uses before (λ u. (there u, λ among. (among.0, among.2)))
  where
    there : (u : Use) → IsUseFrom flow d u → IsUseAmong flow d (take i places) u
    there u is =
        let at : WritesIn flow d u.place = subst (λ k. WritesIn flow k u.place) is.0 (reaches_writes u.place u.from u.node is.1.1) in
        (is.0, subst (λ vs. Contains vs u.place) (sym (take_all i places past)) ((writes_are flow d places writes u.place).1 at), is.1)

-- ---- all uses

-- those of definitions at nodes below a number
abbrev pub IsUseBelow : List FlowRow → ℕ → Use → Type 0
IsUseBelow flow d u = (u.from < d) × IsUse flow u

pub below_first : (flow : List FlowRow) → AddsExactly (IsUseBelow flow 0) [] []
below_first flow = adds_none (IsUseBelow flow 0) [] (λ u is. omega (arith, is.0))

pub below_more : (flow : List FlowRow) (d : ℕ) (uses new : List Use) → AddsExactly (IsUseBelow flow d) [] uses → AddsUsesFrom flow d uses new → AddsExactly (IsUseBelow flow (d + 1)) [] new
below_more flow d uses new before more = adds_more (IsUseBelow flow d) (IsUseFrom flow d) (IsUseBelow flow (d + 1)) [] uses new before more (λ u is from. omega (arith, is.0, from.0)) (λ u. (there u, back u))
  where
    there : (u : Use) → IsUseBelow flow (d + 1) u → IsUseBelow flow d u ⊎ IsUseFrom flow d u
    there u is = elim (cases_eq u.from d) [
      | inl e ↦ inr (e, is.1)
      | inr other ↦ inl (omega (arith, is.0, other), is.1)
    ]

    back : (u : Use) → IsUseBelow flow d u ⊎ IsUseFrom flow d u → IsUseBelow flow (d + 1) u
    back u (inl is) = (omega (arith, is.0), is.1)
    back u (inr from) = (omega (arith, from.0), from.1)

pub are_uses : (flow : List FlowRow) (d : ℕ) (uses : List Use) → length flow ≤ d → AddsExactly (IsUseBelow flow d) [] uses → AreUses flow uses
are_uses flow d uses past before =
    lists_exactly (IsUse flow) uses
    (adds_alike (IsUseBelow flow d) (IsUse flow) [] uses before (λ u. (λ is. (omega (arith, write_inside flow u.from u.place (reaches_writes u.place u.from u.node is.1), past), is), λ is. is.1)))
