-- A graph with the edges of another, and its cycles.
use Rattle.std.proofs.Common.{◌≡◌, ◌∙◌, ℕ, ◌+◌, ◌<◌, ◌≤◌, Bool, true, false, List, [], ◌∷◌, ◌++◌, length, take, get_or, replicate, None, refl, sym, subst, arith, inl, inr, ◌⊎◌}
use Rattle.std.specs.List.{Contains}
use Rattle.std.proofs.lemmas.Bool.{cases_eq, cases_lt, both_ways}
use Rattle.std.proofs.lemmas.List.{take_more, take_all, get_or-replicate, get_or_past, length-replicate}
use Rattle.std.proofs.lemmas.List.Elements.{Contains-push_cases, Contains-append_left, Contains-push, Contains-get_or}
use Rattle.jo_ids.specs.Path.{Path}
use Rattle.jo_ids.proofs.PathLemmas.{path_in}
use Rattle.jo_graph.specs.Graphs.{HasEdge, AddsEdge, IsReach}
use Rattle.jo_ids.specs.Rows.{has_number}
use Rattle.jo_prog.specs.Walks.{Leads}
use Rattle.jo_prog.proofs.WalkLemmas.{none_there}
use Rattle.hierarchy.specs.Orders.{edges}
use Rattle.hierarchy.specs.Cycles.{AddsEdges, HasEdgesOf, LeadsTo, IsOnCycle, IsFirstOnCycle}
use Rattle.hierarchy.proofs.OrderLemmas.{from_inside}

-- ---- edges that are added

pub adds_none : (made : List (List ℕ)) (number : ℕ) → AddsEdges made made number []
adds_none made number = record { same_length = refl; edge = λ x y. (λ e. inl e, λ either. elim either [ inl e ↦ e | inr both ↦ absurd (none_there y both.1) ]) }

pub adds_more : (old new newer : List (List ℕ)) (number b : ℕ) (next : List ℕ) → AddsEdges old new number next → AddsEdge new newer number b
    → AddsEdges old newer number (next ++ b ∷ [])
adds_more old new newer number b next before one = record { same_length = one.same_length ∙ before.same_length; edge = λ x y. (there x y, back x y) }
  where
    there : (x y : ℕ) → HasEdge newer x y → HasEdge old x y ⊎ ((x ≡ number) × Contains (next ++ b ∷ []) y)
    there x y e = elim ((one.edges x y).0 e) [
      | inl had ↦ elim ((before.edge x y).0 had) [
        | inl first ↦ inl first
        | inr both ↦ inr (both.0, Contains-append_left next (b ∷ []) y both.1)
      ]
      | inr last ↦ inr (last.0, subst (λ z. Contains (next ++ b ∷ []) z) (sym last.1) (Contains-push next b))
    ]

    back : (x y : ℕ) → HasEdge old x y ⊎ ((x ≡ number) × Contains (next ++ b ∷ []) y) → HasEdge newer x y
    back x y (inl first) = (one.edges x y).1 (inl ((before.edge x y).1 (inl first)))
    back x y (inr both) = elim (Contains-push_cases next b y both.1) [
      | inl among ↦ (one.edges x y).1 (inl ((before.edge x y).1 (inr (both.0, among))))
      | inr last ↦ (one.edges x y).1 (inr (both.0, sym last))
    ]

pub no_edges : (graph : List (List ℕ)) → HasEdgesOf graph (replicate (length graph) []) 0
no_edges graph = record {
  same_length = length-replicate (length graph) [];
  edge = λ x y. (λ e. absurd (none_there y (subst (λ ys. Contains ys y) (empty x) e)), λ both. absurd (omega (arith, both.0)));
}
  where
    empty : (x : ℕ) → get_or (replicate {A = List ℕ} (length graph) []) x [] ≡ []
    empty x = elim (cases_lt x (length graph)) [
      | inl below ↦ get_or-replicate (length graph) x [] [] below
      | inr past ↦ get_or_past (replicate (length graph) []) x [] (omega (arith, past, length-replicate {A = List ℕ} (length graph) []))
    ]

pub edges_more : (graph made new : List (List ℕ)) (number : ℕ) → HasEdgesOf graph made number → AddsEdges made new number (edges graph number) → HasEdgesOf graph new (number + 1)
edges_more graph made new number before adds = record { same_length = adds.same_length ∙ before.same_length; edge = λ x y. (there x y, back x y) }
  where
    there : (x y : ℕ) → HasEdge new x y → (x < number + 1) × Leads (edges graph) x y
    there x y e = elim ((adds.edge x y).0 e) [
      | inl had ↦ let both = (before.edge x y).0 had in (omega (arith, both.0), both.1)
      | inr both ↦ (omega (arith, both.0), subst (λ z. Leads (edges graph) z y) (sym both.0) both.1)
    ]

    back : (x y : ℕ) → (x < number + 1) × Leads (edges graph) x y → HasEdge new x y
    back x y both = elim (cases_eq x number) [
      | inl same ↦ (adds.edge x y).1 (inr (same, subst (λ z. Leads (edges graph) z y) same both.1))
      | inr other ↦ (adds.edge x y).1 (inl ((before.edge x y).1 (omega (arith, both.0, other), both.1)))
    ]

-- ---- cycles

module _ (graph made : List (List ℕ)) (same : HasEdgesOf graph made (length graph)) where
  pub is_on_cycle : (a : ℕ) → LeadsTo made (edges graph a) a → IsOnCycle graph a
  is_on_cycle a (p, among, way) = (p, among, path_in (λ k. k) (λ x y e. ((same.edge x y).0 e).1) way)

  pub leads_back : (a : ℕ) → IsOnCycle graph a → LeadsTo made (edges graph a) a
  leads_back a (p, among, way) = (p, among, path_in (λ k. k) (λ x y e. (same.edge x y).1 (from_inside graph x y e, e)) way)

pub none_on_cycle : (graph : List (List ℕ)) (count : ℕ) → length graph ≤ count → ((k : ℕ) → k < count → IsOnCycle graph k → ⊥) → IsFirstOnCycle graph None
none_on_cycle graph count all none = λ a cycle. none a (let below = from_inside graph a cycle.0 cycle.1 in omega (arith, below, all)) cycle

-- ---- a search from each parent

pub no_way_yet : (made : List (List ℕ)) (a : ℕ) → LeadsTo made [] a → ⊥
no_way_yet made a (p, among, way) = none_there p among

pub no_way_more : (made : List (List ℕ)) (parents : List ℕ) (i a : ℕ) (found : List Bool) → i < length parents → (LeadsTo made (take i parents) a → ⊥)
    → IsReach made (get_or parents i 0) found → has_number found a ≡ false → LeadsTo made (take (i + 1) parents) a → ⊥
no_way_more made parents i a found below none reach absent (p, among, way) =
    elim (Contains-push_cases (take i parents) (get_or parents i 0) p (subst (λ ys. Contains ys p) (take_more parents i 0 below) among)) [
      | inl before ↦ none (p, before, way)
      | inr last ↦ both_ways (has_number found a) absent ((reach.each a).1 (subst (λ q. Path (HasEdge made) q a) (sym last) way))
    ]

pub no_way : (made : List (List ℕ)) (parents : List ℕ) (i a : ℕ) → length parents ≤ i → (LeadsTo made (take i parents) a → ⊥) → LeadsTo made parents a → ⊥
no_way made parents i a all none lead = none (subst (λ ys. LeadsTo made ys a) (sym (take_all i parents all)) lead)

pub way_found : (made : List (List ℕ)) (parents : List ℕ) (i a : ℕ) (found : List Bool) → i < length parents → IsReach made (get_or parents i 0) found → has_number found a ≡ true
    → LeadsTo made parents a
way_found made parents i a found below reach present = (get_or parents i 0, Contains-get_or parents i 0 below, (reach.each a).0 present)
