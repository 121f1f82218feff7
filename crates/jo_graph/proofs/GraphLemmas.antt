-- Searches in graphs.
use Rattle.std.proofs.Common.{◌≡◌, ℕ, ◌+◌, ◌<◌, ◌≤◌, Bool, true, false, List, [], ◌∷◌, ◌++◌, length, get_or, set, replicate, Contains, sym, ◌∙◌, ap, subst, arith, inl, inr, ◌⊎◌, length-set}
use Rattle.std.proofs.lemmas.Bool.{cases_eq, cases_lt, both_ways}
use Rattle.std.proofs.lemmas.List.{length-replicate, get_or-replicate, get_or-set_same, get_or-set_other, get_or_past, set-get_or}
use Rattle.std.proofs.lemmas.List.Elements.{Contains-append_left, Contains-push, Contains-push_cases}
use Rattle.jo_ids.specs.Path.{Path, stays}
use Rattle.jo_ids.specs.Rows.{has_number}
use Rattle.jo_ids.proofs.PathLemmas.{path_more, kept_along}
use Rattle.jo_graph.specs.Graphs.{HasEdge, AddsEdge, IsReach}
use Rattle.jo_graph.specs.Queues.{LeadsInside, IsQueueOf, Follows}

-- ---- graphs

no_edges : (n a b : ℕ) → HasEdge (replicate n []) a b → ⊥
no_edges n a b edge =
    let none : get_or (replicate n []) a [] ≡ [] = elim (cases_lt a n) [
      | inl h ↦ get_or-replicate {A = List ℕ} n a [] [] h
      | inr h ↦ get_or_past {X = List ℕ} (replicate n []) a [] (omega (arith, length-replicate {A = List ℕ} n []))
    ] in
    let among : Contains {X = ℕ} [] b = subst (λ bs. Contains bs b) none edge in
    omega (arith, among.1)

pub empty_leads_inside : (n : ℕ) → LeadsInside (replicate n [])
empty_leads_inside n a b edge = absurd (no_edges n a b edge)

pub adds_edge : (graph : List (List ℕ)) (a b : ℕ) (bs : List ℕ) → a < length graph → bs ≡ get_or graph a [] ++ b ∷ [] → AddsEdge graph (set graph a bs) a b
adds_edge graph a b bs below e = record { same_length = length-set graph a bs; edges = λ x y. (old x y, new x y) }
  where
    there : get_or (set graph a bs) a [] ≡ get_or graph a [] ++ b ∷ []
    there = get_or-set_same graph a bs [] below ∙ e

    old : (x y : ℕ) → HasEdge (set graph a bs) x y → HasEdge graph x y ⊎ ((x ≡ a) × (y ≡ b))
    old x y edge = elim (cases_eq x a) [
      | inl same ↦
          let among : Contains (get_or graph a [] ++ b ∷ []) y = subst (λ ys. Contains ys y) (ap (λ k. get_or (set graph a bs) k []) same ∙ there) edge in
          elim (Contains-push_cases (get_or graph a []) b y among) [
            | inl before ↦ inl (subst (λ k. HasEdge graph k y) (sym same) before)
            | inr last ↦ inr (same, sym last)
          ]
      | inr other ↦ inl (subst (λ ys. Contains ys y) (get_or-set_other graph a x bs [] other) edge)
    ]

    new : (x y : ℕ) → HasEdge graph x y ⊎ ((x ≡ a) × (y ≡ b)) → HasEdge (set graph a bs) x y
    new x y (inl edge) = elim (cases_eq x a) [
      | inl same ↦
          subst (λ ys. Contains ys y) (sym (ap (λ k. get_or (set graph a bs) k []) same ∙ there))
          (Contains-append_left (get_or graph a []) (b ∷ []) y (subst (λ k. HasEdge graph k y) same edge))
      | inr other ↦ subst (λ ys. Contains ys y) (sym (get_or-set_other graph a x bs [] other)) edge
    ]
    new x y (inr both) =
        subst (λ k. HasEdge (set graph a bs) x k) (sym both.1)
        (subst (λ k. HasEdge (set graph a bs) k b) (sym both.0) (subst (λ ys. Contains ys b) (sym there) (Contains-push (get_or graph a []) b)))

pub still_leads_inside : (old new : List (List ℕ)) (a b : ℕ) → LeadsInside old → b < length old → AddsEdge old new a b → LeadsInside new
still_leads_inside old new a b inside below adds x y edge = elim ((adds.edges x y).0 edge) [
  | inl before ↦ omega (arith, inside x y before, adds.same_length)
  | inr last ↦ omega (arith, last.1, adds.same_length)
]

-- ---- a search

-- the search has followed the edges of the first nodes of the queue
pub record Spreads (graph : List (List ℕ)) (start : ℕ) (found : List Bool) (queue : List ℕ) (done end : ℕ) : Type 0 where
  pub so_far : done ≤ end
  pub same_length : length found ≡ length graph
  pub is_queue : IsQueueOf found queue end
  pub has_start : has_number found start ≡ true
  pub closed : (k b : ℕ) → k < done → HasEdge graph (get_or queue k 0) b → has_number found b ≡ true
  pub sound : (n : ℕ) → has_number found n ≡ true → Path (HasEdge graph) start n

pub spreads_first : (graph : List (List ℕ)) (found : List Bool) (queue : List ℕ) → length queue ≡ length graph → IsQueueOf found queue 1
    → Spreads graph (get_or queue 0 0) found queue 0 1
spreads_first graph found queue e q = record {
  so_far = omega arith;
  same_length = sym q.same_length ∙ e;
  is_queue = q;
  has_start = q.queued 0 (omega arith);
  closed = λ k b h. absurd (omega (arith, h));
  sound = sound;
}
  where
    sound : (n : ℕ) → has_number found n ≡ true → Path (HasEdge graph) (get_or queue 0 0) n
    sound n h =
        let at = q.all n h in
        let first : at.0 ≡ 0 = omega (arith, at.1) in
        subst (λ m. Path (HasEdge graph) (get_or queue 0 0) m) (ap (λ k. get_or queue k 0) (sym first) ∙ at.2) (stays (get_or queue 0 0))

module _ (graph : List (List ℕ)) (start : ℕ) (found : List Bool) (queue : List ℕ) (done end : ℕ) (before : Spreads graph start found queue done end) where
  pub node_inside : done < end → get_or queue done 0 < length graph
  node_inside h = elim (cases_lt (get_or queue done 0) (length graph)) [
    | inl b ↦ b
    | inr past ↦ absurd (both_ways (has_number found (get_or queue done 0)) (get_or_past found (get_or queue done 0) false (omega (arith, before.same_length))) (before.is_queue.queued done h))
  ]

  pub spreads_more : done < end → (new_found : List Bool) (new_queue : List ℕ) (new_end : ℕ)
      → Follows (get_or graph (get_or queue done 0) []) found queue end new_found new_queue new_end → Spreads graph start new_found new_queue (done + 1) new_end
  spreads_more h new_found new_queue new_end f = record {
    so_far = omega (arith, f.grows);
    same_length = f.same_length ∙ before.same_length;
    is_queue = f.is_queue;
    has_start = f.had start before.has_start;
    closed = closed;
    sound = sound;
  }
    where
      closed : (k b : ℕ) → k < done + 1 → HasEdge graph (get_or new_queue k 0) b → has_number new_found b ≡ true
      closed k b below edge =
          let here : HasEdge graph (get_or queue k 0) b = subst (λ a. HasEdge graph a b) (f.same_queue k (omega arith)) edge in
          elim (cases_eq k done) [
            | inl e ↦ f.has b (subst (λ j. HasEdge graph (get_or queue j 0) b) e here)
            | inr ne ↦ f.had b (before.closed k b (omega (arith, below, ne)) here)
          ]

      sound : (n : ℕ) → has_number new_found n ≡ true → Path (HasEdge graph) start n
      sound n among = elim (f.only n among) [
        | inl had ↦ before.sound n had
        | inr edge ↦ path_more (before.sound (get_or queue done 0) (before.is_queue.queued done h)) edge
      ]

  pub reached : end ≤ done → IsReach graph start found
  reached h = record { same_length = before.same_length; each = λ n. (before.sound n, λ path. kept_along (λ m. has_number found m ≡ true) keeps path before.has_start) }
    where
      keeps : (a b : ℕ) → HasEdge graph a b → has_number found a ≡ true → has_number found b ≡ true
      keeps a b edge among =
          let at = before.is_queue.all a among in
          before.closed at.0 b (omega (arith, at.1)) (subst (λ m. HasEdge graph m b) (sym at.2) edge)

-- the edge is there, or the graph is as it was
pub set_leads_inside : (graph : List (List ℕ)) (a b : ℕ) (bs : List ℕ) → LeadsInside graph → a < length graph → b < length graph
    → (bs ≡ get_or graph a [] ++ b ∷ []) ⊎ (bs ≡ get_or graph a []) → LeadsInside (set graph a bs)
set_leads_inside graph a b bs inside from to (inl more) = still_leads_inside graph (set graph a bs) a b inside to (adds_edge graph a b bs from more)
set_leads_inside graph a b bs inside from to (inr same) =
    subst LeadsInside (sym (ap (set graph a) same ∙ set-get_or graph a [])) inside
