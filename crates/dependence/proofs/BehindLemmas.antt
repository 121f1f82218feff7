-- How a search of a flow graph goes on.
use Rattle.std.proofs.Common.{◌≡◌, ◌⊎◌, inl, inr, ◌↔◌, ℕ, zero, suc, ◌+◌, ◌<◌, ◌≤◌, Bool, true, false, not, cond, List, [], Some, None, Option, length, get_or, replicate, Contains, IsSomeAnd, slice_get, option_map, All, refl, sym, ◌∙◌, ap, subst, arith}
use Rattle.std.specs.Prelude.{count_by}
use Rattle.std.proofs.lemmas.Bool.{cases_eq, cases_lt, both_ways}
use Rattle.std.proofs.lemmas.List.{length-replicate, get_or-replicate, get_or_past}
use Rattle.std.proofs.lemmas.List.Sums.{sum_by-cons}
use Rattle.std.proofs.lemmas.Option.{slice_get_past}
use Rattle.jo_ids.specs.Rows.{has_number}
use Rattle.jo_graph.specs.Queues.{IsQueueOf, Follows}
use Rattle.dependence.specs.declared.flow.Place.{Place}
use Rattle.dependence.specs.declared.flows.FlowRow.{FlowRow}
use Rattle.dependence.specs.Dependence.{Reaches, one as one_edge, more as more_edges}
use Rattle.dependence.specs.FlowData.{EdgeIn, ReadsIn, WritesIn, ReachesIn}
use Rattle.dependence.specs.Behind.{Behind, one, more, StopsIn, BehindIn, AreBehind, AreNext, FollowsOn, BeginsBehind}

-- ---- what is behind a node

pub reaches_behind : {N : Type 0} {E : N → N → Type 0} {W : N → Place → Type 0} (v : Place) (d n : N) → Reaches E W v d n → Behind E (λ x. W x v) d n
reaches_behind v d _ (one_edge n edge writes) = one n edge
reaches_behind v d _ (more_edges x n reaches passes edge) = more x n (reaches_behind v d x reaches) passes edge

pub behind_reaches : {N : Type 0} {E : N → N → Type 0} {W : N → Place → Type 0} (v : Place) (d n : N) → W d v → Behind E (λ x. W x v) d n → Reaches E W v d n
behind_reaches v d _ writes (one n edge) = one_edge n edge writes
behind_reaches v d _ writes (more x n behind passes edge) = more_edges x n (behind_reaches v d x writes behind) passes edge

pub reaches_writes : {N : Type 0} {E : N → N → Type 0} {W : N → Place → Type 0} (v : Place) (d n : N) → Reaches E W v d n → W d v
reaches_writes v d _ (one_edge n edge writes) = writes
reaches_writes v d _ (more_edges x n reaches passes edge) = reaches_writes v d x reaches

-- ---- the search

-- the set has what follows the start and the first nodes of the queue
pub record Spreads (flow : List FlowRow) (stop : Option Place) (start : ℕ) (found : List Bool) (queue : List ℕ) (done end : ℕ) : Type 0 where
  pub so_far : done ≤ end
  pub same_length : length found ≡ length flow
  pub is_queue : IsQueueOf found queue end
  pub first : (b : ℕ) → EdgeIn flow start b → has_number found b ≡ true
  pub closed : (k b : ℕ) → k < done → EdgeIn flow (get_or queue k 0) b → (StopsIn flow stop (get_or queue k 0) → ⊥) → has_number found b ≡ true
  pub sound : (n : ℕ) → has_number found n ≡ true → BehindIn flow stop start n

pub spreads_first : (flow : List FlowRow) (stop : Option Place) (start : ℕ) (found : List Bool) (queue : List ℕ) (end : ℕ) → BeginsBehind flow start found queue end → Spreads flow stop start found queue 0 end
spreads_first flow stop start found queue end begins = record {
  so_far = omega arith;
  same_length = begins.same_length;
  is_queue = begins.is_queue;
  first = λ b edge. (begins.each b).1 edge;
  closed = λ k b below. absurd (omega (arith, below));
  sound = λ n has. one n ((begins.each n).0 has);
}

module _ (flow : List FlowRow) (stop : Option Place) (start : ℕ) (found : List Bool) (queue : List ℕ) (done end : ℕ) (before : Spreads flow stop start found queue done end) where
  pub node_inside : done < end → get_or queue done 0 < length flow
  node_inside h = elim (cases_lt (get_or queue done 0) (length flow)) [
    | inl b ↦ b
    | inr past ↦ absurd (both_ways (has_number found (get_or queue done 0)) (get_or_past found (get_or queue done 0) false (omega (arith, before.same_length))) (before.is_queue.queued done h))
  ]

  pub spreads_more : done < end → (new_found : List Bool) (new_queue : List ℕ) (new_end : ℕ)
      → FollowsOn flow stop (get_or queue done 0) found queue end new_found new_queue new_end → Spreads flow stop start new_found new_queue (done + 1) new_end
  spreads_more h new_found new_queue new_end on = record {
    so_far = omega (arith, f.grows);
    same_length = f.same_length ∙ before.same_length;
    is_queue = f.is_queue;
    first = λ b edge. f.had b (before.first b edge);
    closed = closed;
    sound = sound;
  }
    where
      f : Follows on.numbers found queue end new_found new_queue new_end
      f = on.follows

      closed : (k b : ℕ) → k < done + 1 → EdgeIn flow (get_or new_queue k 0) b → (StopsIn flow stop (get_or new_queue k 0) → ⊥) → has_number new_found b ≡ true
      closed k b below edge passes =
          let same = f.same_queue k (omega arith) in
          let here : EdgeIn flow (get_or queue k 0) b = subst (λ a. EdgeIn flow a b) same edge in
          let goes : StopsIn flow stop (get_or queue k 0) → ⊥ = subst (λ a. StopsIn flow stop a → ⊥) same passes in
          elim (cases_eq k done) [
            | inl e ↦ f.has b ((on.next b).1 (subst (λ j. EdgeIn flow (get_or queue j 0) b) e here, subst (λ j. StopsIn flow stop (get_or queue j 0) → ⊥) e goes))
            | inr ne ↦ f.had b (before.closed k b (omega (arith, below, ne)) here goes)
          ]

      sound : (n : ℕ) → has_number new_found n ≡ true → BehindIn flow stop start n
      sound n among = elim (f.only n among) [
        | inl had ↦ before.sound n had
        | inr next ↦ let on_to = (on.next n).0 next in more (get_or queue done 0) n (before.sound (get_or queue done 0) (before.is_queue.queued done h)) on_to.1 on_to.0
      ]

  pub all_behind : end ≤ done → AreBehind flow stop start found
  all_behind h = record { same_length = before.same_length; each = λ n. (before.sound n, complete n) }
    where
      complete : (n : ℕ) → BehindIn flow stop start n → has_number found n ≡ true
      complete _ (one n edge) = before.first n edge
      complete _ (more x n behind passes edge) =
          let at = before.is_queue.all x (complete x behind) in
          before.closed at.0 n (omega (arith, at.1)) (subst (λ m. EdgeIn flow m n) (sym at.2) edge) (subst (λ m. StopsIn flow stop m → ⊥) (sym at.2) passes)

-- ---- one node

pub edges_are : (flow : List FlowRow) (node : ℕ) (next : List ℕ) → option_map (λ row. row.successors) (slice_get flow node) ≡ Some next → (b : ℕ) → Contains next b ↔ EdgeIn flow node b
edges_are flow node next is b = by_row (slice_get flow node) is
  where
    by_row : (o : Option FlowRow) → option_map (λ row. row.successors) o ≡ Some next → Contains next b ↔ IsSomeAnd o (λ row. Contains row.successors b)
    by_row None e = absurd (cc)
    by_row (Some row) e = subst (λ (o : Option (List ℕ)). IsSomeAnd o (λ (xs : List ℕ). Contains next b ↔ Contains xs b)) (sym e) (λ h. h, λ h. h)

pub writes_are : (flow : List FlowRow) (node : ℕ) (places : List Place) → option_map (λ row. row.writes) (slice_get flow node) ≡ Some places → (v : Place) → Contains places v ↔ WritesIn flow node v
writes_are flow node places is v = by_row (slice_get flow node) is
  where
    by_row : (o : Option FlowRow) → option_map (λ row. row.writes) o ≡ Some places → Contains places v ↔ IsSomeAnd o (λ row. Contains row.writes v)
    by_row None e = absurd (cc)
    by_row (Some row) e = subst (λ (o : Option (List Place)). IsSomeAnd o (λ (xs : List Place). Contains places v ↔ Contains xs v)) (sym e) (λ h. h, λ h. h)

-- ---- the beginning

none_there : (n m : ℕ) → has_number (replicate n false) m ≡ false
none_there n m = elim (cases_lt m n) [
  | inl below ↦ get_or-replicate n m false false below
  | inr past ↦ get_or_past (replicate n false) m false (omega (arith, length-replicate n false))
]

pub queue_of_none : (n : ℕ) (queue : List ℕ) → length queue ≡ n → IsQueueOf (replicate n false) queue 0
queue_of_none n queue e = record {
  same_length = e ∙ sym (length-replicate n false);
  counted = omega (arith, lacking n, length-replicate n false);
  queued = λ k below. absurd (omega (arith, below));
  all = λ m has. absurd (none m has);
}
  where
    lacking : (m : ℕ) → count_by not (replicate m false) ≡ m
    lacking zero = refl
    lacking (suc m) = omega (arith, sum_by-cons (λ x. cond (not x) 1 0) false (replicate m false), lacking m)

    none : (m : ℕ) → has_number (replicate n false) m ≡ true → ⊥
    none m has = both_ways (has_number (replicate n false) m) (none_there n m) has

pub begins_behind : (flow : List FlowRow) (start : ℕ) (cleared : List Bool) (queue new_queue next : List ℕ) (found : List Bool) (end : ℕ)
    → option_map (λ row. row.successors) (slice_get flow start) ≡ Some next → cleared ≡ replicate (length flow) false → Follows next cleared queue 0 found new_queue end → BeginsBehind flow start found new_queue end
begins_behind flow start cleared queue new_queue next found end successors empty follows = record {
  same_length = follows.same_length ∙ ap length empty ∙ length-replicate (length flow) false;
  is_queue = follows.is_queue;
  each = λ n. (there n, λ edge. follows.has n ((edges_are flow start next successors n).1 edge));
}
  where
    there : (n : ℕ) → has_number found n ≡ true → EdgeIn flow start n
    there n has = elim (follows.only n has) [
      | inl had ↦ absurd (both_ways (has_number cleared n) (ap (λ row. has_number row n) empty ∙ none_there (length flow) n) had)
      | inr among ↦ (edges_are flow start next successors n).0 among
    ]

-- ---- what begins at a node is at a node

row_inside : (flow : List FlowRow) (n : ℕ) (P : FlowRow → Type 0) → IsSomeAnd (slice_get flow n) P → n < length flow
row_inside flow n P there = elim (cases_lt n (length flow)) [
  | inl below ↦ below
  | inr past ↦ absurd (subst (λ (o : Option FlowRow). IsSomeAnd o P) (slice_get_past flow n past) there)
]

pub edge_inside : (flow : List FlowRow) (a b : ℕ) → EdgeIn flow a b → a < length flow
edge_inside flow a b edge = row_inside flow a (λ row. Contains row.successors b) edge

pub read_inside : (flow : List FlowRow) (n : ℕ) (v : Place) → ReadsIn flow n v → n < length flow
read_inside flow n v reads = row_inside flow n (λ row. Contains row.reads v) reads

pub write_inside : (flow : List FlowRow) (n : ℕ) (v : Place) → WritesIn flow n v → n < length flow
write_inside flow n v writes = row_inside flow n (λ row. Contains row.writes v) writes
