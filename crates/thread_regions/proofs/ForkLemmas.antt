-- How the forks of a graph are marked and listed.
use Rattle.std.proofs.Common.{◌≡◌, ◌↔◌, ◌⊎◌, inl, inr, ℕ, ◌+◌, ◌<◌, Bool, true, false, List, [], ◌∷◌, ◌++◌, length, get_or, set, take, All, Contains, Option, Some, None, slice_get, option_map, replicate, refl, sym, ◌∙◌, ap, subst, arith, length-append, length-set}
use Rattle.std.proofs.lemmas.Bool.{cases_eq, cases_lt, both_ways}
use Rattle.std.proofs.lemmas.Option.{slice_get_within}
use Rattle.std.proofs.lemmas.List.{take_more, get_or_append_left, get_or_push, get_or-set_same, get_or-set_other, get_or-replicate, get_or_past, length-replicate}
use Rattle.std.proofs.lemmas.List.Elements.{Contains-append_left, Contains-push, Contains-push_cases}
use Rattle.std.proofs.lemmas.Grind.{get_or_default_zero}
use Rattle.jo_ids.specs.Rows.{has_number}
use Rattle.dep_nodes.specs.declared.kinds.NodeKind.{NodeKind}
use Rattle.dep_nodes.specs.declared.kinds.NodeKind.TheVariants.{Call as CallNode}
use Rattle.dep_nodes.specs.declared.kinds.EdgeKind.{EdgeKind}
use Rattle.dep_nodes.specs.declared.kinds.EdgeKind.TheVariants.{Data, Control, Out, Arg, Call, Ret, Heap, Fork}
use Rattle.dep_nodes.specs.declared.graphs.NodeName.{NodeName}
use Rattle.dep_nodes.specs.declared.dependence_graph.GraphNode.{GraphNode}
use Rattle.dep_nodes.specs.GrowingGraphs.{HasEdge}
use Rattle.dep_nodes.specs.Regions.{node_at, IsFork, IsRising, AreForks}
use Rattle.thread_regions.specs.Forks.{is_call, starts_thread, IsCallAt, MarksForks, AreNumbersOf}
use Rattle.thread_regions.proofs.ReachLemmas.{there, is_there, named_at}
use Rattle.thread_regions.proofs.FirstLemmas.{some_same}

-- ---- the numbers of a set

pub record NumbersBelow (row : List Bool) (numbers : List ℕ) (i : ℕ) : Type 0 where
  pub rising : IsRising numbers
  pub each : (k : ℕ) → Contains numbers k ↔ ((k < i) × (has_number row k ≡ true))

pub numbers_none : (row : List Bool) → NumbersBelow row [] 0
numbers_none row = record { rising = λ i j h k. absurd (omega (arith, k)); each = λ k. (λ among. absurd (omega (arith, among.1)), λ both. absurd (omega (arith, both.0))) }

module _ (row : List Bool) (numbers : List ℕ) (i : ℕ) (so_far : NumbersBelow row numbers i) where
  pub numbers_more : has_number row i ≡ true → NumbersBelow row (numbers ++ i ∷ []) (i + 1)
  numbers_more has = record { rising = rising; each = λ k. (there k, back k) }
    where
      rising : IsRising (numbers ++ i ∷ [])
      rising a b less within = elim (cases_lt b (length numbers)) [
        | inl inside ↦
            omega (arith, so_far.rising a b less inside, get_or_append_left numbers (i ∷ []) 0 a (omega (arith, less, inside)), get_or_append_left numbers (i ∷ []) 0 b inside)
        | inr past ↦
            let last : length numbers ≡ b = omega (arith, past, within, length-append numbers (i ∷ [])) in
            let a_within : a < length numbers = omega (arith, less, last) in
            let a_below = ((so_far.each (get_or numbers a 0)).0 (a, a_within, get_or_default_zero numbers a (get_or numbers a 0) a_within)).0 in
            omega (arith, a_below, get_or_append_left numbers (i ∷ []) 0 a a_within, get_or_push numbers i 0 b last)
      ]

      there : (k : ℕ) → Contains (numbers ++ i ∷ []) k → (k < i + 1) × (has_number row k ≡ true)
      there k among = elim (Contains-push_cases numbers i k among) [
        | inl before ↦ let was = (so_far.each k).0 before in (omega (arith, was.0), was.1)
        | inr last ↦ (omega (arith, last), subst (λ m. has_number row m ≡ true) last has)
      ]

      back : (k : ℕ) → (k < i + 1) × (has_number row k ≡ true) → Contains (numbers ++ i ∷ []) k
      back k both = elim (cases_eq k i) [
        | inl same ↦ subst (λ m. Contains (numbers ++ i ∷ []) m) (sym same) (Contains-push numbers i)
        | inr other ↦ Contains-append_left numbers (i ∷ []) k ((so_far.each k).1 (omega (arith, both.0, other), both.1))
      ]

  pub numbers_same : has_number row i ≡ false → NumbersBelow row numbers (i + 1)
  numbers_same lacks = record { rising = so_far.rising; each = λ k. (there k, back k) }
    where
      there : (k : ℕ) → Contains numbers k → (k < i + 1) × (has_number row k ≡ true)
      there k among = let was = (so_far.each k).0 among in (omega (arith, was.0), was.1)

      back : (k : ℕ) → (k < i + 1) × (has_number row k ≡ true) → Contains numbers k
      back k both = elim (cases_eq k i) [
        | inl same ↦ absurd (both_ways (has_number row i) lacks (subst (λ m. has_number row m ≡ true) same both.1))
        | inr other ↦ (so_far.each k).1 (omega (arith, both.0, other), both.1)
      ]

  pub numbers_all : length row < i + 1 → AreNumbersOf row numbers
  numbers_all all = record { rising = so_far.rising; each = λ k. (λ among. ((so_far.each k).0 among).1, λ has. (so_far.each k).1 (inside k has, has)) }
    where
      inside : (k : ℕ) → has_number row k ≡ true → k < i
      inside k has = elim (cases_lt k (length row)) [
        | inl below ↦ omega (arith, below, all)
        | inr past ↦ absurd (both_ways (has_number row k) (get_or_past row k false past) has)
      ]

-- ---- marking

fork_only : (kind : EdgeKind) (from : NodeKind) → starts_thread kind from ≡ true → (kind ≡ Fork) × ((pc : ℕ) × (from ≡ CallNode pc))
fork_only Data from h = absurd (cc)
fork_only Control from h = absurd (cc)
fork_only Out from h = absurd (cc)
fork_only Arg from h = absurd (cc)
fork_only Call from h = absurd (cc)
fork_only Ret from h = absurd (cc)
fork_only Heap from h = absurd (cc)
fork_only Fork from h = (refl, call_only from h)
  where
    call_only : (from : NodeKind) → is_call from ≡ true → (pc : ℕ) × (from ≡ CallNode pc)
    call_only (CallNode pc) e = (pc, refl)
    call_only _ e = absurd (cc)

fork_starts : (pc : ℕ) (kind : EdgeKind) (from : NodeKind) → kind ≡ Fork → from ≡ CallNode pc → starts_thread kind from ≡ true
fork_starts pc kind from e f = rw (e, f) refl

kind_at : (nodes : List GraphNode) (n : ℕ) (one : GraphNode) → slice_get nodes n ≡ Some one → option_map (λ x. x.kind) (node_at nodes n) ≡ Some one.name.kind
kind_at nodes n one is = ap (option_map (λ x. x.kind)) (named_at nodes n one is)

pub marks_none : (nodes : List GraphNode) (row : List Bool) → MarksForks nodes [] row row
marks_none nodes row = record { same_length = refl; each = λ n. (inl, back n) }
  where
    back : (n : ℕ) → (has_number row n ≡ true) ⊎ (Contains {X = ℕ × EdgeKind} [] (n, Fork) × IsCallAt nodes n) → has_number row n ≡ true
    back n (inl had) = had
    back n (inr edge) = absurd (omega (arith, edge.0.1))

module _ (nodes : List GraphNode) (edges : List (ℕ × EdgeKind)) (old row : List Bool) (from : ℕ) (kind : EdgeKind) (one : GraphNode) (is : slice_get nodes from ≡ Some one)
    (so_far : MarksForks nodes edges old row) where
  marked_last : (n : ℕ) → ◌≡◌ {A = ℕ × EdgeKind} (from, kind) (n, Fork) → (from ≡ n) × (kind ≡ Fork)
  marked_last n e = (ap (λ (p : ℕ × EdgeKind). p.0) e, ap (λ (p : ℕ × EdgeKind). p.1) e)

  pub marks_new : from < length row → starts_thread kind one.name.kind ≡ true → MarksForks nodes (edges ++ (from, kind) ∷ []) old (set row from true)
  marks_new below starts = record { same_length = length-set row from true ∙ so_far.same_length; each = λ n. (forth n, back n) }
    where
      only : (kind ≡ Fork) × ((pc : ℕ) × (one.name.kind ≡ CallNode pc))
      only = fork_only kind one.name.kind starts

      forth : (n : ℕ) → has_number (set row from true) n ≡ true → (has_number old n ≡ true) ⊎ (Contains (edges ++ (from, kind) ∷ []) (n, Fork) × IsCallAt nodes n)
      forth n has = elim (cases_eq n from) [
        | inl same ↦
            let last : Contains (edges ++ (from, kind) ∷ []) (from, Fork) = subst (λ k. Contains (edges ++ (from, kind) ∷ []) (from, k)) only.0 (Contains-push edges (from, kind)) in
            let call : IsCallAt nodes from = (only.1.0, kind_at nodes from one is ∙ ap Some only.1.1) in
            inr (subst (λ m. Contains (edges ++ (from, kind) ∷ []) (m, Fork)) (sym same) last, subst (IsCallAt nodes) (sym same) call)
        | inr other ↦ elim ((so_far.each n).0 (sym (get_or-set_other row from n true false other) ∙ has)) [
          | inl had ↦ inl had
          | inr edge ↦ inr (Contains-append_left edges ((from, kind) ∷ []) (n, Fork) edge.0, edge.1)
        ]
      ]

      kept : (n : ℕ) → has_number row n ≡ true → has_number (set row from true) n ≡ true
      kept n had = elim (cases_eq n from) [
        | inl same ↦ subst (λ m. has_number (set row from true) m ≡ true) (sym same) (get_or-set_same row from true false below)
        | inr other ↦ get_or-set_other row from n true false other ∙ had
      ]

      back : (n : ℕ) → (has_number old n ≡ true) ⊎ (Contains (edges ++ (from, kind) ∷ []) (n, Fork) × IsCallAt nodes n) → has_number (set row from true) n ≡ true
      back n (inl had) = kept n ((so_far.each n).1 (inl had))
      back n (inr edge) = elim (Contains-push_cases edges (from, kind) (n, Fork) edge.0) [
        | inl before ↦ kept n ((so_far.each n).1 (inr (before, edge.1)))
        | inr last ↦ subst (λ m. has_number (set row from true) m ≡ true) (marked_last n last).0 (get_or-set_same row from true false below)
      ]

  pub marks_other : starts_thread kind one.name.kind ≡ false → MarksForks nodes (edges ++ (from, kind) ∷ []) old row
  marks_other starts_none = record { same_length = so_far.same_length; each = λ n. (forth n, back n) }
    where
      forth : (n : ℕ) → has_number row n ≡ true → (has_number old n ≡ true) ⊎ (Contains (edges ++ (from, kind) ∷ []) (n, Fork) × IsCallAt nodes n)
      forth n has = elim ((so_far.each n).0 has) [
        | inl had ↦ inl had
        | inr edge ↦ inr (Contains-append_left edges ((from, kind) ∷ []) (n, Fork) edge.0, edge.1)
      ]

      never : (n : ℕ) → (from ≡ n) × (kind ≡ Fork) → IsCallAt nodes n → ⊥
      never n same call =
          let found : Some one.name.kind ≡ Some (CallNode call.0) = sym (kind_at nodes from one is) ∙ (ap (λ m. option_map (λ x. x.kind) (node_at nodes m)) same.0 ∙ call.1) in
          let kind_is : one.name.kind ≡ CallNode call.0 = cc in
          both_ways (starts_thread kind one.name.kind) starts_none (fork_starts call.0 kind one.name.kind same.1 kind_is)

      back : (n : ℕ) → (has_number old n ≡ true) ⊎ (Contains (edges ++ (from, kind) ∷ []) (n, Fork) × IsCallAt nodes n) → has_number row n ≡ true
      back n (inl had) = (so_far.each n).1 (inl had)
      back n (inr edge) = elim (Contains-push_cases edges (from, kind) (n, Fork) edge.0) [
        | inl before ↦ (so_far.each n).1 (inr (before, edge.1))
        | inr last ↦ absurd (never n (marked_last n last) edge.1)
      ]

name_in : (o : Option GraphNode) (name : NodeName) → option_map (λ (x : GraphNode). x.name) o ≡ Some name → (one : GraphNode) × (o ≡ Some one) × (one.name ≡ name)
name_in None name h = absurd (cc)
name_in (Some one) name h = (one, refl, some_same h)

module _ (nodes : List GraphNode) (edges : List (ℕ × EdgeKind)) (i : ℕ) (old row : List Bool) (item : ℕ × EdgeKind) (name : NodeName) (below : i < length edges) (is : item ≡ get_or edges i item)
    (named : option_map (λ (x : GraphNode). x.name) (slice_get nodes item.0) ≡ Some name) (so_far : MarksForks nodes (take i edges) old row) where
  more : take (i + 1) edges ≡ take i edges ++ item ∷ []
  more = take_more edges i item below ∙ ap (λ e. take i edges ++ e ∷ []) (sym is)

  pub mark_step : All (λ (edge : ℕ × EdgeKind). edge.0 < length nodes) edges → length old ≡ length nodes → starts_thread item.1 name.kind ≡ true → MarksForks nodes (take (i + 1) edges) old (set row item.0 true)
  mark_step inside size starts =
      let t = name_in (slice_get nodes item.0) name named in
      let within : item.0 < length nodes = subst (λ (e : ℕ × EdgeKind). e.0 < length nodes) (sym is) (inside i item below) in
      let kind : starts_thread item.1 t.0.name.kind ≡ true = subst (λ (x : NodeName). starts_thread item.1 x.kind ≡ true) (sym t.2) starts in
      subst (λ (es : List (ℕ × EdgeKind)). MarksForks nodes es old (set row item.0 true)) (sym more)
      (marks_new nodes (take i edges) old row item.0 item.1 t.0 t.1 so_far (omega (arith, within, so_far.same_length, size)) kind)

  pub pass_step : starts_thread item.1 name.kind ≡ false → MarksForks nodes (take (i + 1) edges) old row
  pass_step starts =
      let t = name_in (slice_get nodes item.0) name named in
      let kind : starts_thread item.1 t.0.name.kind ≡ false = subst (λ (x : NodeName). starts_thread item.1 x.kind ≡ false) (sym t.2) starts in
      subst (λ (es : List (ℕ × EdgeKind)). MarksForks nodes es old row) (sym more) (marks_other nodes (take i edges) old row item.0 item.1 t.0 t.1 so_far kind)

-- ---- all forks

-- a Call from which a fork edge leads to a node below that number
pub record StartsBelow (nodes : List GraphNode) (i n : ℕ) : Type 0 where
  pub to : ℕ
  pub below : to < i
  pub edge : HasEdge nodes n Fork to
  pub call : IsCallAt nodes n

pub record MarkedBelow (nodes : List GraphNode) (row : List Bool) (i : ℕ) : Type 0 where
  pub same_length : length row ≡ length nodes
  pub each : (n : ℕ) → (has_number row n ≡ true) ↔ StartsBelow nodes i n

pub marked_none : (nodes : List GraphNode) (len : ℕ) → len ≡ length nodes → MarkedBelow nodes (replicate len false) 0
marked_none nodes len e = record { same_length = length-replicate len false ∙ e; each = λ n. (λ has. absurd (both_ways (has_number (replicate len false) n) (none n) has), λ s. absurd (omega (arith, s.below))) }
  where
    none : (n : ℕ) → has_number (replicate len false) n ≡ false
    none n = elim (cases_lt n len) [ inl below ↦ get_or-replicate len n false false below | inr past ↦ get_or_past (replicate len false) n false (omega (arith, past, length-replicate {A = Bool} len false)) ]

pub marked_more : (nodes : List GraphNode) (row new : List Bool) (i : ℕ) (one : GraphNode) → slice_get nodes i ≡ Some one → MarkedBelow nodes row i → MarksForks nodes one.edges row new → MarkedBelow nodes new (i + 1)
marked_more nodes row new i one is so_far marks = record { same_length = marks.same_length ∙ so_far.same_length; each = λ n. (forth n, back n) }
  where
    forth : (n : ℕ) → has_number new n ≡ true → StartsBelow nodes (i + 1) n
    forth n has = elim ((marks.each n).0 has) [
      | inl had ↦ let s = (so_far.each n).0 had in record { to = s.to; below = omega (arith, s.below); edge = s.edge; call = s.call }
      | inr edge ↦ record { to = i; below = omega arith; edge = is_there nodes i (λ x. Contains x.edges (n, Fork)) one is edge.0; call = edge.1 }
    ]

    back : (n : ℕ) → StartsBelow nodes (i + 1) n → has_number new n ≡ true
    back n s = elim (cases_eq s.to i) [
      | inl same ↦
          let t = there nodes i (λ x. Contains x.edges (n, Fork)) (subst (λ k. HasEdge nodes n Fork k) same s.edge) in
          let both : Some t.one ≡ Some one = sym t.is_one ∙ is in
          let equal : t.one ≡ one = cc in
          (marks.each n).1 (inr (subst (λ (x : GraphNode). Contains x.edges (n, Fork)) equal t.holds, s.call))
      | inr other ↦ (marks.each n).1 (inl ((so_far.each n).1 (record { to = s.to; below = omega (arith, s.below, other); edge = s.edge; call = s.call })))
    ]

edges_in : (o : Option GraphNode) (edges : List (ℕ × EdgeKind)) → option_map (λ (x : GraphNode). x.edges) o ≡ Some edges → (one : GraphNode) × (o ≡ Some one) × (one.edges ≡ edges)
edges_in None edges h = absurd (cc)
edges_in (Some one) edges h = (one, refl, some_same h)

pub marked_node : (nodes : List GraphNode) (row new : List Bool) (i : ℕ) (edges : List (ℕ × EdgeKind)) → option_map (λ (x : GraphNode). x.edges) (slice_get nodes i) ≡ Some edges
    → MarkedBelow nodes row i → MarksForks nodes edges row new → MarkedBelow nodes new (i + 1)
marked_node nodes row new i edges has so_far marks =
    let t = edges_in (slice_get nodes i) edges has in
    marked_more nodes row new i t.0 t.1 so_far (subst (λ (es : List (ℕ × EdgeKind)). MarksForks nodes es row new) (sym t.2) marks)

pub forks_are : (nodes : List GraphNode) (row : List Bool) (numbers : List ℕ) (i : ℕ) → length nodes < i + 1 → MarkedBelow nodes row i → AreNumbersOf row numbers → AreForks nodes numbers
forks_are nodes row numbers i all marked are = record { rising = are.rising; each = λ n. (forth n, back n) }
  where
    forth : (n : ℕ) → Contains numbers n → IsFork nodes n
    forth n among = let s = (marked.each n).0 ((are.each n).0 among) in record { pc = s.call.0; is_call = s.call.1; to = s.to; starts = s.edge }

    back : (n : ℕ) → IsFork nodes n → Contains numbers n
    back n f =
        let t = there nodes f.to (λ x. Contains x.edges (n, Fork)) f.starts in
        let below : f.to < i = omega (arith, slice_get_within nodes f.to t.one t.is_one, all) in
        (are.each n).1 ((marked.each n).1 (record { to = f.to; below = below; edge = f.starts; call = (f.pc, f.is_call) }))
