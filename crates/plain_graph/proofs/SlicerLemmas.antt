-- Marks: what one more mark keeps, and that the marks that are closed under edges are the walks to criteria.
use Rattle.std.proofs.Common.{◌≡◌, ◌≢◌, ◌↔◌, inl, inr, ℕ, zero, suc, ◌+◌, ◌<◌, ◌≤◌, Bool, true, false, List, [], ◌∷◌, ◌++◌, length, set, cond, Contains, MatchBool, refl, ap, sym, ◌∙◌, subst, arith, length-set, get_or-set_same, get_or-set_other}
use Rattle.std.proofs.lemmas.Bool.{cases_eq, cases_lt, true≢false, false≢true}
use Rattle.std.proofs.lemmas.List.Sums.{count_by-le-length, sum_by-set}
use Rattle.std.proofs.lemmas.List.{get_or_past}
use Rattle.std.proofs.lemmas.List.Elements.{Contains-push, Contains-push_cases, Contains-append_left}
use Rattle.dep_nodes.specs.declared.kinds.EdgeKind.{EdgeKind}
use Rattle.dep_nodes.specs.declared.graphs.Edge.{Edge}
use Rattle.dep_nodes.specs.declared.chains.Step.{Step}
use Rattle.dep_nodes.specs.declared.chains.Word.TheVariants.{Edge as AnEdge}
use Rattle.dep_nodes.specs.declared.graphs.Graph.{Graph}
use Rattle.plain_graph.specs.declared.slicer.Mark.{Mark}
use Rattle.plain_graph.specs.declared.slicer.Mark.TheVariants.{Unmarked, Criterion, Next}
use Rattle.dep_nodes.specs.Graphs.{EdgeAt, IsWalk, WalksTo, walk_end}
use Rattle.plain_graph.specs.Slices.{mark_at, is_marked, IsMarkedAt, distance_of, LeadsOn, IsStepFrom, is_unmarked, unmarked_count, IsMarking, OnlyGrows, IsClosedAt, IsClosed, AreMarkedAs, HasNoStep}

-- ---- one more mark

weight_of_unmarked : (m : Mark) → is_marked m ≡ false → ◌≡◌ {A = ℕ} (cond (is_unmarked m) 1 0) 1
weight_of_unmarked Unmarked h = refl
weight_of_unmarked Criterion h = absurd (true≢false h)
weight_of_unmarked (Next step distance) h = absurd (true≢false h)

weight_of_marked : (m : Mark) → is_marked m ≡ true → ◌≡◌ {A = ℕ} (cond (is_unmarked m) 1 0) 0
weight_of_marked Unmarked h = absurd (false≢true h)
weight_of_marked Criterion h = refl
weight_of_marked (Next step distance) h = refl

count-set : (marks : List Mark) (i : ℕ) (m : Mark) → i < length marks → is_marked (mark_at marks i) ≡ false → is_marked m ≡ true → unmarked_count (set marks i m) + 1 ≡ unmarked_count marks
count-set marks i m within was is = omega (arith, sum_by-set (λ x. cond (is_unmarked x) 1 0) marks i m Unmarked within, weight_of_unmarked (mark_at marks i) was, weight_of_marked m is)

mark_past : (marks : List Mark) (i : ℕ) → length marks ≤ i → mark_at marks i ≡ Unmarked
mark_past marks i h = get_or_past marks i Unmarked h

marked_within : (marks : List Mark) (i : ℕ) → IsMarkedAt marks i → i < length marks
marked_within marks i h = elim (cases_lt i (length marks)) [ inl within ↦ within | inr past ↦ absurd (false≢true (ap is_marked (sym (mark_past marks i past)) ∙ h)) ]

count-marked : (marks : List Mark) (i : ℕ) → is_marked (mark_at marks i) ≡ true → unmarked_count marks < length marks
count-marked marks i is =
    omega (
      arith,
      sum_by-set (λ x. cond (is_unmarked x) 1 0) marks i Unmarked Unmarked (marked_within marks i is),
      weight_of_marked (mark_at marks i) is,
      count_by-le-length is_unmarked (set marks i Unmarked),
      length-set marks i Unmarked,
    )

differs : (marks : List Mark) (i j : ℕ) → IsMarkedAt marks i → is_marked (mark_at marks j) ≡ false → i ≢ j
differs marks i j marked unmarked same = false≢true (sym unmarked ∙ ap (λ n. is_marked (mark_at marks n)) (sym same) ∙ marked)

-- a mark leads on still where one more node is marked
lead_on-set : (graph : Graph) (marks : List Mark) (i n : ℕ) (m mark : Mark) → is_marked (mark_at marks i) ≡ false → LeadsOn graph marks n mark → LeadsOn graph (set marks i m) n mark
lead_on-set graph marks i n m Unmarked free leads = leads
lead_on-set graph marks i n m Criterion free leads = leads
lead_on-set graph marks i n m (Next step distance) free leads =
    let same : mark_at (set marks i m) step.to ≡ mark_at marks step.to = get_or-set_other marks i step.to m Unmarked (differs marks step.to i leads.1 free) in
    (leads.0, ap is_marked same ∙ leads.1, rw same leads.2)

-- one more mark, at the begin of an edge whose end is marked
pub marking-set : (graph : Graph) (marks : List Mark) (from to distance : ℕ) (kind : EdgeKind) → IsMarking graph marks → EdgeAt graph from kind to → from < length graph.nodes
    → IsMarkedAt marks to → is_marked (mark_at marks from) ≡ false → distance ≡ distance_of (mark_at marks to)
    → IsMarking graph (set marks from (Next (record { word = AnEdge kind; to = to }) (distance + 1)))
marking-set graph marks from to distance kind marking of_graph inside end free far =
    let m : Mark = Next (record { word = AnEdge kind; to = to }) (distance + 1) in
    let within : from < length marks = rw marking.same_length inside in
    let fewer : unmarked_count (set marks from m) + 1 ≡ unmarked_count marks = count-set marks from m within free refl in
    let at_from : mark_at (set marks from m) from ≡ m = get_or-set_same marks from m Unmarked within in
    let at_to : mark_at (set marks from m) to ≡ mark_at marks to = get_or-set_other marks from to m Unmarked (differs marks to from end free) in
    let near : distance_of (mark_at marks to) + unmarked_count marks < length graph.nodes = marking.short to end in
    record {
      same_length = length-set marks from m ∙ marking.same_length;
      lead_on = λ n. elim (cases_eq n from) [
        | inl same ↦ subst (λ k. LeadsOn graph (set marks from m) k (mark_at (set marks from m) k)) (sym same)
            (subst (λ x. LeadsOn graph (set marks from m) from x) (sym at_from)
            ((kind, refl, of_graph), ap is_marked at_to ∙ end, rw at_to (omega arith)))
        | inr other ↦ subst (λ x. LeadsOn graph (set marks from m) n x) (sym (get_or-set_other marks from n m Unmarked other)) (lead_on-set graph marks from n m (mark_at marks n) free (marking.lead_on n))
      ];
      short = λ n marked. elim (cases_eq n from) [
        | inl same ↦ subst (λ k. distance_of (mark_at (set marks from m) k) + unmarked_count (set marks from m) < length graph.nodes) (sym same)
            (subst (λ x. distance_of x + unmarked_count (set marks from m) < length graph.nodes) (sym at_from) (omega arith))
        | inr other ↦ let was : mark_at (set marks from m) n ≡ mark_at marks n = get_or-set_other marks from n m Unmarked other in
            rw was (omega (arith, marking.short n (ap is_marked (sym was) ∙ marked)))
      ];
    }

-- ---- marks that only grow

pub grows-same : (marks : List Mark) → OnlyGrows marks marks
grows-same marks = record { kept = λ n marked. refl; criteria = λ n is. is }

pub grows-grows : (old mid new : List Mark) → OnlyGrows old mid → OnlyGrows mid new → OnlyGrows old new
grows-grows old mid new first then = record {
  kept = λ n marked. then.kept n (ap is_marked (first.kept n marked) ∙ marked) ∙ first.kept n marked;
  criteria = λ n is. first.criteria n (then.criteria n is);
}

closed-grows : (old new : List Mark) (e : Edge) → OnlyGrows old new → IsMarkedAt old e.from → IsClosedAt new e
closed-grows old new e grows begin end = ap is_marked (grows.kept e.from begin) ∙ begin

-- ---- walks

pub walk-append : (graph : Graph) (from : ℕ) (steps : List Step) (step : Step) → IsWalk graph from steps → IsStepFrom graph (walk_end from steps) step → IsWalk graph from (steps ++ step ∷ [])
walk-append graph from [] step walk next = (next, tt)
walk-append graph from (s ∷ steps) step walk next = (walk.0, walk-append graph s.to steps step walk.1 next)

pub walk_end-append : (from : ℕ) (steps : List Step) (step : Step) → walk_end from (steps ++ step ∷ []) ≡ step.to
walk_end-append from [] step = refl
walk_end-append from (s ∷ steps) step = walk_end-append s.to steps step

-- a walk to a node with a criterion's mark
abbrev WalksToMark : Graph → List Mark → ℕ → Type 0
WalksToMark graph marks n = (steps : List Step) × IsWalk graph n steps × (mark_at marks (walk_end n steps) ≡ Criterion)

walk_by_mark : (graph : Graph) (marks : List Mark) (d n : ℕ) (mark : Mark) → ((k : ℕ) → distance_of (mark_at marks k) < d → IsMarkedAt marks k → WalksToMark graph marks k)
    → mark_at marks n ≡ mark → distance_of mark < suc d → is_marked mark ≡ true → LeadsOn graph marks n mark → WalksToMark graph marks n
walk_by_mark graph marks d n Unmarked nearer is below marked leads = absurd (false≢true marked)
walk_by_mark graph marks d n Criterion nearer is below marked leads = ([], tt, is)
walk_by_mark graph marks d n (Next step distance) nearer is below marked leads =
    let rest : WalksToMark graph marks step.to = nearer step.to (omega (arith, leads.2)) leads.1 in
    (step ∷ rest.0, (leads.0, rest.1), rest.2)

walk_by : (graph : Graph) (marks : List Mark) → IsMarking graph marks → (d n : ℕ) → distance_of (mark_at marks n) < d → IsMarkedAt marks n → WalksToMark graph marks n
walk_by graph marks marking zero n below marked = absurd (omega arith)
walk_by graph marks marking (suc d) n below marked = walk_by_mark graph marks d n (mark_at marks n) (walk_by graph marks marking d) refl below marked (marking.lead_on n)

-- where the marks are closed under edges, a walk to a marked node begins at one
marked_by_walk : (graph : Graph) (marks : List Mark) → IsClosed graph marks → (n : ℕ) (steps : List Step) → IsWalk graph n steps → IsMarkedAt marks (walk_end n steps) → IsMarkedAt marks n
marked_by_walk graph marks closed n [] walk marked = marked
marked_by_walk graph marks closed n (step ∷ steps) walk marked =
    closed n step.to walk.0.0 walk.0.2 (marked_by_walk graph marks closed step.to steps walk.1 marked)

-- the marks of all criteria, grown until they are closed, are the slice
pub slice_from : (graph : Graph) (criteria : List ℕ) (old new : List Mark) → AreMarkedAs old criteria → IsMarking graph new → OnlyGrows old new → IsClosed graph new
    → AreMarkedAs new criteria × ((n : ℕ) → IsMarkedAt new n ↔ WalksTo graph criteria n)
slice_from graph criteria old new was marking grows closed =
    let stays : (n : ℕ) → Contains criteria n → mark_at new n ≡ Criterion =
    λ n is. let h : mark_at old n ≡ Criterion = (was n).1 is in grows.kept n (ap is_marked h) ∙ h in
    let came : (n : ℕ) → mark_at new n ≡ Criterion → Contains criteria n = λ n is. (was n).0 (grows.criteria n is) in (
      λ n. (came n, stays n),
      λ n. (
        (λ marked. let w = walk_by graph new marking (suc (distance_of (mark_at new n))) n (omega arith) marked in (w.0, w.1, came (walk_end n w.0) w.2)),
        (λ walks. marked_by_walk graph new closed n walks.0 walks.1 (ap is_marked (stays (walk_end n walks.0) walks.2))),
      ),
    )

-- ---- the criteria's marks

-- one criterion more, behind those before it
pub criteria-push : (marks : List Mark) (criteria : List ℕ) (c : ℕ) → c < length marks → AreMarkedAs marks criteria → AreMarkedAs (set marks c Criterion) (criteria ++ c ∷ [])
criteria-push marks criteria c within marked n =
    let at : mark_at (set marks c Criterion) c ≡ Criterion = get_or-set_same marks c Criterion Unmarked within in (
      (λ is. elim (cases_eq n c) [
        | inl same ↦ subst (λ k. Contains (criteria ++ c ∷ []) k) (sym same) (Contains-push criteria c)
        | inr other ↦ Contains-append_left criteria (c ∷ []) n ((marked n).0 (sym (get_or-set_other marks c n Criterion Unmarked other) ∙ is))
      ]),
      (λ is. elim (cases_eq n c) [
        | inl same ↦ ap (mark_at (set marks c Criterion)) same ∙ at
        | inr other ↦ elim (Contains-push_cases criteria c n is) [ inl before ↦ get_or-set_other marks c n Criterion Unmarked other ∙ (marked n).1 before | inr same ↦ absurd (other (sym same)) ]
      ]),
    )

pub no_step-set : (marks : List Mark) (c : ℕ) → c < length marks → ((n : ℕ) → HasNoStep (mark_at marks n)) → (n : ℕ) → HasNoStep (mark_at (set marks c Criterion) n)
no_step-set marks c within none n = elim (cases_eq n c) [
  | inl same ↦ subst (λ k. HasNoStep (mark_at (set marks c Criterion) k)) (sym same) (subst HasNoStep (sym (get_or-set_same marks c Criterion Unmarked within)) tt)
  | inr other ↦ subst HasNoStep (sym (get_or-set_other marks c n Criterion Unmarked other)) (none n)
]

no_step_leads_on : (graph : Graph) (marks : List Mark) (n : ℕ) (mark : Mark) → HasNoStep mark → LeadsOn graph marks n mark
no_step_leads_on graph marks n Unmarked none = tt
no_step_leads_on graph marks n Criterion none = tt
no_step_leads_on graph marks n (Next step distance) none = absurd none

no_step_distance : (mark : Mark) → HasNoStep mark → distance_of mark ≡ 0
no_step_distance Unmarked none = refl
no_step_distance Criterion none = refl
no_step_distance (Next step distance) none = absurd none

-- marks of criteria alone are a marking
pub marking_of_criteria : (graph : Graph) (marks : List Mark) → length marks ≡ length graph.nodes → ((n : ℕ) → HasNoStep (mark_at marks n)) → IsMarking graph marks
marking_of_criteria graph marks same none = record {
  same_length = same;
  lead_on = λ n. no_step_leads_on graph marks n (mark_at marks n) (none n);
  short = λ n marked. omega (arith, no_step_distance (mark_at marks n) (none n), count-marked marks n marked);
}

-- ---- a round over the edges

-- what a round has made of the first marks, when it has followed these edges
abbrev pub IsFollowed : Graph → List Mark → List Mark → Bool → List Edge → Type 0
IsFollowed graph first marks news done =
    IsMarking graph marks × OnlyGrows first marks
    × MatchBool news (unmarked_count marks < unmarked_count first) ((marks ≡ first) × ((e : Edge) → Contains done e → IsClosedAt marks e))

pub followed-news : (graph : Graph) (first old new : List Mark) (news : Bool) (done more : List Edge) → IsFollowed graph first old news done → IsMarking graph new → OnlyGrows old new
    → unmarked_count new < unmarked_count old → IsFollowed graph first new true more
followed-news graph first old new true done more h marking grows fewer = (marking, grows-grows first old new h.1 grows, omega (arith, h.2))
followed-news graph first old new false done more h marking grows fewer = (marking, grows-grows first old new h.1 grows, omega (arith, ap unmarked_count h.2.0))

pub followed-quiet : (graph : Graph) (first old new : List Mark) (news : Bool) (done : List Edge) (e : Edge) → IsFollowed graph first old news done → IsMarking graph new → OnlyGrows old new
    → new ≡ old → IsClosedAt new e → IsFollowed graph first new news (done ++ e ∷ [])
followed-quiet graph first old new true done e h marking grows same closed = (marking, grows-grows first old new h.1 grows, rw same h.2)
followed-quiet graph first old new false done e h marking grows same closed = (
  marking,
  grows-grows first old new h.1 grows,
  (
    same ∙ h.2.0,
    λ x is. elim (Contains-push_cases done e x is) [
      | inl before ↦ subst (λ m. IsClosedAt m x) (sym same) (h.2.1 x before)
      | inr here ↦ subst (IsClosedAt new) here closed
    ],
  ),
)
