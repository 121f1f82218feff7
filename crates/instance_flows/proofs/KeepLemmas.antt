-- Which edges are kept, node by node.
use Rattle.std.specs.Prelude.{◌↔◌, cond, option_map, slice_get, IsSomeAnd}
use Rattle.std.proofs.Common.{inl, inr, ◌⊎◌, ◌≡◌, ℕ, zero, suc, ◌+◌, ◌<◌, ◌≤◌, ◌^◌, Bool, true, false, List, [], ◌∷◌, ◌++◌, length, get_or, take, Contains, Option, Some, None, refl, sym, ◌∙◌, ap, subst, arith, length-append}
use Rattle.std.specs.List.{AllByRecursion}
use Rattle.std.proofs.lemmas.Option.{same_Some, slice_get_cases}
use Rattle.jo_ids.specs.Rows.{has_number}
use Rattle.jo_ids.proofs.PathLemmas.{kept_along}
use Rattle.jo_insn.specs.declared.instructions.Insn.{Insn}
use Rattle.jo_prog.specs.declared.program.Program.{Program}
use Rattle.jo_prog.specs.Sites.{opcode_of}
use Rattle.jo_prog.proofs.WalkLemmas.{none_there}
use Rattle.dep_nodes.specs.declared.kinds.NodeKind.{NodeKind}
use Rattle.dep_nodes.specs.declared.kinds.NodeKind.TheVariants.{Exit, Instr, Call, RetKind, Throw, Catch, XPoll}
use Rattle.dep_nodes.specs.OnceLists.{IsOnceEach}
use Rattle.dependence.specs.declared.flows.FlowRow.{FlowRow}
use Rattle.dependence.specs.declared.facts.Fact.{Fact}
use Rattle.dependence.specs.declared.facts.Fact.TheVariants.{Throws, Stalls}
use Rattle.dependence.specs.FlowData.{EdgeIn, IsInside, IsFlow}
use Rattle.dependence.specs.Listed.{AddsExactly, ListsExactly}
use Rattle.dependence.proofs.ListedLemmas.{adds_none, adds_alike, adds_one, adds_more, lists_exactly, taken_more, taken_once}
use Rattle.dependence.specs.WideGraph.{insn_at, is_call, node_of_insn, IsFirst, WideStep, begins, skips, falls, jumps, polls, turns, loops, returns, raises, calls_native_of, calls, comes_back, rethrows, stays_away, arrives, caught, polls_caught, turns_caught, loops_caught, uncaught, handles, IsWideNode}
use Rattle.dependence.specs.GraphsAsData.{kind_at, IsWideGraph}
use Rattle.dependence.specs.FlowGraph.{MayThrowAt, TargetEnds, KeptFrom}
use Rattle.dependence.proofs.BehindLemmas.{edge_inside}
use Rattle.flow_graph.specs.Adding.{HasThose}
use Rattle.instance_flows.specs.declared.keeping.Way.{Way}
use Rattle.instance_flows.specs.declared.keeping.Way.TheVariants.{Row, Out}
use Rattle.instance_flows.specs.declared.keeping.Keeps.{Keeps}
use Rattle.instance_flows.specs.declared.keeping.Keeps.TheVariants.{Raising, Ends, Ways}
use Rattle.instance_flows.specs.Raising.{alone, AreRaising}
use Rattle.instance_flows.proofs.PartLemmas.{all_below}
use Rattle.instance_flows.specs.Keeping.{IsWayOf, Allows, RaisesAt, KeepsAt, IsKeptEnd, IsKeptEdge, IsAllowedAt, AreKept}

-- ---- lists

pub all_from_each : {A : Type 0} (P : A → Type 0) (xs : List A) → ((i : ℕ) (x : A) → slice_get xs i ≡ Some x → P x) → AllByRecursion P xs
all_from_each P [] each = tt
all_from_each P (x ∷ xs) each = (each 0 x refl, all_from_each P xs (λ i y at. each (suc i) y at))

pub slice_get_push_cases : {A : Type 0} (xs : List A) (y : A) (i : ℕ) (x : A) → slice_get (xs ++ y ∷ []) i ≡ Some x → (slice_get xs i ≡ Some x) ⊎ ((i ≡ length xs) × (y ≡ x))
slice_get_push_cases [] y zero x at = inr (refl, same_Some y x at)
slice_get_push_cases [] y (suc i) x at = absurd (cc)
slice_get_push_cases (z ∷ xs) y zero x at = inl at
slice_get_push_cases (z ∷ xs) y (suc i) x at = elim (slice_get_push_cases xs y i x at) [
  | inl there ↦ inl there
  | inr (last, same) ↦ inr (ap suc last, same)
]

-- ---- what stands at a node of the wide graph

-- a call stands at a Call, and another instruction at an Instr
abbrev pub StandsThere : Program → ℕ → NodeKind → Type 0
StandsThere program m (Instr pc) = (insn : Insn) × (next : ℕ) × (insn_at program m pc ≡ Some (insn, next)) × (node_of_insn pc insn ≡ Instr pc)
StandsThere program m (Call pc) = (insn : Insn) × (next : ℕ) × (insn_at program m pc ≡ Some (insn, next)) × (node_of_insn pc insn ≡ Call pc)
StandsThere program m _ = Unit {0}

module _ (program : Program) (m : ℕ) where
  stands_by : (pc next : ℕ) (insn : Insn) → insn_at program m pc ≡ Some (insn, next) → (b : Bool) → is_call (opcode_of insn) ≡ b → StandsThere program m (cond b (Call pc) (Instr pc))
  stands_by pc next insn at true e = (insn, next, at, ap (λ b. cond b (Call pc) (Instr pc)) e)
  stands_by pc next insn at false e = (insn, next, at, ap (λ b. cond b (Call pc) (Instr pc)) e)

  first_stands : (pc : ℕ) (n : NodeKind) → IsFirst program m pc n → StandsThere program m n
  first_stands pc n (insn, next, at, is) = subst (λ k. StandsThere program m k) (sym is) (stands_by pc next insn at (is_call (opcode_of insn)) refl)

  step_stands : (a b : NodeKind) → WideStep program m a b → StandsThere program m b
  step_stands _ _ (begins n first) = first_stands 0 n first
  step_stands _ _ skips = tt
  step_stands _ _ (falls pc next insn n at goes first) = first_stands next n first
  step_stands _ _ (jumps pc target n jump ahead first) = first_stands target n first
  step_stands _ _ (polls pc target n jump back first) = tt
  step_stands _ _ (turns pc target n jump back first) = first_stands target n first
  step_stands _ _ (loops pc target jump back) = tt
  step_stands _ _ (returns pc stands) = tt
  step_stands _ _ (raises pc n stands first) = tt
  step_stands _ _ (calls_native_of pc stands native) = tt
  step_stands _ _ (calls pc stands other) = tt
  step_stands _ _ (comes_back pc) = tt
  step_stands _ _ (rethrows pc) = tt
  step_stands _ _ (stays_away pc) = tt
  step_stands _ _ (arrives pc next insn n at call first) = first_stands next n first
  step_stands _ _ (caught pc k handler covers ahead) = tt
  step_stands _ _ (polls_caught pc k handler covers back) = tt
  step_stands _ _ (turns_caught pc k handler covers back) = tt
  step_stands _ _ (loops_caught pc k handler covers back) = tt
  step_stands _ _ (uncaught pc) = tt
  step_stands _ _ (handles k row n at first) = first_stands row.handler n first

  pub wide_stands : (n : NodeKind) → IsWideNode program m n → StandsThere program m n
  wide_stands n path = kept_along (StandsThere program m) (λ a b step h. step_stands a b step) path tt

-- ---- one node

module _ (program : Program) (m : ℕ) (F : Fact (List ℕ) → Type 0) (H : ℕ → ℕ → Type 0) where
  -- a set of what raises tells it of each node
  pub raises_at : (wide : List FlowRow) (is : IsWideGraph program m H wide) (raising : List Bool) → AreRaising program F H m wide raising → (n : ℕ) (kind : NodeKind) → kind_at wide n ≡ Some kind → RaisesAt program F H m kind (has_number raising n)
  raises_at wide is raising are n (Instr pc) at =
      let s = wide_stands program m (Instr pc) (is.graph.only_nodes n (Instr pc) at) in
      are.each n pc s.1 s.0 s.2 (at ∙ ap (λ k. Some k) (sym s.3))
  raises_at wide is raising are n (Call pc) at =
      let s = wide_stands program m (Call pc) (is.graph.only_nodes n (Call pc) at) in
      are.each n pc s.1 s.0 s.2 (at ∙ ap (λ k. Some k) (sym s.3))
  raises_at wide is raising are n kind at = tt

  pub insn_kept : (pc : ℕ) (raised : Bool) → (raised ≡ true) ↔ MayThrowAt program F H (alone m) pc → KeepsAt program F H m (Instr pc) (Raising raised)
  insn_kept pc raised told (Throw p) = told
  insn_kept pc raised told to = (λ h. h, λ h. h)

  pub call_kept : (pc : ℕ) (raised : Bool) → (raised ≡ true) ↔ MayThrowAt program F H (alone m) pc → KeepsAt program F H m (Call pc) (Raising raised)
  call_kept pc raised told (Throw p) = told
  call_kept pc raised told to = (λ h. h, λ h. h)

  pub ends_kept : (pc : ℕ) (throws stalls : Bool) → (throws ≡ true) ↔ TargetEnds F (alone m) pc Throws → (stalls ≡ true) ↔ TargetEnds F (alone m) pc Stalls → KeepsAt program F H m (RetKind pc) (Ends throws stalls)
  ends_kept pc throws stalls thrown stalled (Throw p) = thrown
  ends_kept pc throws stalls thrown stalled Exit = stalled
  ends_kept pc throws stalls thrown stalled to = (λ h. h, λ h. h)

  pub ways_kept : (pc : ℕ) (ways : List Way) → HasThose (IsWayOf program F m pc) ways → KeepsAt program F H m (Throw pc) (Ways ways)
  ways_kept pc ways has (Catch k) = has (Row k)
  ways_kept pc ways has (XPoll p k) = has (Row k)
  ways_kept pc ways has Exit = has Out
  ways_kept pc ways has to = (λ h. h, λ h. h)

-- ---- the ends of one node

pub edges_are : (flow : List FlowRow) (n : ℕ) (ends : List ℕ) → option_map (λ row. row.successors) (slice_get flow n) ≡ Some ends → (b : ℕ) → Contains ends b ↔ EdgeIn flow n b
edges_are flow n ends is b = by_row (slice_get flow n) is
  where
    by_row : (o : Option FlowRow) → option_map (λ row. row.successors) o ≡ Some ends → Contains ends b ↔ IsSomeAnd o (λ row. Contains row.successors b)
    by_row None e = absurd (cc)
    by_row (Some row) e = subst (λ (o : Option (List ℕ)). IsSomeAnd o (λ (xs : List ℕ). Contains ends b ↔ Contains xs b)) (sym e) (λ h. h, λ h. h)

module _ (wide : List FlowRow) (keeps : Keeps) where
  -- those of the first successors
  abbrev pub AllowedAmong : List ℕ → ℕ → Type 0
  AllowedAmong ends x = Contains ends x × ((to : NodeKind) × (kind_at wide x ≡ Some to) × Allows keeps to)

  pub allowed_none : AddsExactly (AllowedAmong []) [] []
  allowed_none = adds_none (AllowedAmong []) [] (λ x is. none_there x is.0)

  pub allowed_more : (ends : List ℕ) (i end : ℕ) (old new : List ℕ) → IsOnceEach ends → i < length ends → end ≡ get_or ends i end → AddsExactly (AllowedAmong (take i ends)) [] old → AddsExactly (IsAllowedAt wide keeps end) old new
      → AddsExactly (AllowedAmong (take (i + 1) ends)) [] new
  allowed_more ends i end old new once below at before more = adds_more (AllowedAmong (take i ends)) (IsAllowedAt wide keeps end) (AllowedAmong (take (i + 1) ends)) [] old new before more apart (λ x. (there x, back x))
    where
      apart : (x : ℕ) → AllowedAmong (take i ends) x → IsAllowedAt wide keeps end x → ⊥
      apart x among one = taken_once ends i end once below at (subst (λ y. Contains (take i ends) y) one.0 among.0)

      there : (x : ℕ) → AllowedAmong (take (i + 1) ends) x → AllowedAmong (take i ends) x ⊎ IsAllowedAt wide keeps end x
      there x among = elim ((taken_more ends i end x below at).0 among.0) [
        | inl first ↦ inl (first, among.1)
        | inr last ↦ inr (last, among.1)
      ]

      back : (x : ℕ) → AllowedAmong (take i ends) x ⊎ IsAllowedAt wide keeps end x → AllowedAmong (take (i + 1) ends) x
      back x (inl among) = ((taken_more ends i end x below at).1 (inl among.0), among.1)
      back x (inr one) = ((taken_more ends i end x below at).1 (inr one.0), one.1)

  pub allowed_all : (n : ℕ) (ends list : List ℕ) → ((b : ℕ) → Contains ends b ↔ EdgeIn wide n b) → AddsExactly (AllowedAmong ends) [] list → ListsExactly (IsKeptEnd wide keeps n) list
  allowed_all n ends list edges adds = lists_exactly (IsKeptEnd wide keeps n) list (adds_alike (AllowedAmong ends) (IsKeptEnd wide keeps n) [] list adds (λ x. (there x, back x)))
    where
      there : (x : ℕ) → IsKeptEnd wide keeps n x → AllowedAmong ends x
      there x end = ((edges x).1 end.edge, (end.to, end.is_to, end.allowed))

      back : (x : ℕ) → AllowedAmong ends x → IsKeptEnd wide keeps n x
      back x among = record { edge = (edges x).0 among.0; to = (among.1).0; is_to = (among.1).1; allowed = (among.1).2 }

  pub allowed_one : (end : ℕ) (to : NodeKind) (old new : List ℕ) → kind_at wide end ≡ Some to → Allows keeps to → new ≡ old ++ end ∷ [] → AddsExactly (IsAllowedAt wide keeps end) old new
  allowed_one end to old new at allowed made = adds_alike (λ x. x ≡ end) (IsAllowedAt wide keeps end) old new (adds_one old new end made) (λ x. (λ one. one.0, λ e. (e, (to, ap (kind_at wide) e ∙ at, allowed))))

  pub allowed_skip : (end : ℕ) (to : NodeKind) (old : List ℕ) → kind_at wide end ≡ Some to → (Allows keeps to → ⊥) → AddsExactly (IsAllowedAt wide keeps end) old old
  allowed_skip end to old at not = adds_none (IsAllowedAt wide keeps end) old none
    where
      none : (x : ℕ) → IsAllowedAt wide keeps end x → ⊥
      none x one = not (subst (λ k. Allows keeps k) (same_Some (one.1).0 to (sym (one.1).1 ∙ ap (kind_at wide) one.0 ∙ at)) (one.1).2)

-- ---- all nodes

-- the rows so far
pub record KeptSoFar (program : Program) (m : ℕ) (F : Fact (List ℕ) → Type 0) (H : ℕ → ℕ → Type 0) (wide : List FlowRow) (n : ℕ) (rows : List FlowRow) : Type 0 where
  pub count : length rows ≡ n
  pub each : (a : ℕ) (row : FlowRow) → slice_get rows a ≡ Some row → ListsExactly (IsKeptEdge program F H m wide a) row.successors

pub kept_none : (program : Program) (m : ℕ) (F : Fact (List ℕ) → Type 0) (H : ℕ → ℕ → Type 0) (wide : List FlowRow) → KeptSoFar program m F H wide 0 []
kept_none program m F H wide = record { count = refl; each = λ a row at. absurd (cc) }

module _ (program : Program) (m : ℕ) (F : Fact (List ℕ) → Type 0) (H : ℕ → ℕ → Type 0) (wide : List FlowRow) (is : IsWideGraph program m H wide) where
  kept_edge : (n : ℕ) (keeps : Keeps) (from : NodeKind) (ends : List ℕ) → kind_at wide n ≡ Some from → KeepsAt program F H m from keeps → ListsExactly (IsKeptEnd wide keeps n) ends
      → ListsExactly (IsKeptEdge program F H m wide n) ends
  kept_edge n keeps from ends at told exact = record { each = λ b. (λ c. there b ((exact.each b).0 c), λ e. (exact.each b).1 (back b e)); once = exact.once }
    where
      there : (b : ℕ) → IsKeptEnd wide keeps n b → IsKeptEdge program F H m wide n b
      there b end = record { edge = end.edge; from = from; is_from = at; to = end.to; is_to = end.is_to; kept = (told end.to).0 end.allowed }

      back : (b : ℕ) → IsKeptEdge program F H m wide n b → IsKeptEnd wide keeps n b
      back b e = record {
        edge = e.edge;
        to = e.to;
        is_to = e.is_to;
        allowed = (told e.to).1 (subst (λ k. KeptFrom program F H (alone m) k e.to) (same_Some e.from from (sym e.is_from ∙ at)) e.kept);
      }

  pub kept_more : (n : ℕ) (keeps : Keeps) (from : NodeKind) (row : FlowRow) (old new : List FlowRow) → kind_at wide n ≡ Some from → KeepsAt program F H m from keeps
      → ListsExactly (IsKeptEnd wide keeps n) row.successors → new ≡ old ++ row ∷ [] → KeptSoFar program m F H wide n old → KeptSoFar program m F H wide (n + 1) new
  kept_more n keeps from row old new at told exact made before = record { count = ap length made ∙ length-append old (row ∷ []) ∙ omega (arith, before.count); each = each }
    where
      each : (a : ℕ) (r : FlowRow) → slice_get new a ≡ Some r → ListsExactly (IsKeptEdge program F H m wide a) r.successors
      each a r found = elim (slice_get_push_cases old row a r (subst (λ xs. slice_get xs a ≡ Some r) made found)) [
        | inl there ↦ before.each a r there
        | inr (last, same) ↦
            subst (λ k. ListsExactly (IsKeptEdge program F H m wide k) r.successors) (sym (last ∙ before.count))
            (subst (λ (s : FlowRow). ListsExactly (IsKeptEdge program F H m wide n) s.successors) same (kept_edge n keeps from row.successors at told exact))
      ]

  of_row : (rows : List FlowRow) (a b : ℕ) → EdgeIn rows a b → (row : FlowRow) × (slice_get rows a ≡ Some row) × Contains row.successors b
  of_row rows a b edge = by_row (slice_get rows a) refl edge
    where
      by_row : (o : Option FlowRow) → slice_get rows a ≡ o → IsSomeAnd o (λ row. Contains row.successors b) → (row : FlowRow) × (slice_get rows a ≡ Some row) × Contains row.successors b
      by_row None at h = absurd h
      by_row (Some row) at h = (row, at, h)

  pub are_kept : (n : ℕ) (rows : List FlowRow) → length wide ≡ n → KeptSoFar program m F H wide n rows → AreKept program F H m wide rows
  are_kept n rows past so_far = record { same_length = so_far.count ∙ sym past; edges = λ a b. (there a b, back a b) }
    where
      there : (a b : ℕ) → EdgeIn rows a b → IsKeptEdge program F H m wide a b
      there a b edge = let at = of_row rows a b edge in ((so_far.each a at.0 at.1).each b).0 at.2

      back : (a b : ℕ) → IsKeptEdge program F H m wide a b → EdgeIn rows a b
      back a b e =
          let below = edge_inside wide a b e.edge in
          by_row (slice_get_cases rows a).1 below
        where
          by_row : ((row : FlowRow) × (a < length rows) × (slice_get rows a ≡ Some row) × (get_or rows a row ≡ row)) ⊎ ((length rows ≤ a) × (slice_get rows a ≡ None)) → a < length wide → EdgeIn rows a b
          by_row (inl (row, within, at, same)) below = subst (λ o. IsSomeAnd o (λ (r : FlowRow). Contains r.successors b)) (sym at) (((so_far.each a row at).each b).1 e)
          by_row (inr (over, none)) below = absurd (omega (arith, over, below, past, so_far.count))

  pub kept_is_flow : (n : ℕ) (rows : List FlowRow) (count : ℕ) → length wide ≡ n → length wide < 2 ^ 32 → count ≡ length rows → KeptSoFar program m F H wide n rows → IsFlow rows count
  kept_is_flow n rows count past few counted so_far = record {
    few = omega (arith, past, few, counted, so_far.count);
    rows = all_from_each (IsInside (length rows)) rows inside;
  }
    where
      inside : (a : ℕ) (row : FlowRow) → slice_get rows a ≡ Some row → IsInside (length rows) row
      inside a row at = record {
        inside = all_below (length rows) row.successors (λ b c. (let to = is.graph.inside a b (((so_far.each a row at).each b).0 c).edge in omega (arith, to, past, so_far.count)));
        once = (so_far.each a row at).once;
      }
