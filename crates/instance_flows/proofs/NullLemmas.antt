-- What null comes to from node to node is what may be null.
use Rattle.std.specs.Prelude.{◌↔◌, option_map, slice_get, IsSomeAnd}
use Rattle.std.proofs.Common.{inl, inr, ◌⊎◌, ◌≡◌, ℕ, ◌+◌, ◌<◌, ◌≤◌, Bool, true, false, IsTrue, List, [], length, get_or, take, replicate, Contains, Option, Some, None, refl, sym, ◌∙◌, ap, subst, arith}
use Rattle.std.proofs.lemmas.Bool.{both_ways, cases_eq, cases_lt}
use Rattle.std.proofs.lemmas.List.{get_or_past, get_or-replicate, length-replicate}
use Rattle.jo_prog.proofs.WalkLemmas.{none_there}
use Rattle.dependence.proofs.ListedLemmas.{taken_more}
use Rattle.std.proofs.lemmas.Option.{same_Some, slice_get_within, slice_get_cases}
use Rattle.jo_ids.specs.Path.{Path}
use Rattle.jo_ids.proofs.PathLemmas.{path_more, path_edge, kept_along, path_in}
use Rattle.jo_graph.specs.Graphs.{HasEdge, AddsEdge, IsReach}
use Rattle.jo_insn.specs.declared.instructions.Insn.{Insn}
use Rattle.jo_prog.specs.declared.program.Program.{Program}
use Rattle.dep_nodes.specs.declared.kinds.NodeKind.{NodeKind}
use Rattle.dep_nodes.specs.declared.kinds.NodeKind.TheVariants.{Entry, Instr, RetVal}
use Rattle.dependence.specs.declared.flow.Place.{Place}
use Rattle.dependence.specs.declared.flow.Place.TheVariants.{Local}
use Rattle.dependence.specs.declared.flows.FlowNode.{FlowNode}
use Rattle.dependence.specs.declared.flows.FlowRow.{FlowRow}
use Rattle.dependence.specs.declared.flows.Use.{Use}
use Rattle.dependence.specs.Dependence.{Reaches, one, more}
use Rattle.dependence.specs.FlowData.{AreUses, ReachesIn}
use Rattle.dependence.specs.WideGraph.{insn_at, StandsWith, WideEdge, IsWideNode}
use Rattle.dependence.specs.NodePlaces.{Reads, Writes, WideReaches}
use Rattle.dependence.specs.GraphsAsData.{kind_at, ListsRead, pc_kept, node_with, IsWideGraph}
use Rattle.dependence.specs.MayBeNull.{may_give_null, is_move, MayBeNull, MayBeNullParameter, by_opcode, by_result, by_parameter, by_move}
use Rattle.dependence.proofs.DataLemmas.{reaches_by_kind, reaches_by_number}
use Rattle.instance_flows.specs.NodeTests.{is_entry, gives_null_by, moves_by, GivesNullAt, MovesAt, NullComes, NullStep, AreNulls}

-- ---- nodes

pub entry_is : (k : NodeKind) → is_entry k ≡ true → k ≡ Entry
entry_is Entry e = refl
entry_is k e = absurd (cc)

-- a definition that arrives begins at a node from which an edge leads
pub reaches_begins : {N : Type 0} {E : N → N → Type 0} {W : N → Place → Type 0} (v : Place) (d n : N) → Reaches E W v d n → (x : N) × E d x
reaches_begins v d _ (one n edge writes) = (n, edge)
reaches_begins v d _ (more x n before passes edge) = reaches_begins v d x before

module _ (program : Program) (m : ℕ) (H : ℕ → ℕ → Type 0) (wide : List FlowRow) (is : IsWideGraph program m H wide) where
  -- the row of a number, and what its node keeps
  pub record NodeIs (n : ℕ) (k : NodeKind) : Type 0 where
    pub row : FlowRow
    pub at : slice_get wide n ≡ Some row
    pub same : row.node ≡ node_with program m k (pc_kept k)

  pub node_is : (n : ℕ) (k : NodeKind) → kind_at wide n ≡ Some k → NodeIs n k
  node_is n k e = by_row (slice_get wide n) refl e
    where
      by_row : (o : Option FlowRow) → slice_get wide n ≡ o → option_map (λ (row : FlowRow). row.node.kind) o ≡ Some k → NodeIs n k
      by_row None at f = absurd (cc)
      by_row (Some row) at f =
          let kind : row.node.kind ≡ k = same_Some row.node.kind k f in
          record { row = row; at = at; same = subst (λ x. row.node ≡ node_with program m x (pc_kept x)) kind (is.nodes n row at) }

  pub kind_below : (n : ℕ) (k : NodeKind) → kind_at wide n ≡ Some k → n < length wide
  kind_below n k at = let node = node_is n k at in slice_get_within wide n node.row node.at

  -- what is asked of the node of a number is asked of its kind and of what it keeps
  pub of_node : (P : FlowNode → Type 0) (n : ℕ) (k : NodeKind) → kind_at wide n ≡ Some k → IsSomeAnd (slice_get wide n) (λ row. P row.node) ↔ P (node_with program m k (pc_kept k))
  of_node P n k at =
      let node = node_is n k at in
      (λ h. subst P node.same (subst (λ o. IsSomeAnd o (λ (row : FlowRow). P row.node)) node.at h), λ p. subst (λ o. IsSomeAnd o (λ (row : FlowRow). P row.node)) (sym node.at) (subst P (sym node.same) p))

  -- a number of which something is asked has a kind
  pub kind_of : (P : FlowRow → Type 0) (n : ℕ) → IsSomeAnd (slice_get wide n) P → (k : NodeKind) × (kind_at wide n ≡ Some k)
  kind_of P n h = by_row (slice_get wide n) h
    where
      by_row : (o : Option FlowRow) → IsSomeAnd o P → (k : NodeKind) × (option_map (λ (row : FlowRow). row.node.kind) o ≡ Some k)
      by_row None p = absurd p
      by_row (Some row) p = (row.node.kind, refl)

  -- ---- what makes null

  insn_gives : (pc : ℕ) (o : Option (Insn × ℕ)) → insn_at program m pc ≡ o → gives_null_by (Instr pc) (option_map (λ (found : Insn × ℕ). found.0) o) ≡ true → StandsWith program m pc may_give_null
  insn_gives pc None at e = absurd (cc)
  insn_gives pc (Some found) at e = (found.0, found.1, at, e)

  gives : (k : NodeKind) → gives_null_by (node_with program m k (pc_kept k)).kind (node_with program m k (pc_kept k)).insn ≡ true → (is_entry k ≡ false) × ((v : Place) → MayBeNull program m H k v)
  gives (RetVal pc) e = (refl, λ v. by_result pc v)
  gives (Instr pc) e = (refl, λ v. by_opcode pc v (insn_gives pc (insn_at program m pc) refl e))
  gives k e = absurd (cc)

  insn_moves : (pc : ℕ) (o : Option (Insn × ℕ)) → insn_at program m pc ≡ o → moves_by (Instr pc) (option_map (λ (found : Insn × ℕ). found.0) o) ≡ true → StandsWith program m pc is_move
  insn_moves pc None at e = absurd (cc)
  insn_moves pc (Some found) at e = (found.0, found.1, at, e)

  record Moves (k : NodeKind) : Type 0 where
    pc : ℕ
    is_insn : k ≡ Instr pc
    stands : StandsWith program m pc is_move

  moving : (k : NodeKind) → moves_by (node_with program m k (pc_kept k)).kind (node_with program m k (pc_kept k)).insn ≡ true → Moves k
  moving (Instr pc) e = record { pc = pc; is_insn = refl; stands = insn_moves pc (insn_at program m pc) refl e }
  moving k e = absurd (cc)

  -- ---- from null to what may be null

  record NullNode (n : ℕ) : Type 0 where
    kind : NodeKind
    at : kind_at wide n ≡ Some kind
    plain : is_entry kind ≡ false
    null : (v : Place) → MayBeNull program m H kind v

  given : (n : ℕ) → GivesNullAt wide n → NullNode n
  given n h =
      let k = kind_of (λ row. gives_null_by row.node.kind row.node.insn ≡ true) n h in
      let g = gives k.0 ((of_node (λ node. gives_null_by node.kind node.insn ≡ true) n k.0 k.1).0 h) in
      record { kind = k.0; at = k.1; plain = g.0; null = g.1 }

  module _ (uses : List Use) (are : AreUses wide uses) where
    -- null moves on along a use
    moved : (u : Use) (d : NodeKind) → Contains uses u → MovesAt wide u.node → kind_at wide u.from ≡ Some d → MayBeNull program m H d u.place → NullNode u.node
    moved u d among moves at_from null =
        let k = kind_of (λ row. moves_by row.node.kind row.node.insn ≡ true) u.node moves in
        let move = moving k.0 ((of_node (λ node. moves_by node.kind node.insn ≡ true) u.node k.0 k.1).0 moves) in
        let at : kind_at wide u.node ≡ Some (Instr move.pc) = k.1 ∙ ap (λ x. Some x) move.is_insn in
        let there = (are.each u).0 among in
        let reads : Reads program m H (Instr move.pc) u.place = (is.graph.reads u.node (Instr move.pc) u.place at).0 there.0 in
        let reaches : WideReaches program m H u.place d (Instr move.pc) =
        reaches_by_kind (IsWideNode program m) (WideEdge program m) (ListsRead program m H) (Writes program m H) wide is.graph u.place u.from d at_from u.node (Instr move.pc) at there.1
        in
        record { kind = Instr move.pc; at = at; plain = refl; null = λ v. by_move move.pc v u.place d move.stands reads reaches null }

    comes : (u : Use) (a : ℕ) → Contains uses u → NullComes program m H wide u a → (a ≡ length wide) ⊎ NullNode a → NullNode u.node
    comes u a among (moves, inl (entry, null, last)) sound = moved u Entry among moves entry null
    comes u a among (moves, inr (other, same)) (inl last) =
        let from = use_from u among in
        let below = kind_below u.from from.0 from.1 in
        absurd (omega (arith, below, same, last))
      where
        use_from : (u : Use) → Contains uses u → (k : NodeKind) × (kind_at wide u.from ≡ Some k)
        use_from u among = let begins = reaches_begins u.place u.from u.node ((are.each u).0 among).1 in kind_of (λ row. Contains row.successors begins.0) u.from begins.1
    comes u a among (moves, inr (other, same)) (inr node) = moved u node.kind among moves (ap (kind_at wide) (sym same) ∙ node.at) (node.null u.place)

    step_keeps : (a b : ℕ) → NullStep program m H wide uses a b → (a ≡ length wide) ⊎ NullNode a → (b ≡ length wide) ⊎ NullNode b
    step_keeps a b (inl (last, here)) sound = inr (given b here)
    step_keeps a b (inr (u, among, node, from)) sound = inr (subst NullNode node (comes u a among from sound))

    -- ---- from what may be null to null

    gives_at : (n : ℕ) (k : NodeKind) → kind_at wide n ≡ Some k → gives_null_by (node_with program m k (pc_kept k)).kind (node_with program m k (pc_kept k)).insn ≡ true → GivesNullAt wide n
    gives_at n k at e = (of_node (λ node. gives_null_by node.kind node.insn ≡ true) n k at).1 e

    opcode_gives : (pc : ℕ) → StandsWith program m pc may_give_null → gives_null_by (Instr pc) (option_map (λ (found : Insn × ℕ). found.0) (insn_at program m pc)) ≡ true
    opcode_gives pc (insn, next, at, e) = subst (λ o. gives_null_by (Instr pc) (option_map (λ (found : Insn × ℕ). found.0) o) ≡ true) (sym at) e

    opcode_moves : (pc : ℕ) → StandsWith program m pc is_move → moves_by (Instr pc) (option_map (λ (found : Insn × ℕ). found.0) (insn_at program m pc)) ≡ true
    opcode_moves pc (insn, next, at, e) = subst (λ o. moves_by (Instr pc) (option_map (λ (found : Insn × ℕ). found.0) o) ≡ true) (sym at) e

    -- a move that reads a place, and a definition of it
    record MoveUse (n : ℕ) (d : NodeKind) (read : Place) : Type 0 where
      from : ℕ
      at_from : kind_at wide from ≡ Some d
      among : Contains uses (record { node = n; place = read; from = from })
      moves : MovesAt wide n

    move_use : (n pc : ℕ) (d : NodeKind) (read : Place) → kind_at wide n ≡ Some (Instr pc) → StandsWith program m pc is_move → Reads program m H (Instr pc) read → WideReaches program m H read d (Instr pc) → MoveUse n d read
    move_use n pc d read at stands reads reaches =
        let begins = reaches_begins read d (Instr pc) reaches in
        let from = is.graph.each_node d (begins.1).there in
        let there : ReachesIn wide read from.0 n =
        reaches_by_number (IsWideNode program m) (WideEdge program m) (ListsRead program m H) (Writes program m H) wide is.graph (λ a b edge. edge.there) read from.0 d from.1 n (Instr pc) at reaches
        in
        record {
          from = from.0;
          at_from = from.1;
          among = (are.each (record { node = n; place = read; from = from.0 })).1 ((is.graph.reads n (Instr pc) read at).1 reads, there);
          moves = (of_node (λ node. moves_by node.kind node.insn ≡ true) n (Instr pc) at).1 (opcode_moves pc stands);
        }

    moves_on : (n : ℕ) (d : NodeKind) (read : Place) → MoveUse n d read → MayBeNull program m H d read → ((from : ℕ) → kind_at wide from ≡ Some d → is_entry d ≡ false → Path (NullStep program m H wide uses) (length wide) from)
        → Path (NullStep program m H wide uses) (length wide) n
    moves_on n d read found null again = by_entry (is_entry d) refl
      where
        by_entry : (b : Bool) → is_entry d ≡ b → Path (NullStep program m H wide uses) (length wide) n
        by_entry true e =
            let same = entry_is d e in
            path_edge (inr (record { node = n; place = read; from = found.from }, found.among, refl, (found.moves, inl (found.at_from ∙ ap (λ k. Some k) same, subst (λ k. MayBeNull program m H k read) same null, refl))))
        by_entry false e =
            path_more (again found.from found.at_from e)
            (inr (record { node = n; place = read; from = found.from }, found.among, refl, (found.moves, inr (not_entry, refl))))
          where
            not_entry : kind_at wide found.from ≡ Some Entry → ⊥
            not_entry at = both_ways (is_entry d) e (ap is_entry (same_Some d Entry (sym found.at_from ∙ at)))

    complete : (k : NodeKind) (v : Place) → MayBeNull program m H k v → (n : ℕ) → kind_at wide n ≡ Some k → is_entry k ≡ false → Path (NullStep program m H wide uses) (length wide) n
    complete _ _ (by_opcode pc v stands) n at plain = path_edge (inl (refl, gives_at n (Instr pc) at (opcode_gives pc stands)))
    complete _ _ (by_result pc v) n at plain = path_edge (inl (refl, gives_at n (RetVal pc) at refl))
    complete _ _ (by_parameter j v e may) n at plain = absurd (cc)
    complete _ _ (by_move pc v read d stands reads reaches null) n at plain =
        moves_on n d read (move_use n pc d read at stands reads reaches) null (λ from at_from other. complete d read null from at_from other)

    -- ---- the set

    pub nulls_are : (graph : List (List ℕ)) (null : List Bool) → ((x y : ℕ) → HasEdge graph x y ↔ NullStep program m H wide uses x y) → length graph ≡ length wide + 1 → IsReach graph (length wide) null → AreNulls program m H wide null
    nulls_are graph null same room reach = record {
      enough = λ n k at. (let below = kind_below n k at in omega (arith, below, reach.same_length, room));
      each = λ n k v at plain. (λ has. there n k v at ((reach.each n).0 has), λ may. (reach.each n).1 (path_in (λ x. x) (λ x y e. (same x y).1 e) (complete k v may n at plain)));
    }
      where
        there : (n : ℕ) (k : NodeKind) (v : Place) → kind_at wide n ≡ Some k → Path (HasEdge graph) (length wide) n → MayBeNull program m H k v
        there n k v at path = by_sound (kept_along (λ a. (a ≡ length wide) ⊎ NullNode a) (λ a b e. step_keeps a b ((same a b).0 e)) path (inl refl))
          where
            by_sound : (n ≡ length wide) ⊎ NullNode n → MayBeNull program m H k v
            by_sound (inl last) = (let below = kind_below n k at in absurd (omega (arith, below, last)))
            by_sound (inr node) = subst (λ x. MayBeNull program m H x v) (same_Some node.kind k (sym node.at ∙ at)) (node.null v)

-- ---- what a node says

pub node_says : (wide : List FlowRow) (P : FlowNode → Type 0) (n : ℕ) (node : FlowNode) → option_map (λ (row : FlowRow). row.node) (slice_get wide n) ≡ Some node → IsSomeAnd (slice_get wide n) (λ row. P row.node) ↔ P node
node_says wide P n node e = by_row (slice_get wide n) e
  where
    by_row : (o : Option FlowRow) → option_map (λ (row : FlowRow). row.node) o ≡ Some node → IsSomeAnd o (λ row. P row.node) ↔ P node
    by_row None f = absurd (cc)
    by_row (Some row) f = let same = same_Some row.node node f in (λ p. subst P same p, λ p. subst P (sym same) p)

pub kind_says : (wide : List FlowRow) (n : ℕ) (node : FlowNode) → option_map (λ (row : FlowRow). row.node) (slice_get wide n) ≡ Some node → kind_at wide n ≡ Some node.kind
kind_says wide n node e = by_row (slice_get wide n) e
  where
    by_row : (o : Option FlowRow) → option_map (λ (row : FlowRow). row.node) o ≡ Some node → option_map (λ (row : FlowRow). row.node.kind) o ≡ Some node.kind
    by_row None f = absurd (cc)
    by_row (Some row) f = ap (λ (x : FlowNode). Some x.kind) (same_Some row.node node f)

-- ---- parameters

pub parameter_null : (program : Program) (m : ℕ) (H : ℕ → ℕ → Type 0) (n : NodeKind) (v : Place) → MayBeNull program m H n v → n ≡ Entry → (k : ℕ) × (v ≡ Local k) × MayBeNullParameter program m k
parameter_null program m H _ _ (by_opcode pc v stands) e = absurd (cc)
parameter_null program m H _ _ (by_result pc v) e = absurd (cc)
parameter_null program m H _ _ (by_parameter k v is may) e = (k, is, may)
parameter_null program m H _ _ (by_move pc v read d stands reads reaches null) e = absurd (cc)

pub parameter_told : (program : Program) (m : ℕ) (H : ℕ → ℕ → Type 0) (k : ℕ) (b : Bool) → IsTrue b ↔ MayBeNullParameter program m k → IsTrue b ↔ MayBeNull program m H Entry (Local k)
parameter_told program m H k b told = (λ t. by_parameter k (Local k) refl (told.0 t), back)
  where
    back : MayBeNull program m H Entry (Local k) → IsTrue b
    back null = let at = parameter_null program m H Entry (Local k) null refl in told.1 (subst (λ j. MayBeNullParameter program m j) (same_local at.0 k (sym at.1)) at.2)
      where
        same_local : (j l : ℕ) → Local j ≡ Local l → j ≡ l
        same_local j l e = cc

-- ---- uses

-- a number of which something is asked is that of a node
pub asked_below : (wide : List FlowRow) (P : FlowRow → Type 0) (n : ℕ) → IsSomeAnd (slice_get wide n) P → n < length wide
asked_below wide P n here = by_row (slice_get_cases wide n).1
  where
    by_row : ((row : FlowRow) × (n < length wide) × (slice_get wide n ≡ Some row) × (get_or wide n row ≡ row)) ⊎ ((length wide ≤ n) × (slice_get wide n ≡ None)) → n < length wide
    by_row (inl at) = at.1
    by_row (inr over) = absurd (subst (λ (o : Option FlowRow). IsSomeAnd o P) over.1 here)

pub use_below : (wide : List FlowRow) (uses : List Use) → AreUses wide uses → (u : Use) → Contains uses u → (u.node < length wide) × (u.from < length wide)
use_below wide uses are u among =
    let is = (are.each u).0 among in
    let begins = reaches_begins u.place u.from u.node is.1 in
    (asked_below wide (λ row. Contains row.reads u.place) u.node is.0, asked_below wide (λ row. Contains row.successors begins.0) u.from begins.1)

-- ---- the graph along which null comes

module _ (old new : List (List ℕ)) (a n count : ℕ) (G : Type 0) where
  pub giver_added : AddsEdge old new a n → a ≡ count → G → (x y : ℕ) → HasEdge new x y ↔ (HasEdge old x y ⊎ ((y ≡ n) × (x ≡ count) × G))
  giver_added adds same g x y = (there, back)
    where
      there : HasEdge new x y → HasEdge old x y ⊎ ((y ≡ n) × (x ≡ count) × G)
      there e = elim ((adds.edges x y).0 e) [
        | inl had ↦ inl had
        | inr at ↦ inr (at.1, at.0 ∙ same, g)
      ]

      back : HasEdge old x y ⊎ ((y ≡ n) × (x ≡ count) × G) → HasEdge new x y
      back (inl had) = (adds.edges x y).1 (inl had)
      back (inr at) = (adds.edges x y).1 (inr (at.1 ∙ sym same, at.0))

module _ (wide : List FlowRow) (initial : List (List ℕ)) where
  -- those that the first nodes give
  abbrev pub GivenSoFar : ℕ → List (List ℕ) → Type 0
  GivenSoFar n graph = (x y : ℕ) → HasEdge graph x y ↔ (HasEdge initial x y ⊎ ((y < n) × (x ≡ length wide) × GivesNullAt wide y))

  pub given_none : GivenSoFar 0 initial
  given_none x y = (λ e. inl e, back)
    where
      back : HasEdge initial x y ⊎ ((y < 0) × (x ≡ length wide) × GivesNullAt wide y) → HasEdge initial x y
      back (inl had) = had
      back (inr at) = absurd (omega (arith, at.0))

  pub given_more : (n : ℕ) (old new : List (List ℕ)) → GivenSoFar n old → ((x y : ℕ) → HasEdge new x y ↔ (HasEdge old x y ⊎ ((y ≡ n) × (x ≡ length wide) × GivesNullAt wide n))) → GivenSoFar (n + 1) new
  given_more n old new before adds x y = (λ e. there ((adds x y).0 e), back)
    where
      early : HasEdge initial x y ⊎ ((y < n) × (x ≡ length wide) × GivesNullAt wide y) → HasEdge initial x y ⊎ ((y < n + 1) × (x ≡ length wide) × GivesNullAt wide y)
      early (inl had) = inl had
      early (inr at) = inr (omega (arith, at.0), at.1, at.2)

      there : HasEdge old x y ⊎ ((y ≡ n) × (x ≡ length wide) × GivesNullAt wide n) → HasEdge initial x y ⊎ ((y < n + 1) × (x ≡ length wide) × GivesNullAt wide y)
      there (inl e) = early ((before x y).0 e)
      there (inr at) = inr (omega (arith, at.0), at.1, subst (GivesNullAt wide) (sym at.0) at.2)

      back : HasEdge initial x y ⊎ ((y < n + 1) × (x ≡ length wide) × GivesNullAt wide y) → HasEdge new x y
      back (inl had) = (adds x y).1 (inl ((before x y).1 (inl had)))
      back (inr at) = elim (cases_eq y n) [
        | inl e ↦ (adds x y).1 (inr (e, at.1, subst (GivesNullAt wide) e at.2))
        | inr other ↦ (adds x y).1 (inl ((before x y).1 (inr (omega (arith, at.0, other), at.1, at.2))))
      ]

  pub given_all : (n : ℕ) (graph : List (List ℕ)) → length wide ≤ n → GivenSoFar n graph → (x y : ℕ) → HasEdge graph x y ↔ (HasEdge initial x y ⊎ ((x ≡ length wide) × GivesNullAt wide y))
  given_all n graph past so_far x y = (λ e. there ((so_far x y).0 e), back)
    where
      there : HasEdge initial x y ⊎ ((y < n) × (x ≡ length wide) × GivesNullAt wide y) → HasEdge initial x y ⊎ ((x ≡ length wide) × GivesNullAt wide y)
      there (inl had) = inl had
      there (inr at) = inr (at.1, at.2)

      back : HasEdge initial x y ⊎ ((x ≡ length wide) × GivesNullAt wide y) → HasEdge graph x y
      back (inl had) = (so_far x y).1 (inl had)
      back (inr at) = let below = asked_below wide (λ row. gives_null_by row.node.kind row.node.insn ≡ true) y at.1 in (so_far x y).1 (inr (omega (arith, below, past), at.0, at.1))

module _ (program : Program) (m : ℕ) (H : ℕ → ℕ → Type 0) (wide : List FlowRow) where
  comes_once : (u : Use) (a b : ℕ) → NullComes program m H wide u a → NullComes program m H wide u b → a ≡ b
  comes_once u a b (moves, inl (entry, null, last)) (also, inl (entry2, null2, last2)) = last ∙ sym last2
  comes_once u a b (moves, inl (entry, null, last)) (also, inr (other, same)) = absurd (other entry)
  comes_once u a b (moves, inr (other, same)) (also, inl (entry, null, last)) = absurd (other entry)
  comes_once u a b (moves, inr (other, same)) (also, inr (other2, same2)) = same ∙ sym same2

  pub move_added : (u : Use) (old new : List (List ℕ)) (a : ℕ) → NullComes program m H wide u a → AddsEdge old new a u.node → (x y : ℕ) → HasEdge new x y ↔ (HasEdge old x y ⊎ ((u.node ≡ y) × NullComes program m H wide u x))
  move_added u old new a comes adds x y = (there, back)
    where
      there : HasEdge new x y → HasEdge old x y ⊎ ((u.node ≡ y) × NullComes program m H wide u x)
      there e = elim ((adds.edges x y).0 e) [
        | inl had ↦ inl had
        | inr at ↦ inr (sym at.1, subst (NullComes program m H wide u) (sym at.0) comes)
      ]

      back : HasEdge old x y ⊎ ((u.node ≡ y) × NullComes program m H wide u x) → HasEdge new x y
      back (inl had) = (adds.edges x y).1 (inl had)
      back (inr at) = (adds.edges x y).1 (inr (comes_once u x a at.1 comes, sym at.0))

  pub move_skipped : (u : Use) (old : List (List ℕ)) → ((a : ℕ) → NullComes program m H wide u a → ⊥) → (x y : ℕ) → HasEdge old x y ↔ (HasEdge old x y ⊎ ((u.node ≡ y) × NullComes program m H wide u x))
  move_skipped u old none x y = (λ e. inl e, back)
    where
      back : HasEdge old x y ⊎ ((u.node ≡ y) × NullComes program m H wide u x) → HasEdge old x y
      back (inl had) = had
      back (inr at) = absurd (none x at.1)

  abbrev pub MovedSoFar : List (List ℕ) → List Use → List (List ℕ) → Type 0
  MovedSoFar initial uses graph = (x y : ℕ) → HasEdge graph x y ↔ (HasEdge initial x y ⊎ ((u : Use) × Contains uses u × (u.node ≡ y) × NullComes program m H wide u x))

  pub moved_none : (initial : List (List ℕ)) → MovedSoFar initial [] initial
  moved_none initial x y = (λ e. inl e, back)
    where
      back : HasEdge initial x y ⊎ ((u : Use) × Contains [] u × (u.node ≡ y) × NullComes program m H wide u x) → HasEdge initial x y
      back (inl had) = had
      back (inr at) = absurd (none_there at.0 at.1)

  pub moved_more : (initial : List (List ℕ)) (uses : List Use) (i : ℕ) (u : Use) (old new : List (List ℕ)) → i < length uses → u ≡ get_or uses i u → MovedSoFar initial (take i uses) old
      → ((x y : ℕ) → HasEdge new x y ↔ (HasEdge old x y ⊎ ((u.node ≡ y) × NullComes program m H wide u x))) → MovedSoFar initial (take (i + 1) uses) new
  moved_more initial uses i u old new below is before adds x y = (λ e. there ((adds x y).0 e), back)
    where
      early : HasEdge initial x y ⊎ ((w : Use) × Contains (take i uses) w × (w.node ≡ y) × NullComes program m H wide w x) → HasEdge initial x y ⊎ ((w : Use) × Contains (take (i + 1) uses) w × (w.node ≡ y) × NullComes program m H wide w x)
      early (inl had) = inl had
      early (inr at) = inr (at.0, (taken_more uses i u at.0 below is).1 (inl at.1), at.2, at.3)

      there : HasEdge old x y ⊎ ((u.node ≡ y) × NullComes program m H wide u x) → HasEdge initial x y ⊎ ((w : Use) × Contains (take (i + 1) uses) w × (w.node ≡ y) × NullComes program m H wide w x)
      there (inl e) = early ((before x y).0 e)
      there (inr at) = inr (u, (taken_more uses i u u below is).1 (inr refl), at.0, at.1)

      late : (w : Use) → w.node ≡ y → NullComes program m H wide w x → Contains (take i uses) w ⊎ (w ≡ u) → HasEdge new x y
      late w node comes (inl first) = (adds x y).1 (inl ((before x y).1 (inr (w, first, node, comes))))
      late w node comes (inr same) = (adds x y).1 (inr (ap (λ (k : Use). k.node) (sym same) ∙ node, subst (λ k. NullComes program m H wide k x) same comes))

      back : HasEdge initial x y ⊎ ((w : Use) × Contains (take (i + 1) uses) w × (w.node ≡ y) × NullComes program m H wide w x) → HasEdge new x y
      back (inl had) = (adds x y).1 (inl ((before x y).1 (inl had)))
      back (inr at) = late at.0 at.2 at.3 ((taken_more uses i u at.0 below is).0 at.1)

  pub null_steps : (empty given graph : List (List ℕ)) (uses : List Use) → ((x y : ℕ) → HasEdge empty x y → ⊥) → ((x y : ℕ) → HasEdge given x y ↔ (HasEdge empty x y ⊎ ((x ≡ length wide) × GivesNullAt wide y)))
      → MovedSoFar given uses graph → (x y : ℕ) → HasEdge graph x y ↔ NullStep program m H wide uses x y
  null_steps empty given graph uses none gives moves x y = (λ e. there ((moves x y).0 e), back)
    where
      there : HasEdge given x y ⊎ ((u : Use) × Contains uses u × (u.node ≡ y) × NullComes program m H wide u x) → NullStep program m H wide uses x y
      there (inl e) = elim ((gives x y).0 e) [
        | inl had ↦ absurd (none x y had)
        | inr at ↦ inl at
      ]
      there (inr at) = inr at

      back : NullStep program m H wide uses x y → HasEdge graph x y
      back (inl at) = (moves x y).1 (inl ((gives x y).1 (inr at)))
      back (inr at) = (moves x y).1 (inr at)

empty_at : (k i : ℕ) → get_or {A = List ℕ} (replicate k []) i [] ≡ []
empty_at k i = elim (cases_lt i k) [
  | inl below ↦ get_or-replicate k i [] [] below
  | inr past ↦ get_or_past (replicate k []) i [] (omega (arith, length-replicate {A = List ℕ} k []))
]

pub no_edges : (n x y : ℕ) → HasEdge (replicate n []) x y → ⊥
no_edges n x y e = none_there y (subst (λ (xs : List ℕ). Contains xs y) (empty_at n x) e)
