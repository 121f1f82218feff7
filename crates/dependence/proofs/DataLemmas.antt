-- What is true of a graph over kinds of nodes is true of its data by number, and the other way round.
use Rattle.std.proofs.Common.{◌≡◌, ℕ, List, Option, Some, None, IsSomeAnd, slice_get, option_map, Contains, refl}
use Rattle.dep_nodes.specs.declared.kinds.NodeKind.{NodeKind}
use Rattle.dependence.specs.declared.flow.Place.{Place}
use Rattle.dependence.specs.declared.flows.FlowRow.{FlowRow}
use Rattle.dependence.specs.Dependence.{Reaches, one, more}
use Rattle.dependence.specs.FlowData.{EdgeIn, ReachesIn}
use Rattle.dependence.specs.GraphsAsData.{kind_at, IsDataOf}

kind_there : (o : Option FlowRow) (P : FlowRow → Type 0) → IsSomeAnd o P → (k : NodeKind) × (option_map (λ (row : FlowRow). row.node.kind) o ≡ Some k)
kind_there None P there = absurd there
kind_there (Some row) P there = (row.node.kind, refl)

-- a node from which an edge leads has a kind
kind_of : (flow : List FlowRow) (i j : ℕ) → EdgeIn flow i j → (k : NodeKind) × (kind_at flow i ≡ Some k)
kind_of flow i j edge = kind_there (slice_get flow i) (λ row. Contains row.successors j) edge

module _ (Is : NodeKind → Type 0) (E : NodeKind → NodeKind → Type 0) (R W : NodeKind → Place → Type 0) (flow : List FlowRow) (is : IsDataOf Is E R W flow) where
  -- ---- from numbers to kinds

  pub reaches_by_kind : (v : Place) (i : ℕ) (a : NodeKind) → kind_at flow i ≡ Some a → (j : ℕ) (b : NodeKind) → kind_at flow j ≡ Some b → ReachesIn flow v i j → Reaches E W v a b
  reaches_by_kind v i a at_i _ b at_j (one j edge writes) = one b ((is.edges i j a b at_i at_j).0 edge) ((is.writes i a v at_i).0 writes)
  reaches_by_kind v i a at_i _ b at_j (more x j reaches passes edge) =
      let at_x = kind_of flow x j edge in
      more at_x.0 b (reaches_by_kind v i a at_i x at_x.0 at_x.1 reaches) (λ writes. passes ((is.writes x at_x.0 v at_x.1).1 writes)) ((is.edges x j at_x.0 b at_x.1 at_j).0 edge)

  -- ---- from kinds to numbers

  pub reaches_by_number : ((a b : NodeKind) → E a b → Is a) → (v : Place) (i : ℕ) (a : NodeKind) → kind_at flow i ≡ Some a → (j : ℕ) (b : NodeKind) → kind_at flow j ≡ Some b → Reaches E W v a b → ReachesIn flow v i j
  reaches_by_number begins v i a at_i j _ at_j (one b edge writes) = one j ((is.edges i j a b at_i at_j).1 edge) ((is.writes i a v at_i).1 writes)
  reaches_by_number begins v i a at_i j _ at_j (more x b reaches passes edge) =
      let at_x = is.each_node x (begins x b edge) in
      more at_x.0 j (reaches_by_number begins v i a at_i at_x.0 x at_x.1 reaches) (λ writes. passes ((is.writes at_x.0 x v at_x.1).0 writes)) ((is.edges at_x.0 j x b at_x.1 at_j).1 edge)
