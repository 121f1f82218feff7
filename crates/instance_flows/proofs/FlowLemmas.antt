-- The part of the wide graph that Entry reaches by the edges that are kept is the flow graph.
use Rattle.std.specs.Prelude.{◌↔◌, option_map, slice_get, IsSomeAnd}
use Rattle.std.proofs.Common.{◌≡◌, ℕ, ◌<◌, List, [], length, Contains, Option, Some, None, refl, sym, ◌∙◌, ap, subst, arith}
use Rattle.std.proofs.lemmas.Option.{same_Some, slice_get_read, slice_get_within}
use Rattle.jo_ids.specs.Path.{Path, stays, goes}
use Rattle.jo_ids.proofs.PathLemmas.{path_more}
use Rattle.jo_prog.specs.declared.program.Program.{Program}
use Rattle.jo_prog.specs.TypingPaths.{HasHeightAt}
use Rattle.dep_nodes.specs.OnceLists.{IsOnceEach}
use Rattle.dependence.specs.declared.facts.InstKey.{InstKey}
use Rattle.flow_graph.specs.NodeUses.{HeightIs}
use Rattle.fact_sets.specs.FactLists.{FactLists, pair_of, IsInstance}
use Rattle.fact_sets.specs.Seen.{Known}
use Rattle.instance_flows.specs.BySite.{BySite}
use Rattle.instance_flows.proofs.HeightLemmas.{wide_on}
use Rattle.instance_flows.proofs.SeenLemmas.{seen_alike, alike_seen}
use Rattle.dep_nodes.specs.declared.kinds.NodeKind.{NodeKind}
use Rattle.dep_nodes.specs.declared.kinds.NodeKind.TheVariants.{Entry}
use Rattle.dep_nodes.proofs.OnceLemmas.{contains_at}
use Rattle.dependence.specs.declared.flow.Place.{Place}
use Rattle.dependence.specs.declared.flows.FlowNode.{FlowNode}
use Rattle.dependence.specs.declared.flows.FlowRow.{FlowRow}
use Rattle.dependence.specs.declared.facts.Fact.{Fact}
use Rattle.dependence.specs.FlowData.{EdgeIn, ReadsIn, WritesIn}
use Rattle.dependence.specs.WideGraph.{IsWideNode}
use Rattle.dependence.specs.NodePlaces.{Writes}
use Rattle.dependence.specs.GraphsAsData.{kind_at, ListsRead, pc_kept, node_with, IsWideGraph}
use Rattle.dependence.specs.FlowGraph.{KeptFrom, FlowStep, IsNodeOf, EdgeOf}
use Rattle.flow_graph.proofs.RowLemmas.{zip_left, zip_right, zip_length}
use Rattle.instance_flows.specs.Parts.{IsPartRow, IsPart}
use Rattle.instance_flows.specs.Keeping.{AreKept}
use Rattle.instance_flows.specs.InstanceFlow.{IsFlowGraph, IsWideOf, IsTypingOf, IsFlowOf}
use Rattle.instance_flows.proofs.PartLemmas.{both_ways_on}
use Rattle.instance_flows.proofs.AlikeLemmas.{in_context, SaysAlike, kept_on}

module _ (program : Program) (H : ℕ → ℕ → Type 0) (m : ℕ) (context : List ℕ) (F G : Fact (List ℕ) → Type 0) (on : SaysAlike F G (in_context m []) (in_context m context)) (back : SaysAlike G F (in_context m context) (in_context m []))
    (wide kept part : List FlowRow) (is : IsWideGraph program m H wide) (are : AreKept program F H m wide kept) (entry : ℕ) (at_entry : kind_at wide entry ≡ Some Entry) (p : IsPart wide kept entry part) where
  -- ---- edges by kinds and by numbers

  there_step : (a b : ℕ) (k l : NodeKind) → kind_at wide a ≡ Some k → kind_at wide b ≡ Some l → EdgeIn kept a b → FlowStep program G H (in_context m context) k l
  there_step a b k l at_a at_b edge =
      let e = (are.edges a b).0 edge in
      let from : e.from ≡ k = same_Some e.from k (sym e.is_from ∙ at_a) in
      let to : e.to ≡ l = same_Some e.to l (sym e.is_to ∙ at_b) in
      let holds : KeptFrom program F H (in_context m []) k l = subst (λ x. KeptFrom program F H (in_context m []) x l) from (subst (λ y. KeptFrom program F H (in_context m []) e.from y) to e.kept) in
      record { wide = (is.graph.edges a b k l at_a at_b).0 e.edge; kept = kept_on program H m [] context F G on k l holds }

  back_step : (a b : ℕ) (k l : NodeKind) → kind_at wide a ≡ Some k → kind_at wide b ≡ Some l → FlowStep program G H (in_context m context) k l → EdgeIn kept a b
  back_step a b k l at_a at_b step =
      (are.edges a b).1 (record {
        edge = (is.graph.edges a b k l at_a at_b).1 step.wide;
        from = k;
        is_from = at_a;
        to = l;
        is_to = at_b;
        kept = kept_on program H m context [] G F back k l step.kept;
      })

  -- ---- paths by kinds and by numbers

  by_kinds : (a b : ℕ) → Path (EdgeIn kept) a b → (k : NodeKind) → kind_at wide a ≡ Some k → (l : NodeKind) × (kind_at wide b ≡ Some l) × Path (FlowStep program G H (in_context m context)) k l
  by_kinds _ _ (stays a) k at = (k, at, stays k)
  by_kinds _ _ (goes a b c edge path) k at =
      let e = (are.edges a b).0 edge in
      let rest = by_kinds b c path e.to e.is_to in
      (rest.0, rest.1, goes k e.to rest.0 (there_step a b k e.to at e.is_to edge) rest.2)

  by_numbers : (k l : NodeKind) → Path (FlowStep program G H (in_context m context)) k l → (a : ℕ) → kind_at wide a ≡ Some k → (b : ℕ) × (kind_at wide b ≡ Some l) × Path (EdgeIn kept) a b
  by_numbers _ _ (stays k) a at = (a, at, stays a)
  by_numbers _ _ (goes k x l step path) a at =
      let wide_there : IsWideNode program m x = path_more step.wide.there step.wide.step in
      let found = is.graph.each_node x wide_there in
      let rest = by_numbers x l path found.0 found.1 in
      (rest.0, rest.1, goes a found.0 rest.0 (back_step a found.0 k x at found.1 step) rest.2)

  -- ---- rows

  of_row : (flow : List FlowRow) (P : FlowRow → Type 0) (x : ℕ) (row : FlowRow) → slice_get flow x ≡ Some row → IsSomeAnd (slice_get flow x) P ↔ P row
  of_row flow P x row at = (λ h. subst (λ o. IsSomeAnd o P) at h, λ h. subst (λ o. IsSomeAnd o P) (sym at) h)

  -- the node of a number in the wide graph
  record Old (n : ℕ) (node : FlowNode) : Type 0 where
    row : FlowRow
    at : slice_get wide n ≡ Some row
    same : row.node ≡ node

  old : (n : ℕ) (node : FlowNode) → option_map (λ (row : FlowRow). row.node) (slice_get wide n) ≡ Some node → Old n node
  old n node e = by_row (slice_get wide n) refl e
    where
      by_row : (o : Option FlowRow) → slice_get wide n ≡ o → option_map (λ (row : FlowRow). row.node) o ≡ Some node → Old n node
      by_row None at f = absurd (cc)
      by_row (Some row) at f = record { row = row; at = at; same = same_Some row.node node f }

  -- a node of the part: its row, its number in the wide graph, and its kind
  record Stands (x : ℕ) (k : NodeKind) : Type 0 where
    row : FlowRow
    at : slice_get part x ≡ Some row
    n : ℕ
    number : slice_get p.numbers x ≡ Some n
    of : IsPartRow wide kept p.numbers n row
    kind : kind_at wide n ≡ Some k
    row_kind : row.node.kind ≡ k

  old_kind : (n : ℕ) (row : FlowRow) → IsPartRow wide kept p.numbers n row → kind_at wide n ≡ Some row.node.kind
  old_kind n row of =
      let o = old n row.node of.node in
      ap (option_map (λ (r : FlowRow). r.node.kind)) o.at ∙ ap (λ (node : FlowNode). Some node.kind) o.same

  stands : (x : ℕ) (k : NodeKind) → kind_at part x ≡ Some k → Stands x k
  stands x k e = by_row (slice_get part x) refl e
    where
      by_row : (o : Option FlowRow) → slice_get part x ≡ o → option_map (λ (row : FlowRow). row.node.kind) o ≡ Some k → Stands x k
      by_row None at f = absurd (cc)
      by_row (Some row) at f =
          let z = zip_right (IsPartRow wide kept p.numbers) p.numbers part p.rows x row at in
          let kind : row.node.kind ≡ k = same_Some row.node.kind k f in
          record { row = row; at = at; n = z.0; number = z.1; of = z.2; kind = old_kind z.0 row z.2 ∙ ap (λ y. Some y) kind; row_kind = kind }

  new_kind : (x n : ℕ) (k : NodeKind) → slice_get p.numbers x ≡ Some n → kind_at wide n ≡ Some k → kind_at part x ≡ Some k
  new_kind x n k number kind =
      let z = zip_left (IsPartRow wide kept p.numbers) p.numbers part p.rows x n number in
      ap (option_map (λ (row : FlowRow). row.node.kind)) z.1 ∙ sym (old_kind n z.0 z.2) ∙ kind

  -- ---- the graph

  each_node : (k : NodeKind) → IsNodeOf program G H (in_context m context) k → (x : ℕ) × (kind_at part x ≡ Some k)
  each_node k path =
      let found = by_numbers Entry k path entry at_entry in
      let c = (p.each found.0).1 found.2 in
      (c.0, new_kind c.0 found.0 k (slice_get_read p.numbers (length p.numbers) c.0 found.0 refl c.1 (sym c.2)) found.1)

  only_nodes : (x : ℕ) (k : NodeKind) → kind_at part x ≡ Some k → IsNodeOf program G H (in_context m context) k
  only_nodes x k at =
      let s = stands x k at in
      let path = (p.each s.n).0 (contains_at p.numbers x s.n s.number) in
      let found = by_kinds entry s.n path Entry at_entry in
      subst (λ l. Path (FlowStep program G H (in_context m context)) Entry l) (same_Some found.0 k (sym found.1 ∙ s.kind)) found.2

  once : (x y : ℕ) (k : NodeKind) → kind_at part x ≡ Some k → kind_at part y ≡ Some k → x ≡ y
  once x y k at_x at_y =
      let s = stands x k at_x in
      let t = stands y k at_y in
      let same : s.n ≡ t.n = is.graph.once s.n t.n k s.kind t.kind in
      p.once x y t.n (s.number ∙ ap (λ n. Some n) same) t.number

  inside : (x y : ℕ) → EdgeIn part x y → y < length part
  inside x y edge = by_row (slice_get part x) refl edge
    where
      by_row : (o : Option FlowRow) → slice_get part x ≡ o → IsSomeAnd o (λ row. Contains row.successors y) → y < length part
      by_row None at f = absurd f
      by_row (Some row) at f =
          let z = zip_right (IsPartRow wide kept p.numbers) p.numbers part p.rows x row at in
          let end = (z.2.successors y).0 f in
          let within = slice_get_within p.numbers y end.0 end.2 in
          let count = zip_length (IsPartRow wide kept p.numbers) p.numbers part p.rows in
          omega (arith, within, count)

  edges : (x y : ℕ) (k l : NodeKind) → kind_at part x ≡ Some k → kind_at part y ≡ Some l → EdgeIn part x y ↔ EdgeOf program G H (in_context m context) k l
  edges x y k l at_x at_y = (ahead, behind)
    where
      s : Stands x k
      s = stands x k at_x

      t : Stands y l
      t = stands y l at_y

      ahead : EdgeIn part x y → EdgeOf program G H (in_context m context) k l
      ahead edge =
          let end = (s.of.successors y).0 ((of_row part (λ row. Contains row.successors y) x s.row s.at).0 edge) in
          let same : end.0 ≡ t.n = same_Some end.0 t.n (sym end.2 ∙ t.number) in
          record { step = there_step s.n t.n k l s.kind t.kind (subst (λ b. EdgeIn kept s.n b) same end.1); there = only_nodes x k at_x }

      behind : EdgeOf program G H (in_context m context) k l → EdgeIn part x y
      behind edge =
          (of_row part (λ row. Contains row.successors y) x s.row s.at).1 ((s.of.successors y).1 (t.n, back_step s.n t.n k l s.kind t.kind edge.step, t.number))

  reads : (x : ℕ) (k : NodeKind) (v : Place) → kind_at part x ≡ Some k → ReadsIn part x v ↔ ListsRead program m H k v
  reads x k v at =
      let s = stands x k at in
      both_ways_on (of_row part (λ row. Contains row.reads v) x s.row s.at) (both_ways_on (s.of.reads v) (is.graph.reads s.n k v s.kind))

  writes : (x : ℕ) (k : NodeKind) (v : Place) → kind_at part x ≡ Some k → WritesIn part x v ↔ Writes program m H k v
  writes x k v at =
      let s = stands x k at in
      both_ways_on (of_row part (λ row. Contains row.writes v) x s.row s.at) (both_ways_on (s.of.writes v) (is.graph.writes s.n k v s.kind))

  node_kept : (n : ℕ) (row : FlowRow) → IsPartRow wide kept p.numbers n row → row.node ≡ node_with program m row.node.kind (pc_kept row.node.kind)
  node_kept n row of =
      let o = old n row.node of.node in
      subst (λ (node : FlowNode). node ≡ node_with program m node.kind (pc_kept node.kind)) o.same (is.nodes n o.row o.at)

  pub is_flow_graph : IsFlowGraph program G H (in_context m context) part
  is_flow_graph = record {
    graph = record { each_node = each_node; only_nodes = only_nodes; once = once; inside = inside; edges = edges; reads = reads; writes = writes };
    nodes = λ x row at. let z = zip_right (IsPartRow wide kept p.numbers) p.numbers part p.rows x row at in node_kept z.0 row z.2;
  }

-- ---- the instance with a number

-- the wide graph by the heights of typing is that by typing paths
pub wide_of_key : {C : Type 0} (program : Program) (lists : FactLists C) (typed : List (Option ℕ)) (n : ℕ) (wide : List FlowRow) (key : InstKey C) → IsInstance lists.instances n key → IsWideOf program lists typed n wide
    → IsTypingOf program lists n typed → IsWideGraph program key.method (HasHeightAt program key.method) wide
wide_of_key program lists typed n wide key named is_wide is_typing = wide_on program key.method (HeightIs typed) (HasHeightAt program key.method) wide (is_typing key named) (is_wide key named)

pub flow_is : {C : Type 0} (program : Program) (lists : FactLists C) (n : ℕ) (own : InstKey C) → IsOnceEach lists.instances → IsInstance lists.instances n own → (wide kept part : List FlowRow)
    → IsWideGraph program own.method (HasHeightAt program own.method) wide → AreKept program (BySite lists n) (HasHeightAt program own.method) own.method wide kept → (entry : ℕ) → kind_at wide entry ≡ Some Entry
    → IsPart wide kept entry part → IsFlowOf program lists n part
flow_is {C} program lists n own once_each is_own wide kept part is_wide are entry at_entry is_part key list is_key apart =
    subst (λ (p : ℕ × C). IsFlowGraph program (Known list lists) (HasHeightAt program p.0) (record { method = p.0; context = list p.1 }) part) (same_Some (pair_of own) (pair_of key) (sym is_own ∙ is_key))
    (is_flow_graph program (HasHeightAt program own.method) own.method (list own.context) (BySite lists n) (Known list lists) (seen_alike list apart lists once_each n own is_own) (alike_seen list apart lists once_each n own is_own) wide kept part is_wide are entry at_entry is_part)
