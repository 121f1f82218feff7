-- The flow edges of one instance, by numbers and by kinds.
use Rattle.std.proofs.Common.{◌≡◌, ◌↔◌, ◌<◌, ℕ, List, length, Contains, slice_get, option_map, Option, Some, None, IsSomeAnd, refl, ap, sym, ◌∙◌, subst}
use Rattle.std.proofs.lemmas.Option.{same_Some, slice_get_within}
use Rattle.jo_ids.proofs.PathLemmas.{path_more}
use Rattle.dep_nodes.specs.declared.kinds.NodeKind.{NodeKind}
use Rattle.dep_nodes.specs.OnceLists.{IsOnceEach}
use Rattle.jo_prog.specs.declared.program.Program.{Program}
use Rattle.jo_prog.specs.TypingPaths.{HasHeightAt}
use Rattle.dependence.specs.declared.facts.InstKey.{InstKey}
use Rattle.dependence.specs.declared.flows.FlowRow.{FlowRow}
use Rattle.dependence.specs.FlowData.{EdgeIn}
use Rattle.dependence.specs.FlowGraph.{IsNodeOf, EdgeOf}
use Rattle.dependence.specs.GraphsAsData.{kind_at}
use Rattle.fact_sets.specs.FactLists.{FactLists, IsInstance}
use Rattle.fact_sets.specs.Seen.{TellsApart, Known, instance_seen}
use Rattle.instance_flows.specs.InstanceFlow.{IsFlowGraph, IsFlowOf}
use Rattle.sdg.specs.declared.instance_nodes.InstanceNode.{InstanceNode}
use Rattle.sdg.specs.Growing.{Growing}
use Rattle.sdg.specs.Links.{Tie, by_flow, Link, link, Stands}
use Rattle.sdg.specs.Growth.{From, FromBelow, TableAt}
use Rattle.sdg.specs.NamedGraphs.{Spot, spot, IsSeenAs}
use Rattle.sdg.specs.TargetLinks.{node_at}
use Rattle.sdg.specs.FlowLinks.{FlowStepLink, FlowFrom, Within}
use Rattle.sdg.proofs.NamedLemmas.{IsSeenLink, same_key, same_number}

abbrev kind_of : InstanceNode → NodeKind
kind_of node = node.kind

pub step_alike : (flow : List FlowRow) (i a b : ℕ) (begin end : InstanceNode) → begin.instance ≡ i → kind_at flow a ≡ Some begin.kind → end.instance ≡ i → kind_at flow b ≡ Some end.kind
    → (l : Link InstanceNode) → (l ≡ link begin by_flow end) ↔ FlowStepLink flow i a b l
step_alike flow i a b begin end begin_is begin_kind end_is end_kind l = (there, back)
  where
    whole : link begin by_flow end ≡ link (node_at i begin.kind) by_flow (node_at i end.kind)
    whole = ap (λ (n : ℕ). link (node_at n begin.kind) by_flow end) begin_is ∙ ap (λ (n : ℕ). link (node_at i begin.kind) by_flow (node_at n end.kind)) end_is

    there : l ≡ link begin by_flow end → FlowStepLink flow i a b l
    there is = record { from = begin.kind; to = end.kind; is_from = begin_kind; is_to = end_kind; is = is ∙ whole }

    back : FlowStepLink flow i a b l → l ≡ link begin by_flow end
    back step =
        let ef : step.from ≡ begin.kind = same_Some step.from begin.kind (sym step.is_from ∙ begin_kind) in
        let et : step.to ≡ end.kind = same_Some step.to end.kind (sym step.is_to ∙ end_kind) in
        step.is ∙ ap (λ (k : NodeKind). link (node_at i k) by_flow (node_at i step.to)) ef ∙ ap (λ (k : NodeKind). link (node_at i begin.kind) by_flow (node_at i k)) et ∙ sym whole

-- ---- the successors of a node

pub from_alike : (flow : List FlowRow) (i a : ℕ) (successors : List ℕ) → option_map (λ (row : FlowRow). row.successors) (slice_get flow a) ≡ Some successors
    → (l : Link InstanceNode) → From successors (FlowStepLink flow i a) l ↔ FlowFrom flow i a l
from_alike flow i a successors told l = (λ made. (made.0, (edge made.0).1 made.1, made.2), λ made. (made.0, (edge made.0).0 made.1, made.2))
  where
    listed : (o : Option FlowRow) → option_map (λ (row : FlowRow). row.successors) o ≡ Some successors → (b : ℕ) → IsSomeAnd o (λ row. Contains row.successors b) ↔ Contains successors b
    listed None e b = absurd (cc)
    listed (Some row) e b =
        let same : row.successors ≡ successors = same_Some row.successors successors e in
        (λ has. subst (λ xs. Contains xs b) same has, λ has. subst (λ xs. Contains xs b) (sym same) has)

    edge : (b : ℕ) → EdgeIn flow a b ↔ Contains successors b
    edge b = listed (slice_get flow a) told b

-- ---- by kinds

within_of : (flow : List FlowRow) (a : ℕ) (kind : NodeKind) → kind_at flow a ≡ Some kind → a < length flow
within_of flow a kind is = by_row (slice_get flow a) refl is
  where
    by_row : (o : Option FlowRow) → slice_get flow a ≡ o → option_map (λ (row : FlowRow). row.node.kind) o ≡ Some kind → a < length flow
    by_row None found e = absurd (cc)
    by_row (Some row) found e = slice_get_within flow a row found

module _ {C : Type 0} (list : C → List ℕ) (tells : TellsApart list) (lists : FactLists C) (once : IsOnceEach lists.instances) (program : Program) (flow : List FlowRow) (n : ℕ) (key : InstKey C)
    (is_key : IsInstance lists.instances n key) (is_flow : IsFlowOf program lists n flow) where
  abbrev i : InstKey (List ℕ)
  i = instance_seen list key

  abbrev E : NodeKind → NodeKind → Type 0
  E = EdgeOf program (Known list lists) (HasHeightAt program key.method) i

  graph_is : IsFlowGraph program (Known list lists) (HasHeightAt program key.method) i flow
  graph_is = is_flow key list is_key tells

  spot_is : (node : InstanceNode) (s : Spot) (kind : NodeKind) → IsSeenAs list lists.instances node s → node ≡ node_at n kind → s ≡ spot i kind
  spot_is node s kind seen is =
      let en : node.instance ≡ n = ap (λ (x : InstanceNode). x.instance) is in
      let ek : node.kind ≡ kind = ap (λ (x : InstanceNode). x.kind) is in
      let same : seen.key ≡ key = same_key list tells lists.instances once n seen.key key (subst (λ m. IsInstance lists.instances m seen.key) en seen.is_key) is_key in
      let ei : s.instance ≡ i = sym seen.seen ∙ ap (instance_seen list) same in
      ap (λ (x : InstKey (List ℕ)). spot x s.kind) ei ∙ ap (λ (k : NodeKind). spot i k) (sym seen.same_kind ∙ ek)

  node_is : (node : InstanceNode) (s : Spot) (spot_kind : NodeKind) → IsSeenAs list lists.instances node s → s ≡ spot i spot_kind → node ≡ node_at n spot_kind
  node_is node s spot_kind seen is =
      let en : node.instance ≡ n = same_number list tells lists.instances once node.instance n seen.key key seen.is_key is_key (seen.seen ∙ ap (λ (x : Spot). x.instance) is) in
      ap (λ (m : ℕ). node_at m node.kind) en ∙ ap (λ (k : NodeKind). node_at n k) (seen.same_kind ∙ ap (λ (x : Spot). x.kind) is)

  pub flow_alike : (graph : Growing) (l : Link InstanceNode) (L : Link Spot) → IsSeenLink list tells lists.instances once l L → Stands (TableAt graph) l
      → FromBelow (length flow) (FlowFrom flow n) l ↔ Within i E L
  flow_alike graph l L seen stands = (there, back)
    where
      there : FromBelow (length flow) (FlowFrom flow n) l → Within i E L
      there (a, below, (b, edge, step)) =
          let ef : L.from ≡ spot i step.from = spot_is l.from L.from step.from seen.from (ap (λ (x : Link InstanceNode). x.from) step.is) in
          let et : L.tie ≡ by_flow = sym seen.tie ∙ ap (λ (x : Link InstanceNode). x.tie) step.is in
          let eo : L.to ≡ spot i step.to = spot_is l.to L.to step.to seen.to (ap (λ (x : Link InstanceNode). x.to) step.is) in
          record {
            from = step.from;
            to = step.to;
            edge = (graph_is.graph.edges a b step.from step.to step.is_from step.is_to).0 edge;
            is = ap (λ (s : Spot). link s L.tie L.to) ef ∙ ap (λ (t : Tie). link (spot i step.from) t L.to) et ∙ ap (λ (s : Spot). link (spot i step.from) by_flow s) eo;
          }

      back : Within i E L → FromBelow (length flow) (FlowFrom flow n) l
      back within =
          let (a, is_a) = graph_is.graph.each_node within.from within.edge.there in
          let (b, is_b) = graph_is.graph.each_node within.to (path_on within.from within.to within.edge) in
          let ef : l.from ≡ node_at n within.from = node_is l.from L.from within.from seen.from (ap (λ (x : Link Spot). x.from) within.is) in
          let et : l.tie ≡ by_flow = seen.tie ∙ ap (λ (x : Link Spot). x.tie) within.is in
          let eo : l.to ≡ node_at n within.to = node_is l.to L.to within.to seen.to (ap (λ (x : Link Spot). x.to) within.is) in (
            a,
            within_of flow a within.from is_a,
            (
              b,
              (graph_is.graph.edges a b within.from within.to is_a is_b).1 within.edge,
              record {
                from = within.from;
                to = within.to;
                is_from = is_a;
                is_to = is_b;
                is = ap (λ (x : InstanceNode). link x l.tie l.to) ef ∙ ap (λ (t : Tie). link (node_at n within.from) t l.to) et ∙ ap (λ (x : InstanceNode). link (node_at n within.from) by_flow x) eo;
              },
            ),
          )
        where
          path_on : (a b : NodeKind) → E a b → IsNodeOf program (Known list lists) (HasHeightAt program key.method) i b
          path_on a b edge = path_more edge.there edge.step
