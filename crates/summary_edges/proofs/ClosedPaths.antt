-- In a closed graph a path leads from a node to another exactly where a matched path leads back.
use Rattle.std.proofs.Common.{◌≡◌, ◌↔◌, ℕ, ◌<◌, true, List, [], Some, length, refl, sym, ◌∙◌, ap}
use Rattle.jo_ids.specs.Path.{Path, stays, goes}
use Rattle.jo_ids.proofs.PathLemmas.{path_on, path_edge}
use Rattle.jo_graph.specs.Graphs.{HasEdge as Leads}
use Rattle.dep_nodes.specs.declared.kinds.EdgeKind.{EdgeKind}
use Rattle.dep_nodes.specs.declared.kinds.EdgeKind.TheVariants.{Data, Control, Out, Arg, Call, Ret, Heap, Fork}
use Rattle.dep_nodes.specs.declared.dependence_graph.GraphNode.{GraphNode}
use Rattle.dep_nodes.specs.Nodes.{call_site}
use Rattle.dep_nodes.specs.Chains.{arrived}
use Rattle.dep_nodes.specs.BalancedPaths.{stays_level, Balanced, nothing, level, over, both}
use Rattle.dep_nodes.specs.GrowingGraphs.{HasEdge}
use Rattle.dep_nodes.specs.NumberedChains.{name_at, IsNumberedMatched}
use Rattle.dep_nodes.proofs.BalancedLemmas.{balanced_matched, matched_is_balanced}
use Rattle.dep_nodes.proofs.CallEnds.{begun_parts, begun_from, ended_parts, ended_from}
use Rattle.dep_nodes.proofs.ChainLemmas.{path_then}
use Rattle.dep_nodes.proofs.Sites.{sites_equal, site_itself}
use Rattle.summary_edges.specs.declared.joins.Join.{Join}
use Rattle.summary_edges.specs.Levels.{ends_call, HasEdgeLike, IsJoin, joined, AreMatched, AreClosed}
use Rattle.summary_edges.proofs.CallLemmas.{passed_parts, passed_from, one_parts, one_from_sites, ends_inside}

module _ (nodes : List GraphNode) where
  -- ---- each join with a matched path through it is one

  returns_by : (kind : EdgeKind) (from to : ℕ) → ends_call kind ≡ true → HasEdge nodes from kind to → HasEdge nodes from Ret to
  returns_by Ret from to word edge = edge
  returns_by Data from to word edge = absurd (cc)
  returns_by Control from to word edge = absurd (cc)
  returns_by Out from to word edge = absurd (cc)
  returns_by Arg from to word edge = absurd (cc)
  returns_by Call from to word edge = absurd (cc)
  returns_by Heap from to word edge = absurd (cc)
  returns_by Fork from to word edge = absurd (cc)

  pub join_matched : (join : Join) → IsJoin nodes join → IsNumberedMatched nodes join.into join.out → IsNumberedMatched nodes join.from join.to
  join_matched join is path =
      let passed = passed_parts (name_at nodes join.from) (name_at nodes join.to) is.over in
      let are = one_parts (call_site (name_at nodes join.from)) (call_site (name_at nodes join.to)) passed.one in
      let back : call_site (name_at nodes join.to) ≡ Some are.first = are.is_second ∙ ap (λ s. Some s) (sym (sites_equal are.first are.second are.same)) in
      let through = (matched_is_balanced (name_at nodes) (HasEdge nodes) join.into join.out).0 path in
      balanced_matched (name_at nodes) (HasEdge nodes) join.from join.to
      (over is.begins.kind are.first join.from join.into join.out join.to is.begins.word is.begins.edge (begun_from (name_at nodes join.from) are.first passed.begin are.is_first) through
      (returns_by is.ends.kind join.out join.to is.ends.word is.ends.edge) (ended_from (name_at nodes join.to) are.first passed.end back))

  pub level_matched : (from to : ℕ) → HasEdgeLike nodes stays_level from to → IsNumberedMatched nodes from to
  level_matched from to edge = balanced_matched (name_at nodes) (HasEdge nodes) from to (level edge.kind from to edge.word edge.edge)

  -- a path from a node of the graph stays in it
  inside_on : (a b : ℕ) → Balanced (name_at nodes) (HasEdge nodes) a b → a < length nodes → b < length nodes
  inside_on a b (nothing n) inside = inside
  inside_on a b (level kind x y word edge) inside = ends_inside nodes x kind y edge
  inside_on a b (over kind call x y z w word edge site path return back) inside = ends_inside nodes z Ret w return
  inside_on a b (both x y z first second) inside = inside_on y z second (inside_on x y first inside)

  module _ (levels : List (List ℕ)) where
    -- ---- a path stands for a matched path

    pub path_matched : AreMatched nodes levels → (a b : ℕ) → Path (Leads levels) b a → IsNumberedMatched nodes a b
    path_matched matched a b (stays n) = arrived n
    path_matched matched a b (goes x y z edge path) = path_then (name_at nodes) (HasEdge nodes) [] [] z y x (path_matched matched z y path) (matched y x edge)

    -- ---- and a balanced path for one back

    path_back : AreClosed nodes levels → (a b : ℕ) → a < length nodes → Balanced (name_at nodes) (HasEdge nodes) a b → Path (Leads levels) b a
    path_back closed a b inside (nothing n) = stays n
    path_back closed a b inside (level kind x y word edge) = path_edge (closed.stays x y (record { kind = kind; word = word; edge = edge; inside = inside }))
    path_back closed a b inside (over kind call x y z w word edge site path return back) =
        let below = ends_inside nodes x kind y edge in
        let begun = begun_parts (name_at nodes x) call site in
        let ended = ended_parts (name_at nodes w) call back in
        let one = one_from_sites (call_site (name_at nodes x)) (call_site (name_at nodes w)) call call begun.1 ended.1 (site_itself call) in
        let is : IsJoin nodes (joined x y z w) = record {
          begins = record { kind = kind; word = word; edge = edge; inside = inside };
          ends = record { kind = Ret; word = refl; edge = return; inside = inside_on y z path below };
          over = passed_from (name_at nodes x) (name_at nodes w) begun.0 ended.0 one;
        } in
        path_edge (closed.over (joined x y z w) is (path_back closed y z below path))
    path_back closed a b inside (both x y z first second) = path_on (path_back closed y z (inside_on x y first inside) second) (path_back closed x y inside first)

    pub closed_is_matched : AreClosed nodes levels → (a z : ℕ) → a < length nodes → IsNumberedMatched nodes a z ↔ Path (Leads levels) z a
    closed_is_matched closed a z inside =
        (λ matched. path_back closed a z inside ((matched_is_balanced (name_at nodes) (HasEdge nodes) a z).0 matched), path_matched closed.matched a z)
