-- The joins of a graph, found by their sides.
use Rattle.std.proofs.Common.{◌≡◌, ◌↔◌, ◌⊎◌, ℕ, ◌<◌, ◌≤◌, true, false, List, [], Some, None, length, get_or, Contains, slice_get, option_map, sym, ◌∙◌, ap, refl, subst, inl, inr, arith}
use Rattle.std.specs.List.{range_with_len}
use Rattle.std.proofs.lemmas.Option.{same_Some, none-some}
use Rattle.dep_nodes.specs.declared.graphs.NodeName.{NodeName}
use Rattle.dep_nodes.specs.declared.dependence_graph.GraphNode.{GraphNode}
use Rattle.dep_nodes.specs.Nodes.{call_site, node_named}
use Rattle.dep_nodes.specs.NumberedChains.{name_at}
use Rattle.dep_nodes.proofs.Sites.{sites_equal}
use Rattle.summary_edges.specs.declared.joins.Join.{Join}
use Rattle.summary_edges.specs.declared.joins.Sides.{Sides}
use Rattle.summary_edges.specs.Adds.{Adds, From, FromBelow}
use Rattle.summary_edges.specs.Calls.{passes_over, lands_in, row_of_call, row_of_node, IsCallTable}
use Rattle.dep_nodes.specs.BalancedPaths.{begins_call}
use Rattle.summary_edges.specs.Levels.{ends_call, AreEdgesLike, IsJoin, joined, JoinsFrom, JoinsTo, JoinsInside, JoinsOut}
use Rattle.summary_edges.proofs.AddsLemmas.{adds_none, adds_alike}
use Rattle.summary_edges.proofs.CallLemmas.{passed_parts, one_parts, ends_inside}
use Rattle.summary_edges.proofs.PairLemmas.{filter_there, number_there, row_itself}
use Rattle.summary_edges.proofs.TableLemmas.{name_is}

no_both : true ≡ false → ⊥
no_both e = cc

pub over_named : (nodes : List GraphNode) (from to : ℕ) (a b : NodeName) → option_map (λ n. n.name) (slice_get nodes from) ≡ Some a → option_map (λ n. n.name) (slice_get nodes to) ≡ Some b → passes_over (node_named a) (node_named b) ≡ true → passes_over (name_at nodes from) (name_at nodes to) ≡ true
over_named nodes from to a b first second one = ap (λ n. passes_over n (name_at nodes to)) (name_is nodes from a first) ∙ ap (λ n. passes_over (node_named a) n) (name_is nodes to b second) ∙ one

module _ (nodes : List GraphNode) (sides : Sides) (out to : ℕ) (S : Join → Type 0) where
  pub from_past : (from : ℕ) → length nodes ≤ from → Adds S S (JoinsFrom nodes sides out to from)
  from_past from past = adds_none S (JoinsFrom nodes sides out to from) (λ j made. omega (arith, made.0))

  pub from_other : (from : ℕ) → passes_over (name_at nodes from) (name_at nodes to) ≡ false → Adds S S (JoinsFrom nodes sides out to from)
  from_other from other = adds_none S (JoinsFrom nodes sides out to from) (λ j made. no_both (sym made.1 ∙ other))

  pub from_same : (T : Join → Type 0) (from k : ℕ) (intos : List ℕ) → from < length nodes → passes_over (name_at nodes from) (name_at nodes to) ≡ true → k ≡ from → intos ≡ get_or sides.openings k [] → Adds S T (From intos (λ into j. j ≡ joined from into out to)) → Adds S T (JoinsFrom nodes sides out to from)
  from_same T from k intos inside one k_is is adds =
      adds_alike S T (From (get_or sides.openings from []) (λ into j. j ≡ joined from into out to)) (JoinsFrom nodes sides out to from)
      (subst (λ xs. Adds S T (From xs (λ into j. j ≡ joined from into out to))) (is ∙ ap (λ n. get_or sides.openings n []) k_is) adds)
      (λ j. (λ made. (inside, one, made), λ made. made.2))

  pub to_none : row_of_node (length nodes) (name_at nodes to) ≡ None → Adds S S (JoinsTo nodes sides out to)
  to_none none = adds_none S (JoinsTo nodes sides out to) (λ j made. none-some made.0 (sym none ∙ made.1))

  pub to_row : (T : Join → Type 0) (count row : ℕ) (name : NodeName) (froms : List ℕ) → count ≡ length nodes → option_map (λ n. n.name) (slice_get nodes to) ≡ Some name → Some row ≡ row_of_node count (node_named name) → froms ≡ get_or sides.calls row [] → Adds S T (From froms (JoinsFrom nodes sides out to)) → Adds S T (JoinsTo nodes sides out to)
  to_row T count row name froms same name_there row_is froms_are adds =
      adds_alike S T (From (get_or sides.calls row []) (JoinsFrom nodes sides out to)) (JoinsTo nodes sides out to) (subst (λ xs. Adds S T (From xs (JoinsFrom nodes sides out to))) froms_are adds)
      (λ j. (λ made. (row, is, made), λ made. back j made))
    where
      is : row_of_node (length nodes) (name_at nodes to) ≡ Some row
      is = ap (λ k. row_of_node k (name_at nodes to)) (sym same) ∙ ap (row_of_node count) (name_is nodes to name name_there) ∙ sym row_is

      back : (j : Join) → JoinsTo nodes sides out to j → From (get_or sides.calls row []) (JoinsFrom nodes sides out to) j
      back j (other, other_is, made) = subst (λ r. From (get_or sides.calls r []) (JoinsFrom nodes sides out to) j) (same_Some other row (sym other_is ∙ is)) made

  pub to_past : length nodes ≤ to → Adds S S (JoinsInside nodes sides out to)
  to_past past = adds_none S (JoinsInside nodes sides out to) (λ j made. omega (arith, made.0))

  pub to_within : (T : Join → Type 0) → to < length nodes → Adds S T (JoinsTo nodes sides out to) → Adds S T (JoinsInside nodes sides out to)
  to_within T inside adds = adds_alike S T (JoinsTo nodes sides out to) (JoinsInside nodes sides out to) adds (λ j. (λ made. (inside, made), λ made. made.1))

module _ (nodes : List GraphNode) (sides : Sides) (openings : AreEdgesLike nodes begins_call sides.openings) (returns : AreEdgesLike nodes ends_call sides.returns) (calls : IsCallTable nodes sides.calls) where
  found_is_join : (j : Join) → FromBelow (length nodes) (JoinsOut nodes sides) j → IsJoin nodes j
  found_is_join j (out, below, (to, returned, (to_inside, (row, is, (from, in_row, (from_inside, one, (into, opened, made))))))) =
      subst (IsJoin nodes) (sym made) (record { begins = (openings.each from into).0 opened; ends = (returns.each out to).0 returned; over = one })

  join_is_found : (j : Join) → IsJoin nodes j → FromBelow (length nodes) (JoinsOut nodes sides) j
  join_is_found j is =
      let are = one_parts (call_site (name_at nodes j.from)) (call_site (name_at nodes j.to)) (passed_parts (name_at nodes j.from) (name_at nodes j.to) is.over).one in
      let row = row_of_call (length nodes) are.second in
      let to_row_is : row_of_node (length nodes) (name_at nodes j.to) ≡ Some row = ap (option_map (row_of_call (length nodes))) are.is_second in
      let from_row_is : row_of_node (length nodes) (name_at nodes j.from) ≡ Some row = ap (option_map (row_of_call (length nodes))) (are.is_first ∙ ap (λ s. Some s) (sites_equal are.first are.second are.same)) in
      let lands : lands_in nodes row j.from ≡ true = row_itself row (row_of_node (length nodes) (name_at nodes j.from)) from_row_is in
      let in_row : Contains (get_or sides.calls row []) j.from =
      subst (λ xs. Contains xs j.from) (sym (calls.each row)) (filter_there (lands_in nodes row) (range_with_len 0 (length nodes)) j.from lands (number_there (length nodes) j.from is.begins.inside)) in
      let to_inside : j.to < length nodes = ends_inside nodes j.out is.ends.kind j.to is.ends.edge in
      (j.out, is.ends.inside, (j.to, (returns.each j.out j.to).1 is.ends, (to_inside, (row, to_row_is, (j.from, in_row, (is.begins.inside, is.over, (j.into, (openings.each j.from j.into).1 is.begins, refl)))))))

  pub all_joins : (T : Join → Type 0) → Adds (Contains []) T (FromBelow (length nodes) (JoinsOut nodes sides)) → (j : Join) → T j ↔ IsJoin nodes j
  all_joins T adds j = (λ t. there ((adds j).0 t), λ is. (adds j).1 (inr (join_is_found j is)))
    where
      there : Contains [] j ⊎ FromBelow (length nodes) (JoinsOut nodes sides) j → IsJoin nodes j
      there (inl none) = absurd (omega (arith, none.1))
      there (inr made) = found_is_join j made
