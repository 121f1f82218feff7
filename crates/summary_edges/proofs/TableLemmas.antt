-- The table of nodes by their calls, filled node by node.
use Rattle.std.proofs.Common.{◌≡◌, ℕ, ◌+◌, ◌<◌, Bool, true, false, cond, ◌==◌, List, [], ◌∷◌, ◌++◌, Option, Some, None, length, get_or, set, replicate, slice_get, option_map, suc, zero, length-set, append-nil, sym, ◌∙◌, ap, refl, subst, inl, inr, arith, eq-eqb}
use Rattle.std.specs.List.{filter, range_with_len}
use Rattle.std.proofs.lemmas.Bool.{cases_eq, cases_lt, eqb-true}
use Rattle.std.proofs.lemmas.List.{length-replicate, get_or-replicate, get_or-set_same, get_or-set_other, get_or_past}
use Rattle.std.proofs.lemmas.List.Elements.{filter-append}
use Rattle.std.proofs.lemmas.Option.{same_Some, none-some}
use Rattle.dep_nodes.specs.declared.graphs.NodeName.{NodeName}
use Rattle.dep_nodes.specs.declared.dependence_graph.GraphNode.{GraphNode}
use Rattle.dep_nodes.specs.Nodes.{node_named}
use Rattle.dep_nodes.specs.NumberedChains.{name_at, name_or_none}
use Rattle.summary_edges.specs.Calls.{is_row, lands_in, row_of_node, row_below, IsTableBelow}

-- ---- names that are read

name_of_some : (name : NodeName) (o : Option GraphNode) → option_map (λ n. n.name) o ≡ Some name → name_or_none o ≡ node_named name
name_of_some name None e = absurd (none-some name e)
name_of_some name (Some n) e = ap node_named (same_Some n.name name e)

pub name_is : (nodes : List GraphNode) (n : ℕ) (name : NodeName) → option_map (λ n. n.name) (slice_get nodes n) ≡ Some name → name_at nodes n ≡ node_named name
name_is nodes n name e = name_of_some name (slice_get nodes n) e

-- ---- one more number

range_more : (a n : ℕ) → range_with_len a (suc n) ≡ range_with_len a n ++ (a + n) ∷ []
range_more a zero = ap (λ (k : ℕ). k ∷ []) (omega arith)
range_more a (suc n) =
    let e : a + 1 + n ≡ a + suc n = omega arith in
    ap (λ xs. a ∷ xs) (range_more (a + 1) n ∙ ap (λ k. range_with_len (a + 1) n ++ k ∷ []) e)

filter_last : (p : ℕ → Bool) (n : ℕ) → filter p (range_with_len 0 (suc n)) ≡ filter p (range_with_len 0 n) ++ cond (p n) (n ∷ []) []
filter_last p n =
    let e : 0 + n ≡ n = omega arith in
    ap (filter p) (range_more 0 n ∙ ap (λ k. range_with_len 0 n ++ k ∷ []) e) ∙ filter-append p (range_with_len 0 n) (n ∷ [])

module _ (nodes : List GraphNode) where
  more_below : (n row : ℕ) → row_below nodes (n + 1) row ≡ row_below nodes n row ++ cond (lands_in nodes row n) (n ∷ []) []
  more_below n row =
      let e : n + 1 ≡ suc n = omega arith in
      ap (λ k. row_below nodes k row) e ∙ filter_last (lands_in nodes row) n

  lands : (n row : ℕ) → lands_in nodes row n ≡ true → row_below nodes (n + 1) row ≡ row_below nodes n row ++ n ∷ []
  lands n row e = more_below n row ∙ ap (λ b. row_below nodes n row ++ cond b (n ∷ []) []) e

  passes : (n row : ℕ) → lands_in nodes row n ≡ false → row_below nodes (n + 1) row ≡ row_below nodes n row
  passes n row e = more_below n row ∙ ap (λ b. row_below nodes n row ++ cond b (n ∷ []) []) e ∙ append-nil (row_below nodes n row)

  pub table_first : (count : ℕ) → count ≡ length nodes → IsTableBelow nodes 0 (replicate count [])
  table_first count e = record { same_length = length-replicate {A = List ℕ} count [] ∙ e; each = λ row. empty row }
    where
      empty : (row : ℕ) → get_or (replicate count []) row [] ≡ row_below nodes 0 row
      empty row = elim (cases_lt row count) [
        | inl below ↦ get_or-replicate {A = List ℕ} count row [] [] below
        | inr past ↦ get_or_past {X = List ℕ} (replicate count []) row [] (omega (arith, length-replicate {A = List ℕ} count []))
      ]

  not_true : (t : Bool) → (t ≡ true → ⊥) → t ≡ false
  not_true true differs = absurd (differs refl)
  not_true false differs = refl

  other_row : (a b : ℕ) → (b ≡ a → ⊥) → (a == b) ≡ false
  other_row a b ne = not_true (a == b) (λ e. ne (sym (eqb-true a b e)))

  pub table_more : (n row : ℕ) (rows : List (List ℕ)) → IsTableBelow nodes n rows → row < length rows → row_of_node (length nodes) (name_at nodes n) ≡ Some row → IsTableBelow nodes (n + 1) (set rows row (get_or rows row [] ++ n ∷ []))
  table_more n row rows before below is = record { same_length = length-set rows row (get_or rows row [] ++ n ∷ []) ∙ before.same_length; each = λ other. each other }
    where
      each : (other : ℕ) → get_or (set rows row (get_or rows row [] ++ n ∷ [])) other [] ≡ row_below nodes (n + 1) other
      each other = elim (cases_eq other row) [
        | inl same ↦
            let here : lands_in nodes row n ≡ true = ap (is_row row) is ∙ eq-eqb row row refl in
            ap (λ k. get_or (set rows row (get_or rows row [] ++ n ∷ [])) k []) same ∙ get_or-set_same rows row (get_or rows row [] ++ n ∷ []) [] below ∙ ap (λ xs. xs ++ n ∷ []) (before.each row) ∙ sym (lands n row here) ∙ ap (λ k. row_below nodes (n + 1) k) (sym same)
        | inr ne ↦
            let elsewhere : lands_in nodes other n ≡ false = ap (is_row other) is ∙ other_row row other ne in
            get_or-set_other rows row other (get_or rows row [] ++ n ∷ []) [] ne ∙ before.each other ∙ sym (passes n other elsewhere)
      ]

  pub table_same : (n : ℕ) (rows : List (List ℕ)) → IsTableBelow nodes n rows → row_of_node (length nodes) (name_at nodes n) ≡ None → IsTableBelow nodes (n + 1) rows
  table_same n rows before none = record { same_length = before.same_length; each = λ row. before.each row ∙ sym (passes n row (ap (is_row row) none)) }

  -- a node that was read, with its row or none
  pub none_read : (n count : ℕ) (name : NodeName) (rows : List (List ℕ)) → count ≡ length nodes → option_map (λ m. m.name) (slice_get nodes n) ≡ Some name → None ≡ row_of_node count (node_named name) → IsTableBelow nodes n rows → IsTableBelow nodes (n + 1) rows
  none_read n count name rows same is none before =
      table_same n rows before (ap (λ k. row_of_node k (name_at nodes n)) (sym same) ∙ ap (row_of_node count) (name_is nodes n name is) ∙ sym none)

  pub row_read : (n count node row : ℕ) (name : NodeName) (old new : List (List ℕ)) → count ≡ length nodes → option_map (λ m. m.name) (slice_get nodes n) ≡ Some name → Some row ≡ row_of_node count (node_named name) → row < length old → node ≡ n → new ≡ set old row (get_or old row [] ++ node ∷ []) → IsTableBelow nodes n old → IsTableBelow nodes (n + 1) new
  row_read n count node row name old new same is some below node_is e before =
      let there : row_of_node (length nodes) (name_at nodes n) ≡ Some row = ap (λ k. row_of_node k (name_at nodes n)) (sym same) ∙ ap (row_of_node count) (name_is nodes n name is) ∙ sym some in
      subst (λ rows. IsTableBelow nodes (n + 1) rows) (sym (e ∙ ap (λ k. set old row (get_or old row [] ++ k ∷ [])) node_is)) (table_more n row old before below there)
