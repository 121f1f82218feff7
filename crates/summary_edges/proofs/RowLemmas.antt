-- The rows of pairs of all nodes, one behind the other.
use Rattle.std.proofs.Common.{◌≡◌, ℕ, ◌+◌, ◌<◌, ◌≤◌, true, false, List, [], ◌∷◌, ◌++◌, Option, length, get_or, Contains, sym, ◌∙◌, ap, subst, inl, inr, arith}
use Rattle.std.specs.List.Sorted.{IsStrictlyIncreasing}
use Rattle.std.proofs.lemmas.Bool.{cases_eq, cases_lt}
use Rattle.std.proofs.lemmas.List.{get_or_append_left, get_or_push, get_or_past}
use Rattle.std.proofs.lemmas.Option.{slice_get_past}
use Rattle.dep_nodes.specs.declared.dependence_graph.GraphNode.{GraphNode}
use Rattle.dep_nodes.specs.Chains.{comes_out}
use Rattle.dep_nodes.specs.NumberedChains.{name_at, name_or_none, HasPair, IsNumberedPass, AreSummaries}
use Rattle.summary_edges.specs.Pairs.{IsPairRow}

no_both : true ≡ false → ⊥
no_both e = cc

end_inside : (nodes : List GraphNode) (n : ℕ) → comes_out (name_at nodes n).kind ≡ true → n < length nodes
end_inside nodes n ends = elim (cases_lt n (length nodes)) [
  | inl below ↦ below
  | inr past ↦ absurd (no_both (sym ends ∙ ap (λ (o : Option GraphNode). comes_out (name_or_none o).kind) (slice_get_past nodes n past)))
]

module _ (nodes : List GraphNode) where
  pub row_more : (rows : List (List ℕ)) (row : List ℕ) (k : ℕ) → length rows ≡ k → ((n : ℕ) → n < k → IsPairRow nodes n (get_or rows n [])) → IsPairRow nodes k row → (n : ℕ) → n < k + 1 → IsPairRow nodes n (get_or (rows ++ row ∷ []) n [])
  row_more rows row k len before last n below = elim (cases_eq n k) [
    | inl same ↦ subst (λ m. IsPairRow nodes m (get_or (rows ++ row ∷ []) m [])) (sym same) (subst (λ r. IsPairRow nodes k r) (sym (get_or_push rows row [] k len)) last)
    | inr other ↦
        let inside : n < k = omega (arith, below, other) in
        subst (λ r. IsPairRow nodes n r) (sym (get_or_append_left rows (row ∷ []) [] n (omega (arith, inside, len)))) (before n inside)
  ]

  pub all_rows : (rows : List (List ℕ)) → length rows ≡ length nodes → ((n : ℕ) → n < length nodes → IsPairRow nodes n (get_or rows n [])) → AreSummaries nodes rows
  all_rows rows len each = record { same_length = len; pairs = λ from to. (there from to, back from to); once = once }
    where
      past : (to : ℕ) → length nodes ≤ to → get_or rows to [] ≡ []
      past to above = get_or_past {X = List ℕ} rows to [] (omega (arith, len, above))

      there : (from to : ℕ) → HasPair rows from to → IsNumberedPass nodes from to
      there from to among = elim (cases_lt to (length nodes)) [
        | inl below ↦ ((each to below).pairs from).0 among
        | inr above ↦ absurd (let none : Contains {X = ℕ} [] from = subst (λ xs. Contains xs from) (past to above) among in omega (arith, none.1))
      ]

      back : (from to : ℕ) → IsNumberedPass nodes from to → HasPair rows from to
      back from to pass = ((each to (end_inside nodes to pass.end)).pairs from).1 pass

      once : (to : ℕ) → IsStrictlyIncreasing (get_or rows to [])
      once to = elim (cases_lt to (length nodes)) [
        | inl below ↦ (each to below).once
        | inr above ↦ subst IsStrictlyIncreasing (sym (past to above)) (λ k below. absurd (omega (arith, below)))
      ]
