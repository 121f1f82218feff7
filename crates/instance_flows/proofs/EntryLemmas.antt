-- The search for Entry.
use Rattle.std.specs.Prelude.{option_map, slice_get}
use Rattle.std.proofs.Common.{inl, inr, ◌⊎◌, ◌≡◌, ℕ, ◌+◌, ◌<◌, ◌≤◌, true, false, List, length, Option, Some, None, refl, sym, ◌∙◌, ap, arith}
use Rattle.std.proofs.lemmas.Bool.{cases_eq}
use Rattle.std.proofs.lemmas.Option.{same_Some, slice_get_within}
use Rattle.dep_nodes.specs.declared.kinds.NodeKind.TheVariants.{Entry}
use Rattle.dependence.specs.declared.flows.FlowNode.{FlowNode}
use Rattle.dependence.specs.declared.flows.FlowRow.{FlowRow}
use Rattle.dependence.specs.GraphsAsData.{kind_at}
use Rattle.instance_flows.specs.NodeTests.{is_entry}
use Rattle.instance_flows.proofs.NullLemmas.{entry_is, kind_says}

-- none of the first so many nodes is Entry
abbrev pub NoEntry : List FlowRow → ℕ → Type 0
NoEntry wide n = (k : ℕ) → k < n → kind_at wide k ≡ Some Entry → ⊥

module _ (wide : List FlowRow) where
  pub no_entry_yet : NoEntry wide 0
  no_entry_yet k below at = omega (arith, below)

  pub no_entry_more : (n : ℕ) (node : FlowNode) → option_map (λ (row : FlowRow). row.node) (slice_get wide n) ≡ Some node → is_entry node.kind ≡ false → NoEntry wide n → NoEntry wide (n + 1)
  no_entry_more n node e other before k below at = by_place (cases_eq k n)
    where
      by_place : (k ≡ n) ⊎ (k ≡ n → ⊥) → ⊥
      by_place (inl same) =
          let kind = same_Some node.kind Entry (sym (kind_says wide n node e) ∙ sym (ap (kind_at wide) same) ∙ at) in
          let entry = ap is_entry kind in
          absurd (cc)
      by_place (inr apart) = before k (omega (arith, below, apart)) at

  pub entry_here : (n : ℕ) (node : FlowNode) → option_map (λ (row : FlowRow). row.node) (slice_get wide n) ≡ Some node → is_entry node.kind ≡ true → kind_at wide n ≡ Some Entry
  entry_here n node e is = kind_says wide n node e ∙ ap (λ k. Some k) (entry_is node.kind is)

  within : (k : ℕ) → kind_at wide k ≡ Some Entry → k < length wide
  within k at = by_row (slice_get wide k) refl at
    where
      by_row : (o : Option FlowRow) → slice_get wide k ≡ o → option_map (λ (row : FlowRow). row.node.kind) o ≡ Some Entry → k < length wide
      by_row None none f = absurd (cc)
      by_row (Some row) found f = slice_get_within wide k row found

  pub not_none : (n : ℕ) → length wide ≤ n → NoEntry wide n → (k : ℕ) × (kind_at wide k ≡ Some Entry) → ⊥
  not_none n past none (k, at) = none k (let below = within k at in omega (arith, past, below)) at
