-- Loops of a method, by the nodes of its wide graph.
use Rattle.std.specs.Prelude.{option_map, slice_get}
use Rattle.std.proofs.Common.{◌≡◌, ◌↔◌, ℕ, ◌+◌, ◌<◌, true, false, List, length, Option, Some, None, inl, inr, refl, sym, ◌∙◌, subst, arith}
use Rattle.std.proofs.lemmas.Bool.{both_ways, cases_eq}
use Rattle.std.proofs.lemmas.Option.{same_Some, slice_get_within}
use Rattle.jo_prog.specs.declared.program.Program.{Program}
use Rattle.dep_nodes.specs.declared.kinds.NodeKind.{NodeKind}
use Rattle.dep_nodes.specs.declared.kinds.NodeKind.TheVariants.{Entry, Exit, Instr, Call, RetVal, RetKind, Throw, Catch, Poll, XPoll, Arg, Param, Kind, Value, Thrown}
use Rattle.dependence.specs.declared.flows.FlowNode.{FlowNode}
use Rattle.dependence.specs.declared.flows.FlowRow.{FlowRow}
use Rattle.dependence.specs.declared.facts.InstKey.{InstKey}
use Rattle.dependence.specs.declared.facts.Fact.{Fact}
use Rattle.dependence.specs.declared.facts.Fact.TheVariants.{Stalls}
use Rattle.dependence.specs.GraphsAsData.{kind_at, IsWideGraph}
use Rattle.dependence.specs.WideGraph.{IsWideNode}
use Rattle.method_views.proofs.NodeLemmas.{kind_says}
use Rattle.fact_rules.specs.CycleRules.{ByLoop, loops, loops_caught, is_loop, HasLoop}

within : (wide : List FlowRow) (n : ℕ) (spot : NodeKind) → kind_at wide n ≡ Some spot → n < length wide
within wide n spot at = by_row (slice_get wide n) refl at
  where
    by_row : (o : Option FlowRow) → slice_get wide n ≡ o → option_map (λ (row : FlowRow). row.node.kind) o ≡ Some spot → n < length wide
    by_row None is e = absurd (cc)
    by_row (Some row) is e = slice_get_within wide n row is

-- no node below is a loop's
abbrev pub NoLoopBelow : List FlowRow → ℕ → Type 0
NoLoopBelow wide n = (k : ℕ) (kind : NodeKind) → k < n → kind_at wide k ≡ Some kind → is_loop kind ≡ false

pub none_below : (wide : List FlowRow) → NoLoopBelow wide 0
none_below wide k spot below at = absurd (omega (arith, below))

pub one_more : (wide : List FlowRow) (n : ℕ) (node : FlowNode) → option_map (λ (row : FlowRow). row.node) (slice_get wide n) ≡ Some node → is_loop node.kind ≡ false → NoLoopBelow wide n → NoLoopBelow wide (n + 1)
one_more wide n node is plain before k spot below at = elim (cases_eq k n) [
  | inl same ↦
      let here : kind_at wide n ≡ Some spot = subst (λ (x : ℕ). kind_at wide x ≡ Some spot) same at in
      subst (λ (x : NodeKind). is_loop x ≡ false) (same_Some node.kind spot (sym (kind_says wide n node is) ∙ here)) plain
  | inr other ↦ before k spot (omega (arith, below, other)) at
]

pub found : (wide : List FlowRow) (n : ℕ) (node : FlowNode) → option_map (λ (row : FlowRow). row.node) (slice_get wide n) ≡ Some node → is_loop node.kind ≡ true → HasLoop wide
found wide n node is test = record { number = n; kind = node.kind; there = kind_says wide n node is; loops = test }

pub none_at_all : (wide : List FlowRow) (n : ℕ) → length wide ≡ n → NoLoopBelow wide n → HasLoop wide → ⊥
none_at_all wide n all none has =
    both_ways (is_loop has.kind) (none has.number has.kind (omega (arith, all, within wide has.number has.kind has.there)) has.there) has.loops

module _ (program : Program) (i : InstKey (List ℕ)) (H : ℕ → ℕ → Type 0) (wide : List FlowRow) (graph : IsWideGraph program i.method H wide) where
  by_kind : (kind : NodeKind) → IsWideNode program i.method kind → is_loop kind ≡ true → ByLoop program i (Stalls i)
  by_kind (Poll pc target) there test = loops pc target there
  by_kind (XPoll pc k) there test = loops_caught pc k there
  by_kind Entry there test = absurd (cc)
  by_kind Exit there test = absurd (cc)
  by_kind (Instr pc) there test = absurd (cc)
  by_kind (Call pc) there test = absurd (cc)
  by_kind (RetVal pc) there test = absurd (cc)
  by_kind (RetKind pc) there test = absurd (cc)
  by_kind (Throw pc) there test = absurd (cc)
  by_kind (Catch k) there test = absurd (cc)
  by_kind (Arg pc k) there test = absurd (cc)
  by_kind (Param k) there test = absurd (cc)
  by_kind Kind there test = absurd (cc)
  by_kind Value there test = absurd (cc)
  by_kind Thrown there test = absurd (cc)

  at_kind : (kind : NodeKind) → IsWideNode program i.method kind → is_loop kind ≡ true → HasLoop wide
  at_kind spot there test = let (n, at) = graph.graph.each_node spot there in record { number = n; kind = spot; there = at; loops = test }

  pub loop_given : (g : Fact (List ℕ)) → ByLoop program i g → HasLoop wide
  loop_given _ (loops pc target there) = at_kind (Poll pc target) there refl
  loop_given _ (loops_caught pc k there) = at_kind (XPoll pc k) there refl

  stalls_is : (g : Fact (List ℕ)) → ByLoop program i g → g ≡ Stalls i
  stalls_is _ (loops pc target there) = refl
  stalls_is _ (loops_caught pc k there) = refl

  pub by_loop : HasLoop wide → (g : Fact (List ℕ)) → (g ≡ Stalls i) ↔ ByLoop program i g
  by_loop has g =
      (λ e. subst (ByLoop program i) (sym e) (by_kind has.kind (graph.graph.only_nodes has.number has.kind has.there) has.loops), stalls_is g)
