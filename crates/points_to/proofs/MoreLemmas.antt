-- With more facts no less follows by a group of rules.
use Rattle.std.proofs.Common.{◌≡◌, ◌⊎◌, inl, inr, ℕ, List}
use Rattle.jo_ids.specs.Path.{Path, stays, goes}
use Rattle.jo_ids.specs.declared.ObjKey.{ObjKey}
use Rattle.jo_prog.specs.declared.program.Program.{Program}
use Rattle.jo_prog.specs.declared.sites.Cause.{Cause}
use Rattle.contexts.specs.Policies.{ContextPolicy}
use Rattle.dep_nodes.specs.declared.kinds.NodeKind.TheVariants.{Instr, Call, Throw, Arg}
use Rattle.dependence.specs.declared.flow.Place.{Place}
use Rattle.dependence.specs.declared.facts.InstKey.{InstKey}
use Rattle.dependence.specs.declared.facts.FactCell.TheVariants.{Field as FieldOf, Elements, Static}
use Rattle.dependence.specs.declared.facts.Fact.{Fact}
use Rattle.dependence.specs.declared.facts.Fact.TheVariants.{Reached, Holds, CellHolds, Target, Fork, Stalls}
use Rattle.dependence.specs.FlowGraph.{PlaceHolds, Raises, null_base, zero_divisor, negative_length, bad_index, failing_cast, wrong_element, second_start, missing_interface}
use Rattle.dependence.specs.FactRules.{BaseHolds, TopHolds, MovedHolds, ArgumentHolds, IsTarget, CallsInThread}
use Rattle.method_views.specs.InstanceRules
use Rattle.fact_rules.specs.CallRules
use Rattle.fact_rules.specs.CycleRules
use Rattle.points_to.specs.Groups.{FromInstance, by_value, by_cell, by_target, by_raise, by_catch, by_loop}

module _ (P Q : Fact (List ℕ) → Type 0) (more : (f : Fact (List ℕ)) → P f → Q f) where
  target_more : (i j : InstKey (List ℕ)) (pc : ℕ) → P (Target i pc j) ⊎ P (Fork i pc j) → Q (Target i pc j) ⊎ Q (Fork i pc j)
  target_more i j pc (inl h) = inl (more (Target i pc j) h)
  target_more i j pc (inr h) = inr (more (Fork i pc j) h)

  pub call_more : (g : Fact (List ℕ)) → CallRules.ByCall P g → CallRules.ByCall Q g
  call_more _ (CallRules.is_called i j pc h0 h1) = CallRules.is_called i j pc (more (Reached i) h0) (target_more i j pc h1)
  call_more _ (CallRules.comes_back i j pc o h0 h1 h2) = CallRules.comes_back i j pc o (more (Reached i) h0) (more (Target i pc j) h1) (more _ h2)
  call_more _ (CallRules.comes_out i j pc o h0 h1 h2) = CallRules.comes_out i j pc o (more (Reached i) h0) (more (Target i pc j) h1) (more _ h2)
  call_more _ (CallRules.waits i j pc h0 h1 h2) = CallRules.waits i j pc (more (Reached i) h0) (more (Target i pc j) h1) (more (Stalls j) h2)

  in_thread_more : (i j : InstKey (List ℕ)) → CallsInThread P i j → CallsInThread Q i j
  in_thread_more i j (pc, h) = (pc, more (Target i pc j) h)

  path_more : (i j : InstKey (List ℕ)) → Path (CallsInThread P) i j → Path (CallsInThread Q) i j
  path_more i _ (stays _) = stays i
  path_more i j (goes _ k _ step rest) = goes i k j (in_thread_more i k step) (path_more k j rest)

  pub recursion_more : (g : Fact (List ℕ)) → CycleRules.ByRecursion P g → CycleRules.ByRecursion Q g
  recursion_more _ (CycleRules.recurs i j h0 h1 h2) = CycleRules.recurs i j (more (Reached i) h0) (in_thread_more i j h1) (path_more j i h2)

module _ (program : Program) (policy : ContextPolicy) (P Q : Fact (List ℕ) → Type 0) (more : (f : Fact (List ℕ)) → P f → Q f) (H : ℕ → ℕ → Type 0) (i : InstKey (List ℕ)) where
  place_more : (pc : ℕ) (v : Place) (o : ObjKey (List ℕ)) → PlaceHolds program P H i pc v o → PlaceHolds program Q H i pc v o
  place_more pc v o h = record { d = h.d; arrives = h.arrives; holds = more _ h.holds }

  base_more : (pc : ℕ) (o : ObjKey (List ℕ)) → BaseHolds program P H i pc o → BaseHolds program Q H i pc o
  base_more pc o h = record { place = h.place; is_base = h.is_base; holds = place_more pc h.place o h.holds }

  top_more : (pc : ℕ) (o : ObjKey (List ℕ)) → TopHolds program P H i pc o → TopHolds program Q H i pc o
  top_more pc o h = record { place = h.place; is_top = h.is_top; holds = place_more pc h.place o h.holds }

  moved_more : (pc : ℕ) (o : ObjKey (List ℕ)) → MovedHolds program P H i pc o → MovedHolds program Q H i pc o
  moved_more pc o h = record { place = h.place; is_read = h.is_read; holds = place_more pc h.place o h.holds }

  argument_more : (pc k : ℕ) (o : ObjKey (List ℕ)) → ArgumentHolds program P H i pc k o → ArgumentHolds program Q H i pc k o
  argument_more pc k o h = record { place = h.place; is_argument = h.is_argument; holds = place_more pc h.place o h.holds }

  takes_more : (pc : ℕ) (j : InstKey (List ℕ)) → IsTarget P i pc j → IsTarget Q i pc j
  takes_more pc j h = target_more P Q more i j pc h

  raises_more : (pc : ℕ) (cause : Cause) → Raises program P H i pc cause → Raises program Q H i pc cause
  raises_more pc _ (null_base v d stands base arrives may) = null_base v d stands base arrives may
  raises_more pc _ (zero_divisor v d stands top arrives unlike) = zero_divisor v d stands top arrives unlike
  raises_more pc _ (negative_length v d stands top arrives unlike) = negative_length v d stands top arrives unlike
  raises_more pc _ (bad_index stands) = bad_index stands
  raises_more pc _ (failing_cast v o type stands top holds names fails) = failing_cast v o type stands top (place_more pc v o holds) names fails
  raises_more pc _ (wrong_element v w array value stands at_array holds_array at_value holds_value none) =
      wrong_element v w array value stands at_array (place_more pc v array holds_array) at_value (place_more pc w value holds_value) none
  raises_more pc _ (second_start v o call stands base holds starts) = second_start v o call stands base (place_more pc v o holds) starts
  raises_more pc _ (missing_interface v o call stands base holds fails) = missing_interface v o call stands base (place_more pc v o holds) fails

  value_more : (g : Fact (List ℕ)) → InstanceRules.ByValue program policy P H i g → InstanceRules.ByValue program policy Q H i g
  value_more _ (InstanceRules.makes pc site o h0 h1 h2 h3) = InstanceRules.makes pc site o h0 h1 h2 h3
  value_more _ (InstanceRules.loads_text pc h0 h1) = InstanceRules.loads_text pc h0 h1
  value_more _ (InstanceRules.moves pc o h0 h1 h2) = InstanceRules.moves pc o h0 h1 (moved_more pc o h2)
  value_more _ (InstanceRules.passes pc k o h0 h1) = InstanceRules.passes pc k o h0 (argument_more pc k o h1)
  value_more _ (InstanceRules.throws pc o h0 h1 h2) = InstanceRules.throws pc o h0 h1 (top_more pc o h2)
  value_more _ (InstanceRules.returns pc o h0 h1 h2) = InstanceRules.returns pc o h0 h1 (top_more pc o h2)

  cell_more : (g : Fact (List ℕ)) → InstanceRules.ByCell program policy P H i g → InstanceRules.ByCell program policy Q H i g
  cell_more _ (InstanceRules.loads_field pc f base o h0 h1 h2 h3 h4) = InstanceRules.loads_field pc f base o h0 h1 h2 (base_more pc base h3) (more (CellHolds (FieldOf f base) o) h4)
  cell_more _ (InstanceRules.loads_element pc base o h0 h1 h2 h3) = InstanceRules.loads_element pc base o h0 h1 (base_more pc base h2) (more (CellHolds (Elements base) o) h3)
  cell_more _ (InstanceRules.loads_static pc f o h0 h1 h2 h3) = InstanceRules.loads_static pc f o h0 h1 h2 (more (CellHolds (Static f) o) h3)
  cell_more _ (InstanceRules.stores_field pc f base o h0 h1 h2 h3 h4) = InstanceRules.stores_field pc f base o h0 h1 h2 (base_more pc base h3) (top_more pc o h4)
  cell_more _ (InstanceRules.stores_element pc base o h0 h1 h2 h3) = InstanceRules.stores_element pc base o h0 h1 (base_more pc base h2) (top_more pc o h3)
  cell_more _ (InstanceRules.stores_static pc f o h0 h1 h2 h3) = InstanceRules.stores_static pc f o h0 h1 h2 (top_more pc o h3)

  target_rules_more : (g : Fact (List ℕ)) → InstanceRules.ByTarget program policy P H i g → InstanceRules.ByTarget program policy Q H i g
  target_rules_more _ (InstanceRules.calls_static j pc h0 h1) = InstanceRules.calls_static j pc h0 h1
  target_rules_more _ (InstanceRules.calls_on j pc o h0 h1 h2) = InstanceRules.calls_on j pc o h0 (more (Holds i (Arg pc 0) o) h1) h2
  target_rules_more _ (InstanceRules.starts j pc o h0 h1 h2) = InstanceRules.starts j pc o h0 (more (Holds i (Arg pc 0) o) h1) h2
  target_rules_more _ (InstanceRules.is_given_receiver j pc k o fork h0 h1 h2 h3) = InstanceRules.is_given_receiver j pc k o fork (takes_more pc j h0) h1 (more (Holds i (Arg pc k) o) h2) h3
  target_rules_more _ (InstanceRules.is_given_argument j pc k o h0 h1 h2) = InstanceRules.is_given_argument j pc k o (takes_more pc j h0) h1 (more (Holds i (Arg pc k) o) h2)

  raise_more : (g : Fact (List ℕ)) → InstanceRules.ByRaise program policy P H i g → InstanceRules.ByRaise program policy Q H i g
  raise_more _ (InstanceRules.raises pc site cause o h0 h1 h2 h3) = InstanceRules.raises pc site cause o h0 (raises_more pc cause h1) h2 h3

  catch_more : (g : Fact (List ℕ)) → InstanceRules.ByCatch program policy P H i g → InstanceRules.ByCatch program policy Q H i g
  catch_more _ (InstanceRules.is_caught pc k o h0 h1) = InstanceRules.is_caught pc k o (more (Holds i (Throw pc) o) h0) h1
  catch_more _ (InstanceRules.leaves pc o h0 h1) = InstanceRules.leaves pc o (more (Holds i (Throw pc) o) h0) h1
  catch_more _ (InstanceRules.ends_so pc o h0 h1) = InstanceRules.ends_so pc o (more (Holds i (Throw pc) o) h0) h1

  pub instance_more : (g : Fact (List ℕ)) → FromInstance program policy P H i g → FromInstance program policy Q H i g
  instance_more g (by_value _ h) = by_value g (value_more g h)
  instance_more g (by_cell _ h) = by_cell g (cell_more g h)
  instance_more g (by_target _ h) = by_target g (target_rules_more g h)
  instance_more g (by_raise _ h) = by_raise g (raise_more g h)
  instance_more g (by_catch _ h) = by_catch g (catch_more g h)
  instance_more g (by_loop _ h) = by_loop g h
