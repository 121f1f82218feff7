-- What follows by one rule follows by one of the groups, and back.
use Rattle.std.proofs.Common.{◌≡◌, ℕ, ◌<◌, List, [], refl, sym, subst}
use Rattle.jo_prog.specs.declared.program.Program.{Program}
use Rattle.contexts.specs.Policies.{ContextPolicy}
use Rattle.dep_nodes.specs.declared.kinds.NodeKind.TheVariants.{Instr, Call, RetVal, Throw, Catch, Poll, XPoll, Arg, Param, Value, Thrown}
use Rattle.dependence.specs.declared.facts.InstKey.{InstKey}
use Rattle.dependence.specs.declared.facts.FactCell.TheVariants.{Field as FieldOf, Elements, Static}
use Rattle.dependence.specs.declared.facts.Fact.{Fact}
use Rattle.dependence.specs.declared.facts.Fact.TheVariants.{Reached, Holds, CellHolds, Target, Fork, Throws, Stalls}
use Rattle.dependence.specs.FactRules
use Rattle.dependence.specs.NodePlaces.{HasParameters}
use Rattle.dependence.specs.FactRules.{instance_at, string_object, args_object}
use Rattle.method_views.specs.InstanceRules
use Rattle.fact_rules.specs.CallRules
use Rattle.fact_rules.specs.CycleRules
use Rattle.fact_rules.specs.FirstRules
use Rattle.points_to.specs.Groups.{FromInstance, ByGroups, by_value, by_cell, by_target, by_raise, by_catch, by_loop, first, of_call, of_instance, of_recursion}

module _ (program : Program) (policy : ContextPolicy) (H : ℕ → ℕ → ℕ → Type 0) (entry : ℕ) (facts : Fact (List ℕ) → Type 0) where
  abbrev Rule : Fact (List ℕ) → Type 0
  Rule g = FactRules.ByRule program policy H entry facts g

  enters_by : (i : InstKey (List ℕ)) → i ≡ instance_at entry [] → ByGroups program policy H entry facts (Reached i)
  enters_by i e = subst (λ k. ByGroups program policy H entry facts (Reached k)) (sym e) (first (Reached (instance_at entry [])) FirstRules.enters)

  given_by : (i : InstKey (List ℕ)) (count : ℕ) → i ≡ instance_at entry [] → HasParameters program entry count → 0 < count → ByGroups program policy H entry facts (Holds i (Param 0) args_object)
  given_by i count e has some =
      subst (λ k. ByGroups program policy H entry facts (Holds k (Param 0) args_object)) (sym e) (first (Holds (instance_at entry []) (Param 0) args_object) (FirstRules.is_given count has some))

  pub to_groups : {g : Fact (List ℕ)} → Rule g → ByGroups program policy H entry facts g
  to_groups (FactRules.enters i h0) = enters_by i h0
  to_groups (FactRules.is_given i count h0 h1 h2) = given_by i count h0 h1 h2
  to_groups (FactRules.begins_with f h0) = first (CellHolds (Static f) string_object) (FirstRules.begins_with f h0)
  to_groups (FactRules.is_called i j pc h0 h1) = of_call (Reached j) (CallRules.is_called i j pc h0 h1)
  to_groups (FactRules.comes_back i j pc o h0 h1 h2) = of_call (Holds i (RetVal pc) o) (CallRules.comes_back i j pc o h0 h1 h2)
  to_groups (FactRules.comes_out i j pc o h0 h1 h2) = of_call (Holds i (Throw pc) o) (CallRules.comes_out i j pc o h0 h1 h2)
  to_groups (FactRules.waits i j pc h0 h1 h2) = of_call (Stalls i) (CallRules.waits i j pc h0 h1 h2)
  to_groups (FactRules.makes i pc site o r h1 h2 h3) = of_instance i (Holds i (Instr pc) o) r.reached (by_value (Holds i (Instr pc) o) (InstanceRules.makes pc site o r.there h1 h2 h3))
  to_groups (FactRules.loads_text i pc r h1) = of_instance i (Holds i (Instr pc) string_object) r.reached (by_value (Holds i (Instr pc) string_object) (InstanceRules.loads_text pc r.there h1))
  to_groups (FactRules.moves i pc o r h1 h2) = of_instance i (Holds i (Instr pc) o) r.reached (by_value (Holds i (Instr pc) o) (InstanceRules.moves pc o r.there h1 h2))
  to_groups (FactRules.passes i pc k o r h1) = of_instance i (Holds i (Arg pc k) o) r.reached (by_value (Holds i (Arg pc k) o) (InstanceRules.passes pc k o r.there h1))
  to_groups (FactRules.throws i pc o r h1 h2) = of_instance i (Holds i (Throw pc) o) r.reached (by_value (Holds i (Throw pc) o) (InstanceRules.throws pc o r.there h1 h2))
  to_groups (FactRules.returns i pc o r h1 h2) = of_instance i (Holds i Value o) r.reached (by_value (Holds i Value o) (InstanceRules.returns pc o r.there h1 h2))
  to_groups (FactRules.loads_field i pc f base o r h1 h2 h3 h4) = of_instance i (Holds i (Instr pc) o) r.reached (by_cell (Holds i (Instr pc) o) (InstanceRules.loads_field pc f base o r.there h1 h2 h3 h4))
  to_groups (FactRules.loads_element i pc base o r h1 h2 h3) = of_instance i (Holds i (Instr pc) o) r.reached (by_cell (Holds i (Instr pc) o) (InstanceRules.loads_element pc base o r.there h1 h2 h3))
  to_groups (FactRules.loads_static i pc f o r h1 h2 h3) = of_instance i (Holds i (Instr pc) o) r.reached (by_cell (Holds i (Instr pc) o) (InstanceRules.loads_static pc f o r.there h1 h2 h3))
  to_groups (FactRules.stores_field i pc f base o r h1 h2 h3 h4) = of_instance i (CellHolds (FieldOf f base) o) r.reached (by_cell (CellHolds (FieldOf f base) o) (InstanceRules.stores_field pc f base o r.there h1 h2 h3 h4))
  to_groups (FactRules.stores_element i pc base o r h1 h2 h3) = of_instance i (CellHolds (Elements base) o) r.reached (by_cell (CellHolds (Elements base) o) (InstanceRules.stores_element pc base o r.there h1 h2 h3))
  to_groups (FactRules.stores_static i pc f o r h1 h2 h3) = of_instance i (CellHolds (Static f) o) r.reached (by_cell (CellHolds (Static f) o) (InstanceRules.stores_static pc f o r.there h1 h2 h3))
  to_groups (FactRules.calls_static i j pc r h1) = of_instance i (Target i pc j) r.reached (by_target (Target i pc j) (InstanceRules.calls_static j pc r.there h1))
  to_groups (FactRules.calls_on i j pc o r h1 h2) = of_instance i (Target i pc j) r.reached (by_target (Target i pc j) (InstanceRules.calls_on j pc o r.there h1 h2))
  to_groups (FactRules.starts i j pc o r h1 h2) = of_instance i (Fork i pc j) r.reached (by_target (Fork i pc j) (InstanceRules.starts j pc o r.there h1 h2))
  to_groups (FactRules.is_given_receiver i j pc k o fork runs h0 h1 h2 h3) = of_instance i (Holds j (Param k) o) runs (by_target (Holds j (Param k) o) (InstanceRules.is_given_receiver j pc k o fork h0 h1 h2 h3))
  to_groups (FactRules.is_given_argument i j pc k o runs h0 h1 h2) = of_instance i (Holds j (Param k) o) runs (by_target (Holds j (Param k) o) (InstanceRules.is_given_argument j pc k o h0 h1 h2))
  to_groups (FactRules.raises i pc site cause o r h1 h2 h3) = of_instance i (Holds i (Throw pc) o) r.reached (by_raise (Holds i (Throw pc) o) (InstanceRules.raises pc site cause o r.there h1 h2 h3))
  to_groups (FactRules.is_caught i pc k o runs h0 h1) = of_instance i (Holds i (Catch k) o) runs (by_catch (Holds i (Catch k) o) (InstanceRules.is_caught pc k o h0 h1))
  to_groups (FactRules.leaves i pc o runs h0 h1) = of_instance i (Holds i Thrown o) runs (by_catch (Holds i Thrown o) (InstanceRules.leaves pc o h0 h1))
  to_groups (FactRules.ends_so i pc o runs h0 h1) = of_instance i (Throws i) runs (by_catch (Throws i) (InstanceRules.ends_so pc o h0 h1))
  to_groups (FactRules.loops i pc target r) = of_instance i (Stalls i) r.reached (by_loop (Stalls i) (CycleRules.loops pc target r.there))
  to_groups (FactRules.loops_caught i pc k r) = of_instance i (Stalls i) r.reached (by_loop (Stalls i) (CycleRules.loops_caught pc k r.there))
  to_groups (FactRules.recurs i j runs h0 h1) = of_recursion (Stalls i) (CycleRules.recurs i j runs h0 h1)

  from_first : (g : Fact (List ℕ)) → FirstRules.ByFirst program entry g → Rule g
  from_first _ FirstRules.enters = FactRules.enters (instance_at entry []) refl
  from_first _ (FirstRules.is_given count h1 h2) = FactRules.is_given (instance_at entry []) count refl h1 h2
  from_first _ (FirstRules.begins_with f h0) = FactRules.begins_with f h0

  from_call : (g : Fact (List ℕ)) → CallRules.ByCall facts g → Rule g
  from_call _ (CallRules.is_called i j pc h0 h1) = FactRules.is_called i j pc h0 h1
  from_call _ (CallRules.comes_back i j pc o h0 h1 h2) = FactRules.comes_back i j pc o h0 h1 h2
  from_call _ (CallRules.comes_out i j pc o h0 h1 h2) = FactRules.comes_out i j pc o h0 h1 h2
  from_call _ (CallRules.waits i j pc h0 h1 h2) = FactRules.waits i j pc h0 h1 h2

  from_by_value : (i : InstKey (List ℕ)) → facts (Reached i) → (g : Fact (List ℕ)) → InstanceRules.ByValue program policy facts (H i.method) i g → Rule g
  from_by_value i runs _ (InstanceRules.makes pc site o h0 h1 h2 h3) = FactRules.makes i pc site o (record { reached = runs; there = h0 }) h1 h2 h3
  from_by_value i runs _ (InstanceRules.loads_text pc h0 h1) = FactRules.loads_text i pc (record { reached = runs; there = h0 }) h1
  from_by_value i runs _ (InstanceRules.moves pc o h0 h1 h2) = FactRules.moves i pc o (record { reached = runs; there = h0 }) h1 h2
  from_by_value i runs _ (InstanceRules.passes pc k o h0 h1) = FactRules.passes i pc k o (record { reached = runs; there = h0 }) h1
  from_by_value i runs _ (InstanceRules.throws pc o h0 h1 h2) = FactRules.throws i pc o (record { reached = runs; there = h0 }) h1 h2
  from_by_value i runs _ (InstanceRules.returns pc o h0 h1 h2) = FactRules.returns i pc o (record { reached = runs; there = h0 }) h1 h2

  from_by_cell : (i : InstKey (List ℕ)) → facts (Reached i) → (g : Fact (List ℕ)) → InstanceRules.ByCell program policy facts (H i.method) i g → Rule g
  from_by_cell i runs _ (InstanceRules.loads_field pc f base o h0 h1 h2 h3 h4) = FactRules.loads_field i pc f base o (record { reached = runs; there = h0 }) h1 h2 h3 h4
  from_by_cell i runs _ (InstanceRules.loads_element pc base o h0 h1 h2 h3) = FactRules.loads_element i pc base o (record { reached = runs; there = h0 }) h1 h2 h3
  from_by_cell i runs _ (InstanceRules.loads_static pc f o h0 h1 h2 h3) = FactRules.loads_static i pc f o (record { reached = runs; there = h0 }) h1 h2 h3
  from_by_cell i runs _ (InstanceRules.stores_field pc f base o h0 h1 h2 h3 h4) = FactRules.stores_field i pc f base o (record { reached = runs; there = h0 }) h1 h2 h3 h4
  from_by_cell i runs _ (InstanceRules.stores_element pc base o h0 h1 h2 h3) = FactRules.stores_element i pc base o (record { reached = runs; there = h0 }) h1 h2 h3
  from_by_cell i runs _ (InstanceRules.stores_static pc f o h0 h1 h2 h3) = FactRules.stores_static i pc f o (record { reached = runs; there = h0 }) h1 h2 h3

  from_by_target : (i : InstKey (List ℕ)) → facts (Reached i) → (g : Fact (List ℕ)) → InstanceRules.ByTarget program policy facts (H i.method) i g → Rule g
  from_by_target i runs _ (InstanceRules.calls_static j pc h0 h1) = FactRules.calls_static i j pc (record { reached = runs; there = h0 }) h1
  from_by_target i runs _ (InstanceRules.calls_on j pc o h0 h1 h2) = FactRules.calls_on i j pc o (record { reached = runs; there = h0 }) h1 h2
  from_by_target i runs _ (InstanceRules.starts j pc o h0 h1 h2) = FactRules.starts i j pc o (record { reached = runs; there = h0 }) h1 h2
  from_by_target i runs _ (InstanceRules.is_given_receiver j pc k o fork h0 h1 h2 h3) = FactRules.is_given_receiver i j pc k o fork runs h0 h1 h2 h3
  from_by_target i runs _ (InstanceRules.is_given_argument j pc k o h0 h1 h2) = FactRules.is_given_argument i j pc k o runs h0 h1 h2

  from_by_raise : (i : InstKey (List ℕ)) → facts (Reached i) → (g : Fact (List ℕ)) → InstanceRules.ByRaise program policy facts (H i.method) i g → Rule g
  from_by_raise i runs _ (InstanceRules.raises pc site cause o h0 h1 h2 h3) = FactRules.raises i pc site cause o (record { reached = runs; there = h0 }) h1 h2 h3

  from_by_catch : (i : InstKey (List ℕ)) → facts (Reached i) → (g : Fact (List ℕ)) → InstanceRules.ByCatch program policy facts (H i.method) i g → Rule g
  from_by_catch i runs _ (InstanceRules.is_caught pc k o h0 h1) = FactRules.is_caught i pc k o runs h0 h1
  from_by_catch i runs _ (InstanceRules.leaves pc o h0 h1) = FactRules.leaves i pc o runs h0 h1
  from_by_catch i runs _ (InstanceRules.ends_so pc o h0 h1) = FactRules.ends_so i pc o runs h0 h1

  from_loop : (i : InstKey (List ℕ)) → facts (Reached i) → (g : Fact (List ℕ)) → CycleRules.ByLoop program i g → Rule g
  from_loop i runs _ (CycleRules.loops pc target h0) = FactRules.loops i pc target (record { reached = runs; there = h0 })
  from_loop i runs _ (CycleRules.loops_caught pc k h0) = FactRules.loops_caught i pc k (record { reached = runs; there = h0 })

  from_recursion : (g : Fact (List ℕ)) → CycleRules.ByRecursion facts g → Rule g
  from_recursion _ (CycleRules.recurs i j runs h0 h1) = FactRules.recurs i j runs h0 h1

  from_instance : (i : InstKey (List ℕ)) → facts (Reached i) → (g : Fact (List ℕ)) → FromInstance program policy facts (H i.method) i g → Rule g
  from_instance i runs g (by_value _ h) = from_by_value i runs g h
  from_instance i runs g (by_cell _ h) = from_by_cell i runs g h
  from_instance i runs g (by_target _ h) = from_by_target i runs g h
  from_instance i runs g (by_raise _ h) = from_by_raise i runs g h
  from_instance i runs g (by_catch _ h) = from_by_catch i runs g h
  from_instance i runs g (by_loop _ h) = from_loop i runs g h

  pub from_groups : (g : Fact (List ℕ)) → ByGroups program policy H entry facts g → Rule g
  from_groups g (first _ h) = from_first g h
  from_groups g (of_call _ h) = from_call g h
  from_groups g (of_instance i _ runs h) = from_instance i runs g h
  from_groups g (of_recursion _ h) = from_recursion g h
