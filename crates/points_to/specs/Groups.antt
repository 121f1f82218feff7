-- The rules of facts by groups, as a solver goes through them (this project's own form): those of the program alone, those from a call and
-- its target, those from one instance that runs, and those from cycles of calls.
use Rattle.std.specs.Prelude.{ℕ, List}
use Rattle.jo_prog.specs.declared.program.Program.{Program}
use Rattle.jo_prog.specs.TypingPaths.{HasHeightAt}
use Rattle.contexts.specs.Policies.{ContextPolicy}
use Rattle.dependence.specs.declared.facts.InstKey.{InstKey}
use Rattle.dependence.specs.declared.facts.Fact.{Fact}
use Rattle.dependence.specs.declared.facts.Fact.TheVariants.{Reached}
use Rattle.method_views.specs.InstanceRules.{ByValue, ByCell, ByTarget, ByRaise, ByCatch}
use Rattle.fact_sets.specs.FactLists.{FactLists, IsInstance}
use Rattle.fact_sets.specs.Seen.{Known, instance_seen}
use Rattle.fact_rules.specs.CallRules.{ByCall}
use Rattle.fact_rules.specs.CycleRules.{ByLoop, ByRecursion}
use Rattle.fact_rules.specs.FirstRules.{ByFirst}

-- what follows from an instance that runs
pub data FromInstance (program : Program) (policy : ContextPolicy) (facts : Fact (List ℕ) → Type 0) (H : ℕ → ℕ → Type 0) (i : InstKey (List ℕ)) : Fact (List ℕ) → Type 0 where
  by_value : (g : Fact (List ℕ)) → ByValue program policy facts H i g → FromInstance program policy facts H i g
  by_cell : (g : Fact (List ℕ)) → ByCell program policy facts H i g → FromInstance program policy facts H i g
  by_target : (g : Fact (List ℕ)) → ByTarget program policy facts H i g → FromInstance program policy facts H i g
  by_raise : (g : Fact (List ℕ)) → ByRaise program policy facts H i g → FromInstance program policy facts H i g
  by_catch : (g : Fact (List ℕ)) → ByCatch program policy facts H i g → FromInstance program policy facts H i g
  by_loop : (g : Fact (List ℕ)) → ByLoop program i g → FromInstance program policy facts H i g

pub data ByGroups (program : Program) (policy : ContextPolicy) (H : ℕ → ℕ → ℕ → Type 0) (entry : ℕ) (facts : Fact (List ℕ) → Type 0) : Fact (List ℕ) → Type 0 where
  first : (g : Fact (List ℕ)) → ByFirst program entry g → ByGroups program policy H entry facts g
  of_call : (g : Fact (List ℕ)) → ByCall facts g → ByGroups program policy H entry facts g
  of_instance : (i : InstKey (List ℕ)) (g : Fact (List ℕ)) → facts (Reached i) → FromInstance program policy facts (H i.method) i g → ByGroups program policy H entry facts g
  of_recursion : (g : Fact (List ℕ)) → ByRecursion facts g → ByGroups program policy H entry facts g

-- what follows from the instance with a number, where it runs
pub record FromNumber {C : Type 0} (program : Program) (policy : ContextPolicy) (list : C → List ℕ) (lists : FactLists C) (n : ℕ) (g : Fact (List ℕ)) : Type 0 where
  pub key : InstKey C
  pub is_key : IsInstance lists.instances n key
  pub runs : Known list lists (Reached (instance_seen list key))
  pub follows : FromInstance program policy (Known list lists) (HasHeightAt program key.method) (instance_seen list key) g
