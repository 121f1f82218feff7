-- A step on the way to all derivable facts (this project's own).
use Rattle.std.specs.Prelude.{◌≡◌, ◌↔◌, ℕ, ◌<◌, Bool, false, List}
use Rattle.jo_prog.specs.declared.program.Program.{Program}
use Rattle.contexts.specs.Policies.{ContextPolicy}
use Rattle.dependence.specs.declared.facts.InstKey.{InstKey}
use Rattle.dependence.specs.declared.facts.Fact.{Fact}
use Rattle.dependence.specs.declared.facts.Fact.TheVariants.{Reached}
use Rattle.dependence.specs.GraphsAsData.{HasMoreNodes}
use Rattle.fact_sets.specs.FactLists.{FactLists, IsInstance}
use Rattle.fact_sets.specs.Seen.{Known, Listed, instance_seen}
use Rattle.points_to.specs.Additions.{GoesOn, IsFew}
use Rattle.fact_rules.specs.FirstRules.{ByFirst}
use Rattle.points_to.specs.Kept.{FactsOf, IsKept}
use Rattle.points_to.specs.Limits.{AreWithinLimits}

-- the list has exactly these facts, seen over lists of sites
abbrev pub Lists : {C : Type 0} → (C → List ℕ) → List (Fact C) → (Fact (List ℕ) → Type 0) → Type 0
Lists list items these = (g : Fact (List ℕ)) → Listed list items g ↔ these g

-- the new facts are derivable as the old ones are, within the limits, and have these besides
pub record Advances {C : Type 0} (program : Program) (policy : ContextPolicy) (entry : ℕ) (list : C → List ℕ) (old new : FactLists C) (more : Fact (List ℕ) → Type 0) : Type 0 where
  pub goes_on : GoesOn old new
  pub kept : IsKept program policy entry list new
  pub few : IsFew new
  pub has : (g : Fact (List ℕ)) → more g → Known list new g

-- the graph of the instance with that number, where it runs, has no more nodes than the limit
abbrev pub IsSmallAt : {C : Type 0} → Program → (C → List ℕ) → FactLists C → ℕ → Type 0
IsSmallAt {C} program list lists n =
    (key : InstKey C) → IsInstance lists.instances n key → Known list lists (Reached (instance_seen list key)) → HasMoreNodes program key.method 16384 → ⊥

abbrev pub AreSmallBelow : {C : Type 0} → Program → (C → List ℕ) → FactLists C → ℕ → Type 0
AreSmallBelow program list lists end = (n : ℕ) → n < end → IsSmallAt program list lists n

-- all derivable facts are kept, and nothing is greater than its limit
pub record IsWhole {C : Type 0} (program : Program) (policy : ContextPolicy) (entry : ℕ) (list : C → List ℕ) (lists : FactLists C) : Type 0 where
  pub complete : (g : Fact (List ℕ)) → FactsOf program policy entry g → Known list lists g
  pub within : AreWithinLimits program (FactsOf program policy entry)

-- a round was made: with nothing more, the facts are whole
pub record IsRound {C : Type 0} (program : Program) (policy : ContextPolicy) (entry : ℕ) (list : C → List ℕ) (lists : FactLists C) (more : Bool) : Type 0 where
  pub kept : IsKept program policy entry list lists
  pub few : IsFew lists
  pub first : (g : Fact (List ℕ)) → ByFirst program entry g → Known list lists g
  pub whole : more ≡ false → IsWhole program policy entry list lists
