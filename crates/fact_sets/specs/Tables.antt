-- Tables beside a list of facts: what holds which objects, and what is called where (this project's own).
use Rattle.std.specs.Prelude.{◌≡◌, ◌↔◌, ℕ, Bool, List, Contains}
use Rattle.dependence.specs.declared.facts.Target.{Target}
use Rattle.fact_sets.specs.declared.numbered.Holder.{Holder}
use Rattle.fact_sets.specs.declared.numbered.CallPlace.{CallPlace}
use Rattle.fact_sets.specs.declared.numbered.NumberedFact.{NumberedFact}
use Rattle.fact_sets.specs.declared.numbered.NumberedFact.TheVariants.{Holds, Calls}
use Rattle.fact_sets.specs.Groups.{HasIn, AddsUnder}

abbrev pub HeldTable : Type 0
HeldTable = List Holder × List (List ℕ)

abbrev pub CalledTable : Type 0
CalledTable = List CallPlace × List (List Target)

abbrev pub target_at : ℕ → Bool → Target
target_at instance fork = record { instance = instance; fork = fork }

-- the tables have exactly what the facts say
pub record AreTables (all : List NumberedFact) (held : HeldTable) (called : CalledTable) : Type 0 where
  pub held_is : (holder : Holder) (o : ℕ) → HasIn held holder o ↔ Contains all (Holds holder o)
  pub called_is : (call : CallPlace) (t : Target) → HasIn called call t ↔ Contains all (Calls call t.instance t.fork)

-- they lack a fact
abbrev pub LackFact : HeldTable → CalledTable → NumberedFact → Type 0
LackFact held called (Holds holder o) = HasIn held holder o → ⊥
LackFact held called (Calls call instance fork) = HasIn called call (target_at instance fork) → ⊥
LackFact held called _ = Unit {0}

-- they have it besides
abbrev pub AddFact : HeldTable → CalledTable → HeldTable → CalledTable → NumberedFact → Type 0
AddFact held called new_held new_called (Holds holder o) = AddsUnder held new_held holder o × (new_called ≡ called)
AddFact held called new_held new_called (Calls call instance fork) = (new_held ≡ held) × AddsUnder called new_called call (target_at instance fork)
AddFact held called new_held new_called _ = (new_held ≡ held) × (new_called ≡ called)
