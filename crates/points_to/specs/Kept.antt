-- Facts that are kept on the way to all that are derivable (this project's own).
use Rattle.std.specs.Prelude.{ℕ, List, Contains}
use Rattle.jo_ids.specs.declared.ObjKey.{ObjKey}
use Rattle.jo_prog.specs.declared.program.Program.{Program}
use Rattle.jo_prog.specs.TypingPaths.{HasHeightAt}
use Rattle.contexts.specs.Policies.{ContextPolicy}
use Rattle.dependence.specs.declared.facts.InstKey.{InstKey}
use Rattle.dependence.specs.declared.facts.Fact.{Fact}
use Rattle.dependence.specs.declared.facts.Fact.TheVariants.{Reached}
use Rattle.dependence.specs.FactRules.{Derivable, instance_at, object_at}
use Rattle.fact_sets.specs.FactLists.{FactLists}
use Rattle.fact_sets.specs.Seen.{Known}
use Rattle.points_to.specs.Limits.{IsNamed}

-- the facts of a program
abbrev pub FactsOf : Program → ContextPolicy → ℕ → Fact (List ℕ) → Type 0
FactsOf program policy entry = Derivable program policy (HasHeightAt program) entry

-- a pair of a number and a context, seen over lists of sites
abbrev pub instance_of : {C : Type 0} → (C → List ℕ) → ℕ × C → InstKey (List ℕ)
instance_of list pair = instance_at pair.0 (list pair.1)

abbrev pub object_of : {C : Type 0} → (C → List ℕ) → ℕ × C → ObjKey (List ℕ)
object_of list pair = object_at pair.0 (list pair.1)

-- each fact is derivable, each instance with a number runs, and a derivable fact names each object with a number
pub record IsKept {C : Type 0} (program : Program) (policy : ContextPolicy) (entry : ℕ) (list : C → List ℕ) (lists : FactLists C) : Type 0 where
  pub sound : (g : Fact (List ℕ)) → Known list lists g → FactsOf program policy entry g
  pub runs : (pair : ℕ × C) → Contains lists.instances pair → FactsOf program policy entry (Reached (instance_of list pair))
  pub named : (pair : ℕ × C) → Contains lists.objects pair → IsNamed (FactsOf program policy entry) (object_of list pair)
