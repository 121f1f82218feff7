-- The facts that are kept of one instance, by the numbers of instances and the sites of objects alone: what is asked of them here depends
-- on no context (this project's own form).
use Rattle.std.specs.Prelude.{◌≡◌, ℕ, ◌<◌, false, List, length, Contains}
use Rattle.jo_ids.specs.declared.ObjKey.{ObjKey}
use Rattle.dependence.specs.declared.facts.Fact.{Fact}
use Rattle.dependence.specs.declared.facts.Fact.TheVariants.{Holds, Target, Throws, Stalls}
use Rattle.fact_sets.specs.declared.numbered.Holder.TheVariants.{Node}
use Rattle.fact_sets.specs.declared.numbered.NumberedFact.TheVariants.{Holds as IsHeld, Calls as IsCalled, Throws as MayThrow, Stalls as MayStall}
use Rattle.fact_sets.specs.FactLists.{FactLists, IsObject}

-- What a node of the instance may hold, and how the targets of its calls may end. An instance stands for its number here.
abbrev pub BySite : {C : Type 0} → FactLists C → ℕ → Fact (List ℕ) → Type 0
BySite {C} lists n (Holds i kind o) = (x : ℕ) × (key : ObjKey C) × Contains lists.facts (IsHeld (Node n kind) x) × IsObject lists.objects x key × (o.site ≡ key.site)
BySite lists n (Target i pc j) = Contains lists.facts (IsCalled (record { instance = n; pc = pc }) j.method false) × (j.method < length lists.instances)
BySite lists n (Throws j) = Contains lists.facts (MayThrow j.method)
BySite lists n (Stalls j) = Contains lists.facts (MayStall j.method)
BySite lists n _ = ⊥
