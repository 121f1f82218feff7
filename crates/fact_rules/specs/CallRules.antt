-- The rules that go from a call and its target, by themselves and over any type of contexts: over lists of sites they are those of
-- the same names of ByRule.
use Rattle.std.specs.Prelude.{◌≡◌, ◌⊎◌, ℕ}
use Rattle.jo_ids.specs.declared.ObjKey.{ObjKey}
use Rattle.dep_nodes.specs.declared.kinds.NodeKind.{NodeKind}
use Rattle.dep_nodes.specs.declared.kinds.NodeKind.TheVariants.{RetVal, Throw, Value, Thrown}
use Rattle.dependence.specs.declared.facts.InstKey.{InstKey}
use Rattle.dependence.specs.declared.facts.Fact.{Fact}
use Rattle.dependence.specs.declared.facts.Fact.TheVariants.{Reached, Holds, Target, Fork, Stalls}

-- a target runs; a call gets what its target gives as a result, and as an exception; a caller waits for what may never end
pub data ByCall {C : Type 0} (facts : Fact C → Type 0) : Fact C → Type 0 where
  is_called : (i j : InstKey C) (pc : ℕ) → facts (Reached i) → facts (Target i pc j) ⊎ facts (Fork i pc j) → ByCall facts (Reached j)
  comes_back : (i j : InstKey C) (pc : ℕ) (o : ObjKey C) → facts (Reached i) → facts (Target i pc j) → facts (Holds j Value o) → ByCall facts (Holds i (RetVal pc) o)
  comes_out : (i j : InstKey C) (pc : ℕ) (o : ObjKey C) → facts (Reached i) → facts (Target i pc j) → facts (Holds j Thrown o) → ByCall facts (Holds i (Throw pc) o)
  waits : (i j : InstKey C) (pc : ℕ) → facts (Reached i) → facts (Target i pc j) → facts (Stalls j) → ByCall facts (Stalls i)

-- ---- the same from one fact

-- what a node of one instance holds comes to a node of another
abbrev pub HandsOn : {C : Type 0} → (Fact C → Type 0) → InstKey C → NodeKind → InstKey C → NodeKind → Fact C → Type 0
HandsOn {C} facts j from i to f = (o : ObjKey C) × facts (Holds j from o) × (f ≡ Holds i to o)

abbrev pub IfHas : {C : Type 0} → (Fact C → Type 0) → Fact C → Fact C → Fact C → Type 0
IfHas facts premise fact f = facts premise × (f ≡ fact)

abbrev pub TargetGives : {C : Type 0} → (Fact C → Type 0) → InstKey C → ℕ → InstKey C → Fact C → Type 0
TargetGives facts i pc j f =
    ((f ≡ Reached j) ⊎ IfHas facts (Stalls j) (Stalls i) f) ⊎ (HandsOn facts j Value i (RetVal pc) f ⊎ HandsOn facts j Thrown i (Throw pc) f)

abbrev pub CallGives : {C : Type 0} → (Fact C → Type 0) → Fact C → Fact C → Type 0
CallGives facts (Target i pc j) f = facts (Reached i) × TargetGives facts i pc j f
CallGives facts (Fork i pc j) f = facts (Reached i) × (f ≡ Reached j)
CallGives facts _ f = ⊥
