-- The accesses of the instance with a number are those of its key, its heights and its flow graph.
use Rattle.std.specs.Prelude.{◌↔◌}
use Rattle.std.proofs.Common.{◌≡◌, ℕ, List, Option, Some, Contains, slice_get, ap, sym, ◌∙◌, subst}
use Rattle.std.proofs.lemmas.Option.{same_Some}
use Rattle.jo_prog.specs.declared.program.Program.{Program}
use Rattle.jo_prog.specs.declared.labels.Labels.{Labels}
use Rattle.dependence.specs.declared.facts.InstKey.{InstKey}
use Rattle.fact_sets.specs.declared.numbered.NumberedFact.TheVariants.{Reached as IsReached}
use Rattle.fact_sets.specs.FactLists.{FactLists, IsInstance}
use Rattle.fact_sets.specs.Seen.{Known, instance_seen}
use Rattle.heap_deps.specs.declared.flow_sets.InstanceFlow.{InstanceFlow}
use Rattle.heap_deps.specs.Items.{Item}
use Rattle.heap_deps.specs.Accesses.{InstanceMakes}
use Rattle.heap_deps.specs.FlowSets.{NumberMakes}

abbrev the_key : {C : Type 0} → ℕ → C → InstKey C
the_key method context = record { method = method; context = context }

same_key : {C : Type 0} (instances : List (ℕ × C)) (n : ℕ) (a b : InstKey C) → IsInstance instances n a → IsInstance instances n b → a ≡ b
same_key {C} instances n a b one other = ap (λ (p : ℕ × C). the_key p.0 p.1) (same_Some (a.method, a.context) (b.method, b.context) (sym one ∙ other))

pub number_told : {C : Type 0} (program : Program) (labels : Labels) (list : C → List ℕ) (L : FactLists C) (typings : List (List (Option ℕ))) (flows : List InstanceFlow) (n : ℕ) (key : InstKey C) (typed : List (Option ℕ)) (own : InstanceFlow)
    → Contains L.facts (IsReached n) → IsInstance L.instances n key → slice_get typings key.method ≡ Some typed → slice_get flows n ≡ Some own → (x : Item)
    → InstanceMakes program labels (Known list L) (instance_seen list key) typed own.flow own.uses own.first x ↔ NumberMakes program labels list L typings flows n x
number_told {C} program labels list L typings flows n key typed own reached is heights flow x =
    (λ makes. record { reached = reached; key = key; is = is; typed = typed; heights = heights; own = own; flow = flow; makes = makes }, back)
  where
    Makes : InstKey C → List (Option ℕ) → InstanceFlow → Type 0
    Makes k t f = InstanceMakes program labels (Known list L) (instance_seen list k) t f.flow f.uses f.first x

    back : NumberMakes program labels list L typings flows n x → InstanceMakes program labels (Known list L) (instance_seen list key) typed own.flow own.uses own.first x
    back m =
        let keys : m.key ≡ key = same_key L.instances n m.key key m.is is in
        let typed_same : m.typed ≡ typed = same_Some m.typed typed (sym m.heights ∙ ap (λ (k : InstKey C). slice_get typings k.method) keys ∙ heights) in
        let owns : m.own ≡ own = same_Some m.own own (sym m.flow ∙ flow) in
        subst (λ (f : InstanceFlow). Makes key typed f) owns (subst (λ t. Makes key t m.own) typed_same (subst (λ k. Makes k m.typed m.own) keys m.makes))
