-- What is raised is thrown, pair by pair.
use Rattle.std.proofs.Common.{◌≡◌, ◌↔◌, ℕ, List, Contains, Option, Some, None, refl, sym, ap, ◌∙◌, subst}
use Rattle.std.proofs.lemmas.Option.{same_Some}
use Rattle.jo_ids.specs.declared.ObjKey.{ObjKey}
use Rattle.jo_prog.specs.declared.program.Program.{Program}
use Rattle.jo_prog.specs.Sites.{class_raised, sites_of, site_of}
use Rattle.contexts.specs.Policies.{ContextPolicy}
use Rattle.dep_nodes.specs.declared.kinds.NodeKind.TheVariants.{Throw}
use Rattle.dependence.specs.declared.facts.InstKey.{InstKey}
use Rattle.dependence.specs.declared.facts.Fact.{Fact}
use Rattle.dependence.specs.declared.facts.Fact.TheVariants.{Holds}
use Rattle.dependence.specs.FactRules.{object_at}
use Rattle.fact_sets.specs.Seen.{object_seen}
use Rattle.method_views.specs.declared.raised.Raised.{Raised}
use Rattle.method_views.specs.InstanceRules
use Rattle.method_views.specs.InstanceRules.{ByRaise}
use Rattle.method_views.specs.RaisedCauses.{IsRaised}
use Rattle.fact_rules.specs.Adds.{From}
use Rattle.fact_rules.specs.RaiseRules.{ThrowsRaised}

module _ (program : Program) (policy : ContextPolicy) (i : InstKey (List ℕ)) where
  abbrev Site : Raised → Option ℕ
  Site r = site_of (sites_of program.methods) i.method r.pc (Some (class_raised r.cause))

  pub siteless : (r : Raised) → Site r ≡ None → (g : Fact (List ℕ)) → ThrowsRaised program policy i r g → ⊥
  siteless r none g throws = let e : Some throws.site ≡ None = sym throws.is_site ∙ none in absurd (cc)

  pub at_site : {C : Type 0} (list : C → List ℕ) (r : Raised) (o : ObjKey C) → Site r ≡ Some o.site → list o.context ≡ policy.heap i.context o.site
      → (g : Fact (List ℕ)) → (g ≡ Holds i (Throw r.pc) (object_seen list o)) ↔ ThrowsRaised program policy i r g
  at_site list r o site heap g = (λ e. record { site = o.site; is_site = site; is = e ∙ ap (Holds i (Throw r.pc)) own }, back)
    where
      own : object_seen list o ≡ object_at o.site (policy.heap i.context o.site)
      own = ap (object_at o.site) heap

      back : ThrowsRaised program policy i r g → g ≡ Holds i (Throw r.pc) (object_seen list o)
      back throws =
          let same : throws.site ≡ o.site = same_Some throws.site o.site (sym throws.is_site ∙ site) in
          throws.is ∙ ap (Holds i (Throw r.pc)) (ap (λ (k : ℕ). object_at k (policy.heap i.context k)) same ∙ sym own)

  pub by_raised : (facts : Fact (List ℕ) → Type 0) (H : ℕ → ℕ → Type 0) (raised : List Raised) → ((r : Raised) → Contains raised r ↔ IsRaised program facts H i r)
      → (g : Fact (List ℕ)) → From raised (ThrowsRaised program policy i) g ↔ ByRaise program policy facts H i g
  by_raised facts H raised each g = (there, back g)
    where
      there : From raised (ThrowsRaised program policy i) g → ByRaise program policy facts H i g
      there (r, among, throws) =
          let is = (each r).0 among in
          subst (ByRaise program policy facts H i) (sym throws.is) (InstanceRules.raises r.pc throws.site r.cause (object_at throws.site (policy.heap i.context throws.site)) is.0 is.1 throws.is_site refl)

      back : (f : Fact (List ℕ)) → ByRaise program policy facts H i f → From raised (ThrowsRaised program policy i) f
      back _ (InstanceRules.raises pc site cause o there raises is_site made) =
          let r : Raised = record { pc = pc; cause = cause } in
          (r, (each r).1 (there, raises), record { site = site; is_site = is_site; is = ap (Holds i (Throw pc)) made })
