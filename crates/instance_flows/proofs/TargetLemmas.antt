-- Going over the targets of a call that run in the same thread.
use Rattle.std.specs.Prelude.{◌↔◌}
use Rattle.std.proofs.Common.{inl, inr, ◌≡◌, ℕ, ◌+◌, ◌<◌, ◌≤◌, false, List, [], length, get_or, take, Contains, refl, sym, subst}
use Rattle.std.proofs.lemmas.List.{take_all}
use Rattle.jo_prog.proofs.WalkLemmas.{none_there}
use Rattle.dependence.specs.declared.facts.Target.{Target}
use Rattle.dependence.specs.FlowGraph.{AnInstance}
use Rattle.dependence.proofs.ListedLemmas.{taken_more}
use Rattle.fact_sets.specs.declared.numbered.CallPlace.{CallPlace}
use Rattle.fact_sets.specs.declared.numbered.NumberedFact.{NumberedFact}
use Rattle.fact_sets.specs.declared.numbered.NumberedFact.TheVariants.{Calls as IsCalled}

-- it runs in the same thread, and ends so
abbrev pub EndsSo : (ℕ → Type 0) → Target → Type 0
EndsSo P t = (t.fork ≡ false) × P t.instance

-- none of the first so many does
abbrev pub NoneEnds : List Target → (ℕ → Type 0) → ℕ → Type 0
NoneEnds targets P i = (t : Target) → Contains (take i targets) t → EndsSo P t → ⊥

-- some target of the call does
abbrev pub SomeEnds : List NumberedFact → ℕ → CallPlace → (ℕ → Type 0) → Type 0
SomeEnds facts count call P = (j : AnInstance) × (Contains facts (IsCalled call j.method false) × (j.method < count)) × P j.method

module _ (targets : List Target) (P : ℕ → Type 0) where
  pub none_yet : NoneEnds targets P 0
  none_yet t c ends = none_there t c

  pub none_more : (i : ℕ) (t : Target) → i < length targets → t ≡ get_or targets i t → (EndsSo P t → ⊥) → NoneEnds targets P i → NoneEnds targets P (i + 1)
  none_more i t below at none before x among ends = elim ((taken_more targets i t x below at).0 among) [
    | inl first ↦ before x first ends
    | inr last ↦ none (subst (EndsSo P) last ends)
  ]

  module _ (facts : List NumberedFact) (count : ℕ) (call : CallPlace) (each : (t : Target) → Contains targets t ↔ Contains facts (IsCalled call t.instance t.fork)) where
    pub none_all : (i : ℕ) → length targets ≤ i → NoneEnds targets P i → SomeEnds facts count call P → ⊥
    none_all i past none (j, there, ends) =
        let t : Target = record { instance = j.method; fork = false } in
        none t (subst (λ ts. Contains ts t) (sym (take_all i targets past)) ((each t).1 there.0)) (refl, ends)

    pub some_ends : ((t : Target) → Contains targets t → t.instance < count) → (i : ℕ) (t : Target) → i < length targets → t ≡ get_or targets i t → EndsSo P t → SomeEnds facts count call P
    some_ends inside i t below at ends =
        let among : Contains targets t = (i, below, sym at) in
        let called : Contains facts (IsCalled call t.instance false) = subst (λ f. Contains facts (IsCalled call t.instance f)) ends.0 ((each t).0 among) in
        (record { method = t.instance; context = [] }, (called, inside t among), ends.1)
