-- Facts that rules give from derivable facts are derivable, facts that are closed under the rules have all of these, and what derivable
-- facts name runs.
use Rattle.std.proofs.Common.{◌≡◌, ◌⊎◌, inl, inr, ℕ, List, Contains, refl, subst}
use Rattle.jo_prog.specs.declared.program.Program.{Program}
use Rattle.jo_prog.specs.TypingPaths.{HasHeightAt}
use Rattle.jo_prog.proofs.WalkLemmas.{head_or_behind, none_there}
use Rattle.contexts.specs.Policies.{ContextPolicy}
use Rattle.dependence.specs.declared.facts.InstKey.{InstKey}
use Rattle.dependence.specs.declared.facts.Fact.{Fact}
use Rattle.dependence.specs.declared.facts.Fact.TheVariants.{Reached, Holds, CellHolds, Target, Fork, Throws, Stalls}
use Rattle.dependence.specs.FactRules
use Rattle.dependence.specs.FactRules.{ByRule, IsDerivation, Derivable, IsTarget, nothing, more}
use Rattle.dependence.proofs.FactLemmas.{rule_more, closed, follows}

abbrev AFact : Type 0
AFact = Fact (List ℕ)

module _ (program : Program) (policy : ContextPolicy) (entry : ℕ) where
  abbrev Rule : (AFact → Type 0) → AFact → Type 0
  Rule P g = ByRule program policy (HasHeightAt program) entry P g

  abbrev IsDerivable : AFact → Type 0
  IsDerivable g = Derivable program policy (HasHeightAt program) entry g

  -- what follows from derivable facts
  pub sound : (P : AFact → Type 0) → ((f : AFact) → P f → IsDerivable f) → (g : AFact) → Rule P g → IsDerivable g
  sound P derivable g rule = closed program policy (HasHeightAt program) entry g (rule_more program policy (HasHeightAt program) entry P IsDerivable g derivable rule)

  listed : (P : AFact → Type 0) → ((g : AFact) → Rule P g → P g) → (facts : List AFact) → IsDerivation program policy (HasHeightAt program) entry facts → (g : AFact) → Contains facts g → P g
  listed P under _ nothing g among = absurd (none_there g among)
  listed P under _ (more fact facts rule rest) g among = by_case (λ f c. listed P under facts rest f c) (head_or_behind fact facts g among)
    where
      by_case : ((f : AFact) → Contains facts f → P f) → (fact ≡ g) ⊎ Contains facts g → P g
      by_case has (inl e) = subst P e (under fact (rule_more program policy (HasHeightAt program) entry (Contains facts) P fact has rule))
      by_case has (inr c) = has g c

  -- facts that are closed under the rules
  pub complete : (P : AFact → Type 0) → ((g : AFact) → Rule P g → P g) → (g : AFact) → IsDerivable g → P g
  complete P under g d = listed P under d.facts d.derivation g d.there

  -- ---- instances

  -- each instance that the fact names runs
  abbrev pub NamesRunning : AFact → Type 0
  NamesRunning (Reached i) = IsDerivable (Reached i)
  NamesRunning (Holds i _ o) = IsDerivable (Reached i)
  NamesRunning (CellHolds cell o) = Unit {0}
  NamesRunning (Target i pc j) = IsDerivable (Reached i) × IsDerivable (Reached j)
  NamesRunning (Fork i pc j) = IsDerivable (Reached i) × IsDerivable (Reached j)
  NamesRunning (Throws i) = IsDerivable (Reached i)
  NamesRunning (Stalls i) = IsDerivable (Reached i)

  target_runs : (i j : InstKey (List ℕ)) (pc : ℕ) → IsDerivable (Reached i) → IsTarget IsDerivable i pc j → IsDerivable (Reached j)
  target_runs i j pc runs target = closed program policy (HasHeightAt program) entry (Reached j) (FactRules.is_called i j pc runs target)

  by_rule : (g : AFact) → IsDerivable g → Rule IsDerivable g → NamesRunning g
  by_rule _ d (FactRules.enters i h0) = d
  by_rule _ d (FactRules.is_given i count h0 h1 h2) = closed program policy (HasHeightAt program) entry (Reached i) (FactRules.enters i h0)
  by_rule _ d (FactRules.begins_with f h0) = _
  by_rule _ d (FactRules.makes i pc site o h0 h1 h2 h3) = h0.reached
  by_rule _ d (FactRules.loads_text i pc h0 h1) = h0.reached
  by_rule _ d (FactRules.moves i pc o h0 h1 h2) = h0.reached
  by_rule _ d (FactRules.passes i pc k o h0 h1) = h0.reached
  by_rule _ d (FactRules.loads_field i pc f base o h0 h1 h2 h3 h4) = h0.reached
  by_rule _ d (FactRules.loads_element i pc base o h0 h1 h2 h3) = h0.reached
  by_rule _ d (FactRules.loads_static i pc f o h0 h1 h2 h3) = h0.reached
  by_rule _ d (FactRules.stores_field i pc f base o h0 h1 h2 h3 h4) = _
  by_rule _ d (FactRules.stores_element i pc base o h0 h1 h2 h3) = _
  by_rule _ d (FactRules.stores_static i pc f o h0 h1 h2 h3) = _
  by_rule _ d (FactRules.raises i pc site cause o h0 h1 h2 h3) = h0.reached
  by_rule _ d (FactRules.throws i pc o h0 h1 h2) = h0.reached
  by_rule _ d (FactRules.calls_static i j pc h0 h1) = (h0.reached, target_runs i j pc h0.reached (inl d))
  by_rule _ d (FactRules.calls_on i j pc o h0 h1 h2) = (h0.reached, target_runs i j pc h0.reached (inl d))
  by_rule _ d (FactRules.starts i j pc o h0 h1 h2) = (h0.reached, target_runs i j pc h0.reached (inr d))
  by_rule _ d (FactRules.is_called i j pc h0 h1) = d
  by_rule _ d (FactRules.is_given_receiver i j pc k o fork h0 h1 h2 h3 h4) = target_runs i j pc h0 h1
  by_rule _ d (FactRules.is_given_argument i j pc k o h0 h1 h2 h3) = target_runs i j pc h0 h1
  by_rule _ d (FactRules.returns i pc o h0 h1 h2) = h0.reached
  by_rule _ d (FactRules.comes_back i j pc o h0 h1 h2) = h0
  by_rule _ d (FactRules.is_caught i pc k o h0 h1 h2) = h0
  by_rule _ d (FactRules.leaves i pc o h0 h1 h2) = h0
  by_rule _ d (FactRules.ends_so i pc o h0 h1 h2) = h0
  by_rule _ d (FactRules.comes_out i j pc o h0 h1 h2) = h0
  by_rule _ d (FactRules.loops i pc target h0) = h0.reached
  by_rule _ d (FactRules.loops_caught i pc k h0) = h0.reached
  by_rule _ d (FactRules.waits i j pc h0 h1 h2) = h0
  by_rule _ d (FactRules.recurs i j h0 h1 h2) = h0

  pub names_running : (g : AFact) → IsDerivable g → NamesRunning g
  names_running g d = by_rule g d (follows program policy (HasHeightAt program) entry g d)
