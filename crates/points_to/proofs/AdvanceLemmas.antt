-- Facts that follow are taken in, one step after the other.
use Rattle.std.proofs.Common.{◌≡◌, ◌↔◌, ◌⊎◌, inl, inr, ℕ, ◌+◌, ◌<◌, ◌≤◌, List, [], length, Contains, Some, Result, Ok, Err, OnOk, IfErr, refl, sym, subst, arith}
use Rattle.std.proofs.lemmas.Option.{same_Some}
use Rattle.jo_prog.specs.declared.program.Program.{Program}
use Rattle.jo_prog.specs.TypingPaths.{HasHeightAt}
use Rattle.jo_prog.proofs.WalkLemmas.{none_there}
use Rattle.contexts.specs.Policies.{ContextPolicy}
use Rattle.dependence.specs.declared.facts.Fact.{Fact}
use Rattle.dependence.specs.declared.facts.Fact.TheVariants.{Reached}
use Rattle.fact_sets.specs.FactLists.{FactLists, HasFact, IsInstance}
use Rattle.fact_sets.specs.Seen.{TellsApart, Known, Listed, fact_seen, instance_seen}
use Rattle.fact_sets.proofs.SayLemmas.{named_on}
use Rattle.fact_rules.specs.Adds.{Adds, FromBelow}
use Rattle.fact_rules.specs.CallRules.{ByCall}
use Rattle.fact_rules.specs.CycleRules.{ByRecursion}
use Rattle.fact_rules.specs.FirstRules.{ByFirst}
use Rattle.fact_rules.proofs.AddsLemmas.{below_more}
use Rattle.points_to.specs.declared.faults.SolveFault.{SolveFault}
use Rattle.points_to.specs.Additions.{TakesOnly, Takes, GoesOn, IsFew, IsOver}
use Rattle.points_to.specs.Kept.{FactsOf, IsKept}
use Rattle.points_to.specs.Limits.{IsLimitOf}
use Rattle.points_to.specs.Groups.{FromNumber, first, of_call, of_instance, of_recursion}
use Rattle.points_to.specs.Advances.{Lists, Advances}
use Rattle.points_to.proofs.ClosureLemmas.{sound}
use Rattle.points_to.proofs.GroupLemmas.{from_groups}
use Rattle.points_to.proofs.MoreLemmas.{instance_more}
use Rattle.points_to.proofs.TakeLemmas.{goes_on_still, goes_further}
use Rattle.points_to.proofs.KeptLemmas.{kept_on, is_limit}

pub on_ok_both : {A E P Q R : Type 0} (r : Result A E) → (P → Q → R) → OnOk r P → OnOk r Q → OnOk r R
on_ok_both (Ok a) f p q = f p q
on_ok_both (Err e) f p q = _

pub if_err : {A E : Type 0} {P Q : E → Type 0} (r : Result A E) → ((e : E) → P e → Q e) → IfErr r P → IfErr r Q
if_err (Ok a) f p = _
if_err (Err e) f p = f e p

-- what is added to no facts
pub lists_those : {C : Type 0} (list : C → List ℕ) (items : List (Fact C)) (R : Fact (List ℕ) → Type 0) → Adds (Listed list []) (Listed list items) R → Lists list items R
lists_those {C} list items R adds g = (λ listed. there ((adds g).0 listed), λ r. (adds g).1 (inr r))
  where
    there : Listed list [] g ⊎ R g → R g
    there (inl none) = absurd (none_there none.fact none.there)
    there (inr r) = r

pub known_on : {C : Type 0} (list : C → List ℕ) (old new : FactLists C) → GoesOn old new → (g : Fact (List ℕ)) → Known list old g → Known list new g
known_on list old new on g known = record { fact = known.fact; has = on.keeps known.fact known.has; seen = known.seen }

pub known_still : {C : Type 0} (list : C → List ℕ) (old new : FactLists C) → ((f : Fact C) → HasFact new f → HasFact old f) → (g : Fact (List ℕ)) → Known list new g → Known list old g
known_still list old new back g known = record { fact = known.fact; has = back known.fact known.has; seen = known.seen }

module _ (program : Program) (policy : ContextPolicy) (entry : ℕ) {C : Type 0} (list : C → List ℕ) where
  abbrev Are : Fact (List ℕ) → Type 0
  Are = FactsOf program policy entry

  abbrev Kept : FactLists C → Type 0
  Kept lists = IsKept program policy entry list lists

  abbrev Step : FactLists C → FactLists C → (Fact (List ℕ) → Type 0) → Type 0
  Step old new more = Advances program policy entry list old new more

  -- ---- what follows is derivable

  pub first_derivable : (g : Fact (List ℕ)) → ByFirst program entry g → Are g
  first_derivable g h = sound program policy entry Are (λ f d. d) g (from_groups program policy (HasHeightAt program) entry Are g (first g h))

  pub call_derivable : (lists : FactLists C) → Kept lists → (g : Fact (List ℕ)) → ByCall (Known list lists) g → Are g
  call_derivable lists kept g h = sound program policy entry (Known list lists) kept.sound g (from_groups program policy (HasHeightAt program) entry (Known list lists) g (of_call g h))

  pub recursion_derivable : (lists : FactLists C) → Kept lists → (g : Fact (List ℕ)) → ByRecursion (Known list lists) g → Are g
  recursion_derivable lists kept g h = sound program policy entry (Known list lists) kept.sound g (from_groups program policy (HasHeightAt program) entry (Known list lists) g (of_recursion g h))

  pub number_derivable : (lists : FactLists C) (n : ℕ) → Kept lists → (g : Fact (List ℕ)) → FromNumber program policy list lists n g → Are g
  number_derivable lists n kept g h =
      sound program policy entry (Known list lists) kept.sound g (from_groups program policy (HasHeightAt program) entry (Known list lists) g (of_instance (instance_seen list h.key) g h.runs h.follows))

  -- ---- it is taken in

  derivable_items : (items : List (Fact C)) (R : Fact (List ℕ) → Type 0) → Lists list items R → ((g : Fact (List ℕ)) → R g → Are g) → (f : Fact C) → Contains items f → Are (fact_seen list f)
  derivable_items items R lists derivable f among = derivable (fact_seen list f) ((lists (fact_seen list f)).0 (record { fact = f; there = among; seen = refl }))

  pub advanced : (old new : FactLists C) (items : List (Fact C)) (R : Fact (List ℕ) → Type 0) → Kept old → Lists list items R → ((g : Fact (List ℕ)) → R g → Are g)
      → TakesOnly old new items → Takes old new items → IsFew new → Step old new R
  advanced old new items R kept lists derivable only takes few = record {
    goes_on = takes.goes_on;
    kept = kept_on program policy entry list old new items (derivable_items items R lists derivable) kept only;
    few = few;
    has = λ g r. let listed = (lists g).1 r in record { fact = listed.fact; has = takes.has listed.fact listed.there; seen = listed.seen };
  }

  pub over_limit : TellsApart list → (old new : FactLists C) (items : List (Fact C)) (R : Fact (List ℕ) → Type 0) → Kept old → Lists list items R → ((g : Fact (List ℕ)) → R g → Are g)
      → TakesOnly old new items → (fault : SolveFault) → IsOver new fault → IsLimitOf program Are fault
  over_limit tells old new items R kept lists derivable only fault over =
      is_limit program policy entry list tells new fault (kept_on program policy entry list old new items (derivable_items items R lists derivable) kept only) over

  -- ---- over all instances

  pub none_yet : (lists : FactLists C) (R : ℕ → Fact (List ℕ) → Type 0) → Kept lists → IsFew lists → Step lists lists (FromBelow 0 R)
  none_yet lists R kept few = record { goes_on = goes_on_still lists; kept = kept; few = few; has = λ g below. absurd (nothing_below g below) }
    where
      nothing_below : (g : Fact (List ℕ)) → FromBelow 0 R g → ⊥
      nothing_below g (n, below, made) = omega (arith, below)

  number_on : (old mid : FactLists C) (n : ℕ) → GoesOn old mid → (g : Fact (List ℕ)) → FromNumber program policy list old n g → FromNumber program policy list mid n g
  number_on old mid n on g h = record {
    key = h.key;
    is_key = named_on old.instances mid.instances n (h.key.method, h.key.context) on.instances h.is_key;
    runs = known_on list old mid on (Reached (instance_seen list h.key)) h.runs;
    follows = instance_more program policy (Known list old) (Known list mid) (known_on list old mid on) (HasHeightAt program h.key.method) (instance_seen list h.key) g h.follows;
  }

  pub one_further : (old mid new : FactLists C) (n : ℕ) → Step old mid (FromBelow n (FromNumber program policy list old)) → Step mid new (FromNumber program policy list mid n)
      → Step old new (FromBelow (n + 1) (FromNumber program policy list old))
  one_further old mid new n before step = record {
    goes_on = goes_further old mid new before.goes_on step.goes_on;
    kept = step.kept;
    few = step.few;
    has = λ g below. by_place g ((below_more n (FromNumber program policy list old) g).0 below);
  }
    where
      by_place : (g : Fact (List ℕ)) → FromBelow n (FromNumber program policy list old) g ⊎ FromNumber program policy list old n g → Known list new g
      by_place g (inl early) = known_on list mid new step.goes_on g (before.has g early)
      by_place g (inr last) = step.has g (number_on old mid n before.goes_on g last)
