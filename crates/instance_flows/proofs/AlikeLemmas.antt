-- Two ways to say facts keep the same edges, where they say the same of the sites of held objects and of the ends of targets.
use Rattle.std.specs.Prelude.{slice_get}
use Rattle.std.proofs.Common.{inl, inr, ◌≡◌, ℕ, List, Option, Some, None, sym, ◌∙◌, ap}
use Rattle.jo_prog.specs.declared.program.Program.{Program}
use Rattle.jo_prog.specs.declared.program.TypeRef.{TypeRef}
use Rattle.jo_prog.specs.declared.sites.Cause.{Cause}
use Rattle.jo_prog.specs.Sites.{sites_of}
use Rattle.dep_nodes.specs.declared.kinds.NodeKind.{NodeKind}
use Rattle.dep_nodes.specs.declared.kinds.NodeKind.TheVariants.{Exit, Instr, Call, RetKind, Throw, Catch, XPoll}
use Rattle.dependence.specs.declared.flow.Place.{Place}
use Rattle.dependence.specs.declared.facts.InstKey.{InstKey}
use Rattle.dependence.specs.declared.facts.Fact.{Fact}
use Rattle.dependence.specs.declared.facts.Fact.TheVariants.{Holds, Throws, Stalls}
use Rattle.dependence.specs.NodePlaces.{CallAt, named_by}
use Rattle.dependence.specs.FlowGraph.{AnInstance, AnObject, type_of_site, type_of_object, Fits, FailsToFit, IsNoElement, TakesStart, PlaceHolds, Raises, null_base, zero_divisor, negative_length, bad_index, failing_cast, wrong_element, second_start, missing_interface, RowFits, Catches, CatchesFirst, PassesAll, MayThrowAt, TargetEnds, KeptFrom}

-- ---- what is told of an object is told of its site

module _ (program : Program) where
  type_same : (o p : AnObject) → o.site ≡ p.site → type_of_object program p ≡ type_of_object program o
  type_same o p e = sym (ap (λ s. type_of_site program (slice_get (sites_of program.methods) s)) e)

  pub fits_on : (o p : AnObject) (type : TypeRef) → o.site ≡ p.site → Fits program o type → Fits program p type
  fits_on o p type e (own, is, fits) = (own, type_same o p e ∙ is, fits)

  pub fails_on : (o p : AnObject) (type : TypeRef) → o.site ≡ p.site → FailsToFit program o type → FailsToFit program p type
  fails_on o p type e (own, is, fails) = (own, type_same o p e ∙ is, fails)

  starts_on : (m pc : ℕ) (call : CallAt program m pc) (o p : AnObject) → o.site ≡ p.site → TakesStart program m pc call o → TakesStart program m pc call p
  starts_on m pc call o p e t = record {
    named = fits_on o p call.ref.owner e t.named;
    own = t.own;
    is_own = type_same o p e ∙ t.is_own;
    method = t.method;
    is_method = t.is_method;
    resolved = t.resolved;
    resolves = t.resolves;
    starts = t.starts;
  }

  no_element_on : (a b o p : AnObject) → a.site ≡ b.site → o.site ≡ p.site → IsNoElement program a o → IsNoElement program b p
  no_element_on a b o p d e none = record {
    desc = none.desc;
    array_type = type_same a b d ∙ none.array_type;
    own = none.own;
    value_type = type_same o p e ∙ none.value_type;
    over = none.over;
    is_over = none.is_over;
    fails = none.fails;
  }

  row_fits_on : (catches : Option TypeRef) (o p : AnObject) → o.site ≡ p.site → RowFits program catches o → RowFits program catches p
  row_fits_on None o p e fits = tt
  row_fits_on (Some type) o p e fits = fits_on o p type e fits

  catches_on : (m pc k : ℕ) (o p : AnObject) → o.site ≡ p.site → Catches program m pc k o → Catches program m pc k p
  catches_on m pc k o p e c = (c.0, c.1, c.2, c.3, row_fits_on (c.0).catches o p e c.4)

  first_on : (m pc k : ℕ) (o p : AnObject) → o.site ≡ p.site → CatchesFirst program m pc k o → CatchesFirst program m pc k p
  first_on m pc k o p e first = record { catches = catches_on m pc k o p e first.catches; first = λ j below c. first.first j below (catches_on m pc j p o (sym e) c) }

  passes_on : (m pc : ℕ) (o p : AnObject) → o.site ≡ p.site → PassesAll program m pc o → PassesAll program m pc p
  passes_on m pc o p e passes = λ k c. passes k (catches_on m pc k p o (sym e) c)

-- ---- edges

abbrev pub in_context : ℕ → List ℕ → AnInstance
in_context m c = record { method = m; context = c }

-- the second facts say what the first do of objects that nodes may hold, by their sites, and of how targets end
pub record SaysAlike (F G : Fact (List ℕ) → Type 0) (i j : InstKey (List ℕ)) : Type 0 where
  pub held : (kind : NodeKind) (o : AnObject) → F (Holds i kind o) → (p : AnObject) × G (Holds j kind p) × (o.site ≡ p.site)
  pub throws : (pc : ℕ) → TargetEnds F i pc Throws → TargetEnds G j pc Throws
  pub stalls : (pc : ℕ) → TargetEnds F i pc Stalls → TargetEnds G j pc Stalls

module _ (program : Program) (H : ℕ → ℕ → Type 0) (m : ℕ) (c d : List ℕ) (F G : Fact (List ℕ) → Type 0) (alike : SaysAlike F G (in_context m c) (in_context m d)) where
  place_on : (pc : ℕ) (v : Place) (o : AnObject) → PlaceHolds program F H (in_context m c) pc v o → (p : AnObject) × PlaceHolds program G H (in_context m d) pc v p × (o.site ≡ p.site)
  place_on pc v o holds =
      let on = alike.held (named_by holds.d v) o holds.holds in
      (on.0, record { d = holds.d; arrives = holds.arrives; holds = on.1 }, on.2)

  raises_on : (pc : ℕ) (cause : Cause) → Raises program F H (in_context m c) pc cause → Raises program G H (in_context m d) pc cause
  raises_on pc _ (null_base v n stands base arrives null) = null_base v n stands base arrives null
  raises_on pc _ (zero_divisor v n stands below arrives unlike) = zero_divisor v n stands below arrives unlike
  raises_on pc _ (negative_length v n stands below arrives unlike) = negative_length v n stands below arrives unlike
  raises_on pc _ (bad_index stands) = bad_index stands
  raises_on pc _ (failing_cast v o type stands below holds named fails) =
      let on = place_on pc v o holds in
      failing_cast v on.0 type stands below on.1 named (fails_on program o on.0 type on.2 fails)
  raises_on pc _ (wrong_element v w array value stands below holds top has none) =
      let a = place_on pc v array holds in
      let b = place_on pc w value has in
      wrong_element v w a.0 b.0 stands below a.1 top b.1 (no_element_on program array a.0 value b.0 a.2 b.2 none)
  raises_on pc _ (second_start v o call stands base holds starts) =
      let on = place_on pc v o holds in
      second_start v on.0 call stands base on.1 (starts_on program m pc call o on.0 on.2 starts)
  raises_on pc _ (missing_interface v o call stands base holds fails) =
      let on = place_on pc v o holds in
      missing_interface v on.0 call stands base on.1 (fails_on program o on.0 call.ref.owner on.2 fails)

  may_on : (pc : ℕ) → MayThrowAt program F H (in_context m c) pc → MayThrowAt program G H (in_context m d) pc
  may_on pc (inl raises) = inl (raises.0, raises_on pc raises.0 raises.1)
  may_on pc (inr throws) = inr throws

  caught_on : (pc k : ℕ) → (o : AnObject) × F (Holds (in_context m c) (Throw pc) o) × CatchesFirst program m pc k o → (o : AnObject) × G (Holds (in_context m d) (Throw pc) o) × CatchesFirst program m pc k o
  caught_on pc k (o, holds, first) = let on = alike.held (Throw pc) o holds in (on.0, on.1, first_on program m pc k o on.0 on.2 first)

  passed_on : (pc : ℕ) → (o : AnObject) × F (Holds (in_context m c) (Throw pc) o) × PassesAll program m pc o → (o : AnObject) × G (Holds (in_context m d) (Throw pc) o) × PassesAll program m pc o
  passed_on pc (o, holds, passes) = let on = alike.held (Throw pc) o holds in (on.0, on.1, passes_on program m pc o on.0 on.2 passes)

  pub kept_on : (a b : NodeKind) → KeptFrom program F H (in_context m c) a b → KeptFrom program G H (in_context m d) a b
  kept_on (Instr pc) (Throw p) kept = may_on pc kept
  kept_on (Instr pc) b kept = kept
  kept_on (Call pc) (Throw p) kept = may_on pc kept
  kept_on (Call pc) b kept = kept
  kept_on (RetKind pc) (Throw p) kept = alike.throws pc kept
  kept_on (RetKind pc) Exit kept = alike.stalls pc kept
  kept_on (RetKind pc) b kept = kept
  kept_on (Throw pc) (Catch k) kept = caught_on pc k kept
  kept_on (Throw pc) (XPoll p k) kept = caught_on pc k kept
  kept_on (Throw pc) Exit kept = passed_on pc kept
  kept_on (Throw pc) b kept = kept
  kept_on a b kept = kept
