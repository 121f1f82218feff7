-- What calls take is a method of the program, so each instance that runs has one.
use Rattle.std.specs.Prelude.{if◌then◌else◌, is_some, slice_get, codes}
use Rattle.std.proofs.Common.{◌≡◌, ◌⊎◌, inl, inr, ℕ, ◌<◌, Bool, true, false, ◌==◌, List, [], length, Option, Some, None, refl, sym, subst, ap}
use Rattle.std.proofs.lemmas.Option.{slice_get_within}
use Rattle.jo_ids.specs.declared.ObjKey.{ObjKey}
use Rattle.jo_insn.specs.AccessFlags.{has_flag, native_flag}
use Rattle.jo_prog.specs.declared.program.Program.{Program}
use Rattle.jo_prog.specs.declared.program.Method.{Method}
use Rattle.jo_prog.specs.declared.calls.Taken.{Taken}
use Rattle.jo_prog.specs.declared.calls.Taken.TheVariants.{Code, Start, Join, Native, Nothing}
use Rattle.jo_prog.specs.TypingPaths.{HasHeightAt}
use Rattle.jo_prog.specs.Program.{method_at}
use Rattle.jo_prog.specs.Calls.{is_machine_method, taken_if, taken_from, special, takes, receiver_class}
use Rattle.jo_prog.specs.Hierarchy.{select, search_from}
use Rattle.jo_prog.specs.Sites.{opcode_of}
use Rattle.contexts.specs.Policies.{ContextPolicy}
use Rattle.dependence.specs.declared.facts.InstKey.{InstKey}
use Rattle.dependence.specs.declared.facts.Fact.{Fact}
use Rattle.dependence.specs.declared.facts.Fact.TheVariants.{Reached}
use Rattle.dependence.specs.FactRules
use Rattle.dependence.specs.FactRules.{ByRule, Derivable, TakesSo, instance_at}
use Rattle.points_to.specs.Methods.{HasItsMethod}
use Rattle.points_to.proofs.ClosureLemmas.{complete}

taken_number : (k m : ℕ) (a b c d : Bool) → (if a then Code k else if b then Start else if c then Join else if d then Native k else Nothing) ≡ Code m → k ≡ m
taken_number k m true b c d e = cc
taken_number k m false true c d e = absurd (cc)
taken_number k m false false true d e = absurd (cc)
taken_number k m false false false true e = absurd (cc)
taken_number k m false false false false e = absurd (cc)

module _ (program : Program) where
  code_there : (o : Option ℕ) (m : ℕ) → taken_from program o ≡ Code m → m < length program.methods
  code_there None m e = absurd (cc)
  code_there (Some k) m e = by_method (method_at program k) refl e
    where
      by_method : (found : Option Method) → method_at program k ≡ found → taken_if k found ≡ Code m → m < length program.methods
      by_method None at f = absurd (cc)
      by_method (Some method) at f =
          subst (λ n. n < length program.methods)
          (taken_number k m (is_some method.code) (is_machine_method (codes "start") method) (is_machine_method (codes "join") method) (has_flag native_flag method.flags) f)
          (slice_get_within program.methods k method at)

  either : (a b : Bool) (x y z : Option ℕ) (m : ℕ) → (if a then taken_from program x else if b then taken_from program y else taken_from program z) ≡ Code m → m < length program.methods
  either true b x y z m e = code_there x m e
  either false true x y z m e = code_there y m e
  either false false x y z m e = code_there z m e

  takes_there : (op current m receiver method : ℕ) → takes program op current m receiver ≡ Code method → method < length program.methods
  takes_there op current m receiver method e = either (op == 184) (op == 183) (Some m) (special program current m) (select program receiver m) method e

  so_there : (fork : Bool) (op current m receiver class method : ℕ) → TakesSo program fork (takes program op current m receiver) class method → method < length program.methods
  so_there false op current m receiver class method h = takes_there op current m receiver method h
  so_there true op current m receiver class method h = code_there (search_from program class (codes "run") (codes "()V")) method h.1

  static_there : (policy : ContextPolicy) (i j : InstKey (List ℕ)) (pc : ℕ) → FactRules.CallsStatic program policy i pc j → j.method < length program.methods
  static_there policy i j pc h = subst (λ (k : InstKey (List ℕ)). k.method < length program.methods) (sym h.is) (code_there (Some h.resolved) h.method h.has_code)

  on_there : (policy : ContextPolicy) (i j : InstKey (List ℕ)) (pc : ℕ) (o : ObjKey (List ℕ)) (fork : Bool) → FactRules.CallsOn program policy i pc o fork j → j.method < length program.methods
  on_there policy i j pc o fork h = subst (λ (k : InstKey (List ℕ)). k.method < length program.methods) (sym h.is) (so_there fork (opcode_of h.call.insn) h.current.class h.resolved (receiver_class h.own) (receiver_class h.own) h.method h.takes_it)

  module _ (policy : ContextPolicy) (entry : ℕ) (within : entry < length program.methods) where
    abbrev Has : Fact (List ℕ) → Type 0
    Has = HasItsMethod program

    target_there : (i j : InstKey (List ℕ)) (pc : ℕ) → FactRules.IsTarget Has i pc j → j.method < length program.methods
    target_there i j pc (inl h) = h
    target_there i j pc (inr h) = h

    by_rule : (g : Fact (List ℕ)) → ByRule program policy (HasHeightAt program) entry Has g → Has g
    by_rule _ (FactRules.enters i h0) = subst (λ (k : InstKey (List ℕ)). k.method < length program.methods) (sym h0) within
    by_rule _ (FactRules.is_given i count h0 h1 h2) = _
    by_rule _ (FactRules.begins_with f h0) = _
    by_rule _ (FactRules.makes i pc site o h0 h1 h2 h3) = _
    by_rule _ (FactRules.loads_text i pc h0 h1) = _
    by_rule _ (FactRules.moves i pc o h0 h1 h2) = _
    by_rule _ (FactRules.passes i pc k o h0 h1) = _
    by_rule _ (FactRules.loads_field i pc f base o h0 h1 h2 h3 h4) = _
    by_rule _ (FactRules.loads_element i pc base o h0 h1 h2 h3) = _
    by_rule _ (FactRules.loads_static i pc f o h0 h1 h2 h3) = _
    by_rule _ (FactRules.stores_field i pc f base o h0 h1 h2 h3 h4) = _
    by_rule _ (FactRules.stores_element i pc base o h0 h1 h2 h3) = _
    by_rule _ (FactRules.stores_static i pc f o h0 h1 h2 h3) = _
    by_rule _ (FactRules.raises i pc site cause o h0 h1 h2 h3) = _
    by_rule _ (FactRules.throws i pc o h0 h1 h2) = _
    by_rule _ (FactRules.calls_static i j pc h0 h1) = static_there policy i j pc h1
    by_rule _ (FactRules.calls_on i j pc o h0 h1 h2) = on_there policy i j pc o false h2
    by_rule _ (FactRules.starts i j pc o h0 h1 h2) = on_there policy i j pc o true h2
    by_rule _ (FactRules.is_called i j pc h0 h1) = target_there i j pc h1
    by_rule _ (FactRules.is_given_receiver i j pc k o fork h0 h1 h2 h3 h4) = _
    by_rule _ (FactRules.is_given_argument i j pc k o h0 h1 h2 h3) = _
    by_rule _ (FactRules.returns i pc o h0 h1 h2) = _
    by_rule _ (FactRules.comes_back i j pc o h0 h1 h2) = _
    by_rule _ (FactRules.is_caught i pc k o h0 h1 h2) = _
    by_rule _ (FactRules.leaves i pc o h0 h1 h2) = _
    by_rule _ (FactRules.ends_so i pc o h0 h1 h2) = _
    by_rule _ (FactRules.comes_out i j pc o h0 h1 h2) = _
    by_rule _ (FactRules.loops i pc target h0) = _
    by_rule _ (FactRules.loops_caught i pc k h0) = _
    by_rule _ (FactRules.waits i j pc h0 h1 h2) = _
    by_rule _ (FactRules.recurs i j h0 h1 h2) = _

    pub has_its_method : (g : Fact (List ℕ)) → Derivable program policy (HasHeightAt program) entry g → HasItsMethod program g
    has_its_method g d = complete program policy entry Has by_rule g d
