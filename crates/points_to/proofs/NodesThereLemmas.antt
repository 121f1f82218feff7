-- Rules give facts that name nodes of wide graphs alone.
use Rattle.std.proofs.Common.{◌≡◌, ◌⊎◌, inl, inr, ℕ, ◌≤◌, Bool, true, false, ◌&&◌, ◌==◌, nat_le, if◌then◌else◌, List, [], ◌∷◌, Option, Some, None, Contains, refl, sym, ap, ◌∙◌, subst, arith}
use Rattle.std.proofs.lemmas.Bool.{cases_eq}
use Rattle.std.proofs.lemmas.Bool.Decides.{nat_tests}
use Rattle.jo_ids.specs.Path.{Path}
use Rattle.jo_ids.specs.declared.ObjKey.{ObjKey}
use Rattle.jo_ids.proofs.PathLemmas.{path_more}
use Rattle.jo_insn.specs.declared.instructions.Insn.{Insn}
use Rattle.jo_prog.specs.declared.program.Program.{Program}
use Rattle.jo_prog.specs.declared.calls.Taken.{Taken}
use Rattle.jo_prog.specs.declared.calls.Taken.TheVariants.{Code}
use Rattle.jo_prog.specs.Operations.{within}
use Rattle.jo_prog.specs.Calls.{taken_from}
use Rattle.jo_prog.specs.Sites.{opcode_of}
use Rattle.jo_prog.specs.TypingPaths.{HasHeightAt}
use Rattle.jo_prog.proofs.WalkLemmas.{head_or_behind, none_there}
use Rattle.contexts.specs.Policies.{ContextPolicy}
use Rattle.dep_nodes.specs.declared.kinds.NodeKind.{NodeKind}
use Rattle.dep_nodes.specs.declared.kinds.NodeKind.TheVariants.{Entry, Call, RetKind, Throw}
use Rattle.dependence.specs.declared.facts.InstKey.{InstKey}
use Rattle.dependence.specs.declared.facts.Fact.{Fact}
use Rattle.dependence.specs.WideGraph
use Rattle.dependence.specs.WideGraph.{insn_at, resolved_at, calls_native, is_native, is_call, may_throw, node_of_insn, IsWideNode, WideStep}
use Rattle.dependence.specs.FactRules
use Rattle.dependence.specs.FactRules.{CallsStatic, CallsOn, ByRule, IsDerivation, Derivable, nothing, more}
use Rattle.points_to.specs.NodesThere.{HolderIsThere, NodesAreThere}

abbrev AFact : Type 0
AFact = Fact (List ℕ)

-- ---- calls but invokestatic may throw at their own pc

both_true : (a b : Bool) → (a && b) ≡ true → (a ≡ true) × (b ≡ true)
both_true true b e = (refl, e)
both_true false b e = absurd (cc)

le_of : (a b : ℕ) → nat_le a b ≡ true → a ≤ b
le_of a b e = grind (arith, nat_tests)

instance_calls_throw : (op : ℕ) → is_call op ≡ true → (op == 184) ≡ false → may_throw op ≡ true
instance_calls_throw op call other =
    let parts = both_true (nat_le 182 op) (nat_le op 185) call in
    let low : 182 ≤ op = le_of 182 op parts.0 in
    let high : op ≤ 185 = le_of op 185 parts.1 in
    elim (cases_eq op 182) [
      | inl e ↦ subst (λ k. may_throw k ≡ true) (sym e) refl
      | inr n1 ↦ elim (cases_eq op 183) [
        | inl e ↦ subst (λ k. may_throw k ≡ true) (sym e) refl
        | inr n2 ↦ elim (cases_eq op 185) [
          | inl e ↦ subst (λ k. may_throw k ≡ true) (sym e) refl
          | inr n3 ↦ let e : op ≡ 184 = omega (arith, low, high, n1, n2, n3) in absurd (is_static e)
        ]
      ]
    ]
  where
    is_static : op ≡ 184 → ⊥
    is_static e = let f : (184 == 184) ≡ false = subst (λ k. (k == 184) ≡ false) e other in absurd (cc)

-- ---- the Throw of a call with a target

module _ (program : Program) (m pc : ℕ) (at : IsWideNode program m (Call pc)) where
  call_stands : (insn : Insn) → is_call (opcode_of insn) ≡ true → Call pc ≡ node_of_insn pc insn
  call_stands insn call = rw call refl

  throw_of_own : (insn : Insn) (next : ℕ) → insn_at program m pc ≡ Some (insn, next) → is_call (opcode_of insn) ≡ true → (opcode_of insn == 184) ≡ false → IsWideNode program m (Throw pc)
  throw_of_own insn next stands call other =
      path_more at (WideGraph.raises pc (Call pc) (insn, next, stands, instance_calls_throw (opcode_of insn) call other) (insn, next, stands, call_stands insn call))

  throw_of_code : (insn : Insn) (next method : ℕ) → insn_at program m pc ≡ Some (insn, next) → is_call (opcode_of insn) ≡ true → taken_from program (resolved_at program m pc) ≡ Code method
      → IsWideNode program m (Throw pc)
  throw_of_code insn next method stands call taken =
      let other : calls_native program m pc ≡ false = ap is_native taken in
      path_more (path_more at (WideGraph.calls pc (insn, next, stands, call) other)) (WideGraph.rethrows pc)

  throw_of_static : (policy : ContextPolicy) (i j : InstKey (List ℕ)) → i.method ≡ m → CallsStatic program policy i pc j → IsWideNode program m (Throw pc)
  throw_of_static policy i j same calls =
      let stands : insn_at program m pc ≡ Some (calls.call.insn, calls.call.next) = subst (λ n. insn_at program n pc ≡ Some (calls.call.insn, calls.call.next)) same calls.call.stands in
      let resolves : resolved_at program m pc ≡ Some calls.resolved = subst (λ n. resolved_at program n pc ≡ Some calls.resolved) same calls.resolves in
      throw_of_code calls.call.insn calls.call.next calls.method stands calls.call.is_call (ap (λ r. taken_from program r) resolves ∙ calls.has_code)

-- ---- the rules

module _ (program : Program) (policy : ContextPolicy) (entry : ℕ) where
  abbrev Rule : (AFact → Type 0) → AFact → Type 0
  Rule P g = ByRule program policy (HasHeightAt program) entry P g

  module _ (P : AFact → Type 0) (there : (f : AFact) → P f → NodesAreThere program f) where
    pub rule_nodes : {g : AFact} → Rule P g → NodesAreThere program g
    rule_nodes (FactRules.enters i h0) = _
    rule_nodes (FactRules.is_given i count h0 h1 h2) = _
    rule_nodes (FactRules.begins_with f h0) = _
    rule_nodes (FactRules.makes i pc site o h0 h1 h2 h3) = _
    rule_nodes (FactRules.loads_text i pc h0 h1) = _
    rule_nodes (FactRules.moves i pc o h0 h1 h2) = _
    rule_nodes (FactRules.passes i pc k o h0 h1) = (h1.place, h1.is_argument)
    rule_nodes (FactRules.loads_field i pc f base o h0 h1 h2 h3 h4) = _
    rule_nodes (FactRules.loads_element i pc base o h0 h1 h2 h3) = _
    rule_nodes (FactRules.loads_static i pc f o h0 h1 h2 h3) = _
    rule_nodes (FactRules.stores_field i pc f base o h0 h1 h2 h3 h4) = _
    rule_nodes (FactRules.stores_element i pc base o h0 h1 h2 h3) = _
    rule_nodes (FactRules.stores_static i pc f o h0 h1 h2 h3) = _
    rule_nodes (FactRules.raises i pc site cause o h0 h1 h2 h3) = h0.there
    rule_nodes (FactRules.throws i pc o h0 h1 h2) = h0.there
    rule_nodes (FactRules.calls_static i j pc h0 h1) = (h0.there, throw_of_static program i.method pc h0.there policy i j refl h1)
    rule_nodes (FactRules.calls_on i j pc o h0 h1 h2) = (h0.there, throw_of_own program i.method pc h0.there h2.call.insn h2.call.next h2.call.stands h2.call.is_call h2.is_instance)
    rule_nodes (FactRules.starts i j pc o h0 h1 h2) = h0.there
    rule_nodes (FactRules.is_called i j pc h0 h1) = _
    rule_nodes (FactRules.is_given_receiver i j pc k o fork h0 h1 h2 h3 h4) = _
    rule_nodes (FactRules.is_given_argument i j pc k o h0 h1 h2 h3) = _
    rule_nodes (FactRules.returns i pc o h0 h1 h2) = _
    rule_nodes (FactRules.comes_back i j pc o h0 h1 h2) = _
    rule_nodes (FactRules.is_caught i pc k o h0 h1 h2) = _
    rule_nodes (FactRules.leaves i pc o h0 h1 h2) = _
    rule_nodes (FactRules.ends_so i pc o h0 h1 h2) = _
    rule_nodes (FactRules.comes_out i j pc o h0 h1 h2) = (there _ h1).1
    rule_nodes (FactRules.loops i pc target h0) = _
    rule_nodes (FactRules.loops_caught i pc k h0) = _
    rule_nodes (FactRules.waits i j pc h0 h1 h2) = _
    rule_nodes (FactRules.recurs i j h0 h1 h2) = _

  listed_nodes : (facts : List AFact) → IsDerivation program policy (HasHeightAt program) entry facts → (g : AFact) → Contains facts g → NodesAreThere program g
  listed_nodes _ nothing g among = absurd (none_there g among)
  listed_nodes _ (more fact facts rule rest) g among = by_case (λ f c. listed_nodes facts rest f c) (head_or_behind fact facts g among)
    where
      by_case : ((f : AFact) → Contains facts f → NodesAreThere program f) → (fact ≡ g) ⊎ Contains facts g → NodesAreThere program g
      by_case there (inl e) = subst (λ f. NodesAreThere program f) e (rule_nodes (Contains facts) there rule)
      by_case there (inr c) = there g c

  pub derivable_nodes : (g : AFact) → Derivable program policy (HasHeightAt program) entry g → NodesAreThere program g
  derivable_nodes g d = listed_nodes d.facts d.derivation g d.there
