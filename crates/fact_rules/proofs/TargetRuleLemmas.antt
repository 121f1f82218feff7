-- The rules of targets, call by call.
use Rattle.std.specs.Prelude.{cond, option_map}
use Rattle.std.proofs.Common.{◌≡◌, ◌↔◌, ◌⊎◌, inl, inr, ℕ, ◌==◌, Bool, true, false, List, length, Option, Some, None, refl, ap, sym, ◌∙◌, subst}
use Rattle.std.proofs.lemmas.Option.{same_Some}
use Rattle.jo_ids.specs.declared.ObjKey.{ObjKey}
use Rattle.jo_text.specs.Descriptors.{IsMethodDesc}
use Rattle.jo_text.specs.Tests.{is_method_desc}
use Rattle.jo_text.proofs.TestLaws.{method_decided}
use Rattle.jo_insn.specs.declared.instructions.Insn.{Insn}
use Rattle.jo_prog.specs.declared.program.Program.{Program}
use Rattle.jo_prog.specs.declared.program.Method.{Method}
use Rattle.jo_prog.specs.declared.program.MemberRef.{MemberRef}
use Rattle.jo_prog.specs.declared.program.TypeRef.{TypeRef}
use Rattle.jo_prog.specs.declared.program.Operand.{Operand}
use Rattle.jo_prog.specs.declared.program.Operand.TheVariants.{Unused, Int, Text, OfType, Member}
use Rattle.jo_prog.specs.declared.calls.Taken.{Taken}
use Rattle.jo_prog.specs.declared.calls.Taken.TheVariants.{Code, Start, Join, Native, Nothing}
use Rattle.jo_prog.specs.Program.{method_at}
use Rattle.jo_prog.specs.Calls.{receiver_class, run_of, taken_from, takes}
use Rattle.jo_prog.specs.Sites.{opcode_of, sites_of, site_of}
use Rattle.contexts.specs.Policies.{ContextPolicy, Receiver, receiver_at}
use Rattle.dep_nodes.specs.declared.kinds.NodeKind.{NodeKind}
use Rattle.dep_nodes.specs.declared.kinds.NodeKind.TheVariants.{Instr, Call, Arg, Param}
use Rattle.dependence.specs.declared.flows.FlowNode.{FlowNode}
use Rattle.dependence.specs.declared.flows.FlowRow.{FlowRow}
use Rattle.dependence.specs.declared.facts.InstKey.{InstKey}
use Rattle.dependence.specs.declared.facts.Fact.{Fact}
use Rattle.dependence.specs.declared.facts.Fact.TheVariants.{Holds, Target}
use Rattle.dependence.specs.GraphsAsData.{pc_kept, node_with, IsWideGraph}
use Rattle.dependence.specs.WideGraph.{insn_at, operand_of, resolved_at, is_call, node_of_insn, IsWideNode}
use Rattle.dependence.specs.NodePlaces.{CallAt}
use Rattle.dependence.specs.FactRules.{instance_at, SiteAt, TakesSo, CallsStatic, CallsOn, IsReceiver, IsTarget}
use Rattle.method_views.specs.InstanceRules
use Rattle.method_views.specs.InstanceRules.{ByTarget}
use Rattle.method_views.specs.Standing.{ref_in}
use Rattle.method_views.proofs.NodeLemmas.{kind_says, wide_stands, same_ref, same_insn, node_is, node_kept}
use Rattle.fact_rules.specs.Adds.{FromBelow}
use Rattle.fact_rules.specs.declared.callees.Callee.{Callee}
use Rattle.fact_rules.specs.Callees.{code_in, callee_so, callee_by, callee_in, static_callee, RunsFor, entered}
use Rattle.fact_rules.specs.TargetRules.{call_so, EntryGives, StaticGivesIf, CallGivesFor, CallGivesBy, InsnGives, AllTargetsGive, NodeGives}
use Rattle.fact_rules.proofs.NamedLemmas.{kind_within}

-- ---- what a call names

member_is : (o : Option Operand) (ref : MemberRef) → ref_in o ≡ Some ref → o ≡ Some (Member ref)
member_is None ref e = absurd (cc)
member_is (Some Unused) ref e = absurd (cc)
member_is (Some (Int n)) ref e = absurd (cc)
member_is (Some (Text t)) ref e = absurd (cc)
member_is (Some (OfType t)) ref e = absurd (cc)
member_is (Some (Member own)) ref e = ap (λ r. Some (Member r)) (same_Some own ref e)

calls_there : (pc : ℕ) (insn : Insn) → node_of_insn pc insn ≡ Call pc → is_call (opcode_of insn) ≡ true
calls_there pc insn e = by_test (is_call (opcode_of insn)) refl e
  where
    by_test : (b : Bool) → is_call (opcode_of insn) ≡ b → cond b (Call pc) (Instr pc) ≡ Call pc → is_call (opcode_of insn) ≡ true
    by_test true t f = t
    by_test false t f = absurd (cc)

-- ---- what it runs

module _ (program : Program) where
  takes_so : (taken : Taken) (class : ℕ) (callee : Callee) → callee_by taken (run_of program class) ≡ Some callee → TakesSo program callee.fork taken class callee.method
  takes_so (Code m) class callee e = subst (λ (x : Callee). TakesSo program x.fork (Code m) class x.method) (same_Some (record { method = m; fork = false }) callee e) refl
  takes_so Start class callee e = by_run (run_of program class) refl e
    where
      by_run : (r : Taken) → run_of program class ≡ r → callee_so true (code_in r) ≡ Some callee → TakesSo program callee.fork Start class callee.method
      by_run (Code m) at f = subst (λ (x : Callee). TakesSo program x.fork Start class x.method) (same_Some (record { method = m; fork = true }) callee f) (refl, at)
      by_run Start at f = absurd (cc)
      by_run Join at f = absurd (cc)
      by_run (Native k) at f = absurd (cc)
      by_run Nothing at f = absurd (cc)
  takes_so Join class callee e = absurd (cc)
  takes_so (Native k) class callee e = absurd (cc)
  takes_so Nothing class callee e = absurd (cc)

  callee_told : (fork : Bool) (taken : Taken) (class method : ℕ) → TakesSo program fork taken class method → callee_by taken (run_of program class) ≡ Some (record { method = method; fork = fork })
  callee_told false taken class method is = ap (λ t. callee_by t (run_of program class)) is
  callee_told true taken class method (is, runs) = ap (λ t. callee_by t (run_of program class)) is ∙ ap (λ r. callee_by Start r) runs

  record RunsOn (op : ℕ) (o : Option Method) (resolved : Option ℕ) (own : TypeRef) (callee : Callee) : Type 0 where
    current : Method
    is_current : o ≡ Some current
    number : ℕ
    resolves : resolved ≡ Some number
    takes_it : TakesSo program callee.fork (takes program op current.class number (receiver_class own)) (receiver_class own) callee.method

  runs_on : (op : ℕ) (o : Option Method) (resolved : Option ℕ) (own : TypeRef) (callee : Callee) → callee_in program op o resolved own ≡ Some callee → RunsOn op o resolved own callee
  runs_on op None resolved own callee e = absurd (cc)
  runs_on op (Some current) None own callee e = absurd (cc)
  runs_on op (Some current) (Some number) own callee e = record {
    current = current;
    is_current = refl;
    number = number;
    resolves = refl;
    takes_it = takes_so (takes program op current.class number (receiver_class own)) (receiver_class own) callee e;
  }

  record RunsStatic (op : ℕ) (desc : List ℕ) (resolved : Option ℕ) (callee : Callee) : Type 0 where
    is_static : (op == 184) ≡ true
    is_desc : IsMethodDesc desc
    number : ℕ
    resolves : resolved ≡ Some number
    has_code : taken_from program (Some number) ≡ Code callee.method

  code_there : (t : Taken) (callee : Callee) → callee_so false (code_in t) ≡ Some callee → t ≡ Code callee.method
  code_there (Code m) callee e = ap (λ (x : Callee). Code x.method) (same_Some (record { method = m; fork = false }) callee e)
  code_there Start callee e = absurd (cc)
  code_there Join callee e = absurd (cc)
  code_there (Native k) callee e = absurd (cc)
  code_there Nothing callee e = absurd (cc)

  runs_static : (op : ℕ) (desc : List ℕ) (resolved : Option ℕ) (callee : Callee) → static_callee program op desc resolved ≡ Some callee → RunsStatic op desc resolved callee
  runs_static op desc resolved callee e = by_op (op == 184) refl e
    where
      by_resolved : (op == 184) ≡ true → IsMethodDesc desc → (r : Option ℕ) → resolved ≡ r → taken_from program r ≡ Code callee.method → RunsStatic op desc resolved callee
      by_resolved static is_desc None at code = absurd (cc)
      by_resolved static is_desc (Some number) at code = record { is_static = static; is_desc = is_desc; number = number; resolves = at; has_code = code }

      by_desc : (op == 184) ≡ true → (b : Bool) → is_method_desc desc ≡ b → cond b (callee_so false (code_in (taken_from program resolved))) None ≡ Some callee → RunsStatic op desc resolved callee
      by_desc static true t f = by_resolved static ((method_decided desc).0 t) resolved refl (code_there (taken_from program resolved) callee f)
      by_desc static false t f = absurd (cc)

      by_op : (b : Bool) → (op == 184) ≡ b → cond b (cond (is_method_desc desc) (callee_so false (code_in (taken_from program resolved))) None) None ≡ Some callee → RunsStatic op desc resolved callee
      by_op true t f = by_desc t (is_method_desc desc) refl f
      by_op false t f = absurd (cc)

  module _ (policy : ContextPolicy) (facts : Fact (List ℕ) → Type 0) (H : ℕ → ℕ → Type 0) (i : InstKey (List ℕ)) where
    -- the instance that is entered
    record Enters (pc method : ℕ) (receiver : Option Receiver) (j : InstKey (List ℕ)) : Type 0 where
      site : ℕ
      is_site : SiteAt program i.method pc None site
      is : j ≡ instance_at method (policy.enter i.context site receiver)

    enters : (pc method : ℕ) (receiver : Option Receiver) (j : InstKey (List ℕ)) → entered program policy i pc method receiver ≡ Some j → Enters pc method receiver j
    enters pc method receiver j e = by_site (site_of (sites_of program.methods) i.method pc None) refl e
      where
        by_site : (o : Option ℕ) → site_of (sites_of program.methods) i.method pc None ≡ o → option_map (λ site. instance_at method (policy.enter i.context site receiver)) o ≡ Some j → Enters pc method receiver j
        by_site None at f = absurd (cc)
        by_site (Some site) at f = record { site = site; is_site = at; is = sym (same_Some (instance_at method (policy.enter i.context site receiver)) j f) }

    entered_so : (pc method site : ℕ) (receiver : Option Receiver) (j : InstKey (List ℕ)) → SiteAt program i.method pc None site → j ≡ instance_at method (policy.enter i.context site receiver)
        → entered program policy i pc method receiver ≡ Some j
    entered_so pc method site receiver j at is = ap (option_map (λ s. instance_at method (policy.enter i.context s receiver))) at ∙ ap Some (sym is)

    -- ---- from what a call gives to the rules

    calls_on_told : (pc : ℕ) (o : ObjKey (List ℕ)) (callee : Callee) (j : InstKey (List ℕ)) (call : CallAt program i.method pc) → (opcode_of call.insn == 184) ≡ false
        → RunsFor program i.method (opcode_of call.insn) call.ref (resolved_at program i.method pc) o callee → Enters pc callee.method (Some (receiver_at o.site o.context)) j → CallsOn program policy i pc o callee.fork j
    calls_on_told pc o callee j call other runs into =
        let on = runs_on (opcode_of call.insn) (method_at program i.method) (resolved_at program i.method pc) runs.own callee runs.runs in
        record {
          call = call;
          is_instance = other;
          named = runs.named;
          own = runs.own;
          is_own = runs.is_own;
          current = on.current;
          is_current = on.is_current;
          resolved = on.number;
          resolves = on.resolves;
          method = callee.method;
          takes_it = on.takes_it;
          site = into.site;
          is_site = into.is_site;
          is = into.is;
        }

    entry_by_rule : (pc : ℕ) (o : ObjKey (List ℕ)) (fork : Bool) (j : InstKey (List ℕ)) (g : Fact (List ℕ)) → IsWideNode program i.method (Call pc) → facts (Holds i (Arg pc 0) o) → CallsOn program policy i pc o fork j
        → EntryGives program facts i pc o fork j g → ByTarget program policy facts H i g
    entry_by_rule pc o false j g there has calls (inl is) = subst (ByTarget program policy facts H i) (sym is) (InstanceRules.calls_on j pc o there has calls)
    entry_by_rule pc o true j g there has calls (inl is) = subst (ByTarget program policy facts H i) (sym is) (InstanceRules.starts j pc o there has calls)
    entry_by_rule pc o fork j g there has calls (inr (known, receives, is)) = subst (ByTarget program policy facts H i) (sym is) (InstanceRules.is_given_receiver j pc 0 o fork known receives has calls)

    module _ (pc next : ℕ) (insn : Insn) (ref : MemberRef) (found : insn_at program i.method pc ≡ Some (insn, next)) (names : ref_in (operand_of program i.method (Some (insn, next))) ≡ Some ref)
        (there : IsWideNode program i.method (Call pc)) where
      object_by_rule : (o : ObjKey (List ℕ)) (callee : Callee) (j : InstKey (List ℕ)) (g : Fact (List ℕ)) → CallAt program i.method pc → (opcode_of insn == 184) ≡ false → facts (Holds i (Arg pc 0) o)
          → RunsFor program i.method (opcode_of insn) ref (resolved_at program i.method pc) o callee → entered program policy i pc callee.method (Some (receiver_at o.site o.context)) ≡ Some j
          → EntryGives program facts i pc o callee.fork j g → ByTarget program policy facts H i g
      object_by_rule o callee j g call other has runs into entry =
          let same : insn ≡ call.insn = sym (same_insn program i.method pc next insn found call) in
          let same_member : ref ≡ call.ref = sym (same_ref program i.method pc next insn found call ref names) in
          let own_runs : RunsFor program i.method (opcode_of call.insn) call.ref (resolved_at program i.method pc) o callee =
          subst (λ (x : Insn). RunsFor program i.method (opcode_of x) call.ref (resolved_at program i.method pc) o callee) same
          (subst (λ (r : MemberRef). RunsFor program i.method (opcode_of insn) r (resolved_at program i.method pc) o callee) same_member runs) in
          entry_by_rule pc o callee.fork j g there has
          (calls_on_told pc o callee j call (subst (λ (x : Insn). (opcode_of x == 184) ≡ false) same other) own_runs (enters pc callee.method (Some (receiver_at o.site o.context)) j into)) entry

      static_by_rule : (callee : Callee) (j : InstKey (List ℕ)) (g : Fact (List ℕ)) → is_call (opcode_of insn) ≡ true → static_callee program (opcode_of insn) ref.desc (resolved_at program i.method pc) ≡ Some callee
          → entered program policy i pc callee.method None ≡ Some j → g ≡ Target i pc j → ByTarget program policy facts H i g
      static_by_rule callee j g calls runs into is =
          let on = runs_static (opcode_of insn) ref.desc (resolved_at program i.method pc) callee runs in
          let at = enters pc callee.method None j into in
          let stands : CallAt program i.method pc = record {
            insn = insn;
            next = next;
            stands = found;
            is_call = calls;
            ref = ref;
            names = member_is (operand_of program i.method (Some (insn, next))) ref names;
            desc = on.is_desc.0;
            spells = on.is_desc.1;
          } in
          let told : CallsStatic program policy i pc j = record {
            call = stands;
            is_static = on.is_static;
            resolved = on.number;
            resolves = on.resolves;
            method = callee.method;
            has_code = on.has_code;
            site = at.site;
            is_site = at.is_site;
            is = at.is;
          } in
          subst (ByTarget program policy facts H i) (sym is) (InstanceRules.calls_static j pc there told)

      static_if : (c : Option Callee) (g : Fact (List ℕ)) → is_call (opcode_of insn) ≡ true → static_callee program (opcode_of insn) ref.desc (resolved_at program i.method pc) ≡ c
          → StaticGivesIf program policy i pc c g → ByTarget program policy facts H i g
      static_if None g calls e none = absurd none
      static_if (Some callee) g calls e (j, into, is) = static_by_rule callee j g calls e into is

      call_by_rule : (g : Fact (List ℕ)) → is_call (opcode_of insn) ≡ true → ((o : ObjKey (List ℕ)) → facts (Holds i (Arg pc 0) o) → CallAt program i.method pc)
          → CallGivesFor program facts i pc policy (opcode_of insn) ref (resolved_at program i.method pc) g → ByTarget program policy facts H i g
      call_by_rule g calls given (inl static) = static_if (static_callee program (opcode_of insn) ref.desc (resolved_at program i.method pc)) g calls refl static
      call_by_rule g calls given (inr (other, (o, has, (callee, runs, (j, into, entry))))) = object_by_rule o callee j g (given o has) other has runs into entry

    -- what stands at a call
    abbrev AtCall : ℕ → Fact (List ℕ) → Type 0
    AtCall pc g = InsnGives program facts i pc policy (option_map (λ (f : Insn × ℕ). f.0) (insn_at program i.method pc)) (resolved_at program i.method pc) g

    at_call_by_rule : (pc : ℕ) (g : Fact (List ℕ)) → IsWideNode program i.method (Call pc) → ((o : ObjKey (List ℕ)) → facts (Holds i (Arg pc 0) o) → CallAt program i.method pc) → AtCall pc g → ByTarget program policy facts H i g
    at_call_by_rule pc g there given gives = by_insn (wide_stands program i.method (Call pc) there)
      where
        by_ref : (insn : Insn) (next : ℕ) → insn_at program i.method pc ≡ Some (insn, next) → node_of_insn pc insn ≡ Call pc → (o : Option MemberRef) → ref_in (operand_of program i.method (Some (insn, next))) ≡ o
            → CallGivesBy program facts i pc policy (opcode_of insn) o (resolved_at program i.method pc) g → ByTarget program policy facts H i g
        by_ref insn next found node None at none = absurd none
        by_ref insn next found node (Some ref) at one = call_by_rule pc next insn ref found at there g (calls_there pc insn node) given one

        by_insn : (insn : Insn) × (next : ℕ) × (insn_at program i.method pc ≡ Some (insn, next)) × (node_of_insn pc insn ≡ Call pc) → ByTarget program policy facts H i g
        by_insn (insn, next, found, node) =
            by_ref insn next found node (ref_in (operand_of program i.method (Some (insn, next)))) refl
            (subst (λ (o : Option (Insn × ℕ)). InsnGives program facts i pc policy (option_map (λ (f : Insn × ℕ). f.0) o) (resolved_at program i.method pc) g) found gives)

    arguments_by_rule : (pc : ℕ) (g : Fact (List ℕ)) → AllTargetsGive program facts i pc g → ByTarget program policy facts H i g
    arguments_by_rule pc g (j, known, (k, (other, (o, has, is)))) = subst (ByTarget program policy facts H i) (sym is) (InstanceRules.is_given_argument j pc k o known other has)

    -- ---- and back

    at_call : (pc : ℕ) (g : Fact (List ℕ)) (call : CallAt program i.method pc) → CallGivesFor program facts i pc policy (opcode_of call.insn) call.ref (resolved_at program i.method pc) g → AtCall pc g
    at_call pc g call gives =
        subst (λ (o : Option (Insn × ℕ)). InsnGives program facts i pc policy (option_map (λ (f : Insn × ℕ). f.0) o) (resolved_at program i.method pc) g) (sym call.stands)
        (subst (λ (x : Option MemberRef). CallGivesBy program facts i pc policy (opcode_of call.insn) x (resolved_at program i.method pc) g) (sym (ap ref_in call.names)) gives)

    static_at : (pc : ℕ) (j : InstKey (List ℕ)) → CallsStatic program policy i pc j → AtCall pc (Target i pc j)
    static_at pc j calls =
        let callee : Callee = record { method = calls.method; fork = false } in
        let op = opcode_of calls.call.insn in
        let desc = calls.call.ref.desc in
        let resolved = resolved_at program i.method pc in
        let runs : static_callee program op desc resolved ≡ Some callee =
        ap (λ b. cond b (cond (is_method_desc desc) (callee_so false (code_in (taken_from program resolved))) None) None) calls.is_static
        ∙ ap (λ b. cond b (callee_so false (code_in (taken_from program resolved))) None) ((method_decided desc).1 (calls.call.desc, calls.call.spells))
        ∙ ap (λ r. callee_so false (code_in (taken_from program r))) calls.resolves ∙ ap (λ t. callee_so false (code_in t)) calls.has_code in
        at_call pc (Target i pc j) calls.call
        (inl (subst (λ (x : Option Callee). StaticGivesIf program policy i pc x (Target i pc j)) (sym runs) (j, entered_so pc calls.method calls.site None j calls.is_site calls.is, refl)))

    object_at : (pc : ℕ) (o : ObjKey (List ℕ)) (fork : Bool) (j : InstKey (List ℕ)) (g : Fact (List ℕ)) → facts (Holds i (Arg pc 0) o) → CallsOn program policy i pc o fork j → EntryGives program facts i pc o fork j g → AtCall pc g
    object_at pc o fork j g has calls entry =
        let callee : Callee = record { method = calls.method; fork = fork } in
        let op = opcode_of calls.call.insn in
        let resolved = resolved_at program i.method pc in
        let class = receiver_class calls.own in
        let runs : callee_in program op (method_at program i.method) resolved calls.own ≡ Some callee =
        ap (λ (x : Option Method). callee_in program op x resolved calls.own) calls.is_current ∙ ap (λ (r : Option ℕ). callee_in program op (Some calls.current) r calls.own) calls.resolves
        ∙ callee_told fork (takes program op calls.current.class calls.resolved class) class calls.method calls.takes_it in
        let runs_for : RunsFor program i.method op calls.call.ref resolved o callee = record { named = calls.named; own = calls.own; is_own = calls.is_own; runs = runs } in
        at_call pc g calls.call (inr (calls.is_instance, (o, has, (callee, runs_for, (j, entered_so pc calls.method calls.site (Some (receiver_at o.site o.context)) j calls.is_site calls.is, entry)))))

    record ByCallAt (g : Fact (List ℕ)) : Type 0 where
      pc : ℕ
      there : IsWideNode program i.method (Call pc)
      gives : AtCall pc g ⊎ AllTargetsGive program facts i pc g

    rule_by_call : (g : Fact (List ℕ)) → ((pc : ℕ) (j : InstKey (List ℕ)) → IsTarget facts i pc j → IsWideNode program i.method (Call pc)) → ByTarget program policy facts H i g → ByCallAt g
    rule_by_call _ called (InstanceRules.calls_static j pc there calls) = record { pc = pc; there = there; gives = inl (static_at pc j calls) }
    rule_by_call _ called (InstanceRules.calls_on j pc o there has calls) = record { pc = pc; there = there; gives = inl (object_at pc o false j (call_so false i pc j) has calls (inl refl)) }
    rule_by_call _ called (InstanceRules.starts j pc o there has calls) = record { pc = pc; there = there; gives = inl (object_at pc o true j (call_so true i pc j) has calls (inl refl)) }
    rule_by_call _ called (InstanceRules.is_given_receiver j pc k o fork known receives has calls) = record {
      pc = pc;
      there = called pc j known;
      gives = inl (object_at pc o fork j (Holds j (Param k) o) (subst (λ x. facts (Holds i (Arg pc x) o)) receives.0 has) calls
          (inr (known, subst (λ x. IsReceiver program j.method x) receives.0 receives, ap (λ x. Holds j (Param x) o) receives.0)));
    }
    rule_by_call _ called (InstanceRules.is_given_argument j pc k o known other has) = record { pc = pc; there = called pc j known; gives = inr (j, known, (k, (other, (o, has, refl)))) }

    -- ---- node by node

    module _ (wide : List FlowRow) (graph : IsWideGraph program i.method H wide) where
      node_by_rule : (n : ℕ) (g : Fact (List ℕ)) → ((pc : ℕ) (o : ObjKey (List ℕ)) → facts (Holds i (Arg pc 0) o) → CallAt program i.method pc) → NodeGives program facts i policy wide n g → ByTarget program policy facts H i g
      node_by_rule n g given one = by_part one.gives
        where
          same : one.node ≡ node_with program i.method (Call one.pc) (Some one.pc)
          same = subst (λ (k : NodeKind). one.node ≡ node_with program i.method k (pc_kept k)) one.is_call (node_kept program i.method H wide graph n one.node one.at)

          there : IsWideNode program i.method (Call one.pc)
          there = graph.graph.only_nodes n (Call one.pc) (kind_says wide n one.node one.at ∙ ap Some one.is_call)

          by_part : InsnGives program facts i one.pc policy one.node.insn one.node.method g ⊎ AllTargetsGive program facts i one.pc g → ByTarget program policy facts H i g
          by_part (inl gives) = at_call_by_rule one.pc g there (given one.pc) (subst (λ (x : FlowNode). InsnGives program facts i one.pc policy x.insn x.method g) same gives)
          by_part (inr gives) = arguments_by_rule one.pc g gives

      rule_by_node : (g : Fact (List ℕ)) → ByCallAt g → FromBelow (length wide) (NodeGives program facts i policy wide) g
      rule_by_node g by =
          let (n, at) = graph.graph.each_node (Call by.pc) by.there in
          let own = node_is program i.method H wide graph n (Call by.pc) at in
          let one : NodeGives program facts i policy wide n g = record {
            node = own.row.node;
            at = ap (option_map (λ (row : FlowRow). row.node)) own.at;
            pc = by.pc;
            is_call = ap (λ (x : FlowNode). x.kind) own.same;
            gives = subst (λ (x : FlowNode). InsnGives program facts i by.pc policy x.insn x.method g ⊎ AllTargetsGive program facts i by.pc g) (sym own.same) by.gives;
          } in
          (n, kind_within wide n (Call by.pc) at, one)

      -- all nodes give what the rules give, where facts name only calls of the graph
      pub targets_by_nodes : ((pc : ℕ) (j : InstKey (List ℕ)) → IsTarget facts i pc j → IsWideNode program i.method (Call pc)) → ((pc : ℕ) (o : ObjKey (List ℕ)) → facts (Holds i (Arg pc 0) o) → CallAt program i.method pc)
          → (g : Fact (List ℕ)) → FromBelow (length wide) (NodeGives program facts i policy wide) g ↔ ByTarget program policy facts H i g
      targets_by_nodes called given g = (λ from. node_by_rule from.0 g given from.2, λ by. rule_by_node g (rule_by_call g called by))
