-- What calls take and give, by what facts and the program say.
use Rattle.std.specs.Prelude.{cond, option_map, slice_get}
use Rattle.std.proofs.Common.{◌≡◌, ◌↔◌, ◌⊎◌, inl, inr, ℕ, ◌<◌, ◌≤◌, ◌==◌, ◌+◌, ◌-◌, Bool, true, false, not, List, length, get_or, take, Contains, Option, Some, None, refl, ap, sym, ◌∙◌, subst, arith}
use Rattle.std.proofs.lemmas.Bool.Decides.{nat_tests}
use Rattle.std.proofs.lemmas.Option.{same_Some}
use Rattle.std.proofs.lemmas.List.{take_more, take_all}
use Rattle.std.proofs.lemmas.List.Elements.{Contains-push_cases, Contains-get_or}
use Rattle.dependence.specs.declared.flow.Place.{Place}
use Rattle.dependence.specs.declared.flow.Place.TheVariants.{Stack}
use Rattle.jo_ids.specs.declared.ObjKey.{ObjKey}
use Rattle.jo_insn.specs.AccessFlags.{has_flag, static_flag}
use Rattle.jo_prog.specs.declared.program.Program.{Program}
use Rattle.jo_prog.specs.declared.program.Method.{Method}
use Rattle.jo_prog.specs.declared.program.MemberRef.{MemberRef}
use Rattle.jo_prog.specs.Program.{method_at}
use Rattle.contexts.specs.Policies.{ContextPolicy}
use Rattle.dep_nodes.specs.OnceLists.{IsOnceEach}
use Rattle.dependence.specs.declared.facts.InstKey.{InstKey}
use Rattle.dependence.specs.declared.facts.Fact.{Fact}
use Rattle.dependence.specs.declared.facts.Target.{Target as TargetNumber}
use Rattle.dependence.specs.FactRules.{IsReceiver, IsTarget}
use Rattle.dependence.specs.WideGraph.{operand_of}
use Rattle.jo_insn.specs.declared.instructions.Insn.{Insn}
use Rattle.jo_prog.specs.Sites.{opcode_of}
use Rattle.method_views.specs.Standing.{ref_in}
use Rattle.method_views.proofs.NodeLemmas.{reads_are}
use Rattle.dep_nodes.specs.declared.kinds.NodeKind.{NodeKind}
use Rattle.dependence.specs.declared.flows.FlowNode.{FlowNode}
use Rattle.dependence.specs.declared.flows.FlowRow.{FlowRow}
use Rattle.dependence.specs.GraphsAsData.{kind_at, IsWideGraph}
use Rattle.dependence.specs.NodePlaces.{CallAt, ArgumentPlace, of_argument, argument_count}
use Rattle.fact_rules.specs.Adds.{Adds}
use Rattle.dependence.specs.declared.facts.Fact.TheVariants.{Holds, Target}
use Rattle.dep_nodes.specs.declared.kinds.NodeKind.TheVariants.{Call, Arg, Param}
use Rattle.fact_sets.specs.declared.numbered.NumberedFact.TheVariants.{Calls as IsCalled}
use Rattle.fact_sets.specs.FactLists.{FactLists, IsInstance, pair_of}
use Rattle.fact_sets.specs.Seen.{TellsApart, instance_seen, fact_seen, Known, Listed}
use Rattle.fact_rules.specs.declared.callees.Callee.{Callee}
use Rattle.fact_rules.specs.Callees.{RunsFor}
use Rattle.fact_rules.specs.TargetRules.{call_so, is_on_receiver, receives, HasNumber, LieBelow, CalleeGives, CalleeGivesIf, ObjectGives, ArgumentGives, CallGivesFor, CallGivesBy, InsnGives, TargetsGive, AllTargetsGive, NodeGives}
use Rattle.fact_rules.proofs.ListLevel.{known_target, target_known, one_instance_seen, OfTarget}
use Rattle.fact_rules.proofs.SeenLemmas.{same_instance}

-- ---- lists

pub lie_more : (places : List Place) (i : ℕ) (d place : Place) (end new : ℕ) → i < length places → place ≡ get_or places i d → LieBelow (take i places) end → end ≤ new → ((h : ℕ) → place ≡ Stack h → h < new)
    → LieBelow (take (i + 1) places) new
lie_more places i d place end new below is lies bound over h among =
    elim (Contains-push_cases (take i places) (get_or places i d) (Stack h) (subst (λ items. Contains items (Stack h)) (take_more places i d below) among)) [
      | inl before ↦ (let first = lies h before in omega (arith, first, bound))
      | inr last ↦ over h (is ∙ last)
    ]

pub lie_all : (places : List Place) (i end : ℕ) → length places ≤ i → LieBelow (take i places) end → LieBelow places end
lie_all places i end past lies = subst (λ items. LieBelow items end) (take_all i places past) lies

pub no_number_more : (targets : List TargetNumber) (i j : ℕ) (t : TargetNumber) → i < length targets → t ≡ get_or targets i t → (t.instance ≡ j → ⊥) → (HasNumber (take i targets) j → ⊥) → HasNumber (take (i + 1) targets) j → ⊥
no_number_more targets i j t below is other none (s, among, e) =
    elim (Contains-push_cases (take i targets) (get_or targets i t) s (subst (λ items. Contains items s) (take_more targets i t below) among)) [
      | inl before ↦ none (s, before, e)
      | inr last ↦ other (ap (λ (x : TargetNumber). x.instance) (is ∙ last) ∙ e)
    ]

pub no_number_all : (targets : List TargetNumber) (i j : ℕ) → length targets ≤ i → (HasNumber (take i targets) j → ⊥) → HasNumber targets j → ⊥
no_number_all targets i j past none = subst (λ items. HasNumber items j → ⊥) (take_all i targets past) none

pub number_there : (targets : List TargetNumber) (i j : ℕ) (t : TargetNumber) → i < length targets → t ≡ get_or targets i t → t.instance ≡ j → HasNumber targets j
number_there targets i j t below is e = (t, subst (Contains targets) (sym is) (Contains-get_or targets i t below), e)

-- what one value gives, where a partial function gives it
pub by_one : {A X : Type 0} (o : Option A) (a : A) (P : A → X → Type 0) → o ≡ Some a → (g : X) → P a g ↔ ((j : A) × (o ≡ Some j) × P j g)
by_one {A} {X} o a P is g = (λ p. (a, is, p), back)
  where
    back : (j : A) × (o ≡ Some j) × P j g → P a g
    back (j, at, p) = subst (λ b. P b g) (same_Some j a (sym at ∙ is)) p

pub by_none : {A X : Type 0} (o : Option A) (P : A → X → Type 0) → o ≡ None → (g : X) → (j : A) × (o ≡ Some j) × P j g → ⊥
by_none o P is g (j, at, p) = (let e = sym is ∙ at in absurd (cc))

-- ---- receivers

same_number : (a b : ℕ) → (a == b) ≡ true → a ≡ b
same_number a b t = grind (arith, nat_tests, t)

pub other_number : (a b : ℕ) → (a ≡ b → ⊥) → (a == b) ≡ false
other_number a b other = by_test (a == b) refl
  where
    by_test : (c : Bool) → (a == b) ≡ c → (a == b) ≡ false
    by_test true t = absurd (other (same_number a b t))
    by_test false t = t

is_zero : (k : ℕ) → (k == 0) ≡ true → k ≡ 0
is_zero k t = grind (arith, nat_tests, t)

on_receiver : (program : Program) (m : ℕ) (o : Option Method) → method_at program m ≡ o → is_on_receiver o ≡ true → IsReceiver program m 0
on_receiver program m None at e = absurd (cc)
on_receiver program m (Some method) at e = (refl, (method, at, by_flag (has_flag static_flag method.flags) refl))
  where
    by_flag : (b : Bool) → has_flag static_flag method.flags ≡ b → has_flag static_flag method.flags ≡ false
    by_flag false f = f
    by_flag true f = absurd (true_is_false (sym (ap not f) ∙ e))
      where
        true_is_false : false ≡ true → ⊥
        true_is_false h = absurd (cc)

pub receives_told : (program : Program) (m k : ℕ) → (receives (method_at program m) k ≡ true) ↔ IsReceiver program m k
receives_told program m k = (there, back)
  where
    there : receives (method_at program m) k ≡ true → IsReceiver program m k
    there e = by_test (k == 0) refl
      where
        by_test : (b : Bool) → (k == 0) ≡ b → IsReceiver program m k
        by_test true t =
            let zero_k : k ≡ 0 = is_zero k t in
            subst (IsReceiver program m) (sym zero_k) (on_receiver program m (method_at program m) refl (subst (λ x. receives (method_at program m) x ≡ true) zero_k e))
        by_test false t = absurd (not_so (subst (λ b. cond b (is_on_receiver (method_at program m)) false ≡ true) t e))
          where
            not_so : false ≡ true → ⊥
            not_so h = absurd (cc)

    back : IsReceiver program m k → receives (method_at program m) k ≡ true
    back (is, (method, at, flag)) = subst (λ x. receives (method_at program m) x ≡ true) (sym is) (ap is_on_receiver at ∙ ap not flag)

pub not_received : (program : Program) (m k : ℕ) → receives (method_at program m) k ≡ false → IsReceiver program m k → ⊥
not_received program m k e is = (let t = (receives_told program m k).1 is in absurd (cc))

-- ---- seen facts

pub adds_fact_so : {C : Type 0} (list : C → List ℕ) (old new : List (Fact C)) (fact : Fact C) (g : Fact (List ℕ)) → fact_seen list fact ≡ g
    → Adds (Listed list old) (Listed list new) (λ f. f ≡ fact_seen list fact) → Adds (Listed list old) (Listed list new) (λ f. f ≡ g)
adds_fact_so list old new fact g e adds = subst (λ h. Adds (Listed list old) (Listed list new) (λ f. f ≡ h)) e adds

-- the call has that target
abbrev pub TargetIs : InstKey (List ℕ) → ℕ → InstKey (List ℕ) → Fact (List ℕ) → Type 0
TargetIs i pc j f = f ≡ Target i pc j

pub call_seen : {C : Type 0} (list : C → List ℕ) (fork : Bool) (i : InstKey C) (pc : ℕ) (j : InstKey C) → fact_seen list (call_so fork i pc j) ≡ call_so fork (instance_seen list i) pc (instance_seen list j)
call_seen list false i pc j = refl
call_seen list true i pc j = refl

module _ {C : Type 0} (list : C → List ℕ) (tells : TellsApart list) (L : FactLists C) (i pc : ℕ) (key to : InstKey C) (once : IsOnceEach L.instances) (is : IsInstance L.instances i key) where
  -- a target with that number is known
  pub number_told : (targets : List TargetNumber) (j : ℕ) → ((t : TargetNumber) → Contains targets t ↔ Contains L.facts (IsCalled (record { instance = i; pc = pc }) t.instance t.fork))
      → IsInstance L.instances j to → HasNumber targets j ↔ IsTarget (Known list L) (instance_seen list key) pc (instance_seen list to)
  number_told targets j each at = (there, back)
    where
      there : HasNumber targets j → IsTarget (Known list L) (instance_seen list key) pc (instance_seen list to)
      there (t, among, e) =
          target_known list tells L i pc key (instance_seen list to) is
          (record { target = t; there = (each t).0 among; seen = (to, subst (λ x. IsInstance L.instances x to) (sym e) at, refl) })

      back : IsTarget (Known list L) (instance_seen list key) pc (instance_seen list to) → HasNumber targets j
      back known =
          let one = known_target list tells L i pc key (instance_seen list to) once is known in
          let (other, at_other, seen) = one.seen in
          let same : other ≡ to = same_instance list tells other to seen in
          (one.target, (each one.target).1 one.there, once one.target.instance j (pair_of to) (subst (IsInstance L.instances one.target.instance) same at_other) at)

  pub no_number : ((j : ℕ) → IsInstance L.instances j to → ⊥) → IsTarget (Known list L) (instance_seen list key) pc (instance_seen list to) → ⊥
  no_number absent known =
      let one = known_target list tells L i pc key (instance_seen list to) once is known in
      let (other, at_other, seen) = one.seen in
      absent one.target.instance (subst (IsInstance L.instances one.target.instance) (same_instance list tells other to seen) at_other)

-- what is made of the instance that a number names
pub of_target : {C X : Type 0} (list : C → List ℕ) (tells : TellsApart list) (L : FactLists C) (t : TargetNumber) (to : InstKey C) (makes : InstKey (List ℕ) → X → Type 0) → IsInstance L.instances t.instance to
    → (g : X) → makes (instance_seen list to) g ↔ OfTarget list tells L makes t g
of_target {C} {X} list tells L t to makes at g = (λ made. (instance_seen list to, (to, at, refl), made), back)
  where
    back : OfTarget list tells L makes t g → makes (instance_seen list to) g
    back (j, seen, made) = subst (λ k. makes k g) (sym (one_instance_seen list L.instances t.instance to j at seen)) made

-- what a call gives for an object, by what it runs for it
module _ (program : Program) (facts : Fact (List ℕ) → Type 0) (i : InstKey (List ℕ)) (pc : ℕ) (policy : ContextPolicy) (op : ℕ) (ref : MemberRef) (resolved : Option ℕ) (o : ObjKey (List ℕ)) where
  pub object_gives : (callee : Option Callee) → ((c : Callee) → (callee ≡ Some c) ↔ RunsFor program i.method op ref resolved o c) → (g : Fact (List ℕ))
      → CalleeGivesIf program facts i pc policy o callee g ↔ ObjectGives program facts i pc policy op ref resolved o g
  object_gives None told g = (λ none. absurd none, back)
    where
      back : ObjectGives program facts i pc policy op ref resolved o g → ⊥
      back (c, runs, gives) = (let e = (told c).1 runs in absurd (cc))
  object_gives (Some callee) told g = (λ gives. (callee, (told callee).0 refl, gives), back)
    where
      back : ObjectGives program facts i pc policy op ref resolved o g → CalleeGives program facts i pc policy o callee g
      back (c, runs, gives) = subst (λ x. CalleeGives program facts i pc policy o x g) (sym (same_Some callee c ((told c).1 runs))) gives

module _ (program : Program) (facts : Fact (List ℕ) → Type 0) (i : InstKey (List ℕ)) (pc : ℕ) where
  pub argument_gives : (j : InstKey (List ℕ)) (k : ℕ) (R : Fact (List ℕ) → Type 0) → (IsReceiver program j.method k → ⊥)
      → ((f : Fact (List ℕ)) → R f ↔ ((o : ObjKey (List ℕ)) × facts (Holds i (Arg pc k) o) × (f ≡ Holds j (Param k) o))) → (f : Fact (List ℕ)) → R f ↔ ArgumentGives program facts i pc j k f
  argument_gives j k R other each f = (λ r. (other, (each f).0 r), λ p. (each f).1 p.1)

  -- what stands there
  pub insn_is : (policy : ContextPolicy) (resolved : Option ℕ) (S T : Fact (List ℕ) → Type 0) (insn : Insn) (ref : MemberRef) (o : Option Insn) → o ≡ Some insn
      → ref_in (operand_of program i.method (Some (insn, 0))) ≡ Some ref → Adds S T (CallGivesFor program facts i pc policy (opcode_of insn) ref resolved) → Adds S T (InsnGives program facts i pc policy o resolved)
  insn_is policy resolved S T insn ref o is names adds =
      subst (λ x. Adds S T (InsnGives program facts i pc policy x resolved)) (sym is)
      (subst (λ (x : Option MemberRef). Adds S T (CallGivesBy program facts i pc policy (opcode_of insn) x resolved)) (sym names) adds)

-- ---- one node

-- the call of which something is an argument
pub call_of : (program : Program) (H : ℕ → ℕ → Type 0) (m pc k : ℕ) → (v : Place) × ArgumentPlace program m H pc k v → CallAt program m pc
call_of program H m pc k (v, is) = of_place pc k v is
  where
    of_place : (pc k : ℕ) (v : Place) → ArgumentPlace program m H pc k v → CallAt program m pc
    of_place _ _ _ (of_argument pc height i call v has below is) = call

argument_height : (program : Program) (H : ℕ → ℕ → Type 0) (m pc k : ℕ) (v : Place) → ArgumentPlace program m H pc k v → (h : ℕ) × ((v ≡ Stack h) × (k ≤ h))
argument_height program H m _ _ _ (of_argument pc height k call v has below is) = (height - argument_count (opcode_of call.insn) call.desc + k, (is, omega arith))

-- an argument's number is below a height above all arguments' places
pub below_end : (program : Program) (H : ℕ → ℕ → Type 0) (m : ℕ) (wide : List FlowRow) → IsWideGraph program m H wide → (n pc k end : ℕ) (places : List Place) → option_map (λ row. row.reads) (slice_get wide n) ≡ Some places
    → LieBelow places end → kind_at wide n ≡ Some (Call pc) → (v : Place) × ArgumentPlace program m H pc k v → k < end
below_end program H m wide graph n pc k end places reads lies at (v, is) =
    let (h, (stands, low)) = argument_height program H m pc k v is in
    let among : Contains places (Stack h) = subst (Contains places) stands ((reads_are wide n places reads v).1 ((graph.graph.reads n (Call pc) v at).1 (k, is))) in
    let below = lies h among in
    omega (arith, low, below)

module _ (program : Program) (facts : Fact (List ℕ) → Type 0) (i : InstKey (List ℕ)) (policy : ContextPolicy) (wide : List FlowRow) (n : ℕ) (node : FlowNode)
    (at : option_map (λ (row : FlowRow). row.node) (slice_get wide n) ≡ Some node) where
  pub node_gives : (pc : ℕ) → node.kind ≡ Call pc → (end : ℕ) → ((k : ℕ) (o : ObjKey (List ℕ)) → facts (Holds i (Arg pc k) o) → k < end)
      → (g : Fact (List ℕ)) → (InsnGives program facts i pc policy node.insn node.method g ⊎ TargetsGive program facts i pc end g) ↔ NodeGives program facts i policy wide n g
  node_gives pc is_call end bound g = (there, back)
    where
      part : InsnGives program facts i pc policy node.insn node.method g ⊎ TargetsGive program facts i pc end g → InsnGives program facts i pc policy node.insn node.method g ⊎ AllTargetsGive program facts i pc g
      part (inl gives) = inl gives
      part (inr (j, known, (k, below, gives))) = inr (j, known, (k, gives))

      there : InsnGives program facts i pc policy node.insn node.method g ⊎ TargetsGive program facts i pc end g → NodeGives program facts i policy wide n g
      there gives = record { node = node; at = at; pc = pc; is_call = is_call; gives = part gives }

      limited : InsnGives program facts i pc policy node.insn node.method g ⊎ AllTargetsGive program facts i pc g → InsnGives program facts i pc policy node.insn node.method g ⊎ TargetsGive program facts i pc end g
      limited (inl gives) = inl gives
      limited (inr (j, known, (k, (other, (o, has, is))))) = inr (j, known, (k, bound k o has, (other, (o, has, is))))

      pc_in : NodeKind → ℕ
      pc_in (Call p) = p
      pc_in _ = 0

      back : NodeGives program facts i policy wide n g → InsnGives program facts i pc policy node.insn node.method g ⊎ TargetsGive program facts i pc end g
      back one =
          let same : one.node ≡ node = same_Some one.node node (sym one.at ∙ at) in
          let same_pc : one.pc ≡ pc = ap pc_in (sym one.is_call ∙ ap (λ (x : FlowNode). x.kind) same ∙ is_call) in
          limited
          (subst (λ (x : FlowNode). InsnGives program facts i pc policy x.insn x.method g ⊎ AllTargetsGive program facts i pc g) same
          (subst (λ (p : ℕ). InsnGives program facts i p policy one.node.insn one.node.method g ⊎ AllTargetsGive program facts i p g) same_pc one.gives))

-- nothing where the instruction names no member
pub insn_nothing : (program : Program) (facts : Fact (List ℕ) → Type 0) (i : InstKey (List ℕ)) (pc : ℕ) (policy : ContextPolicy) (resolved : Option ℕ) (insn : Insn) (o : Option Insn) → o ≡ Some insn
    → ref_in (operand_of program i.method (Some (insn, 0))) ≡ None → (g : Fact (List ℕ)) → InsnGives program facts i pc policy o resolved g → ⊥
insn_nothing program facts i pc policy resolved insn o is names g gives =
    subst (λ (x : Option MemberRef). CallGivesBy program facts i pc policy (opcode_of insn) x resolved g) names (subst (λ x. InsnGives program facts i pc policy x resolved g) is gives)
