-- What an instruction does with an object at its base, by the object's type.
use Rattle.std.specs.Prelude.{◌↔◌}
use Rattle.std.proofs.Common.{inl, inr, ◌≡◌, ℕ, Bool, true, false, ◌||◌, Option, Some, None, refl, sym, ◌∙◌, ap, subst}
use Rattle.std.proofs.lemmas.Bool.{both_ways, or_left, or_right}
use Rattle.std.proofs.lemmas.Option.{same_Some, some_pair_parts}
use Rattle.jo_insn.specs.declared.instructions.Insn.{Insn}
use Rattle.jo_prog.specs.declared.program.Program.{Program}
use Rattle.jo_prog.specs.declared.program.Method.{Method}
use Rattle.jo_prog.specs.declared.program.MemberRef.{MemberRef}
use Rattle.jo_prog.specs.declared.program.TypeRef.{TypeRef}
use Rattle.jo_prog.specs.declared.calls.Taken.{Taken}
use Rattle.jo_prog.specs.declared.calls.Taken.TheVariants.{Start}
use Rattle.jo_prog.specs.declared.sites.Cause.TheVariants.{FailingCast, SecondStart, MissingInterface}
use Rattle.jo_prog.specs.Program.{method_at}
use Rattle.jo_prog.specs.Types.{type_fits}
use Rattle.jo_prog.specs.Calls.{receiver_class, takes}
use Rattle.jo_prog.specs.Sites.{opcode_of, may_raise}
use Rattle.dependence.specs.WideGraph.{insn_at, operand_of, resolved_at}
use Rattle.dependence.specs.NodePlaces.{CallAt}
use Rattle.dependence.specs.FlowGraph.{AnObject, FailsToFit, TakesStart, type_in, type_of_object}
use Rattle.flow_graph.specs.NodeUses.{ref_in}
use Rattle.instance_flows.specs.Raising.{TakesStartOf, FailsCast, StartsAgain, LacksInterface, ObjectRaises}

pub never : {A : Type 0} → (A → ⊥) → (false ≡ true) ↔ A
never none = (λ e. absurd (cc), λ a. absurd (none a))

some_is_none : {A : Type 0} (x : Option A) (a : A) → x ≡ Some a → x ≡ None → ⊥
some_is_none x a some none = absurd (let e : Some a ≡ None = sym some ∙ none in cc)

-- ---- the call of a start

module _ (program : Program) (m op : ℕ) (named : TypeRef) (resolved : ℕ) (own : TypeRef) where
  pub no_current : method_at program m ≡ None → (false ≡ true) ↔ TakesStartOf program m op named resolved own
  no_current none = never (λ t. some_is_none (method_at program m) t.method t.is_method none)

  pub no_fit : type_fits program own named ≡ false → (false ≡ true) ↔ TakesStartOf program m op named resolved own
  no_fit misfit = never (λ t. absurd (both_ways (type_fits program own named) misfit t.fits))

  pub start_taken : (method : Method) (taken : Taken) (b : Bool) → method_at program m ≡ Some method → type_fits program own named ≡ true
      → taken ≡ takes program op method.class resolved (receiver_class own) → (b ≡ true) ↔ (taken ≡ Start) → (b ≡ true) ↔ TakesStartOf program m op named resolved own
  start_taken method taken b is fits takes_it start = (there, back)
    where
      there : b ≡ true → TakesStartOf program m op named resolved own
      there sure = record { fits = fits; method = method; is_method = is; starts = sym takes_it ∙ start.0 sure }

      back : TakesStartOf program m op named resolved own → b ≡ true
      back t =
          let same : t.method ≡ method = same_Some t.method method (sym t.is_method ∙ is) in
          start.1 (takes_it ∙ ap (λ (x : Method). takes program op x.class resolved (receiver_class own)) (sym same) ∙ t.starts)

-- ---- one object

-- no object makes an instruction raise an exception of a cause that isn't one of its opcode
module _ (program : Program) (m pc op : ℕ) (o : AnObject) where
  pub no_cast : may_raise FailingCast op ≡ false → (false ≡ true) ↔ FailsCast program m pc op o
  no_cast quiet = never (λ cast. absurd (both_ways (may_raise FailingCast op) quiet cast.may))

  pub no_start : may_raise SecondStart op ≡ false → (false ≡ true) ↔ StartsAgain program m pc op o
  no_start quiet = never (λ start. absurd (both_ways (may_raise SecondStart op) quiet start.may))

  pub no_interface : may_raise MissingInterface op ≡ false → (false ≡ true) ↔ LacksInterface program m pc op o
  no_interface quiet = never (λ lacks. absurd (both_ways (may_raise MissingInterface op) quiet lacks.may))

  pub typeless_starts : type_of_object program o ≡ None → (false ≡ true) ↔ StartsAgain program m pc op o
  typeless_starts none = never (λ s. some_is_none (type_of_object program o) s.starts.own s.starts.is_own none)

  pub unresolved_starts : resolved_at program m pc ≡ None → (false ≡ true) ↔ StartsAgain program m pc op o
  unresolved_starts none = never (λ s. some_is_none (resolved_at program m pc) s.starts.resolved s.starts.resolves none)

-- what a call there names
module _ (program : Program) (m pc next : ℕ) (insn : Insn) (found : insn_at program m pc ≡ Some (insn, next)) where
  pub ref_there : (call : CallAt program m pc) → ref_in (operand_of program m (Some (insn, next))) ≡ Some call.ref
  ref_there call = ap (λ f. ref_in (operand_of program m f)) (sym found ∙ call.stands) ∙ ap ref_in call.names

  pub same_ref : (call : CallAt program m pc) (ref : MemberRef) → ref_in (operand_of program m (Some (insn, next))) ≡ Some ref → call.ref ≡ ref
  same_ref call ref names = same_Some call.ref ref (sym (ref_there call) ∙ names)

  pub same_insn : (call : CallAt program m pc) → call.insn ≡ insn
  same_insn call = (some_pair_parts call.insn insn call.next next (sym call.stands ∙ found)).0

module _ (program : Program) (m pc next : ℕ) (insn : Insn) (found : insn_at program m pc ≡ Some (insn, next)) (o : AnObject) where
  named_here : (named : Option TypeRef) → type_in (operand_of program m (Some (insn, next))) ≡ named → type_in (operand_of program m (insn_at program m pc)) ≡ named
  named_here named names = ap (λ f. type_in (operand_of program m f)) found ∙ names

  pub cast_told : (named : TypeRef) (b : Bool) → may_raise FailingCast (opcode_of insn) ≡ true → type_in (operand_of program m (Some (insn, next))) ≡ Some named
      → (b ≡ true) ↔ FailsToFit program o named → (b ≡ true) ↔ FailsCast program m pc (opcode_of insn) o
  cast_told named b may names fails = (there, back)
    where
      there : b ≡ true → FailsCast program m pc (opcode_of insn) o
      there sure = record { may = may; type = named; named = named_here (Some named) names; fails = fails.0 sure }

      back : FailsCast program m pc (opcode_of insn) o → b ≡ true
      back cast = fails.1 (subst (λ t. FailsToFit program o t) (same_Some cast.type named (sym cast.named ∙ named_here (Some named) names)) cast.fails)

  pub unnamed_cast : type_in (operand_of program m (Some (insn, next))) ≡ None → (false ≡ true) ↔ FailsCast program m pc (opcode_of insn) o
  unnamed_cast none = never (λ cast. some_is_none (type_in (operand_of program m (insn_at program m pc))) cast.type cast.named (named_here None none))

  pub lacks_told : (call : CallAt program m pc) (ref : MemberRef) (b : Bool) → may_raise MissingInterface (opcode_of insn) ≡ true → ref_in (operand_of program m (Some (insn, next))) ≡ Some ref
      → (b ≡ true) ↔ FailsToFit program o ref.owner → (b ≡ true) ↔ LacksInterface program m pc (opcode_of insn) o
  lacks_told call ref b may names fails = (there, back)
    where
      there : b ≡ true → LacksInterface program m pc (opcode_of insn) o
      there sure = record { may = may; call = call; fails = subst (λ (r : MemberRef). FailsToFit program o r.owner) (sym (same_ref program m pc next insn found call ref names)) (fails.0 sure) }

      back : LacksInterface program m pc (opcode_of insn) o → b ≡ true
      back lacks = fails.1 (subst (λ (r : MemberRef). FailsToFit program o r.owner) (same_ref program m pc next insn found lacks.call ref names) lacks.fails)

  pub unnamed_lacks : ref_in (operand_of program m (Some (insn, next))) ≡ None → (false ≡ true) ↔ LacksInterface program m pc (opcode_of insn) o
  unnamed_lacks none = never (λ lacks. some_is_none (ref_in (operand_of program m (Some (insn, next)))) lacks.call.ref (ref_there program m pc next insn found lacks.call) none)

  pub unnamed_starts : ref_in (operand_of program m (Some (insn, next))) ≡ None → (false ≡ true) ↔ StartsAgain program m pc (opcode_of insn) o
  unnamed_starts none = never (λ s. some_is_none (ref_in (operand_of program m (Some (insn, next)))) s.call.ref (ref_there program m pc next insn found s.call) none)

  pub starts_told : (call : CallAt program m pc) (ref : MemberRef) (own : TypeRef) (resolved : ℕ) (b : Bool) → may_raise SecondStart (opcode_of insn) ≡ true
      → ref_in (operand_of program m (Some (insn, next))) ≡ Some ref → type_of_object program o ≡ Some own → resolved_at program m pc ≡ Some resolved
      → (b ≡ true) ↔ TakesStartOf program m (opcode_of insn) ref.owner resolved own → (b ≡ true) ↔ StartsAgain program m pc (opcode_of insn) o
  starts_told call ref own resolved b may names is_own resolves takes_it = (λ sure. there (takes_it.0 sure), λ again. takes_it.1 (back again.call again.starts))
    where
      there : TakesStartOf program m (opcode_of insn) ref.owner resolved own → StartsAgain program m pc (opcode_of insn) o
      there t = record {
        may = may;
        call = call;
        starts = record {
          named = (own, is_own, subst (λ (r : MemberRef). type_fits program own r.owner ≡ true) (sym (same_ref program m pc next insn found call ref names)) t.fits);
          own = own;
          is_own = is_own;
          method = t.method;
          is_method = t.is_method;
          resolved = resolved;
          resolves = resolves;
          starts = subst (λ x. takes program (opcode_of x) t.method.class resolved (receiver_class own) ≡ Start) (sym (same_insn program m pc next insn found call)) t.starts;
        };
      }

      back : (other : CallAt program m pc) → TakesStart program m pc other o → TakesStartOf program m (opcode_of insn) ref.owner resolved own
      back other s =
          let fit_own : s.named.0 ≡ own = same_Some s.named.0 own (sym s.named.1 ∙ is_own) in
          let start_own : s.own ≡ own = same_Some s.own own (sym s.is_own ∙ is_own) in
          let same_resolved : s.resolved ≡ resolved = same_Some s.resolved resolved (sym s.resolves ∙ resolves) in
          let fits : type_fits program own other.ref.owner ≡ true = subst (λ t. type_fits program t other.ref.owner ≡ true) fit_own s.named.2 in
          let by_own : takes program (opcode_of other.insn) s.method.class s.resolved (receiver_class own) ≡ Start = subst (λ t. takes program (opcode_of other.insn) s.method.class s.resolved (receiver_class t) ≡ Start) start_own s.starts in
          let by_resolved : takes program (opcode_of other.insn) s.method.class resolved (receiver_class own) ≡ Start = subst (λ r. takes program (opcode_of other.insn) s.method.class r (receiver_class own) ≡ Start) same_resolved by_own in
          record {
            fits = subst (λ (r : MemberRef). type_fits program own r.owner ≡ true) (same_ref program m pc next insn found other ref names) fits;
            method = s.method;
            is_method = s.is_method;
            starts = subst (λ x. takes program (opcode_of x) s.method.class resolved (receiver_class own) ≡ Start) (same_insn program m pc next insn found other) by_resolved;
          }

-- ---- all that an object may do

module _ (program : Program) (m pc op : ℕ) (o : AnObject) where
  pub by_cast : (b : Bool) → (b ≡ true) ↔ FailsCast program m pc op o → b ≡ true → (true ≡ true) ↔ ObjectRaises program m pc op o
  by_cast b told sure = (λ _. inl (told.0 sure), λ _. refl)

  pub by_start : (b : Bool) → (b ≡ true) ↔ StartsAgain program m pc op o → b ≡ true → (true ≡ true) ↔ ObjectRaises program m pc op o
  by_start b told sure = (λ _. inr (inl (told.0 sure)), λ _. refl)

  pub by_interface : (b s l : Bool) → (b ≡ true) ↔ FailsCast program m pc op o → b ≡ false → (s ≡ true) ↔ StartsAgain program m pc op o → s ≡ false
      → (l ≡ true) ↔ LacksInterface program m pc op o → (l ≡ true) ↔ ObjectRaises program m pc op o
  by_interface b s l cast no_cast_ start no_start_ lacks = (λ sure. inr (inr (lacks.0 sure)), back)
    where
      back : ObjectRaises program m pc op o → l ≡ true
      back (inl has) = absurd (both_ways b no_cast_ (cast.1 has))
      back (inr (inl has)) = absurd (both_ways s no_start_ (start.1 has))
      back (inr (inr has)) = lacks.1 has

  -- where no cause asks for an object, none raises
  pub quiet_objects : (may_raise FailingCast op || may_raise SecondStart op || may_raise MissingInterface op) ≡ false → ObjectRaises program m pc op o → ⊥
  quiet_objects quiet (inl cast) = both_ways (may_raise FailingCast op || may_raise SecondStart op || may_raise MissingInterface op) quiet (or_left (may_raise FailingCast op || may_raise SecondStart op) (may_raise MissingInterface op) (or_left (may_raise FailingCast op) (may_raise SecondStart op) cast.may))
  quiet_objects quiet (inr (inl start)) = both_ways (may_raise FailingCast op || may_raise SecondStart op || may_raise MissingInterface op) quiet (or_left (may_raise FailingCast op || may_raise SecondStart op) (may_raise MissingInterface op) (or_right (may_raise FailingCast op) (may_raise SecondStart op) start.may))
  quiet_objects quiet (inr (inr lacks)) = both_ways (may_raise FailingCast op || may_raise SecondStart op || may_raise MissingInterface op) quiet (or_right (may_raise FailingCast op || may_raise SecondStart op) (may_raise MissingInterface op) lacks.may)
