-- Which calls start the threads of objects.
use Rattle.std.specs.Prelude.{IsTrue, ◌↔◌, is_some}
use Rattle.std.proofs.Common.{◌≡◌, ℕ, Bool, true, false, ◌==◌, Option, None, Some, option_map, refl, ap, sym, ◌∙◌, subst}
use Rattle.std.proofs.lemmas.Bool.{both_ways}
use Rattle.std.proofs.lemmas.Option.{same_Some}
use Rattle.jo_text.specs.Descriptors.{IsMethodDesc, SpellsMethod}
use Rattle.jo_insn.specs.declared.instructions.Insn.{Insn}
use Rattle.jo_prog.specs.declared.program.Program.{Program}
use Rattle.jo_prog.specs.declared.program.MemberRef.{MemberRef}
use Rattle.jo_prog.specs.declared.program.Operand.{Operand}
use Rattle.jo_prog.specs.declared.program.Operand.TheVariants.{Unused, Int, Text, OfType, Member}
use Rattle.jo_prog.specs.declared.program.TypeRef.{TypeRef}
use Rattle.jo_prog.specs.Sites.{opcode_of, sites_of, site_of}
use Rattle.dependence.specs.FactRules.{SiteAt}
use Rattle.dependence.specs.WideGraph.{insn_at, operand_of, is_call, resolved_at}
use Rattle.method_views.specs.Standing.{ref_in}
use Rattle.method_views.proofs.NodeLemmas.{ref_there, same_ref, same_insn}
use Rattle.dep_nodes.specs.declared.accesses.Cell.{Cell}
use Rattle.dependence.specs.FlowGraph.{AnObject}
use Rattle.heap_deps.specs.Items.{Item}
use Rattle.heap_deps.specs.Accesses.{MayStartAt, IsStartCall, StartsThread, StartsOn, ReadsAndWrites}

abbrev HasSite : Program → ℕ → ℕ → Type 0
HasSite program m pc = (site : ℕ) × SiteAt program m pc None site

pub site_told : (program : Program) (m pc : ℕ) (r : Option ℕ) (b : Bool) → r ≡ site_of program.sites m pc None → b ≡ is_some r → IsTrue b ↔ HasSite program m pc
site_told program m pc r b is told = by_site r (is ∙ ap (λ ys. site_of ys m pc None) program.sites_are) told
  where
    by_site : (r : Option ℕ) → r ≡ site_of (sites_of program.methods) m pc None → b ≡ is_some r → IsTrue b ↔ HasSite program m pc
    by_site (Some site) at e = (λ _. (site, sym at), λ _. e)
    by_site None at e = (λ sure. absurd (both_ways b e sure), λ has. (let found : None ≡ Some has.0 = at ∙ has.1 in absurd (cc)))

member_is : (o : Option Operand) (ref : MemberRef) → ref_in o ≡ Some ref → o ≡ Some (Member ref)
member_is None ref e = absurd (cc)
member_is (Some Unused) ref e = absurd (cc)
member_is (Some (Int z)) ref e = absurd (cc)
member_is (Some (Text text)) ref e = absurd (cc)
member_is (Some (OfType type)) ref e = absurd (cc)
member_is (Some (Member own)) ref e = ap (λ r. Some (Member r)) (same_Some own ref e)

module _ (program : Program) (m pc next : ℕ) (insn : Insn) (found : insn_at program m pc ≡ Some (insn, next)) where
  pub quiet_call : ((is_call (opcode_of insn) ≡ true) × ((opcode_of insn == 184) ≡ false) → ⊥) → IsStartCall program m pc (opcode_of insn) None
  quiet_call other named may = other (ap (λ i. is_call (opcode_of i)) (sym (same_insn program m pc next insn found may.call)) ∙ may.call.is_call, may.is_instance)

  pub no_site : (HasSite program m pc → ⊥) → IsStartCall program m pc (opcode_of insn) None
  no_site none named may = none (may.site, may.is_site)

  pub no_member : ref_in (operand_of program m (Some (insn, next))) ≡ None → IsStartCall program m pc (opcode_of insn) None
  no_member none named may = let there = ref_there program m pc next insn found may.call in absurd (cc)

  module _ (ref : MemberRef) (names : ref_in (operand_of program m (Some (insn, next))) ≡ Some ref) where
    pub not_described : (IsMethodDesc ref.desc → ⊥) → IsStartCall program m pc (opcode_of insn) None
    not_described none named may = none (may.call.desc, subst (λ (r : MemberRef). SpellsMethod may.call.desc r.desc) (same_ref program m pc next insn found may.call ref names) may.call.spells)

    pub start_call : (is_call (opcode_of insn) ≡ true) × ((opcode_of insn == 184) ≡ false) → HasSite program m pc → IsMethodDesc ref.desc → IsStartCall program m pc (opcode_of insn) (Some ref)
    start_call (calls, instance_call) site (desc, spells) = (
      record {
        call = record { insn = insn; next = next; stands = found; is_call = calls; ref = ref; names = member_is (operand_of program m (Some (insn, next))) ref names; desc = desc; spells = spells };
        is_op = refl;
        is_named = refl;
        is_instance = instance_call;
        site = site.0;
        is_site = site.1;
      },
      λ named may. sym may.is_named ∙ ap (λ (r : MemberRef). r.owner) (same_ref program m pc next insn found may.call ref names),
    )

  -- ---- on an object

  same_op : (op : ℕ) (named : TypeRef) → MayStartAt program m pc op named → op ≡ opcode_of insn
  same_op op named may = sym may.is_op ∙ ap opcode_of (same_insn program m pc next insn found may.call)

  pub never_starts : IsStartCall program m pc (opcode_of insn) None → (o : AnObject) → StartsOn program m pc o → ⊥
  never_starts none o starts = none starts.named (subst (λ op. MayStartAt program m pc op starts.named) (same_op starts.op starts.named starts.may) starts.may)

  pub starts_told : (ref : MemberRef) (resolved : ℕ) → IsStartCall program m pc (opcode_of insn) (Some ref) → resolved_at program m pc ≡ Some resolved → (o : AnObject)
      → StartsThread program m (opcode_of insn) ref.owner resolved o ↔ StartsOn program m pc o
  starts_told ref resolved call resolves o = (λ starts. record { op = opcode_of insn; named = ref.owner; may = call.0; resolved = resolved; resolves = resolves; starts = starts }, back)
    where
      back : StartsOn program m pc o → StartsThread program m (opcode_of insn) ref.owner resolved o
      back on =
          let ops : on.op ≡ opcode_of insn = same_op on.op on.named on.may in
          let may : MayStartAt program m pc (opcode_of insn) on.named = subst (λ op. MayStartAt program m pc op on.named) ops on.may in
          let names : on.named ≡ ref.owner = call.1 on.named may in
          let same : on.resolved ≡ resolved = same_Some on.resolved resolved (sym on.resolves ∙ resolves) in
          subst (λ r. StartsThread program m (opcode_of insn) ref.owner r o) same
          (subst (λ (t : TypeRef). StartsThread program m (opcode_of insn) t on.resolved o) names (subst (λ op. StartsThread program m op on.named on.resolved o) ops on.starts))

pub insn_stands : (o : Option (Insn × ℕ)) (i : Option Insn) (insn : Insn) → i ≡ option_map (λ (found : Insn × ℕ). found.0) o → i ≡ Some insn → (next : ℕ) × (o ≡ Some (insn, next))
insn_stands None i insn is e = absurd (cc)
insn_stands (Some (own, next)) i insn is e = (next, ap (λ x. Some (x, next)) (same_Some own insn (sym is ∙ e)))

-- where it does, the accesses are those of its cell
pub where_true : {S : Type 0} (n : ℕ) (cell own : Cell) → S → cell ≡ own → (x : Item) → ReadsAndWrites n cell x ↔ (S × ReadsAndWrites n own x)
where_true n cell own sure same x = (λ made. (sure, subst (λ (c : Cell). ReadsAndWrites n c x) same made), λ both. subst (λ (c : Cell). ReadsAndWrites n c x) (sym same) both.1)
