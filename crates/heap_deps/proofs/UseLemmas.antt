-- The accesses that a node makes by a use of its base.
use Rattle.std.specs.Prelude.{◌↔◌}
use Rattle.std.proofs.Common.{◌≡◌, ℕ, ◌+◌, List, Option, None, Some, Contains, ap, sym, ◌∙◌, subst}
use Rattle.std.proofs.lemmas.Option.{same_Some}
use Rattle.jo_ids.specs.declared.ObjKey.{ObjKey}
use Rattle.dep_nodes.specs.declared.kinds.NodeKind.{NodeKind}
use Rattle.dep_nodes.specs.OnceLists.{IsOnceEach}
use Rattle.dependence.specs.declared.facts.InstKey.{InstKey}
use Rattle.dependence.specs.declared.facts.Fact.TheVariants.{Holds}
use Rattle.dependence.specs.declared.flows.FlowNode.{FlowNode}
use Rattle.dependence.specs.declared.flows.FlowRow.{FlowRow}
use Rattle.dependence.specs.declared.flows.Use.{Use}
use Rattle.dependence.specs.NodePlaces.{named_by}
use Rattle.fact_sets.specs.declared.numbered.Holder.TheVariants.{Node}
use Rattle.fact_sets.specs.declared.numbered.NumberedFact.TheVariants.{Holds as IsHeld}
use Rattle.fact_sets.specs.FactLists.{FactLists, IsInstance}
use Rattle.fact_sets.specs.Seen.{TellsApart, instance_seen, Known}
use Rattle.method_views.specs.Bases.{IsBelowTop}
use Rattle.heap_deps.specs.declared.instructions.BaseAccess.{BaseAccess}
use Rattle.heap_deps.specs.Instructions.{base_access}
use Rattle.heap_deps.specs.Adds.{From}
use Rattle.heap_deps.specs.Items.{Item}
use Rattle.heap_deps.specs.ObjectCells.{OfObject, IsPartAccess}
use Rattle.heap_deps.specs.Accesses.{IsNodeAt, UseMakes}
use Rattle.heap_deps.proofs.HeldLemmas.{from_held}

pub same_node : (flow : List FlowRow) (n : ℕ) (a b : FlowNode) → IsNodeAt flow n a → IsNodeAt flow n b → a ≡ b
same_node flow n a b one other = same_Some a b (sym one ∙ other)

module _ {C : Type 0} (list : C → List ℕ) (tells : TellsApart list) (L : FactLists C) (i : ℕ) (key : InstKey C) (once : IsOnceEach L.instances) (is : IsInstance L.instances i key)
    (typed : List (Option ℕ)) (flow : List FlowRow) (first : ℕ) (u : Use) (node from : FlowNode) (at : IsNodeAt flow u.node node) (defines : IsNodeAt flow u.from from) where
  pub use_told : (access : BaseAccess) (objects : List ℕ) (n : ℕ) (kind : NodeKind) → base_access node.kind node.insn node.field ≡ Some access → IsBelowTop typed access.pc access.depth u.place
      → kind ≡ named_by from.kind u.place → n ≡ first + u.node → ((x : ℕ) → Contains objects x ↔ Contains L.facts (IsHeld (Node i kind) x)) → (x : Item)
      → From objects (OfObject list L.objects (IsPartAccess n access.part access.write)) x ↔ UseMakes (Known list L) (instance_seen list key) typed flow first u x
  use_told access objects n kind stands below named number each x = (there, back)
    where
      told : From objects (OfObject list L.objects (IsPartAccess n access.part access.write)) x ↔ ((o : ObjKey (List ℕ)) × Known list L (Holds (instance_seen list key) kind o) × IsPartAccess n access.part access.write o x)
      told = from_held list tells L objects i key kind (IsPartAccess n access.part access.write) once is each x

      there : From objects (OfObject list L.objects (IsPartAccess n access.part access.write)) x → UseMakes (Known list L) (instance_seen list key) typed flow first u x
      there from_objects =
          let (o, known, made) = told.0 from_objects in
          record {
            node = node;
            at = at;
            access = access;
            stands = stands;
            below = below;
            from = from;
            defines = defines;
            o = o;
            holds = subst (λ (k : NodeKind). Known list L (Holds (instance_seen list key) k o)) named known;
            makes = subst (λ (m : ℕ). IsPartAccess m access.part access.write o x) number made;
          }

      back : UseMakes (Known list L) (instance_seen list key) typed flow first u x → From objects (OfObject list L.objects (IsPartAccess n access.part access.write)) x
      back makes =
          let nodes : makes.node ≡ node = same_node flow u.node makes.node node makes.at at in
          let froms : makes.from ≡ from = same_node flow u.from makes.from from makes.defines defines in
          let same : makes.access ≡ access = same_Some makes.access access (sym makes.stands ∙ ap (λ (k : FlowNode). base_access k.kind k.insn k.field) nodes ∙ stands) in
          let kinds : named_by makes.from.kind u.place ≡ kind = ap (λ (k : FlowNode). named_by k.kind u.place) froms ∙ sym named in
          told.1 (
            makes.o,
            subst (λ (k : NodeKind). Known list L (Holds (instance_seen list key) k makes.o)) kinds makes.holds,
            subst (λ (m : ℕ). IsPartAccess m access.part access.write makes.o x) (sym number) (subst (λ (a : BaseAccess). IsPartAccess (first + u.node) a.part a.write makes.o x) same makes.makes),
          )

  -- where the instruction accesses no part of a base, or the use isn't of it
  pub no_access : base_access node.kind node.insn node.field ≡ None → (x : Item) → UseMakes (Known list L) (instance_seen list key) typed flow first u x → ⊥
  no_access none x makes =
      let nodes : makes.node ≡ node = same_node flow u.node makes.node node makes.at at in
      let e : base_access node.kind node.insn node.field ≡ Some makes.access = sym (ap (λ (k : FlowNode). base_access k.kind k.insn k.field) nodes) ∙ makes.stands in
      absurd (cc)

  pub no_base : (access : BaseAccess) → base_access node.kind node.insn node.field ≡ Some access → (IsBelowTop typed access.pc access.depth u.place → ⊥) → (x : Item) → UseMakes (Known list L) (instance_seen list key) typed flow first u x → ⊥
  no_base access stands other x makes =
      let nodes : makes.node ≡ node = same_node flow u.node makes.node node makes.at at in
      let same : makes.access ≡ access = same_Some makes.access access (sym makes.stands ∙ ap (λ (k : FlowNode). base_access k.kind k.insn k.field) nodes ∙ stands) in
      other (subst (λ (a : BaseAccess). IsBelowTop typed a.pc a.depth u.place) same makes.below)
