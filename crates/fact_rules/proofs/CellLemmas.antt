-- What instructions load and store, node by node.
use Rattle.std.specs.Prelude.{◌↔◌, ◌-◌, nat_le, cond, option_map, slice_get}
use Rattle.std.specs.Option.{is_some}
use Rattle.std.proofs.Common.{inl, inr, ◌⊎◌, ◌≡◌, ℕ, ◌<◌, ◌≤◌, Bool, true, false, not, ◌&&◌, ◌||◌, ◌==◌, List, ◌++◌, length, Contains, Option, Some, None, refl, sym, ◌∙◌, ap, subst, arith}
use Rattle.std.proofs.lemmas.Bool.{agree_below, agree_below_at, both_ways, and_parts, eqb-true, leb-true}
use Rattle.std.proofs.lemmas.List.Elements.{Contains-append_left, Contains-append_right, Contains-append_cases}
use Rattle.std.proofs.lemmas.Option.{same_Some, some_pair_parts}
use Rattle.jo_ids.specs.declared.ObjKey.{ObjKey}
use Rattle.jo_insn.specs.declared.instructions.Insn.{Insn}
use Rattle.jo_prog.specs.declared.program.Program.{Program}
use Rattle.jo_prog.specs.Operations.{within}
use Rattle.jo_prog.specs.Sites.{opcode_of}
use Rattle.contexts.specs.Policies.{ContextPolicy}
use Rattle.dep_nodes.specs.declared.kinds.NodeKind.{NodeKind}
use Rattle.dep_nodes.specs.declared.kinds.NodeKind.TheVariants.{Instr, Call}
use Rattle.dep_nodes.specs.OnceLists.{IsOnceEach}
use Rattle.dependence.specs.declared.flow.Place.{Place}
use Rattle.dependence.specs.declared.flow.Place.TheVariants.{Stack}
use Rattle.dependence.specs.declared.flows.FlowNode.{FlowNode}
use Rattle.dependence.specs.declared.flows.FlowRow.{FlowRow}
use Rattle.dependence.specs.declared.flows.Use.{Use}
use Rattle.dependence.specs.declared.facts.InstKey.{InstKey}
use Rattle.dependence.specs.declared.facts.FactCell.{FactCell}
use Rattle.dependence.specs.declared.facts.FactCell.TheVariants.{Field as FieldOf, Elements, Static}
use Rattle.dependence.specs.declared.facts.Fact.{Fact}
use Rattle.dependence.specs.declared.facts.Fact.TheVariants.{Reached, Holds, CellHolds, Target, Fork, Throws, Stalls}
use Rattle.dependence.specs.FactRules.{is_array_load, is_array_store, BaseHolds, TopHolds}
use Rattle.dependence.specs.FlowGraph.{base_depth, BasePlace, of_insn, of_call, PlaceBelow}
use Rattle.dependence.specs.GraphsAsData.{kind_at, pc_kept, node_with, IsWideGraph}
use Rattle.dependence.specs.NodePlaces.{named_by, stack_use_of}
use Rattle.dependence.specs.WideGraph.{insn_at, is_call, node_of_insn, resolved_field_at, StandsWith, IsWideNode}
use Rattle.fact_sets.specs.declared.numbered.CellNumber.{CellNumber}
use Rattle.fact_sets.specs.declared.numbered.CellNumber.TheVariants.{Field as FieldAt, Elements as ElementsOf}
use Rattle.fact_sets.specs.declared.numbered.Holder.TheVariants.{Node, Cell}
use Rattle.fact_sets.specs.declared.numbered.NumberedFact.{NumberedFact}
use Rattle.fact_sets.specs.declared.numbered.NumberedFact.TheVariants.{Holds as IsHeld}
use Rattle.fact_sets.specs.FactLists.{FactLists, HasFact, Says, IsInstance, IsObject, IsCell, of_field, of_elements, of_static, in_cell, object_pair}
use Rattle.fact_sets.specs.Seen.{TellsApart, object_seen, cell_seen, fact_seen, Known}
use Rattle.method_views.specs.Bases.{IsBelowTop}
use Rattle.method_views.specs.Heights.{HeightIs}
use Rattle.method_views.specs.InstanceRules
use Rattle.method_views.specs.InstanceRules.{ByCell}
use Rattle.method_views.specs.Standing.{standing_by}
use Rattle.method_views.specs.UseTables.{StandsAt, IsUseTable}
use Rattle.method_views.proofs.NodeLemmas.{told_by_node, found_there, wide_stands, kind_below, node_kept, kind_says}
use Rattle.fact_rules.specs.declared.cell_rules.Access.{Access}
use Rattle.fact_rules.specs.declared.cell_rules.Access.TheVariants.{OfStatic, OfField, OfElements}
use Rattle.fact_rules.specs.Adds.{Adds, From, FromBelow}
use Rattle.fact_rules.specs.Additions.{IsObjectSeen, OfObject}
use Rattle.fact_rules.specs.Places.{IsAtNode, instance_of}
use Rattle.fact_rules.specs.CellSteps.{UseHasNumber, HoldsBelow, AreSeen, number_on, cell_on, access_of, CellGives, BasesGive, AccessGives, CellsAt}
use Rattle.fact_rules.proofs.SeenLemmas.{same_cell, kept_known}
use Rattle.fact_rules.proofs.ListLevel.{held_known, known_held}
use Rattle.fact_rules.proofs.PlaceLemmas.{plain_node, same_insn, passes, use_place, place_use, pops_read, both_ways_on}

-- ---- numbers of objects

pub numbers_added : (typed : List (Option ℕ)) (wide : List FlowRow) (facts : List NumberedFact) (instance pc depth : ℕ) (u : Use) (d spot : NodeKind) (old held new : List ℕ) → IsBelowTop typed pc depth u.place → kind_at wide u.from ≡ Some d → spot ≡ named_by d u.place
    → ((x : ℕ) → Contains held x ↔ Contains facts (IsHeld (Node instance spot) x)) → new ≡ old ++ held → Adds (Contains old) (Contains new) (UseHasNumber typed wide facts instance pc depth u)
numbers_added typed wide facts instance pc depth u d spot old held new below defines named each made x = (there, back)
  where
    there : Contains new x → Contains old x ⊎ UseHasNumber typed wide facts instance pc depth u x
    there among = elim (Contains-append_cases old held x (subst (λ xs. Contains xs x) made among)) [
      | inl before ↦ inl before
      | inr last ↦ inr (record { place = below; d = d; defines = defines; holds = subst (λ k. Contains facts (IsHeld (Node instance k) x)) named ((each x).0 last) })
    ]

    back : Contains old x ⊎ UseHasNumber typed wide facts instance pc depth u x → Contains new x
    back (inl before) = subst (λ xs. Contains xs x) (sym made) (Contains-append_left old held x before)
    back (inr has) =
        let same : has.d ≡ d = same_Some has.d d (sym has.defines ∙ defines) in
        let there_ = subst (λ k. Contains facts (IsHeld (Node instance k) x)) (ap (λ k. named_by k u.place) same ∙ sym named) has.holds in
        subst (λ xs. Contains xs x) (sym made) (Contains-append_right old held x ((each x).1 there_))

pub inside_added : (old held new : List ℕ) (count : ℕ) → new ≡ old ++ held → ((x : ℕ) → Contains old x → x < count) → ((x : ℕ) → Contains held x → x < count) → (x : ℕ) → Contains new x → x < count
inside_added old held new count made first second x among = elim (Contains-append_cases old held x (subst (λ xs. Contains xs x) made among)) [
  | inl before ↦ first x before
  | inr last ↦ second x last
]

-- what exactly these numbers make
pub from_seen : {C X : Type 0} (list : C → List ℕ) (objects : List (ℕ × C)) (numbers : List ℕ) (P : ObjKey (List ℕ) → Type 0) (makes : ObjKey (List ℕ) → X → Type 0) → AreSeen list objects numbers P
    → (g : X) → From numbers (OfObject list objects makes) g ↔ ((o : ObjKey (List ℕ)) × P o × makes o g)
from_seen {C} {X} list objects numbers P makes are g = (there, back)
  where
    there : From numbers (OfObject list objects makes) g → (o : ObjKey (List ℕ)) × P o × makes o g
    there (x, among, (o, seen, made)) = (o, (are o).0 (x, among, seen), made)

    back : (o : ObjKey (List ℕ)) × P o × makes o g → From numbers (OfObject list objects makes) g
    back (o, p, made) = let one = (are o).1 p in (one.0, one.1, (o, one.2, made))

module _ (program : Program) (m : ℕ) (H : ℕ → ℕ → Type 0) (typed : List (Option ℕ)) (heights : (pc height : ℕ) → HeightIs typed pc height ↔ H pc height) (wide : List FlowRow) (is : IsWideGraph program m H wide)
    (table : List (List Use)) (uses : IsUseTable wide table) (n pc : ℕ) (insn : Insn) (at : IsAtNode program m wide n pc insn) (depth : ℕ) (plain : is_call (opcode_of insn) ≡ false) (first : 1 ≤ depth) (last : depth ≤ (stack_use_of (opcode_of insn)).pops)
    {C : Type 0} (list : C → List ℕ) (tells : TellsApart list) (lists : FactLists C) (instance : ℕ) (context : C) (once : IsOnceEach lists.instances) (named : IsInstance lists.instances instance (instance_of m context)) where
  pub seen_below : (row : List Use) (numbers : List ℕ) → ((u : Use) → Contains row u ↔ StandsAt table n u) → ((x : ℕ) → Contains numbers x ↔ From row (UseHasNumber typed wide lists.facts instance pc depth) x)
      → AreSeen list lists.objects numbers (HoldsBelow program (Known list lists) H (instance_of m (list context)) pc depth)
  seen_below row numbers each has o = (there, back)
    where
      there : (x : ℕ) × Contains numbers x × IsObjectSeen list lists.objects x o → HoldsBelow program (Known list lists) H (instance_of m (list context)) pc depth o
      there (x, among, seen) =
          let from_ = (has x).0 among in
          let u = from_.0 in
          let h = from_.2 in
          let held = held_known list tells lists instance x (instance_of m context) (named_by h.d u.place) o named h.holds seen in
          let (height, high, e) = h.place in
          record {
            place = u.place;
            below = (record { insn = insn; next = at.next; is = at.stands; height = height; has_height = (heights pc height).0 high }, e);
            holds = use_place program m H wide is n pc insn at table uses (Known list lists) (list context) u o ((each u).0 from_.1) (record { d = h.d; defines = h.defines; holds = held });
          }

      back : HoldsBelow program (Known list lists) H (instance_of m (list context)) pc depth o → (x : ℕ) × Contains numbers x × IsObjectSeen list lists.objects x o
      back h =
          let reads = pops_read program m H wide is n pc insn at depth h.place plain first last h.below in
          let use_ = place_use program m H wide is n pc insn at table uses (Known list lists) (list context) h.place o reads h.holds in
          let one = known_held list tells lists instance (instance_of m context) (named_by use_.holds.d use_.u.place) o once named use_.holds.holds in
          let standing = h.below.0 in
          let top : IsBelowTop typed pc depth use_.u.place = (standing.height, (heights pc standing.height).1 standing.has_height, use_.place ∙ h.below.1) in
          (one.x, (has one.x).1 (use_.u, (each use_.u).1 use_.there, record { place = top; d = use_.holds.d; defines = use_.holds.defines; holds = one.there }), one.seen)

-- ---- what a cell holds

module _ {C : Type 0} (list : C → List ℕ) (tells : TellsApart list) (lists : FactLists C) (once : IsOnceEach lists.objects) where
  cell_once : (a b : CellNumber) (key : FactCell C) → IsCell lists.objects a key → IsCell lists.objects b key → a ≡ b
  cell_once _ _ _ (of_field f x key at) (of_field _ y _ bt) = ap (FieldAt f) (once x y (object_pair key) at bt)
  cell_once _ _ _ (of_elements x key at) (of_elements y _ bt) = ap ElementsOf (once x y (object_pair key) at bt)
  cell_once _ _ _ (of_static f) (of_static _) = refl

  record ContentSeen (number : CellNumber) (o : ObjKey (List ℕ)) : Type 0 where
    x : ℕ
    there : Contains lists.facts (IsHeld (Cell number) x)
    seen : IsObjectSeen list lists.objects x o

  content_says : (n : NumberedFact) (number : CellNumber) (cell : FactCell C) (k : ObjKey C) → IsCell lists.objects number cell → Contains lists.facts n → Says lists.instances lists.objects n (CellHolds cell k) → ContentSeen number (object_seen list k)
  content_says _ number _ _ named there (in_cell other cell x k is at) =
      record { x = x; there = subst (λ c. Contains lists.facts (IsHeld (Cell c) x)) (cell_once other number cell is named) there; seen = (k, at, refl) }

  content_kept : (number : CellNumber) (cell : FactCell C) (o : ObjKey (List ℕ)) → IsCell lists.objects number cell → (fact : Fact C) → HasFact lists fact → fact_seen list fact ≡ CellHolds (cell_seen list cell) o → ContentSeen number o
  content_kept number cell o named (CellHolds other k) has e =
      let same : other ≡ cell = same_cell list tells other cell (cc) in
      let objects : object_seen list k ≡ o = cc in
      let there : HasFact lists (CellHolds cell k) = subst (λ c. HasFact lists (CellHolds c k)) same has in
      subst (λ q. ContentSeen number q) objects (content_says there.numbered number cell k named there.there there.says)
  content_kept number cell o named (Reached a) has e = absurd (cc)
  content_kept number cell o named (Holds a spot k) has e = absurd (cc)
  content_kept number cell o named (Target a p b) has e = absurd (cc)
  content_kept number cell o named (Fork a p b) has e = absurd (cc)
  content_kept number cell o named (Throws a) has e = absurd (cc)
  content_kept number cell o named (Stalls a) has e = absurd (cc)

  pub from_cell : {X : Type 0} (held_ : List ℕ) (number : CellNumber) (cell : FactCell C) (makes : ObjKey (List ℕ) → X → Type 0) → IsCell lists.objects number cell
      → ((x : ℕ) → Contains held_ x ↔ Contains lists.facts (IsHeld (Cell number) x)) → (g : X)
      → From held_ (OfObject list lists.objects makes) g ↔ ((o : ObjKey (List ℕ)) × Known list lists (CellHolds (cell_seen list cell) o) × makes o g)
  from_cell {X} held_ number cell makes named each g = (there, back)
    where
      there : From held_ (OfObject list lists.objects makes) g → (o : ObjKey (List ℕ)) × Known list lists (CellHolds (cell_seen list cell) o) × makes o g
      there (x, among, (o, (key, at, seen), made)) =
          let known : Known list lists (CellHolds (cell_seen list cell) (object_seen list key)) =
          kept_known list tells lists (CellHolds cell key) (record { numbered = IsHeld (Cell number) x; there = (each x).0 among; says = in_cell number cell x key named at })
          in
          (o, subst (λ q. Known list lists (CellHolds (cell_seen list cell) q)) seen known, made)

      back : (o : ObjKey (List ℕ)) × Known list lists (CellHolds (cell_seen list cell) o) × makes o g → From held_ (OfObject list lists.objects makes) g
      back (o, known, made) =
          let one = content_kept number cell o named known.fact known.has known.seen in
          (one.x, (each one.x).1 one.there, (o, one.seen, made))

-- the cell of an object that has a number
pub cell_named : {C : Type 0} (objects : List (ℕ × C)) (field : Option ℕ) (x : ℕ) (key : ObjKey C) → IsObject objects x key → IsCell objects (number_on field x) (cell_on field key)
cell_named objects None x key at = of_elements x key at
cell_named objects (Some f) x key at = of_field f x key at

pub cell_on_seen : {C : Type 0} (list : C → List ℕ) (field : Option ℕ) (key : ObjKey C) → cell_seen list (cell_on field key) ≡ cell_on field (object_seen list key)
cell_on_seen list None key = refl
cell_on_seen list (Some f) key = refl

-- ---- opcodes

-- what the opcode of an access is
abbrev pub IsOpcode : Access → ℕ → Type 0
IsOpcode (OfElements false) op = is_array_load op ≡ true
IsOpcode (OfElements true) op = is_array_store op ≡ true
IsOpcode (OfStatic false) op = (op == 178) ≡ true
IsOpcode (OfStatic true) op = (op == 179) ≡ true
IsOpcode (OfField false) op = (op == 180) ≡ true
IsOpcode (OfField true) op = (op == 181) ≡ true

abbrev Told : ℕ → Option Access → Type 0
Told op None = Unit {0}
Told op (Some access) = IsOpcode access op

told_if : (op : ℕ) (b : Bool) (x rest : Option Access) → (b ≡ true → Told op x) → Told op rest → Told op (cond b x rest)
told_if op true x rest first other = first refl
told_if op false x rest first other = other

opcode_told : (op : ℕ) → Told op (access_of op)
opcode_told op =
    told_if op (within 46 53 op) (Some (OfElements false)) _ (λ e. e)
    (told_if op (within 79 86 op) (Some (OfElements true)) _ (λ e. e)
    (told_if op (op == 178) (Some (OfStatic false)) _ (λ e. e)
    (told_if op (op == 179) (Some (OfStatic true)) _ (λ e. e)
    (told_if op (op == 180) (Some (OfField false)) _ (λ e. e)
    (told_if op (op == 181) (Some (OfField true)) None (λ e. e) tt)))))

pub access_is : (op : ℕ) (access : Access) → access_of op ≡ Some access → IsOpcode access op
access_is op access e = subst (Told op) e (opcode_told op)

-- and so it is an access
op_at : (k op : ℕ) → (op == k) ≡ true → access_of op ≡ access_of k
op_at k op e = ap access_of (eqb-true op k e)

pub is_access : (op : ℕ) (access : Access) → IsOpcode access op → access_of op ≡ Some access
is_access op (OfElements false) e = ap (λ b. cond b (Some (OfElements false)) (cond (within 79 86 op) (Some (OfElements true)) (cond (op == 178) (Some (OfStatic false)) (cond (op == 179) (Some (OfStatic true)) (cond (op == 180) (Some (OfField false)) (cond (op == 181) (Some (OfField true)) None)))))) e
is_access op (OfElements true) e =
    ap (λ b. cond b (Some (OfElements false)) (cond (within 79 86 op) (Some (OfElements true)) (cond (op == 178) (Some (OfStatic false)) (cond (op == 179) (Some (OfStatic true)) (cond (op == 180) (Some (OfField false)) (cond (op == 181) (Some (OfField true)) None)))))) (by_test (within 46 53 op) refl)
    ∙ ap (λ b. cond b (Some (OfElements true)) (cond (op == 178) (Some (OfStatic false)) (cond (op == 179) (Some (OfStatic true)) (cond (op == 180) (Some (OfField false)) (cond (op == 181) (Some (OfField true)) None))))) e
  where
    by_test : (b : Bool) → within 46 53 op ≡ b → b ≡ false
    by_test false f = refl
    by_test true f =
        let high : op ≤ 53 = leb-true op 53 (and_parts (nat_le 46 op) (nat_le op 53) f).1 in
        let low : 79 ≤ op = leb-true 79 op (and_parts (nat_le 79 op) (nat_le op 86) e).0 in
        absurd (omega (arith, high, low))
is_access op (OfStatic false) e = op_at 178 op e
is_access op (OfStatic true) e = op_at 179 op e
is_access op (OfField false) e = op_at 180 op e
is_access op (OfField true) e = op_at 181 op e

-- what an instruction with such an opcode pops
pub record IsReady (op : ℕ) : Type 0 where
  pub plain : is_call op ≡ false
  pub pops : base_depth op ≤ (stack_use_of op).pops

ready_at : (k op : ℕ) → is_call k ≡ false → base_depth k ≤ (stack_use_of k).pops → (op == k) ≡ true → IsReady op
ready_at k op plain pops e = let same : k ≡ op = sym (eqb-true op k e) in subst IsReady same (record { plain = plain; pops = pops })

ready_within : (low high op : ℕ) → agree_below (λ k. not (within low high k) || not (is_call k) && nat_le (base_depth k) (stack_use_of k).pops) (λ k. true) 256 ≡ true → high < 256 → within low high op ≡ true → IsReady op
ready_within low high op all below e =
    let top : op ≤ high = leb-true op high (and_parts (nat_le low op) (nat_le op high) e).1 in
    let here = agree_below_at (λ k. not (within low high k) || not (is_call k) && nat_le (base_depth k) (stack_use_of k).pops) (λ k. true) 256 op all (omega (arith, top, below)) in
    let both = and_parts (not (is_call op)) (nat_le (base_depth op) (stack_use_of op).pops) (second (within low high op) (not (is_call op) && nat_le (base_depth op) (stack_use_of op).pops) e here) in
    record { plain = negated (is_call op) both.0; pops = leb-true (base_depth op) (stack_use_of op).pops both.1 }
  where
    second : (a b : Bool) → a ≡ true → (not a || b) ≡ true → b ≡ true
    second true b f g = g
    second false b f g = absurd (cc)

    negated : (b : Bool) → not b ≡ true → b ≡ false
    negated true f = absurd (cc)
    negated false f = refl

pub elements_ready : (store : Bool) (op : ℕ) → IsOpcode (OfElements store) op → IsReady op
elements_ready false op e = ready_within 46 53 op refl (omega arith) e
elements_ready true op e = ready_within 79 86 op refl (omega arith) e

pub field_ready : (store : Bool) (op : ℕ) → IsOpcode (OfField store) op → IsReady op
field_ready false op e = ready_at 180 op refl (omega arith) e
field_ready true op e = ready_at 181 op refl (omega arith) e

pub static_plain : (store : Bool) (op : ℕ) → IsOpcode (OfStatic store) op → is_call op ≡ false
static_plain false op e = ap is_call (eqb-true op 178 e)
static_plain true op e = ap is_call (eqb-true op 179 e)

pub static_pops : (store : Bool) (op : ℕ) → IsOpcode (OfStatic store) op → store ≡ true → 1 ≤ (stack_use_of op).pops
static_pops false op e stores = absurd (cc)
static_pops true op e stores = let one : (stack_use_of op).pops ≡ 1 = ap (λ k. (stack_use_of k).pops) (eqb-true op 179 e) in omega (arith, one)

depth_by : (b c d : Bool) → 1 ≤ cond b 2 (cond c 3 (cond d 2 1))
depth_by true c d = omega arith
depth_by false true d = omega arith
depth_by false false true = omega arith
depth_by false false false = omega arith

pub depth_some : (op : ℕ) → 1 ≤ base_depth op
depth_some op = depth_by (within 46 53 op) (within 79 86 op) (op == 181)

pub access_plain : (access : Access) (op : ℕ) → IsOpcode access op → is_call op ≡ false
access_plain (OfElements store) op e = (elements_ready store op e).plain
access_plain (OfField store) op e = (field_ready store op e).plain
access_plain (OfStatic store) op e = static_plain store op e

-- ---- bases and fields

module _ (program : Program) (m : ℕ) (H : ℕ → ℕ → Type 0) (pc next : ℕ) (insn : Insn) (stands : insn_at program m pc ≡ Some (insn, next)) (facts : Fact (List ℕ) → Type 0) (c : List ℕ) where
  pub base_below : is_call (opcode_of insn) ≡ false → (o : ObjKey (List ℕ)) → HoldsBelow program facts H (instance_of m c) pc (base_depth (opcode_of insn)) o ↔ BaseHolds program facts H (instance_of m c) pc o
  base_below plain o = (λ h. record { place = h.place; is_base = there h.place h.below; holds = h.holds }, λ b. record { place = b.place; below = back b.place b.is_base; holds = b.holds })
    where
      there : (v : Place) → PlaceBelow program m H pc (base_depth (opcode_of insn)) v → BasePlace program m H pc v
      there v (standing, e) =
          let same : standing.insn ≡ insn = same_insn program m H pc next standing.next insn standing.insn stands standing.is in
          of_insn standing v (ap (λ x. is_call (opcode_of x)) same ∙ plain) (e ∙ ap (λ x. Stack (standing.height - base_depth (opcode_of x))) (sym same))

      back : (v : Place) → BasePlace program m H pc v → PlaceBelow program m H pc (base_depth (opcode_of insn)) v
      back _ (of_insn standing v own e) =
          let same : standing.insn ≡ insn = same_insn program m H pc next standing.next insn standing.insn stands standing.is in
          (standing, e ∙ ap (λ x. Stack (standing.height - base_depth (opcode_of x))) same)
      back _ (of_call standing call v e) =
          let same : call.insn ≡ insn = same_insn program m H pc next call.next insn call.insn stands call.stands in
          absurd (both_ways (is_call (opcode_of insn)) plain (ap (λ x. is_call (opcode_of x)) (sym same) ∙ call.is_call))

pub field_here : (program : Program) (m : ℕ) (H : ℕ → ℕ → Type 0) (wide : List FlowRow) (is : IsWideGraph program m H wide) (n pc : ℕ) (insn : Insn) → IsAtNode program m wide n pc insn
    → (node : FlowNode) → option_map (λ (row : FlowRow). row.node) (slice_get wide n) ≡ Some node → node.field ≡ resolved_field_at program m pc
field_here program m H wide is n pc insn at node e =
    let own : node.kind ≡ node_of_insn pc insn = same_Some node.kind (node_of_insn pc insn) (sym (kind_says wide n node e) ∙ at.node) in
    ap (λ (x : FlowNode). x.field) (node_kept program m H wide is n node e) ∙ ap (λ k. (node_with program m k (pc_kept k)).field) own ∙ by_call (is_call (opcode_of insn))
  where
    by_call : (b : Bool) → (node_with program m (cond b (Call pc) (Instr pc)) (pc_kept (cond b (Call pc) (Instr pc)))).field ≡ resolved_field_at program m pc
    by_call true = refl
    by_call false = refl

-- ---- all nodes

module _ (program : Program) (m : ℕ) (H : ℕ → ℕ → Type 0) (wide : List FlowRow) (is : IsWideGraph program m H wide) (policy : ContextPolicy) (facts : Fact (List ℕ) → Type 0) (c : List ℕ) where
  abbrev The : InstKey (List ℕ)
  The = instance_of m c

  pub node_accesses : (n : ℕ) (node : FlowNode) → option_map (λ (row : FlowRow). row.node) (slice_get wide n) ≡ Some node → (pc : ℕ) (insn : Insn) → standing_by node.kind node.insn ≡ Some (pc, insn)
      → (access : Access) → access_of (opcode_of insn) ≡ Some access → (g : Fact (List ℕ)) → AccessGives program facts H The pc (resolved_field_at program m pc) access g ↔ CellsAt program facts H The wide n g
  node_accesses n node e pc insn stands access is_access_ g = (there, back)
    where
      there : AccessGives program facts H The pc (resolved_field_at program m pc) access g → CellsAt program facts H The wide n g
      there gives =
          let found = found_there program m H wide is n node e pc insn stands in
          record { pc = pc; insn = insn; at = record { next = found.next; stands = found.stands; node = found.node }; access = access; accesses = is_access_; gives = gives }

      back : CellsAt program facts H The wide n g → AccessGives program facts H The pc (resolved_field_at program m pc) access g
      back h =
          let same = some_pair_parts h.pc pc h.insn insn (sym (told_by_node program m H wide is n node e h.pc h.insn (record { next = h.at.next; stands = h.at.stands; node = h.at.node })) ∙ stands) in
          let accesses : h.access ≡ access = same_Some h.access access (sym h.accesses ∙ ap (λ x. access_of (opcode_of x)) same.1 ∙ is_access_) in
          subst (λ a. AccessGives program facts H The pc (resolved_field_at program m pc) a g) accesses (subst (λ k. AccessGives program facts H The k (resolved_field_at program m k) h.access g) same.0 h.gives)

  -- an instruction with such an opcode
  stands_with : (n pc : ℕ) (insn : Insn) → IsAtNode program m wide n pc insn → (test : ℕ → Bool) → test (opcode_of insn) ≡ true → StandsWith program m pc test
  stands_with n pc insn at test e = (insn, at.next, at.stands, e)

  top_holds : (pc : ℕ) (o : ObjKey (List ℕ)) → HoldsBelow program facts H The pc 1 o → TopHolds program facts H The pc o
  top_holds pc o h = record { place = h.place; is_top = h.below; holds = h.holds }

  holds_top : (pc : ℕ) (o : ObjKey (List ℕ)) → TopHolds program facts H The pc o → HoldsBelow program facts H The pc 1 o
  holds_top pc o h = record { place = h.place; below = h.is_top; holds = h.holds }

  given_cell : (n pc : ℕ) (insn : Insn) → IsAtNode program m wide n pc insn → (access : Access) → IsOpcode access (opcode_of insn) → IsWideNode program m (Instr pc) → (g : Fact (List ℕ))
      → AccessGives program facts H The pc (resolved_field_at program m pc) access g → ByCell program policy facts H The g
  given_cell n pc insn at (OfElements false) op path g (base, has, (o, holds, e)) =
      subst (ByCell program policy facts H The) (sym e) (InstanceRules.loads_element pc base o path (stands_with n pc insn at is_array_load op) has holds)
  given_cell n pc insn at (OfElements true) op path g (base, has, (o, holds, e)) =
      subst (ByCell program policy facts H The) (sym e) (InstanceRules.stores_element pc base o path (stands_with n pc insn at is_array_store op) has (top_holds pc o holds))
  given_cell n pc insn at (OfField false) op path g (f, is_f, (base, has, (o, holds, e))) =
      subst (ByCell program policy facts H The) (sym e) (InstanceRules.loads_field pc f base o path (stands_with n pc insn at (λ k. k == 180) op) is_f has holds)
  given_cell n pc insn at (OfField true) op path g (f, is_f, (base, has, (o, holds, e))) =
      subst (ByCell program policy facts H The) (sym e) (InstanceRules.stores_field pc f base o path (stands_with n pc insn at (λ k. k == 181) op) is_f has (top_holds pc o holds))
  given_cell n pc insn at (OfStatic false) op path g (f, is_f, (o, holds, e)) =
      subst (ByCell program policy facts H The) (sym e) (InstanceRules.loads_static pc f o path (stands_with n pc insn at (λ k. k == 178) op) is_f holds)
  given_cell n pc insn at (OfStatic true) op path g (f, is_f, (o, holds, e)) =
      subst (ByCell program policy facts H The) (sym e) (InstanceRules.stores_static pc f o path (stands_with n pc insn at (λ k. k == 179) op) is_f (top_holds pc o holds))

  from_access : (pc : ℕ) (access : Access) (test : ℕ → Bool) → ((op : ℕ) → test op ≡ true → IsOpcode access op) → IsWideNode program m (Instr pc) → StandsWith program m pc test → (g : Fact (List ℕ))
      → AccessGives program facts H The pc (resolved_field_at program m pc) access g → FromBelow (length wide) (CellsAt program facts H The wide) g
  from_access pc access test opcode path stands g gives =
      let number = is.graph.each_node (Instr pc) path in
      let s = wide_stands program m (Instr pc) path in
      let op = opcode (opcode_of s.0) (passes program m H test pc s.1 s.0 s.2 stands) in (
        number.0,
        kind_below program m H wide is number.0 (Instr pc) number.1,
        record { pc = pc; insn = s.0; at = record { next = s.1; stands = s.2; node = number.1 ∙ ap (λ k. Some k) (sym s.3) }; access = access; accesses = is_access (opcode_of s.0) access op; gives = gives },
      )

  cell_given : (g : Fact (List ℕ)) → ByCell program policy facts H The g → FromBelow (length wide) (CellsAt program facts H The wide) g
  cell_given _ (InstanceRules.loads_field pc f base o path stands is_f has holds) = from_access pc (OfField false) (λ k. k == 180) (λ op e. e) path stands (Holds The (Instr pc) o) (f, is_f, (base, has, (o, holds, refl)))
  cell_given _ (InstanceRules.loads_element pc base o path stands has holds) = from_access pc (OfElements false) is_array_load (λ op e. e) path stands (Holds The (Instr pc) o) (base, has, (o, holds, refl))
  cell_given _ (InstanceRules.loads_static pc f o path stands is_f holds) = from_access pc (OfStatic false) (λ k. k == 178) (λ op e. e) path stands (Holds The (Instr pc) o) (f, is_f, (o, holds, refl))
  cell_given _ (InstanceRules.stores_field pc f base o path stands is_f has top) = from_access pc (OfField true) (λ k. k == 181) (λ op e. e) path stands (CellHolds (FieldOf f base) o) (f, is_f, (base, has, (o, holds_top pc o top, refl)))
  cell_given _ (InstanceRules.stores_element pc base o path stands has top) = from_access pc (OfElements true) is_array_store (λ op e. e) path stands (CellHolds (Elements base) o) (base, has, (o, holds_top pc o top, refl))
  cell_given _ (InstanceRules.stores_static pc f o path stands is_f top) = from_access pc (OfStatic true) (λ k. k == 179) (λ op e. e) path stands (CellHolds (Static f) o) (f, is_f, (o, holds_top pc o top, refl))

  pub cells_by_nodes : (g : Fact (List ℕ)) → FromBelow (length wide) (CellsAt program facts H The wide) g ↔ ByCell program policy facts H The g
  cells_by_nodes g = (there, cell_given g)
    where
      there : FromBelow (length wide) (CellsAt program facts H The wide) g → ByCell program policy facts H The g
      there (n, below, h) =
          let op = access_is (opcode_of h.insn) h.access h.accesses in
          let plain = access_plain h.access (opcode_of h.insn) op in
          let path = is.graph.only_nodes n (Instr h.pc) (h.at.node ∙ ap (λ k. Some k) (plain_node h.pc h.insn plain)) in
          given_cell n h.pc h.insn h.at h.access op path g h.gives

-- ---- as functions say it

pub at_value : {X : Type 0} (P : X → Type 0) (Q : Bool → X → Type 0) (b k : Bool) → b ≡ k → ((x : X) → P x ↔ Q k x) → (x : X) → P x ↔ Q b x
at_value {X} P Q b k e alike = subst (λ (s : Bool). (x : X) → P x ↔ Q s x) (sym e) alike

pub bases_seen : (program : Program) (m : ℕ) (H : ℕ → ℕ → Type 0) (pc next : ℕ) (insn : Insn) → insn_at program m pc ≡ Some (insn, next) → (facts : Fact (List ℕ) → Type 0) (c : List ℕ) → is_call (opcode_of insn) ≡ false
    → (depth : ℕ) → depth ≡ base_depth (opcode_of insn) → {C : Type 0} (list : C → List ℕ) (objects : List (ℕ × C)) (numbers : List ℕ) → AreSeen list objects numbers (HoldsBelow program facts H (instance_of m c) pc depth)
    → AreSeen list objects numbers (BaseHolds program facts H (instance_of m c) pc)
bases_seen program m H pc next insn stands facts c plain depth e list objects numbers are o =
    both_ways_on (subst (λ (d : ℕ). ((x : ℕ) × Contains numbers x × IsObjectSeen list objects x o) ↔ HoldsBelow program facts H (instance_of m c) pc d o) e (are o)) (base_below program m H pc next insn stands facts c plain o)

module _ (program : Program) (m : ℕ) (H : ℕ → ℕ → Type 0) (pc : ℕ) (facts : Fact (List ℕ) → Type 0) (c : List ℕ) (store : Bool) (access : Access) (field : Option ℕ) where
  abbrev Gives : Option ℕ → Access → Fact (List ℕ) → Type 0
  Gives own a g = AccessGives program facts H (instance_of m c) pc own a g

  pub elements_arm : access ≡ OfElements store → (g : Fact (List ℕ)) → BasesGive program facts H (instance_of m c) pc store None g ↔ AccessGives program facts H (instance_of m c) pc field access g
  elements_arm e g = subst (λ a. BasesGive program facts H (instance_of m c) pc store None g ↔ Gives field a g) (sym e) (λ b. b, λ b. b)

  module _ (own : Option ℕ) (is : own ≡ field) where
    carried : (P : Fact (List ℕ) → Type 0) (a : Access) → access ≡ a → (g : Fact (List ℕ)) → P g ↔ Gives own a g → P g ↔ Gives field access g
    carried P a e g alike = subst (λ x. P g ↔ Gives field x g) (sym e) (subst (λ x. P g ↔ Gives x a g) is alike)

    pub field_arm : access ≡ OfField store → is_some own ≡ true → (g : Fact (List ℕ)) → BasesGive program facts H (instance_of m c) pc store own g ↔ AccessGives program facts H (instance_of m c) pc field access g
    field_arm e some_ g = carried (BasesGive program facts H (instance_of m c) pc store own) (OfField store) e g (by_field own some_)
      where
        by_field : (o : Option ℕ) → is_some o ≡ true → BasesGive program facts H (instance_of m c) pc store o g ↔ ((f : ℕ) × (o ≡ Some f) × BasesGive program facts H (instance_of m c) pc store (Some f) g)
        by_field None f = absurd (cc)
        by_field (Some f) s = (λ b. (f, refl, b), λ (k, at, b). subst (λ (x : ℕ). BasesGive program facts H (instance_of m c) pc store (Some x) g) (sym (same_Some f k at)) b)

    pub static_arm : access ≡ OfStatic store → (f : ℕ) → own ≡ Some f → (g : Fact (List ℕ)) → CellGives program facts H (instance_of m c) pc store (Static f) g ↔ AccessGives program facts H (instance_of m c) pc field access g
    static_arm e f at g = carried (CellGives program facts H (instance_of m c) pc store (Static f)) (OfStatic store) e g
        (λ b. (f, at, b), λ (k, also, b). subst (λ (x : ℕ). CellGives program facts H (instance_of m c) pc store (Static x) g) (sym (same_Some f k (sym at ∙ also))) b)

    none_named : (f : ℕ) → is_some own ≡ false → own ≡ Some f → ⊥
    none_named f none at = both_ways (is_some own) none (ap is_some at)

    pub no_field_arm : access ≡ OfField store → is_some own ≡ false → (g : Fact (List ℕ)) → AccessGives program facts H (instance_of m c) pc field access g → ⊥
    no_field_arm e none g gives = let (f, at, b) = subst (λ x. Gives x (OfField store) g) (sym is) (subst (λ x. Gives field x g) e gives) in none_named f none at

    pub no_static_arm : access ≡ OfStatic store → own ≡ None → (g : Fact (List ℕ)) → AccessGives program facts H (instance_of m c) pc field access g → ⊥
    no_static_arm e none g gives = let (f, at, b) = subst (λ x. Gives x (OfStatic store) g) (sym is) (subst (λ x. Gives field x g) e gives) in none_named f (ap is_some none) at

pub node_stands : (program : Program) (m : ℕ) (H : ℕ → ℕ → Type 0) (wide : List FlowRow) (is : IsWideGraph program m H wide) (n : ℕ) (node : FlowNode) → option_map (λ (row : FlowRow). row.node) (slice_get wide n) ≡ Some node
    → (pc : ℕ) (insn : Insn) → standing_by node.kind node.insn ≡ Some (pc, insn) → IsAtNode program m wide n pc insn
node_stands program m H wide is n node e pc insn stands = let found = found_there program m H wide is n node e pc insn stands in record { next = found.next; stands = found.stands; node = found.node }

-- where no instruction stands, or one that accesses no cell
module _ (program : Program) (m : ℕ) (H : ℕ → ℕ → Type 0) (wide : List FlowRow) (is : IsWideGraph program m H wide) (policy : ContextPolicy) (facts : Fact (List ℕ) → Type 0) (c : List ℕ)
    (n : ℕ) (node : FlowNode) (e : option_map (λ (row : FlowRow). row.node) (slice_get wide n) ≡ Some node) where
  none_some : {A : Type 0} (o : Option A) (x : A) → o ≡ Some x → o ≡ None → ⊥
  none_some None x some_ none_ = absurd (cc)
  none_some (Some y) x some_ none_ = absurd (cc)

  told_there : (g : Fact (List ℕ)) (h : CellsAt program facts H (instance_of m c) wide n g) → standing_by node.kind node.insn ≡ Some (h.pc, h.insn)
  told_there g h = told_by_node program m H wide is n node e h.pc h.insn (record { next = h.at.next; stands = h.at.stands; node = h.at.node })

  pub nothing_there : standing_by node.kind node.insn ≡ None → (g : Fact (List ℕ)) → CellsAt program facts H (instance_of m c) wide n g → ⊥
  nothing_there none g h = none_some (standing_by node.kind node.insn) (h.pc, h.insn) (told_there g h) none

  pub nothing_accessed : (pc : ℕ) (insn : Insn) → standing_by node.kind node.insn ≡ Some (pc, insn) → access_of (opcode_of insn) ≡ None → (g : Fact (List ℕ)) → CellsAt program facts H (instance_of m c) wide n g → ⊥
  nothing_accessed pc insn stands none g h =
      let same = (some_pair_parts h.pc pc h.insn insn (sym (told_there g h) ∙ stands)).1 in
      none_some (access_of (opcode_of insn)) h.access (ap (λ x. access_of (opcode_of x)) (sym same) ∙ h.accesses) none
