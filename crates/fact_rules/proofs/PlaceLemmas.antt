-- Uses by number tell what places hold at an instruction.
use Rattle.std.specs.Prelude.{◌↔◌, ◌-◌, cond, map, slice_get, IsSomeAnd}
use Rattle.std.specs.List.{range_with_len}
use Rattle.std.proofs.Common.{inl, inr, ◌⊎◌, ◌≡◌, ℕ, zero, suc, ◌+◌, ◌<◌, ◌≤◌, Bool, true, false, List, length, get_or, take, Contains, Option, Some, None, refl, sym, ◌∙◌, ap, subst, arith}
use Rattle.std.proofs.lemmas.List.Elements.{Contains-append_right}
use Rattle.std.proofs.lemmas.List.{take_all}
use Rattle.std.proofs.lemmas.Option.{same_Some, some_pair_parts, slice_get_within}
use Rattle.jo_ids.specs.declared.ObjKey.{ObjKey}
use Rattle.jo_insn.specs.declared.instructions.Insn.{Insn}
use Rattle.jo_prog.specs.declared.program.Program.{Program}
use Rattle.jo_prog.specs.Sites.{opcode_of}
use Rattle.jo_prog.proofs.WalkLemmas.{here, behind, none_there}
use Rattle.dep_nodes.specs.declared.kinds.NodeKind.{NodeKind}
use Rattle.dep_nodes.specs.declared.kinds.NodeKind.TheVariants.{Instr, Call, Arg}
use Rattle.dependence.specs.declared.flow.Place.{Place}
use Rattle.dependence.specs.declared.flow.Place.TheVariants.{Stack}
use Rattle.dependence.specs.declared.flows.FlowRow.{FlowRow}
use Rattle.dependence.specs.declared.flows.Use.{Use}
use Rattle.dependence.specs.declared.facts.InstKey.{InstKey}
use Rattle.dependence.specs.declared.facts.Fact.{Fact}
use Rattle.dependence.specs.declared.facts.Fact.TheVariants.{Holds}
use Rattle.dependence.specs.Dependence.{Reaches, one, more}
use Rattle.dependence.specs.FlowData.{ReadsIn, ReachesIn, IsUse}
use Rattle.dependence.specs.WideGraph.{insn_at, is_call, node_of_insn, StandsWith, WideEdge, IsWideNode}
use Rattle.dependence.specs.NodePlaces.{Reads, Writes, ArgumentPlace, WideReaches, named_by, stack_use_of, stack_places, local_place, local_read, reads_of, by_insn, of_argument}
use Rattle.dependence.specs.GraphsAsData.{kind_at, ListsRead, IsWideGraph}
use Rattle.dependence.specs.FlowGraph.{PlaceBelow, PlaceHolds}
use Rattle.dependence.proofs.ListedLemmas.{taken_more}
use Rattle.dependence.proofs.DataLemmas.{reaches_by_kind, reaches_by_number}
use Rattle.method_views.specs.UseTables.{StandsAt, IsUseTable}
use Rattle.method_views.proofs.NodeLemmas.{kind_below}
use Rattle.fact_rules.specs.Places.{IsAtNode, UseHolds, HandsTo, instance_of}

-- ---- places of the stack

pub to_place : (f : ℕ → Place) (from count i : ℕ) → i < count → Contains (map f (range_with_len from count)) (f (from + i))
to_place f from zero i below = absurd (omega (arith, below))
to_place f from (suc count) zero below = subst (λ k. Contains (map f (range_with_len from (suc count))) (f k)) (omega arith) (here (f from) (map f (range_with_len (from + 1) count)))
to_place f from (suc count) (suc i) below =
    subst (λ k. Contains (map f (range_with_len from (suc count))) (f k)) (omega arith)
    (behind (f from) (map f (range_with_len (from + 1) count)) (f (from + 1 + i)) (to_place f (from + 1) count i (omega (arith, below))))

-- what stands so far below the top is read where so much is popped
pub popped : (insn : Insn) (height depth : ℕ) → 1 ≤ depth → depth ≤ (stack_use_of (opcode_of insn)).pops → Contains (reads_of insn height) (Stack (height - depth))
popped insn height depth first last =
    let pops = (stack_use_of (opcode_of insn)).pops in
    let above : ℕ = (height - depth) - (height - pops) in
    let below : above < pops = omega (arith, first, last) in
    let same : height - pops + above ≡ height - depth = omega (arith, first, last) in
    Contains-append_right (local_place (local_read insn)) (stack_places (height - pops) pops) (Stack (height - depth))
    (subst (λ k. Contains (stack_places (height - pops) pops) (Stack k)) same (to_place Stack (height - pops) pops above below))

-- a definition that arrives begins at a node from which an edge leads
reaches_begins : {N : Type 0} {E : N → N → Type 0} {W : N → Place → Type 0} (v : Place) (d n : N) → Reaches E W v d n → (x : N) × E d x
reaches_begins v d _ (one n edge writes) = (n, edge)
reaches_begins v d _ (more x n before passes edge) = reaches_begins v d x before

pub plain_node : (pc : ℕ) (insn : Insn) → is_call (opcode_of insn) ≡ false → node_of_insn pc insn ≡ Instr pc
plain_node pc insn plain = ap (λ b. cond b (Call pc) (Instr pc)) plain

pub call_node : (pc : ℕ) (insn : Insn) → is_call (opcode_of insn) ≡ true → node_of_insn pc insn ≡ Call pc
call_node pc insn named = ap (λ b. cond b (Call pc) (Instr pc)) named

-- what is at a row of a list
some_there : {A : Type 0} (P : A → Type 0) (o : Option A) (B : Type 0) → ((x : A) → o ≡ Some x → B) → IsSomeAnd o P → B
some_there P None B found there = absurd there
some_there P (Some x) B found there = found x refl

module _ (program : Program) (m : ℕ) (H : ℕ → ℕ → Type 0) where
  pub same_insn : (pc next other : ℕ) (insn own : Insn) → insn_at program m pc ≡ Some (insn, next) → insn_at program m pc ≡ Some (own, other) → own ≡ insn
  same_insn pc next other insn own at found = (some_pair_parts own insn other next (sym found ∙ at)).0

  -- a test that what stands at a pc passes
  pub passes : (test : ℕ → Bool) (pc next : ℕ) (insn : Insn) → insn_at program m pc ≡ Some (insn, next) → StandsWith program m pc test → test (opcode_of insn) ≡ true
  passes test pc next insn at (own, other, found, true_) = ap (λ x. test (opcode_of x)) (sym (same_insn pc next other insn own at found)) ∙ true_

  argument_height : (pc k : ℕ) (v : Place) → ArgumentPlace program m H pc k v → (h : ℕ) × H pc h
  argument_height _ _ _ (of_argument pc height i call v high below e) = (height, high)

  read_height : (pc : ℕ) (v : Place) → Reads program m H (Instr pc) v → (h : ℕ) × H pc h
  read_height _ _ (by_insn pc next height insn v at plain high c) = (height, high)

  height_there : (pc : ℕ) (v : Place) (b : Bool) → ListsRead program m H (cond b (Call pc) (Instr pc)) v → (h : ℕ) × H pc h
  height_there pc v true (k, argument) = argument_height pc k v argument
  height_there pc v false read = read_height pc v read

  module _ (wide : List FlowRow) (is : IsWideGraph program m H wide) where
    -- both ends of a use are nodes
    from_inside : (u : Use) → IsUse wide u → u.from < length wide
    from_inside u (reads, reaches) =
        let edge = reaches_begins u.place u.from u.node reaches in
        some_there (λ (row : FlowRow). Contains row.successors edge.0) (slice_get wide u.from) (u.from < length wide) (λ row at. slice_get_within wide u.from row at) edge.1

    module _ (n pc : ℕ) (insn : Insn) (at : IsAtNode program m wide n pc insn) where
      pub node_below : n < length wide
      node_below = kind_below program m H wide is n (node_of_insn pc insn) at.node

      pub reads_here : (v : Place) → ReadsIn wide n v ↔ ListsRead program m H (node_of_insn pc insn) v
      reads_here v = is.graph.reads n (node_of_insn pc insn) v at.node

      -- a place that the instruction pops is read at its node
      pub pops_read : (depth : ℕ) (v : Place) → is_call (opcode_of insn) ≡ false → 1 ≤ depth → depth ≤ (stack_use_of (opcode_of insn)).pops → PlaceBelow program m H pc depth v → ReadsIn wide n v
      pops_read depth v plain first last (standing, e) =
          let same : standing.insn ≡ insn = same_insn pc at.next standing.next insn standing.insn at.stands standing.is in
          let reads : Reads program m H (Instr pc) v =
          by_insn pc at.next standing.height insn v at.stands plain standing.has_height (subst (λ w. Contains (reads_of insn standing.height) w) (sym e) (popped insn standing.height depth first last))
          in
          (reads_here v).1 (subst (λ k. ListsRead program m H k v) (sym (plain_node pc insn plain)) reads)

      module _ (table : List (List Use)) (uses : IsUseTable wide table) where
        pub use_reads : (u : Use) → StandsAt table n u → ReadsIn wide n u.place
        use_reads u there = let here_ = (uses n u).0 there in subst (λ k. ReadsIn wide k u.place) here_.1 here_.0.0

        pub use_from : (u : Use) → StandsAt table n u → u.from < length wide
        use_from u there = from_inside u ((uses n u).0 there).0

        module _ (facts : Fact (List ℕ) → Type 0) (c : List ℕ) where
          pub use_place : (u : Use) (o : ObjKey (List ℕ)) → StandsAt table n u → UseHolds wide facts (instance_of m c) u o → PlaceHolds program facts H (instance_of m c) pc u.place o
          use_place u o there holds =
              let here_ = (uses n u).0 there in
              let node : kind_at wide u.node ≡ Some (node_of_insn pc insn) = ap (kind_at wide) here_.1 ∙ at.node in
              let high = height_there pc u.place (is_call (opcode_of insn)) ((reads_here u.place).0 (use_reads u there)) in
              record {
                d = holds.d;
                arrives = (
                  record { insn = insn; next = at.next; is = at.stands; height = high.0; has_height = high.1 },
                  reaches_by_kind (IsWideNode program m) (WideEdge program m) (ListsRead program m H) (Writes program m H) wide is.graph u.place u.from holds.d holds.defines u.node (node_of_insn pc insn) node here_.0.1,
                );
                holds = holds.holds;
              }

          -- a use of the place, whose definition holds the object
          pub record PlaceUse (v : Place) (o : ObjKey (List ℕ)) : Type 0 where
            pub u : Use
            pub there : StandsAt table n u
            pub place : u.place ≡ v
            pub holds : UseHolds wide facts (instance_of m c) u o

          pub place_use : (v : Place) (o : ObjKey (List ℕ)) → ReadsIn wide n v → PlaceHolds program facts H (instance_of m c) pc v o → PlaceUse v o
          place_use v o reads holds =
              let standing = holds.arrives.0 in
              let same : standing.insn ≡ insn = same_insn pc at.next standing.next insn standing.insn at.stands standing.is in
              let to : WideReaches program m H v holds.d (node_of_insn pc insn) = subst (λ x. WideReaches program m H v holds.d (node_of_insn pc x)) same holds.arrives.1 in
              let begins = reaches_begins v holds.d (node_of_insn pc insn) to in
              let from = is.graph.each_node holds.d begins.1.there in
              let number : ReachesIn wide v from.0 n =
              reaches_by_number (IsWideNode program m) (WideEdge program m) (ListsRead program m H) (Writes program m H) wide is.graph (λ a b edge. edge.there) v from.0 holds.d from.1 n (node_of_insn pc insn) at.node to
              in
              let u : Use = record { node = n; place = v; from = from.0 } in
              record { u = u; there = (uses n u).1 ((reads, number), refl); place = refl; holds = record { d = holds.d; defines = from.1; holds = holds.holds } }

-- ---- the lowest of some places

module _ (places : List Place) (i : ℕ) (place : Place) (low new : ℕ) (below : i < length places) (at : place ≡ get_or places i place) where
  pub lowest_there : (height : ℕ) → (new ≡ low) ⊎ (place ≡ Stack new) → (Contains places (Stack height) → Contains places (Stack low)) → Contains places (Stack height) → Contains places (Stack new)
  lowest_there height (inl same) before there = subst (λ h. Contains places (Stack h)) (sym same) (before there)
  lowest_there height (inr here_) before there = subst (λ w. Contains places w) here_ (i, below, sym at)

  pub lowest_least : ((h : ℕ) → place ≡ Stack h → new ≤ h) → new ≤ low → ((h : ℕ) → Contains (take i places) (Stack h) → low ≤ h) → (h : ℕ) → Contains (take (i + 1) places) (Stack h) → new ≤ h
  lowest_least least bound before h among = elim ((taken_more places i place (Stack h) below at).0 among) [
    | inl first ↦ let old = before h first in omega (arith, old, bound)
    | inr last ↦ least h (sym last)
  ]

pub least_none : (places : List Place) (low h : ℕ) → Contains (take 0 places) (Stack h) → low ≤ h
least_none places low h c = absurd (none_there (Stack h) c)

pub least_all : (places : List Place) (i low : ℕ) → length places ≤ i → ((h : ℕ) → Contains (take i places) (Stack h) → low ≤ h) → (h : ℕ) → Contains places (Stack h) → low ≤ h
least_all places i low past least = subst (λ ps. (h : ℕ) → Contains ps (Stack h) → low ≤ h) (take_all i places past) least

-- the number of an argument above the lowest
pub argument_number : (places : List Place) (low k height lowest pc : ℕ) → Contains places (Stack low) → ((h : ℕ) → Contains places (Stack h) → low ≤ h) → Contains places (Stack height) → Stack height ≡ Stack (low + k)
    → (Contains places (Stack height) → Contains places (Stack lowest)) → ((h : ℕ) → Contains places (Stack h) → lowest ≤ h) → Some (Arg pc (height - lowest)) ≡ Some (Arg pc k)
argument_number places low k height lowest pc there least among e found all =
    let up = all low there in
    let down = least lowest (found among) in
    let same : height ≡ low + k = ap height_in e in
    ap (λ (n : ℕ). Some (Arg pc n)) (omega (arith, up, down, same))
  where
    height_in : Place → ℕ
    height_in (Stack h) = h
    height_in w = 0

-- ---- what the definition of a use holds

pub hands_told : (wide : List FlowRow) (facts : Fact (List ℕ) → Type 0) (i : InstKey (List ℕ)) (u : Use) (to d spot : NodeKind) → kind_at wide u.from ≡ Some d → spot ≡ named_by d u.place
    → (g : Fact (List ℕ)) → ((o : ObjKey (List ℕ)) × facts (Holds i spot o) × (g ≡ Holds i to o)) ↔ HandsTo wide facts i u to g
hands_told wide facts i u to d spot defines named g = (there, back)
  where
    there : (o : ObjKey (List ℕ)) × facts (Holds i spot o) × (g ≡ Holds i to o) → HandsTo wide facts i u to g
    there (o, holds, e) = (o, record { d = d; defines = defines; holds = subst (λ k. facts (Holds i k o)) named holds }, e)

    back : HandsTo wide facts i u to g → (o : ObjKey (List ℕ)) × facts (Holds i spot o) × (g ≡ Holds i to o)
    back (o, held, e) =
        let same : held.d ≡ d = same_Some held.d d (sym held.defines ∙ defines) in
        (o, subst (λ k. facts (Holds i k o)) (ap (λ k. named_by k u.place) same ∙ sym named) held.holds, e)

pub both_ways_on : {A B C : Type 0} → A ↔ B → B ↔ C → A ↔ C
both_ways_on ab bc = (λ a. bc.0 (ab.0 a), λ c. ab.1 (bc.1 c))

pub turned : {A B : Type 0} → A ↔ B → B ↔ A
turned both = (both.1, both.0)
