-- What a search reaches is what the steps of regions reach.
use Rattle.std.proofs.Common.{◌≡◌, ◌↔◌, inl, inr, ℕ, ◌+◌, ◌*◌, ◌<◌, Bool, true, false, List, length, get_or, map, Contains, Option, Some, None, slice_get, option_map, IsSomeAnd, refl, sym, ◌∙◌, ap, subst, arith}
use Rattle.std.proofs.lemmas.Option.{slice_get_within, slice_get-map}
use Rattle.std.proofs.lemmas.List.{get_or_past}
use Rattle.std.proofs.lemmas.List.Elements.{All-contains}
use Rattle.std.proofs.lemmas.Bool.{cases_lt, both_ways}
use Rattle.jo_ids.specs.Path.{Path, stays, goes}
use Rattle.jo_ids.specs.Rows.{has_number}
use Rattle.jo_ids.proofs.PathLemmas.{path_more, path_on, path_edge, kept_along}
use Rattle.jo_graph.specs.Graphs.{HasEdge as Leads}
use Rattle.dep_nodes.specs.declared.kinds.NodeKind.{NodeKind}
use Rattle.dep_nodes.specs.declared.kinds.NodeKind.TheVariants.{Exit, RetKind}
use Rattle.dep_nodes.specs.declared.kinds.EdgeKind.{EdgeKind}
use Rattle.dep_nodes.specs.declared.kinds.EdgeKind.TheVariants.{Data, Control, Out, Arg, Call, Ret, Heap, Fork}
use Rattle.dep_nodes.specs.declared.dependence_graph.GraphNode.{GraphNode}
use Rattle.dep_nodes.specs.Nodes.{Node as NamedNode, Instance, node, node_named, pc_of}
use Rattle.dep_nodes.specs.GrowingGraphs.{HasEdge}
use Rattle.dep_nodes.specs.Regions.{node_at, HasFlow, exit_of, IsExitOf, IsRetKindOf, RegionStep, flows, enters, returns, starts, InChild, InAfter}
use Rattle.thread_regions.specs.declared.places.Group.{Group}
use Rattle.thread_regions.specs.declared.places.Group.TheVariants.{Instances, Calls}
use Rattle.thread_regions.specs.declared.search.Spot.{Spot}
use Rattle.thread_regions.specs.declared.search.Spot.TheVariants.{Node, EndOf, BackAt, ChildOf, AfterOf}
use Rattle.thread_regions.specs.Places.{place_of, AreFirsts}
use Rattle.thread_regions.specs.Regions.{IsRegionFrom}
use Rattle.thread_regions.specs.Searches.{number_of, Related, FlowPart, KindOfEdgePart, KindPart, OneNodePart, PartBelow, AreGroups, IsInsideAt, IsSearchGraph}
use Rattle.thread_regions.proofs.FirstLemmas.{some_same, found_below}
use Rattle.thread_regions.proofs.PlaceLemmas.{instance_from_place, place_from_instance, instance_from_call, pc_from_call, call_from}
use Rattle.thread_regions.proofs.SpotLemmas.{number_injective}

-- ---- what stands at a number

pub record There (nodes : List GraphNode) (n : ℕ) (P : GraphNode → Type 0) : Type 0 where
  pub one : GraphNode
  pub is_one : slice_get nodes n ≡ Some one
  pub holds : P one

there_in : (o : Option GraphNode) (P : GraphNode → Type 0) → IsSomeAnd o P → (one : GraphNode) × (o ≡ Some one) × P one
there_in None P h = absurd h
there_in (Some one) P h = (one, refl, h)

pub there : (nodes : List GraphNode) (n : ℕ) (P : GraphNode → Type 0) → IsSomeAnd (slice_get nodes n) P → There nodes n P
there nodes n P h = let t = there_in (slice_get nodes n) P h in record { one = t.0; is_one = t.1; holds = t.2 }

pub is_there : (nodes : List GraphNode) (n : ℕ) (P : GraphNode → Type 0) (one : GraphNode) → slice_get nodes n ≡ Some one → P one → IsSomeAnd (slice_get nodes n) P
is_there nodes n P one is h = subst (λ (o : Option GraphNode). IsSomeAnd o P) (sym is) h

pub named_at : (nodes : List GraphNode) (n : ℕ) (one : GraphNode) → slice_get nodes n ≡ Some one → node_at nodes n ≡ Some (node_named one.name)
named_at nodes n one is = ap (λ (o : Option GraphNode). option_map (λ (x : GraphNode). node_named x.name) o) is

record Named (nodes : List GraphNode) (n : ℕ) (of : NamedNode) : Type 0 where
  one : GraphNode
  is_one : slice_get nodes n ≡ Some one
  is_named : node_named one.name ≡ of

named_in : (o : Option GraphNode) (of : NamedNode) → option_map (λ (x : GraphNode). node_named x.name) o ≡ Some of → (one : GraphNode) × (o ≡ Some one) × (node_named one.name ≡ of)
named_in None of h = absurd (cc)
named_in (Some one) of h = (one, refl, some_same h)

one_named : (nodes : List GraphNode) (n : ℕ) (of : NamedNode) → node_at nodes n ≡ Some of → Named nodes n of
one_named nodes n of h = let t = named_in (slice_get nodes n) of h in record { one = t.0; is_one = t.1; is_named = t.2 }

-- ---- first nodes

module _ (nodes : List GraphNode) (group : Group) (firsts : List ℕ) (are : AreFirsts (map (λ n. place_of group n.name) nodes) firsts) where
  place_at : (n : ℕ) (one : GraphNode) → slice_get nodes n ≡ Some one → slice_get (map (λ n. place_of group n.name) nodes) n ≡ Some (place_of group one.name)
  place_at n one is = slice_get-map (λ (n : GraphNode). place_of group n.name) nodes n ∙ ap (option_map (λ (n : GraphNode). place_of group n.name)) is

  same_group : (i j : ℕ) (a b : GraphNode) → slice_get nodes i ≡ Some a → slice_get nodes j ≡ Some b → (get_or firsts i 0 ≡ get_or firsts j 0) ↔ (place_of group a.name ≡ place_of group b.name)
  same_group i j a b at_i at_j = are.same i j (place_of group a.name) (place_of group b.name) (place_at i a at_i) (place_at j b at_j)

node_is : (i j : Instance) (k l : NodeKind) → i ≡ j → k ≡ l → node i k ≡ node j l
node_is i j k l e f = cc

-- ---- what a search from a start has reached

pub record Reaches (nodes : List GraphNode) (From : ℕ → Type 0) (n : ℕ) : Type 0 where
  pub first : ℕ
  pub from : From first
  pub path : Path (RegionStep nodes) first n

pub record AtEnd (nodes : List GraphNode) (ends : List ℕ) (From : ℕ → Type 0) (i : ℕ) : Type 0 where
  pub exit : ℕ
  pub one : GraphNode
  pub is_one : slice_get nodes exit ≡ Some one
  pub is_exit : one.name.kind ≡ Exit
  pub end_is : get_or ends exit 0 ≡ i
  pub reached : Reaches nodes From exit

pub record AtBack (nodes : List GraphNode) (calls : List ℕ) (From : ℕ → Type 0) (c : ℕ) : Type 0 where
  pub exit : ℕ
  pub call : ℕ
  pub entry : ℕ
  pub called : HasEdge nodes call Call entry
  pub ends_at : IsExitOf nodes entry exit
  pub back_is : get_or calls call 0 ≡ c
  pub reached : Reaches nodes From exit

abbrev pub At : List GraphNode → List ℕ → List ℕ → (ℕ → Type 0) → Spot → Spot → Type 0
At nodes ends calls From start (Node n) = Reaches nodes From n
At nodes ends calls From start (EndOf i) = AtEnd nodes ends From i
At nodes ends calls From start (BackAt c) = AtBack nodes calls From c
At nodes ends calls From start (ChildOf f) = ChildOf f ≡ start
At nodes ends calls From start (AfterOf f) = AfterOf f ≡ start

-- ---- from the search to the steps

module _ (nodes : List GraphNode) (ends calls : List ℕ) (groups : AreGroups nodes ends calls) (inside : (n : ℕ) → n < length nodes → IsInsideAt nodes n) where
  edge_begins : (from : ℕ) (kind : EdgeKind) (to : ℕ) → HasEdge nodes from kind to → from < length nodes
  edge_begins from kind to edge =
      let t = there nodes to (λ one. Contains one.edges (from, kind)) edge in
      All-contains (λ (e : ℕ × EdgeKind). e.0 < length nodes) t.one.edges (from, kind) ((inside to (slice_get_within nodes to t.one t.is_one)).edges t.one t.is_one) t.holds

  module _ (From : ℕ → Type 0) (start : Spot) (child : (f b : ℕ) → ChildOf f ≡ start → HasEdge nodes f Fork b → From b) (after : (f b : ℕ) → AfterOf f ≡ start → HasFlow nodes f b → From b) where
    abbrev Here : Spot → Type 0
    Here = At nodes ends calls From start

    moves : (a b c d : Spot) → (a ≡ c) × (b ≡ d) → (Here c → Here d) → Here a → Here b
    moves a b c d e f at = subst Here (sym e.1) (f (subst Here e.0 at))

    step_on : (a b : ℕ) → RegionStep nodes a b → Reaches nodes From a → Reaches nodes From b
    step_on a b step r = record { first = r.first; from = r.from; path = path_more r.path step }

    begin_at : (b : ℕ) → From b → Reaches nodes From b
    begin_at b from = record { first = b; from = from; path = stays b }

    keeps_flow : (n to : ℕ) (a b : Spot) → HasFlow nodes n to → FlowPart n to a b → Here a → Here b
    keeps_flow n to a b flow (inl e) at = moves a b (Node n) (Node to) e (step_on n to (flows n to flow)) at
    keeps_flow n to a b flow (inr e) at = moves a b (AfterOf n) (Node to) e (λ is. begin_at to (after n to is flow)) at

    -- an Exit whose instance has the same first node is that of the entry
    goes_back : (from n : ℕ) → HasEdge nodes from Call n → AtEnd nodes ends From (get_or ends n 0) → AtBack nodes calls From (get_or calls from 0)
    goes_back from n edge at =
        let t = there nodes n (λ one. Contains one.edges (from, Call)) edge in
        let places = (same_group nodes Instances ends groups.ends_are at.exit n at.one t.one at.is_one t.is_one).0 at.end_is in
        let instances = instance_from_place at.one.name t.one.name places in
        record {
          exit = at.exit;
          call = from;
          entry = n;
          called = edge;
          ends_at = record {
            of = node_named t.one.name;
            is_of = named_at nodes n t.one t.is_one;
            ends = named_at nodes at.exit at.one at.is_one ∙ ap Some (node_is (node_named at.one.name).inst (node_named t.one.name).inst at.one.name.kind Exit instances at.is_exit);
          };
          back_is = refl;
          reached = at.reached;
        }

    keeps_edge : (n from : ℕ) (kind : EdgeKind) (a b : Spot) → HasEdge nodes from kind n → KindOfEdgePart ends calls n from kind a b → Here a → Here b
    keeps_edge n from Data a b edge part at = absurd part
    keeps_edge n from Control a b edge part at = absurd part
    keeps_edge n from Out a b edge part at = absurd part
    keeps_edge n from Arg a b edge part at = absurd part
    keeps_edge n from Call a b edge (inl e) at = moves a b (Node from) (Node n) e (step_on from n (enters from n edge)) at
    keeps_edge n from Call a b edge (inr e) at = moves a b (EndOf (get_or ends n 0)) (BackAt (get_or calls from 0)) e (goes_back from n edge) at
    keeps_edge n from Ret a b edge part at = absurd part
    keeps_edge n from Heap a b edge part at = absurd part
    keeps_edge n from Fork a b edge (inl e) at = moves a b (Node from) (Node n) e (step_on from n (starts from n edge)) at
    keeps_edge n from Fork a b edge (inr e) at = moves a b (ChildOf from) (Node n) e (λ is. begin_at n (child from n is edge)) at

    ends_here : (n : ℕ) (one : GraphNode) → slice_get nodes n ≡ Some one → one.name.kind ≡ Exit → Reaches nodes From n → AtEnd nodes ends From (get_or ends n 0)
    ends_here n one is kind r = record { exit = n; one = one; is_one = is; is_exit = kind; end_is = refl; reached = r }

    -- a RetKind whose call has the same first node is that of the call
    comes_back : (n pc : ℕ) (one : GraphNode) → slice_get nodes n ≡ Some one → one.name.kind ≡ RetKind pc → AtBack nodes calls From (get_or calls n 0) → Reaches nodes From n
    comes_back n pc one is kind at =
        let within : at.call < length nodes = edge_begins at.call Call at.entry at.called in
        let caller = found_below nodes at.call within in
        let places = (same_group nodes Calls calls groups.calls_are at.call n caller.it one caller.is is).0 at.back_is in
        let instances = instance_from_call caller.it.name one.name places in
        let pcs : pc_of caller.it.name.kind ≡ Some pc = pc_from_call caller.it.name one.name places ∙ ap pc_of kind in
        let ret : IsRetKindOf nodes at.call n = record {
          of = node_named caller.it.name;
          back = node (node_named caller.it.name).inst (RetKind pc);
          is_of = named_at nodes at.call caller.it caller.is;
          comes_back = ap (option_map (λ p. node (node_named caller.it.name).inst (RetKind p))) pcs;
          is_back = named_at nodes n one is ∙ ap Some (node_is (node_named one.name).inst (node_named caller.it.name).inst one.name.kind (RetKind pc) (sym instances) kind);
        } in
        step_on at.exit n (returns at.exit n at.call at.entry at.called at.ends_at ret) at.reached

    keeps_kind : (n : ℕ) (one : GraphNode) (kind : NodeKind) (a b : Spot) → slice_get nodes n ≡ Some one → one.name.kind ≡ kind → KindPart ends calls n kind a b → Here a → Here b
    keeps_kind n one Exit a b is same e at = moves a b (Node n) (EndOf (get_or ends n 0)) e (ends_here n one is same) at
    keeps_kind n one (RetKind pc) a b is same e at = moves a b (BackAt (get_or calls n 0)) (Node n) e (comes_back n pc one is same) at
    keeps_kind n one _ a b is same part at = absurd part

    keeps_one : (n : ℕ) (one : GraphNode) (a b : Spot) → slice_get nodes n ≡ Some one → OneNodePart ends calls n one a b → Here a → Here b
    keeps_one n one a b is (inl (inl each)) at = keeps_flow n each.item a b (is_there nodes n (λ x. Contains x.flows each.item) one is each.among) each.part at
    keeps_one n one a b is (inl (inr each)) at =
        keeps_edge n each.item.0 each.item.1 a b (is_there nodes n (λ x. Contains x.edges (each.item.0, each.item.1)) one is each.among) each.part at
    keeps_one n one a b is (inr part) at = keeps_kind n one one.name.kind a b is refl part at

    keeps : (a b : Spot) → PartBelow nodes ends calls (length nodes) a b → Here a → Here b
    keeps a b p at = keeps_one p.n p.part.one a b p.part.is_one p.part.part at

    pub reaches : (n : ℕ) → Here start → Path (PartBelow nodes ends calls (length nodes)) start (Node n) → Reaches nodes From n
    reaches n at path = kept_along Here keeps path at

  -- ---- from the steps to the search

  abbrev Part : Spot → Spot → Type 0
  Part = PartBelow nodes ends calls (length nodes)

  part_of : (n : ℕ) (one : GraphNode) (a b : Spot) → slice_get nodes n ≡ Some one → OneNodePart ends calls n one a b → Part a b
  part_of n one a b is part = record { n = n; below = slice_get_within nodes n one is; part = record { one = one; is_one = is; part = part } }

  flow_part : (n to : ℕ) (a b : Spot) → HasFlow nodes n to → FlowPart n to a b → Part a b
  flow_part n to a b flow part =
      let t = there nodes n (λ one. Contains one.flows to) flow in
      part_of n t.one a b t.is_one (inl (inl (record { item = to; among = t.holds; part = part })))

  edge_part : (from : ℕ) (kind : EdgeKind) (n : ℕ) (a b : Spot) → HasEdge nodes from kind n → KindOfEdgePart ends calls n from kind a b → Part a b
  edge_part from kind n a b edge part =
      let t = there nodes n (λ one. Contains one.edges (from, kind)) edge in
      part_of n t.one a b t.is_one (inl (inr (record { item = (from, kind); among = t.holds; part = part })))

  kind_part : (n : ℕ) (one : GraphNode) (kind : NodeKind) (a b : Spot) → slice_get nodes n ≡ Some one → one.name.kind ≡ kind → KindPart ends calls n kind a b → Part a b
  kind_part n one k a b is same part = part_of n one a b is (inr (subst (λ l. KindPart ends calls n l a b) (sym same) part))

  way_back : (from to call entry : ℕ) → HasEdge nodes call Call entry → IsExitOf nodes entry from → IsRetKindOf nodes call to → Path Part (Node from) (Node to)
  way_back from to call entry edge exits rets =
      let enters_at = one_named nodes entry exits.of exits.is_of in
      let exit_at = one_named nodes from (exit_of exits.of) exits.ends in
      let call_at = one_named nodes call rets.of rets.is_of in
      let ret_at = one_named nodes to rets.back rets.is_back in
      let back = ret_kind_in (pc_of rets.of.kind) rets.of.inst rets.back rets.comes_back in
      let exit_inst : (node_named exit_at.one.name).inst ≡ (node_named enters_at.one.name).inst = ap (λ (n : NamedNode). n.inst) exit_at.is_named ∙ sym (ap (λ (n : NamedNode). n.inst) enters_at.is_named) in
      let ends_same : get_or ends from 0 ≡ get_or ends entry 0 =
      (same_group nodes Instances ends groups.ends_are from entry exit_at.one enters_at.one exit_at.is_one enters_at.is_one).1 (place_from_instance exit_at.one.name enters_at.one.name exit_inst) in
      let ret_name : node_named ret_at.one.name ≡ node rets.of.inst (RetKind back.0) = ret_at.is_named ∙ back.2 in
      let call_inst : (node_named call_at.one.name).inst ≡ (node_named ret_at.one.name).inst = ap (λ (n : NamedNode). n.inst) call_at.is_named ∙ sym (ap (λ (n : NamedNode). n.inst) ret_name) in
      let call_pc : pc_of call_at.one.name.kind ≡ pc_of ret_at.one.name.kind = ap (λ (n : NamedNode). pc_of n.kind) call_at.is_named ∙ (back.1 ∙ sym (ap (λ (n : NamedNode). pc_of n.kind) ret_name)) in
      let calls_same : get_or calls call 0 ≡ get_or calls to 0 =
      (same_group nodes Calls calls groups.calls_are call to call_at.one ret_at.one call_at.is_one ret_at.is_one).1 (call_from call_at.one.name ret_at.one.name call_inst call_pc) in
      goes (Node from) (EndOf (get_or ends from 0)) (Node to)
      (kind_part from exit_at.one Exit (Node from) (EndOf (get_or ends from 0)) exit_at.is_one (ap (λ (n : NamedNode). n.kind) exit_at.is_named) (refl, refl))
      (goes (EndOf (get_or ends from 0)) (BackAt (get_or calls call 0)) (Node to)
      (edge_part call Call entry (EndOf (get_or ends from 0)) (BackAt (get_or calls call 0)) edge (inr (ap EndOf ends_same, refl)))
      (path_edge
      (kind_part to ret_at.one (RetKind back.0) (BackAt (get_or calls call 0)) (Node to) ret_at.is_one (ap (λ (n : NamedNode). n.kind) ret_name) (ap BackAt calls_same, refl))))
    where
      ret_kind_in : (o : Option ℕ) (i : Instance) (b : NamedNode) → option_map (λ pc. node i (RetKind pc)) o ≡ Some b → (pc : ℕ) × (o ≡ Some pc) × (b ≡ node i (RetKind pc))
      ret_kind_in None i b h = absurd (cc)
      ret_kind_in (Some pc) i b h = (pc, refl, sym (some_same h))

  step_path : (a b : ℕ) → RegionStep nodes a b → Path Part (Node a) (Node b)
  step_path a b (flows x y flow) = path_edge (flow_part x y (Node x) (Node y) flow (inl (refl, refl)))
  step_path a b (enters x y edge) = path_edge (edge_part x Call y (Node x) (Node y) edge (inl (refl, refl)))
  step_path a b (returns x y call entry edge exits rets) = way_back x y call entry edge exits rets
  step_path a b (starts x y edge) = path_edge (edge_part x Fork y (Node x) (Node y) edge (inl (refl, refl)))

  steps_path : (a b : ℕ) → Path (RegionStep nodes) a b → Path Part (Node a) (Node b)
  steps_path a b (stays n) = stays (Node n)
  steps_path a b (goes x y z step rest) = path_on (step_path x y step) (steps_path y z rest)

  -- ---- the two regions of a fork

  pub child_there : (f n : ℕ) → Path Part (ChildOf f) (Node n) → InChild nodes f n
  child_there f n path =
      let r = reaches (λ b. HasEdge nodes f Fork b) (ChildOf f) same (λ g b e. absurd (cc)) n refl path in
      (r.first, r.from, r.path)
    where
      same : (g b : ℕ) → ChildOf g ≡ ChildOf f → HasEdge nodes g Fork b → HasEdge nodes f Fork b
      same g b e edge = let is : g ≡ f = cc in subst (λ k. HasEdge nodes k Fork b) is edge

  pub child_back : (f n : ℕ) → InChild nodes f n → Path Part (ChildOf f) (Node n)
  child_back f n region = goes (ChildOf f) (Node region.0) (Node n) (edge_part f Fork region.0 (ChildOf f) (Node region.0) region.1 (inr (refl, refl))) (steps_path region.0 n region.2)

  pub after_there : (f n : ℕ) → Path Part (AfterOf f) (Node n) → InAfter nodes f n
  after_there f n path =
      let r = reaches (λ b. HasFlow nodes f b) (AfterOf f) (λ g b e. absurd (cc)) same n refl path in
      (r.first, r.from, r.path)
    where
      same : (g b : ℕ) → AfterOf g ≡ AfterOf f → HasFlow nodes g b → HasFlow nodes f b
      same g b e flow = let is : g ≡ f = cc in subst (λ k. HasFlow nodes k b) is flow

  pub after_back : (f n : ℕ) → InAfter nodes f n → Path Part (AfterOf f) (Node n)
  after_back f n region = goes (AfterOf f) (Node region.0) (Node n) (flow_part f region.0 (AfterOf f) (Node region.0) region.1 (inr (refl, refl))) (steps_path region.0 n region.2)

  -- ---- regions stay in the graph

  flow_ends : (a b : ℕ) → HasFlow nodes a b → b < length nodes
  flow_ends a b flow =
      let t = there nodes a (λ one. Contains one.flows b) flow in
      All-contains (λ (k : ℕ). k < length nodes) t.one.flows b ((inside a (slice_get_within nodes a t.one t.is_one)).flows t.one t.is_one) t.holds

  edge_ends : (from : ℕ) (kind : EdgeKind) (to : ℕ) → HasEdge nodes from kind to → to < length nodes
  edge_ends from kind to edge = let t = there nodes to (λ one. Contains one.edges (from, kind)) edge in slice_get_within nodes to t.one t.is_one

  step_ends : (a b : ℕ) → RegionStep nodes a b → b < length nodes
  step_ends a b (flows x y flow) = flow_ends x y flow
  step_ends a b (enters x y edge) = edge_ends x Call y edge
  step_ends a b (returns x y call entry edge exits rets) = let at = one_named nodes y rets.back rets.is_back in slice_get_within nodes y at.one at.is_one
  step_ends a b (starts x y edge) = edge_ends x Fork y edge

  path_ends : (a b : ℕ) → a < length nodes → Path (RegionStep nodes) a b → b < length nodes
  path_ends a b h path = kept_along (λ n. n < length nodes) (λ x y step was. step_ends x y step) path h

  pub child_ends : (f n : ℕ) → InChild nodes f n → n < length nodes
  child_ends f n region = path_ends region.0 n (edge_ends f Fork region.0 region.1) region.2

  pub after_ends : (f n : ℕ) → InAfter nodes f n → n < length nodes
  after_ends f n region = path_ends region.0 n (flow_ends f region.0 region.1) region.2

-- ---- paths by numbers and by spots

module _ (search : List (List ℕ)) (E : Spot → Spot → Type 0) (edges : (x y : ℕ) → Leads search x y ↔ Related E x y) where
  spot_path : (x y : ℕ) (a b : Spot) → x ≡ number_of a → y ≡ number_of b → Path (Leads search) x y → Path E a b
  spot_path x y a b e f (stays n) = subst (Path E a) (number_injective a b (sym e ∙ f)) (stays a)
  spot_path x y a b e f (goes m k n edge rest) =
      let r = (edges m k).0 edge in
      let here : r.from ≡ a = number_injective r.from a (sym r.is_from ∙ e) in
      goes a r.to b (subst (λ s. E s r.to) here r.relates) (spot_path k n r.to b r.is_to f rest)

  number_path : (a b : Spot) → Path E a b → Path (Leads search) (number_of a) (number_of b)
  number_path a b (stays s) = stays (number_of s)
  number_path a b (goes s t u edge rest) =
      goes (number_of s) (number_of t) (number_of u) ((edges (number_of s) (number_of t)).1 (record { from = s; to = t; is_from = refl; is_to = refl; relates = edge }))
      (number_path t u rest)

  pub same_paths : (a b : Spot) → Path (Leads search) (number_of a) (number_of b) ↔ Path E a b
  same_paths a b = (spot_path (number_of a) (number_of b) a b refl refl, number_path a b)

-- ---- a row is a region

outside : (row : List Bool) (n : ℕ) → length row < n + 1 → has_number row n ≡ true → ⊥
outside row n past among = both_ways (has_number row n) (get_or_past row n false (omega (arith, past))) among

module _ (nodes : List GraphNode) (search : List (List ℕ)) (graph : IsSearchGraph nodes search) (f : ℕ) (row : List Bool) where
  row_is : (start : Spot) (In : ℕ → Type 0) → ((n : ℕ) → Path (PartBelow nodes graph.ends graph.calls (length nodes)) start (Node n) ↔ In n) → ((n : ℕ) → In n → n < length nodes)
      → IsRegionFrom search (number_of start) (length nodes) row → (n : ℕ) → (has_number row n ≡ true) ↔ In n
  row_is start In same ends region n = (forth, back)
    where
      paths : Path (Leads search) (number_of start) (5 * n) ↔ Path (PartBelow nodes graph.ends graph.calls (length nodes)) start (Node n)
      paths = same_paths search (PartBelow nodes graph.ends graph.calls (length nodes)) graph.edges start (Node n)

      forth : has_number row n ≡ true → In n
      forth among = elim (cases_lt n (length nodes)) [
        | inl below ↦ (same n).0 (paths.0 ((region.each n below).0 among))
        | inr past ↦ absurd (outside row n (omega (arith, past, region.same_length)) among)
      ]

      back : In n → has_number row n ≡ true
      back is = (region.each n (ends n is)).1 (paths.1 ((same n).1 is))

  pub child_row : IsRegionFrom search (5 * f + 3) (length nodes) row → (n : ℕ) → (has_number row n ≡ true) ↔ InChild nodes f n
  child_row = row_is (ChildOf f) (InChild nodes f) (λ n. (child_there nodes graph.ends graph.calls graph.groups graph.inside f n, child_back nodes graph.ends graph.calls graph.groups graph.inside f n))
      (child_ends nodes graph.ends graph.calls graph.groups graph.inside f)

  pub after_row : IsRegionFrom search (5 * f + 4) (length nodes) row → (n : ℕ) → (has_number row n ≡ true) ↔ InAfter nodes f n
  after_row = row_is (AfterOf f) (InAfter nodes f) (λ n. (after_there nodes graph.ends graph.calls graph.groups graph.inside f n, after_back nodes graph.ends graph.calls graph.groups graph.inside f n))
      (after_ends nodes graph.ends graph.calls graph.groups graph.inside f)
