-- What is added to a search graph, put together.
use Rattle.std.proofs.Common.{◌≡◌, ◌↔◌, ◌⊎◌, inl, inr, ℕ, ◌+◌, ◌*◌, ◌<◌, List, [], ◌∷◌, ◌++◌, length, get_or, take, Contains, All, Option, Some, None, slice_get, option_map, replicate, refl, sym, ◌∙◌, ap, subst, arith}
use Rattle.std.proofs.lemmas.Bool.{cases_eq, cases_lt}
use Rattle.std.proofs.lemmas.List.{take_more, get_or-replicate, get_or_past, length-replicate}
use Rattle.std.proofs.lemmas.List.Elements.{Contains-append_left, Contains-push, Contains-push_cases}
use Rattle.jo_graph.specs.Graphs.{HasEdge as Leads, AddsEdge}
use Rattle.dep_nodes.specs.declared.kinds.EdgeKind.{EdgeKind}
use Rattle.dep_nodes.specs.declared.graphs.NodeName.{NodeName}
use Rattle.dep_nodes.specs.declared.dependence_graph.GraphNode.{GraphNode}
use Rattle.thread_regions.specs.declared.search.Spot.{Spot}
use Rattle.thread_regions.specs.declared.search.Spot.TheVariants.{Node, EndOf, BackAt, ChildOf, AfterOf}
use Rattle.thread_regions.specs.Searches.{number_of, Related, AddsSpots, Just, ForEach, FlowPart, EdgePart, KindPart, OneNodePart, NodePart, PartBelow, IsInsideAt, AreGroups, IsSearchGraph}
use Rattle.thread_regions.proofs.FirstLemmas.{some_same}

-- ---- numbers of spots

pub number_injective : (a b : Spot) → number_of a ≡ number_of b → a ≡ b
number_injective (Node m) (Node n) h = ap Node (omega (arith, h))
number_injective (Node m) (EndOf n) h = absurd (omega (arith, h))
number_injective (Node m) (BackAt n) h = absurd (omega (arith, h))
number_injective (Node m) (ChildOf n) h = absurd (omega (arith, h))
number_injective (Node m) (AfterOf n) h = absurd (omega (arith, h))
number_injective (EndOf m) (Node n) h = absurd (omega (arith, h))
number_injective (EndOf m) (EndOf n) h = ap EndOf (omega (arith, h))
number_injective (EndOf m) (BackAt n) h = absurd (omega (arith, h))
number_injective (EndOf m) (ChildOf n) h = absurd (omega (arith, h))
number_injective (EndOf m) (AfterOf n) h = absurd (omega (arith, h))
number_injective (BackAt m) (Node n) h = absurd (omega (arith, h))
number_injective (BackAt m) (EndOf n) h = absurd (omega (arith, h))
number_injective (BackAt m) (BackAt n) h = ap BackAt (omega (arith, h))
number_injective (BackAt m) (ChildOf n) h = absurd (omega (arith, h))
number_injective (BackAt m) (AfterOf n) h = absurd (omega (arith, h))
number_injective (ChildOf m) (Node n) h = absurd (omega (arith, h))
number_injective (ChildOf m) (EndOf n) h = absurd (omega (arith, h))
number_injective (ChildOf m) (BackAt n) h = absurd (omega (arith, h))
number_injective (ChildOf m) (ChildOf n) h = ap ChildOf (omega (arith, h))
number_injective (ChildOf m) (AfterOf n) h = absurd (omega (arith, h))
number_injective (AfterOf m) (Node n) h = absurd (omega (arith, h))
number_injective (AfterOf m) (EndOf n) h = absurd (omega (arith, h))
number_injective (AfterOf m) (BackAt n) h = absurd (omega (arith, h))
number_injective (AfterOf m) (ChildOf n) h = absurd (omega (arith, h))
number_injective (AfterOf m) (AfterOf n) h = ap AfterOf (omega (arith, h))

-- ---- adding

pub adds_one : (old new : List (List ℕ)) (a b : Spot) → AddsEdge old new (number_of a) (number_of b) → AddsSpots old new (Just a b)
adds_one old new a b adds = record { same_length = adds.same_length; edges = λ x y. (there x y, back x y) }
  where
    there : (x y : ℕ) → Leads new x y → Leads old x y ⊎ Related (Just a b) x y
    there x y edge = elim ((adds.edges x y).0 edge) [
      | inl had ↦ inl had
      | inr is ↦ inr (record { from = a; to = b; is_from = is.0; is_to = is.1; relates = (refl, refl) })
    ]

    back : (x y : ℕ) → Leads old x y ⊎ Related (Just a b) x y → Leads new x y
    back x y (inl had) = (adds.edges x y).1 (inl had)
    back x y (inr r) = (adds.edges x y).1 (inr (r.is_from ∙ ap number_of r.relates.0, r.is_to ∙ ap number_of r.relates.1))

pub adds_none : (old : List (List ℕ)) (E : Spot → Spot → Type 0) → ((a b : Spot) → E a b → ⊥) → AddsSpots old old E
adds_none old E none = record { same_length = refl; edges = λ x y. (λ had. inl had, back x y) }
  where
    back : (x y : ℕ) → Leads old x y ⊎ Related E x y → Leads old x y
    back x y (inl had) = had
    back x y (inr r) = absurd (none r.from r.to r.relates)

-- first what E says, then what F says, and that is what G says
pub adds_both : (old mid new : List (List ℕ)) (E F G : Spot → Spot → Type 0) → AddsSpots old mid E → AddsSpots mid new F → ((a b : Spot) → G a b ↔ (E a b ⊎ F a b)) → AddsSpots old new G
adds_both old mid new E F G first second same = record { same_length = second.same_length ∙ first.same_length; edges = λ x y. (there x y, back x y) }
  where
    there : (x y : ℕ) → Leads new x y → Leads old x y ⊎ Related G x y
    there x y edge = elim ((second.edges x y).0 edge) [
      | inl mid_has ↦ elim ((first.edges x y).0 mid_has) [
        | inl had ↦ inl had
        | inr r ↦ inr (record { from = r.from; to = r.to; is_from = r.is_from; is_to = r.is_to; relates = (same r.from r.to).1 (inl r.relates) })
      ]
      | inr r ↦ inr (record { from = r.from; to = r.to; is_from = r.is_from; is_to = r.is_to; relates = (same r.from r.to).1 (inr r.relates) })
    ]

    back : (x y : ℕ) → Leads old x y ⊎ Related G x y → Leads new x y
    back x y (inl had) = (second.edges x y).1 (inl ((first.edges x y).1 (inl had)))
    back x y (inr r) = elim ((same r.from r.to).0 r.relates) [
      | inl e ↦ (second.edges x y).1 (inl ((first.edges x y).1 (inr (record { from = r.from; to = r.to; is_from = r.is_from; is_to = r.is_to; relates = e }))))
      | inr f ↦ (second.edges x y).1 (inr (record { from = r.from; to = r.to; is_from = r.is_from; is_to = r.is_to; relates = f }))
    ]

-- ---- one item after another

pub each_none : {A : Type 0} (Part : A → Spot → Spot → Type 0) (old : List (List ℕ)) → AddsSpots old old (ForEach [] Part)
each_none {A} Part old = adds_none old (ForEach [] Part) (λ a b each. omega (arith, each.among.1))

pub each_step : {A : Type 0} (Part : A → Spot → Spot → Type 0) (old mid new : List (List ℕ)) (xs : List A) (i : ℕ) (x : A) → i < length xs → get_or xs i x ≡ x
    → AddsSpots old mid (ForEach (take i xs) Part) → AddsSpots mid new (Part x) → AddsSpots old new (ForEach (take (i + 1) xs) Part)
each_step {A} Part old mid new xs i x below is first second =
    let more : take (i + 1) xs ≡ take i xs ++ x ∷ [] = take_more xs i x below ∙ ap (λ y. take i xs ++ y ∷ []) is in
    subst (λ ys. AddsSpots old new (ForEach ys Part)) (sym more)
    (adds_both old mid new (ForEach (take i xs) Part) (Part x) (ForEach (take i xs ++ x ∷ []) Part) first second (λ a b. (there a b, back a b)))
  where
    there : (a b : Spot) → ForEach (take i xs ++ x ∷ []) Part a b → ForEach (take i xs) Part a b ⊎ Part x a b
    there a b each = elim (Contains-push_cases (take i xs) x each.item each.among) [
      | inl before ↦ inl (record { item = each.item; among = before; part = each.part })
      | inr last ↦ inr (subst (λ y. Part y a b) (sym last) each.part)
    ]

    back : (a b : Spot) → ForEach (take i xs) Part a b ⊎ Part x a b → ForEach (take i xs ++ x ∷ []) Part a b
    back a b (inl each) = record { item = each.item; among = Contains-append_left (take i xs) (x ∷ []) each.item each.among; part = each.part }
    back a b (inr part) = record { item = x; among = Contains-push (take i xs) x; part = part }

-- ---- one node after another

module _ (nodes : List GraphNode) (ends calls : List ℕ) where
  pub below_none : (old : List (List ℕ)) → AddsSpots old old (PartBelow nodes ends calls 0)
  below_none old = adds_none old (PartBelow nodes ends calls 0) (λ a b part. omega (arith, part.below))

  pub below_step : (old mid new : List (List ℕ)) (i : ℕ) → AddsSpots old mid (PartBelow nodes ends calls i) → AddsSpots mid new (NodePart nodes ends calls i)
      → AddsSpots old new (PartBelow nodes ends calls (i + 1))
  below_step old mid new i first second = adds_both old mid new (PartBelow nodes ends calls i) (NodePart nodes ends calls i) (PartBelow nodes ends calls (i + 1)) first second (λ a b. (there a b, back a b))
    where
      there : (a b : Spot) → PartBelow nodes ends calls (i + 1) a b → PartBelow nodes ends calls i a b ⊎ NodePart nodes ends calls i a b
      there a b part = elim (cases_eq part.n i) [
        | inl last ↦ inr (subst (λ k. NodePart nodes ends calls k a b) last part.part)
        | inr other ↦ inl (record { n = part.n; below = omega (arith, part.below, other); part = part.part })
      ]

      back : (a b : Spot) → PartBelow nodes ends calls i a b ⊎ NodePart nodes ends calls i a b → PartBelow nodes ends calls (i + 1) a b
      back a b (inl part) = record { n = part.n; below = omega (arith, part.below); part = part.part }
      back a b (inr part) = record { n = i; below = omega arith; part = part }

pub adds_same : (old new : List (List ℕ)) (E G : Spot → Spot → Type 0) → AddsSpots old new E → ((a b : Spot) → G a b ↔ E a b) → AddsSpots old new G
adds_same old new E G adds same = record { same_length = adds.same_length; edges = λ x y. (there x y, back x y) }
  where
    there : (x y : ℕ) → Leads new x y → Leads old x y ⊎ Related G x y
    there x y edge = elim ((adds.edges x y).0 edge) [
      | inl had ↦ inl had
      | inr r ↦ inr (record { from = r.from; to = r.to; is_from = r.is_from; is_to = r.is_to; relates = (same r.from r.to).1 r.relates })
    ]

    back : (x y : ℕ) → Leads old x y ⊎ Related G x y → Leads new x y
    back x y (inl had) = (adds.edges x y).1 (inl had)
    back x y (inr r) = (adds.edges x y).1 (inr (record { from = r.from; to = r.to; is_from = r.is_from; is_to = r.is_to; relates = (same r.from r.to).0 r.relates }))

-- ---- the whole of a node, and of a graph

record Fields (nodes : List GraphNode) (n : ℕ) (flows : List ℕ) (edges : List (ℕ × EdgeKind)) (name : NodeName) : Type 0 where
  one : GraphNode
  is_one : slice_get nodes n ≡ Some one
  flows_are : one.flows ≡ flows
  edges_are : one.edges ≡ edges
  name_is : one.name ≡ name

fields_in : (o : Option GraphNode) (flows : List ℕ) (edges : List (ℕ × EdgeKind)) (name : NodeName) → option_map (λ (x : GraphNode). x.flows) o ≡ Some flows
    → option_map (λ (x : GraphNode). x.edges) o ≡ Some edges → option_map (λ (x : GraphNode). x.name) o ≡ Some name
    → (one : GraphNode) × (o ≡ Some one) × (one.flows ≡ flows) × (one.edges ≡ edges) × (one.name ≡ name)
fields_in None flows edges name e f g = absurd (cc)
fields_in (Some one) flows edges name e f g = (one, refl, some_same e, some_same f, some_same g)

module _ (nodes : List GraphNode) (n : ℕ) (flows : List ℕ) (edges : List (ℕ × EdgeKind)) (name : NodeName) (has_flows : option_map (λ (x : GraphNode). x.flows) (slice_get nodes n) ≡ Some flows)
    (has_edges : option_map (λ (x : GraphNode). x.edges) (slice_get nodes n) ≡ Some edges) (has_name : option_map (λ (x : GraphNode). x.name) (slice_get nodes n) ≡ Some name) where
  fields : Fields nodes n flows edges name
  fields = let t = fields_in (slice_get nodes n) flows edges name has_flows has_edges has_name in record { one = t.0; is_one = t.1; flows_are = t.2; edges_are = t.3; name_is = t.4 }

  pub node_adds : (ends calls : List ℕ) (old first second new : List (List ℕ)) → AddsSpots old first (ForEach flows (FlowPart n)) → AddsSpots first second (ForEach edges (EdgePart ends calls n))
      → AddsSpots second new (KindPart ends calls n name.kind) → AddsSpots old new (NodePart nodes ends calls n)
  node_adds ends calls old first second new by_flows by_edges by_kind =
      let f = fields in
      let one_flows : AddsSpots old first (ForEach f.one.flows (FlowPart n)) = subst (λ (xs : List ℕ). AddsSpots old first (ForEach xs (FlowPart n))) (sym f.flows_are) by_flows in
      let one_edges : AddsSpots first second (ForEach f.one.edges (EdgePart ends calls n)) = subst (λ (xs : List (ℕ × EdgeKind)). AddsSpots first second (ForEach xs (EdgePart ends calls n))) (sym f.edges_are) by_edges in
      let one_kind : AddsSpots second new (KindPart ends calls n f.one.name.kind) = subst (λ (x : NodeName). AddsSpots second new (KindPart ends calls n x.kind)) (sym f.name_is) by_kind in
      let two = adds_both old first second (ForEach f.one.flows (FlowPart n)) (ForEach f.one.edges (EdgePart ends calls n)) (λ a b. ForEach f.one.flows (FlowPart n) a b ⊎ ForEach f.one.edges (EdgePart ends calls n) a b)
      one_flows one_edges (λ a b. (λ h. h, λ h. h)) in
      adds_both old second new (λ a b. ForEach f.one.flows (FlowPart n) a b ⊎ ForEach f.one.edges (EdgePart ends calls n) a b) (KindPart ends calls n f.one.name.kind) (NodePart nodes ends calls n)
      two one_kind (λ a b. (there f.one f.is_one a b, λ h. record { one = f.one; is_one = f.is_one; part = h }))
    where
      there : (one : GraphNode) → slice_get nodes n ≡ Some one → (a b : Spot) → NodePart nodes ends calls n a b → OneNodePart ends calls n one a b
      there one is a b p = let same : p.one ≡ one = some_same (sym p.is_one ∙ is) in subst (λ (x : GraphNode). OneNodePart ends calls n x a b) same p.part

  pub node_inside : All (λ (to : ℕ). to < length nodes) flows → All (λ (edge : ℕ × EdgeKind). edge.0 < length nodes) edges → IsInsideAt nodes n
  node_inside flows_in edges_in = record { edges = edges_are_in; flows = flows_are_in }
    where
      edges_are_in : (one : GraphNode) → slice_get nodes n ≡ Some one → All (λ (edge : ℕ × EdgeKind). edge.0 < length nodes) one.edges
      edges_are_in one is =
          let e : Some one.edges ≡ Some edges = sym (ap (option_map (λ (x : GraphNode). x.edges)) is) ∙ has_edges in
          subst (λ (xs : List (ℕ × EdgeKind)). All (λ (edge : ℕ × EdgeKind). edge.0 < length nodes) xs) (sym (some_same e)) edges_in

      flows_are_in : (one : GraphNode) → slice_get nodes n ≡ Some one → All (λ (to : ℕ). to < length nodes) one.flows
      flows_are_in one is =
          let e : Some one.flows ≡ Some flows = sym (ap (option_map (λ (x : GraphNode). x.flows)) is) ∙ has_flows in
          subst (λ (xs : List ℕ). All (λ (to : ℕ). to < length nodes) xs) (sym (some_same e)) flows_in

pub no_edges : (n a b : ℕ) → Leads (replicate {A = List ℕ} n []) a b → ⊥
no_edges n a b edge =
    let none : get_or (replicate {A = List ℕ} n []) a [] ≡ [] = elim (cases_lt a n) [
      | inl h ↦ get_or-replicate {A = List ℕ} n a [] [] h
      | inr h ↦ get_or_past {X = List ℕ} (replicate n []) a [] (omega (arith, h, length-replicate {A = List ℕ} n []))
    ] in
    let among : Contains {X = ℕ} [] b = subst (λ bs. Contains bs b) none edge in
    omega (arith, among.1)

pub searches : (nodes : List GraphNode) (ends calls : List ℕ) (search : List (List ℕ)) (i : ℕ) → AreGroups nodes ends calls → length nodes ≡ i
    → AddsSpots (replicate {A = List ℕ} (5 * length nodes) []) search (PartBelow nodes ends calls i) → ((k : ℕ) → k < i → IsInsideAt nodes k) → IsSearchGraph nodes search
searches nodes ends calls search i groups all adds inside = record {
  same_length = adds.same_length ∙ length-replicate {A = List ℕ} (5 * length nodes) [];
  ends = ends;
  calls = calls;
  groups = groups;
  inside = λ n h. inside n (omega (arith, h, all));
  edges = λ x y. (there x y, back x y);
}
  where
    there : (x y : ℕ) → Leads search x y → Related (PartBelow nodes ends calls (length nodes)) x y
    there x y edge = elim ((adds.edges x y).0 edge) [
      | inl had ↦ absurd (no_edges (5 * length nodes) x y had)
      | inr r ↦ subst (λ k. Related (PartBelow nodes ends calls k) x y) (sym all) r
    ]

    back : (x y : ℕ) → Related (PartBelow nodes ends calls (length nodes)) x y → Leads search x y
    back x y r = (adds.edges x y).1 (inr (subst (λ k. Related (PartBelow nodes ends calls k) x y) all r))
