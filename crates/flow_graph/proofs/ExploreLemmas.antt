-- How the nodes of a wide graph are found.
use Rattle.std.specs.Prelude.{◌↔◌, ◌⊎◌, slice_get}
use Rattle.std.proofs.Common.{inl, inr, ◌≡◌, ℕ, ◌+◌, ◌<◌, ◌≤◌, List, [], ◌∷◌, ◌++◌, length, Option, Some, None, zero, suc, Contains, refl, sym, ◌∙◌, ap, subst, arith, append_assoc}
use Rattle.std.proofs.lemmas.Bool.{cases_eq}
use Rattle.std.proofs.lemmas.List.Elements.{Contains-append_left, Contains-push, Contains-push_cases}
use Rattle.std.proofs.lemmas.Option.{same_Some, slice_get_read, slice_get_within}
use Rattle.jo_ids.specs.Path.{Path, stays}
use Rattle.jo_ids.proofs.PathLemmas.{path_more, kept_along}
use Rattle.jo_prog.specs.declared.program.Program.{Program}
use Rattle.jo_prog.proofs.WalkLemmas.{here, none_there, head_or_behind}
use Rattle.dep_nodes.specs.OnceLists.{IsOnceEach}
use Rattle.dep_nodes.specs.declared.kinds.NodeKind.{NodeKind}
use Rattle.dep_nodes.specs.declared.kinds.NodeKind.TheVariants.{Entry}
use Rattle.dep_nodes.specs.GrowingGraphs.{AppendsNew}
use Rattle.dep_nodes.proofs.OnceLemmas.{contains_at}
use Rattle.dependence.specs.WideGraph.{WideStep, IsWideNode}
use Rattle.dependence.specs.GraphsAsData.{HasMoreNodes}
use Rattle.flow_graph.specs.Adding.{HasThose}
use Rattle.flow_graph.specs.Exploring.{AreWideNodes, Explores, AddsAll}

-- an item stays where it is as a list grows
same_place : {A : Type 0} (xs more : List A) (i : ℕ) → i < length xs → slice_get (xs ++ more) i ≡ slice_get xs i
same_place [] more i below = absurd (omega (arith, below))
same_place (x ∷ xs) more zero below = refl
same_place (x ∷ xs) more (suc i) below = same_place xs more i (omega (arith, below))

module _ (program : Program) (m : ℕ) where
  pub begun : (nodes : List NodeKind) → AppendsNew [] Entry nodes → Explores program m nodes 0
  begun nodes (inl same) = absurd (none_there Entry same.0)
  begun nodes (inr new) = subst (λ xs. Explores program m xs 0) (sym new.1) (record {
    begins = here Entry [];
    reached = alone;
    closed = λ i a b below. absurd (omega (arith, below));
  })
    where
      alone : (n : NodeKind) → Contains (Entry ∷ []) n → IsWideNode program m n
      alone n c = elim (head_or_behind Entry [] n c) [
        | inl e ↦ subst (λ k. IsWideNode program m k) e (stays Entry)
        | inr more ↦ absurd (none_there n more)
      ]

  pub begun_few : (nodes : List NodeKind) → AppendsNew [] Entry nodes → length nodes ≤ 16384
  begun_few nodes (inl same) = absurd (none_there Entry same.0)
  begun_few nodes (inr new) = let one = ap length new.1 in omega (arith, one)

  pub grown : (nodes new steps : List NodeKind) (done : ℕ) (kind : NodeKind) → Explores program m nodes done → slice_get nodes done ≡ Some kind
      → HasThose (WideStep program m kind) steps → AddsAll steps nodes new → Explores program m new (done + 1)
  grown nodes new steps done kind before at those adds = record {
    begins = (adds.each Entry).1 (inl before.begins);
    reached = reached;
    closed = closed;
  }
    where
      reached : (n : NodeKind) → Contains new n → IsWideNode program m n
      reached n c = elim ((adds.each n).0 c) [
        | inl had ↦ before.reached n had
        | inr step ↦ path_more (before.reached kind (contains_at nodes done kind at)) ((those n).0 step)
      ]

      stood : (i : ℕ) (a : NodeKind) → i < length nodes → slice_get new i ≡ Some a → slice_get nodes i ≡ Some a
      stood i a below at_i = sym (same_place nodes adds.more i below) ∙ ap (λ xs. slice_get xs i) (sym adds.grows) ∙ at_i

      closed : (i : ℕ) (a b : NodeKind) → i < done + 1 → slice_get new i ≡ Some a → WideStep program m a b → Contains new b
      closed i a b below at_i step =
          let inside = slice_get_within nodes done kind at in
          let old : slice_get nodes i ≡ Some a = stood i a (omega arith) at_i in
          elim (cases_eq i done) [
            | inl e ↦
                let same : a ≡ kind = same_Some a kind (sym old ∙ ap (slice_get nodes) e ∙ at) in
                (adds.each b).1 (inr ((those b).1 (subst (λ k. WideStep program m k b) same step)))
            | inr ne ↦ (adds.each b).1 (inl (before.closed i a b (omega (arith, below, ne)) old step))
          ]

  pub all_nodes : (nodes : List NodeKind) (done : ℕ) → Explores program m nodes done → length nodes ≤ done → IsOnceEach nodes → AreWideNodes program m nodes
  all_nodes nodes done found over once = record { each = λ n. (found.reached n, complete n); once = once }
    where
      complete : (n : NodeKind) → IsWideNode program m n → Contains nodes n
      complete n path =
          kept_along (Contains nodes) (λ a b step c. found.closed c.0 a b (let below = c.1 in omega arith) (slice_get_read nodes (length nodes) c.0 a refl c.1 (sym c.2)) step) path found.begins

  pub has_more : (nodes : List NodeKind) (done : ℕ) → Explores program m nodes done → 16384 < length nodes → IsOnceEach nodes → HasMoreNodes program m 16384
  has_more nodes done found many once = (nodes, many, λ i n at. found.reached n (contains_at nodes i n at), once)

-- ---- lists that grow by more than one item

pub adds_next : {A : Type 0} (xs old mid new : List A) (x : A) → AddsAll xs old mid → AppendsNew mid x new → AddsAll (xs ++ x ∷ []) old new
adds_next {A} xs old mid new x before appends = record { each = λ y. (there y, back y); more = more appends; grows = grows appends }
  where
    from_mid : (y : A) → Contains mid y → Contains old y ⊎ Contains (xs ++ x ∷ []) y
    from_mid y c = elim ((before.each y).0 c) [
      | inl had ↦ inl had
      | inr among ↦ inr (Contains-append_left xs (x ∷ []) y among)
    ]

    last : (y : A) → x ≡ y → Contains old y ⊎ Contains (xs ++ x ∷ []) y
    last y e = inr (subst (λ z. Contains (xs ++ x ∷ []) z) e (Contains-push xs x))

    by_append : (y : A) → AppendsNew mid x new → Contains new y → Contains old y ⊎ Contains (xs ++ x ∷ []) y
    by_append y (inl same) c = from_mid y (subst (λ zs. Contains zs y) same.1 c)
    by_append y (inr pushed) c = elim (Contains-push_cases mid x y (subst (λ zs. Contains zs y) pushed.1 c)) [
      | inl had ↦ from_mid y had
      | inr e ↦ last y e
    ]

    there : (y : A) → Contains new y → Contains old y ⊎ Contains (xs ++ x ∷ []) y
    there y c = by_append y appends c

    keeps : (y : A) → AppendsNew mid x new → Contains mid y → Contains new y
    keeps y (inl same) c = subst (λ zs. Contains zs y) (sym same.1) c
    keeps y (inr pushed) c = subst (λ zs. Contains zs y) (sym pushed.1) (Contains-append_left mid (x ∷ []) y c)

    puts : AppendsNew mid x new → Contains new x
    puts (inl same) = subst (λ zs. Contains zs x) (sym same.1) same.0
    puts (inr pushed) = subst (λ zs. Contains zs x) (sym pushed.1) (Contains-push mid x)

    back : (y : A) → Contains old y ⊎ Contains (xs ++ x ∷ []) y → Contains new y
    back y (inl had) = keeps y appends ((before.each y).1 (inl had))
    back y (inr among) = elim (Contains-push_cases xs x y among) [
      | inl early ↦ keeps y appends ((before.each y).1 (inr early))
      | inr e ↦ subst (λ z. Contains new z) e (puts appends)
    ]

    more : AppendsNew mid x new → List A
    more (inl same) = before.more
    more (inr pushed) = before.more ++ x ∷ []

    grows : (how : AppendsNew mid x new) → new ≡ old ++ more how
    grows (inl same) = same.1 ∙ before.grows
    grows (inr pushed) = pushed.1 ∙ ap (λ zs. zs ++ x ∷ []) before.grows ∙ append_assoc old before.more (x ∷ [])
