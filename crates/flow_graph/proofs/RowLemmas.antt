-- Rows of the nodes of a wide graph are its data.
use Rattle.std.specs.Prelude.{◌↔◌, ◌⊎◌, ◌^◌, option_map, slice_get, IsSomeAnd}
use Rattle.std.specs.List.{AllZip, AllByRecursion}
use Rattle.std.proofs.Common.{inl, inr, ◌≡◌, ℕ, zero, suc, ◌+◌, ◌<◌, ◌≤◌, List, [], ◌∷◌, ◌++◌, length, get_or, take, Option, Some, None, Contains, refl, sym, ◌∙◌, ap, subst, arith}
use Rattle.std.proofs.lemmas.Option.{same_Some, slice_get_read, slice_get_within, get_or_from_slice_get}
use Rattle.std.proofs.lemmas.List.{take_more}
use Rattle.jo_insn.specs.declared.instructions.Insn.{Insn}
use Rattle.jo_prog.specs.declared.program.Program.{Program}
use Rattle.dep_nodes.specs.declared.kinds.NodeKind.{NodeKind}
use Rattle.dep_nodes.specs.OnceLists.{IsOnceEach}
use Rattle.dep_nodes.proofs.OnceLemmas.{contains_at}
use Rattle.dependence.specs.declared.flow.Place.{Place}
use Rattle.dependence.specs.declared.flows.FlowNode.{FlowNode}
use Rattle.dependence.specs.declared.flows.FlowRow.{FlowRow}
use Rattle.dependence.specs.FlowData.{EdgeIn, ReadsIn, WritesIn, IsInside, IsFlow}
use Rattle.dependence.specs.WideGraph.{WideStep, WideEdge, IsWideNode}
use Rattle.dependence.specs.NodePlaces.{Writes}
use Rattle.dependence.specs.GraphsAsData.{kind_at, IsDataOf, ListsRead, pc_kept, node_with, IsWideGraph}
use Rattle.flow_graph.specs.Adding.{HasThose}
use Rattle.flow_graph.specs.Exploring.{AreWideNodes}
use Rattle.flow_graph.specs.NodeUses.{HeightIs}
use Rattle.flow_graph.specs.Rows.{IsNumberAmong, StepsTo, IsRowOf, AreRowsOf}

-- ---- lists that go together

module _ {A B : Type 0} (R : A → B → Type 0) where
  pub zip_left : (xs : List A) (ys : List B) → AllZip R xs ys → (i : ℕ) (x : A) → slice_get xs i ≡ Some x → (y : B) × (slice_get ys i ≡ Some y) × R x y
  zip_left [] ys zip i x at = absurd (cc)
  zip_left (a ∷ xs) [] zip i x at = absurd zip
  zip_left (a ∷ xs) (b ∷ ys) zip zero x at = (b, refl, subst (λ z. R z b) (same_Some a x at) zip.0)
  zip_left (a ∷ xs) (b ∷ ys) zip (suc i) x at = zip_left xs ys zip.1 i x at

  pub zip_right : (xs : List A) (ys : List B) → AllZip R xs ys → (i : ℕ) (y : B) → slice_get ys i ≡ Some y → (x : A) × (slice_get xs i ≡ Some x) × R x y
  zip_right xs [] zip i y at = absurd (cc)
  zip_right [] (b ∷ ys) zip i y at = absurd zip
  zip_right (a ∷ xs) (b ∷ ys) zip zero y at = (a, refl, subst (λ z. R a z) (same_Some b y at) zip.0)
  zip_right (a ∷ xs) (b ∷ ys) zip (suc i) y at = zip_right xs ys zip.1 i y at

  zip_push : (xs : List A) (ys : List B) (x : A) (y : B) → AllZip R xs ys → R x y → AllZip R (xs ++ x ∷ []) (ys ++ y ∷ [])
  zip_push [] [] x y zip r = (r, tt)
  zip_push [] (b ∷ ys) x y zip r = absurd zip
  zip_push (a ∷ xs) [] x y zip r = absurd zip
  zip_push (a ∷ xs) (b ∷ ys) x y zip r = (zip.0, zip_push xs ys x y zip.1 r)

  pub zip_more : (xs : List A) (ys : List B) (i : ℕ) (x : A) (y : B) → i < length xs → AllZip R (take i xs) ys → R (get_or xs i x) y → AllZip R (take (i + 1) xs) (ys ++ y ∷ [])
  zip_more xs ys i x y below zip r = subst (λ zs. AllZip R zs (ys ++ y ∷ [])) (sym (take_more xs i x below)) (zip_push (take i xs) ys (get_or xs i x) y zip r)

  pub zip_next : (xs : List A) (ys : List B) (i : ℕ) (x : A) (y : B) → slice_get xs i ≡ Some x → AllZip R (take i xs) ys → R x y → AllZip R (take (i + 1) xs) (ys ++ y ∷ [])
  zip_next xs ys i x y at zip r = zip_more xs ys i x y (slice_get_within xs i x at) zip (subst (λ z. R z y) (sym (get_or_from_slice_get xs i x x at)) r)

  pub zip_length : (xs : List A) (ys : List B) → AllZip R xs ys → length ys ≡ length xs
  zip_length [] [] zip = refl
  zip_length [] (b ∷ ys) zip = absurd zip
  zip_length (a ∷ xs) [] zip = absurd zip
  zip_length (a ∷ xs) (b ∷ ys) zip = ap suc (zip_length xs ys zip.1)

  pub zip_all : (P : B → Type 0) → ((x : A) (y : B) → R x y → P y) → (xs : List A) (ys : List B) → AllZip R xs ys → AllByRecursion P ys
  zip_all P gives xs [] zip = tt
  zip_all P gives [] (b ∷ ys) zip = absurd zip
  zip_all P gives (a ∷ xs) (b ∷ ys) zip = (gives a b zip.0, zip_all P gives xs ys zip.1)

pub successors_are : (program : Program) (m : ℕ) (nodes : List NodeKind) (kind : NodeKind) (steps : List NodeKind) (numbers list : List ℕ) → HasThose (WideStep program m kind) steps
    → HasThose (IsNumberAmong nodes steps) numbers → list ≡ numbers → HasThose (StepsTo program m nodes kind) list
successors_are program m nodes kind steps numbers list those among same =
    subst (HasThose (StepsTo program m nodes kind)) (sym same) (λ j. (
      λ c. (let n = (among j).0 c in (n.0, (those n.0).0 n.1, n.2)),
      λ s. (among j).1 (s.0, (those s.0).1 s.1, s.2),
    ))

all_below : (count : ℕ) (xs : List ℕ) → ((x : ℕ) → Contains xs x → x < count) → AllByRecursion (λ x. x < count) xs
all_below count [] below = tt
all_below count (x ∷ xs) below = (below x (0, omega arith, refl), all_below count xs (λ y c. below y (suc c.0, (let b = c.1 in omega arith), c.2)))

kind_with : (program : Program) (m : ℕ) (kind : NodeKind) (o : Option ℕ) (node : FlowNode) → node ≡ node_with program m kind o → node.kind ≡ kind
kind_with program m kind None node is = ap (λ (n : FlowNode). n.kind) is
kind_with program m kind (Some pc) node is = ap (λ (n : FlowNode). n.kind) is

module _ (program : Program) (m : ℕ) (typed : List (Option ℕ)) (nodes : List NodeKind) (rows : List FlowRow) (are : AreWideNodes program m nodes) (zip : AreRowsOf program m typed nodes rows) where
  row_kind : (kind : NodeKind) (row : FlowRow) → IsRowOf program m typed nodes kind row → row.node.kind ≡ kind
  row_kind kind row is = kind_with program m kind (pc_kept kind) row.node is.node

  number_kind : (i : ℕ) (n : NodeKind) → slice_get nodes i ≡ Some n → kind_at rows i ≡ Some n
  number_kind i n at =
      let r = zip_left (IsRowOf program m typed nodes) nodes rows zip i n at in
      ap (option_map (λ (row : FlowRow). row.node.kind)) r.1 ∙ ap (λ x. Some x) (row_kind n r.0 r.2)

  -- the row of a number, and its node
  record Stands (i : ℕ) (n : NodeKind) : Type 0 where
    row : FlowRow
    at : slice_get rows i ≡ Some row
    node_at : slice_get nodes i ≡ Some n
    is : IsRowOf program m typed nodes n row

  stands : (i : ℕ) (n : NodeKind) → kind_at rows i ≡ Some n → Stands i n
  stands i n at = by_row (slice_get rows i) refl at
    where
      by_row : (o : Option FlowRow) → slice_get rows i ≡ o → option_map (λ (row : FlowRow). row.node.kind) o ≡ Some n → Stands i n
      by_row None e f = absurd (cc)
      by_row (Some row) e f =
          let z = zip_right (IsRowOf program m typed nodes) nodes rows zip i row e in
          let kind : z.0 ≡ n = sym (row_kind z.0 row z.2) ∙ same_Some row.node.kind n f in
          record { row = row; at = e; node_at = z.1 ∙ ap (λ x. Some x) kind; is = subst (λ k. IsRowOf program m typed nodes k row) kind z.2 }

  -- what holds of the row of a number
  of_row : (P : FlowRow → Type 0) (i : ℕ) (row : FlowRow) → slice_get rows i ≡ Some row → IsSomeAnd (slice_get rows i) P ↔ P row
  of_row P i row at = (λ p. subst (λ o. IsSomeAnd o P) at p, λ p. subst (λ o. IsSomeAnd o P) (sym at) p)

  there : (i : ℕ) (n : NodeKind) → slice_get nodes i ≡ Some n → IsWideNode program m n
  there i n at = (are.each n).0 (contains_at nodes i n at)

  edges : (i j : ℕ) (a b : NodeKind) → kind_at rows i ≡ Some a → kind_at rows j ≡ Some b → EdgeIn rows i j ↔ WideEdge program m a b
  edges i j a b at_i at_j = (on, back)
    where
      s : Stands i a
      s = stands i a at_i

      t : Stands j b
      t = stands j b at_j

      on : EdgeIn rows i j → WideEdge program m a b
      on edge =
          let step = (s.is.successors j).0 ((of_row (λ row. Contains row.successors j) i s.row s.at).0 edge) in
          let same : step.0 ≡ b = same_Some step.0 b (sym step.2 ∙ t.node_at) in
          record { step = subst (λ k. WideStep program m a k) same step.1; there = there i a s.node_at }

      back : WideEdge program m a b → EdgeIn rows i j
      back edge = (of_row (λ row. Contains row.successors j) i s.row s.at).1 ((s.is.successors j).1 (b, edge.step, t.node_at))

  reads : (i : ℕ) (n : NodeKind) (v : Place) → kind_at rows i ≡ Some n → ReadsIn rows i v ↔ ListsRead program m (HeightIs typed) n v
  reads i n v at =
      let s = stands i n at in
      let row = of_row (λ row. Contains row.reads v) i s.row s.at in
      (λ r. (s.is.reads v).0 (row.0 r), λ r. row.1 ((s.is.reads v).1 r))

  writes : (i : ℕ) (n : NodeKind) (v : Place) → kind_at rows i ≡ Some n → WritesIn rows i v ↔ Writes program m (HeightIs typed) n v
  writes i n v at =
      let s = stands i n at in
      let row = of_row (λ row. Contains row.writes v) i s.row s.at in
      (λ w. (s.is.writes v).0 (row.0 w), λ w. row.1 ((s.is.writes v).1 w))

  to_inside : (kind : NodeKind) (row : FlowRow) → IsRowOf program m typed nodes kind row → (j : ℕ) → Contains row.successors j → j < length rows
  to_inside kind row is j c =
      let step = (is.successors j).0 c in
      let within = slice_get_within nodes j step.0 step.2 in
      let count = zip_length (IsRowOf program m typed nodes) nodes rows zip in
      omega (arith, within, count)

  inside : (i j : ℕ) → EdgeIn rows i j → j < length rows
  inside i j edge = by_row (slice_get rows i) refl edge
    where
      by_row : (o : Option FlowRow) → slice_get rows i ≡ o → IsSomeAnd o (λ row. Contains row.successors j) → j < length rows
      by_row None e there = absurd there
      by_row (Some row) e there = let z = zip_right (IsRowOf program m typed nodes) nodes rows zip i row e in to_inside z.0 row z.2 j there

  each_node : (n : NodeKind) → IsWideNode program m n → (i : ℕ) × (kind_at rows i ≡ Some n)
  each_node n wide =
      let c = (are.each n).1 wide in
      (c.0, number_kind c.0 n (slice_get_read nodes (length nodes) c.0 n refl c.1 (sym c.2)))

  node_kept : (kind : NodeKind) (row : FlowRow) → IsRowOf program m typed nodes kind row → row.node ≡ node_with program m row.node.kind (pc_kept row.node.kind)
  node_kept kind row is = is.node ∙ ap (λ k. node_with program m k (pc_kept k)) (sym (row_kind kind row is))

  pub is_wide_graph : IsWideGraph program m (HeightIs typed) rows
  is_wide_graph = record {
    graph = record {
      each_node = each_node;
      only_nodes = λ i n at. there i n (stands i n at).node_at;
      once = λ i j n at_i at_j. are.once i j n (stands i n at_i).node_at (stands j n at_j).node_at;
      inside = inside;
      edges = edges;
      reads = reads;
      writes = writes;
    };
    nodes = λ i row at. let z = zip_right (IsRowOf program m typed nodes) nodes rows zip i row at in node_kept z.0 row z.2;
  }

  pub is_flow : (count : ℕ) → count < 2 ^ 32 → IsFlow rows count
  is_flow count few = record {
    few = few;
    rows = zip_all (IsRowOf program m typed nodes) (IsInside (length rows)) (λ kind row is. record { inside = all_below (length rows) row.successors (to_inside kind row is); once = is.once }) nodes rows zip;
  }
