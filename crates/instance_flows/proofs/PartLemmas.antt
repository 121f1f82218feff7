-- How the part of a graph that a node reaches is made.
use Rattle.std.specs.Prelude.{◌↔◌, ◌⊎◌, option_map, slice_get, IsSomeAnd}
use Rattle.std.specs.List.{AllZip, AllByRecursion}
use Rattle.std.proofs.Common.{inl, inr, ◌≡◌, ℕ, ◌+◌, ◌<◌, ◌≤◌, ◌^◌, Bool, true, false, List, [], ◌∷◌, ◌++◌, length, get_or, set, take, Option, Some, None, Contains, refl, sym, ◌∙◌, ap, subst, arith}
use Rattle.std.proofs.lemmas.Bool.{cases_eq, cases_lt, both_ways}
use Rattle.std.proofs.lemmas.List.{get_or_past}
use Rattle.std.proofs.lemmas.List.Elements.{Contains-append_left, Contains-push, Contains-push_cases}
use Rattle.std.proofs.lemmas.Option.{slice_get_within}
use Rattle.jo_ids.specs.Path.{Path, stays, goes}
use Rattle.jo_ids.specs.Rows.{has_number}
use Rattle.jo_ids.proofs.PathLemmas.{path_more}
use Rattle.jo_graph.proofs.QueueLemmas.{has_number-set_same, has_number-set, set_cases}
use Rattle.jo_prog.proofs.WalkLemmas.{here, behind as beyond, head_or_behind, none_there}
use Rattle.dep_nodes.specs.OnceLists.{IsOnceEach}
use Rattle.dep_nodes.specs.GrowingGraphs.{AppendsNew}
use Rattle.dep_nodes.proofs.OnceLemmas.{contains_at}
use Rattle.dependence.specs.declared.flow.Place.{Place}
use Rattle.dependence.specs.declared.flows.FlowRow.{FlowRow}
use Rattle.dependence.specs.FlowData.{EdgeIn, ReadsIn, IsInside, IsFlow}
use Rattle.dependence.specs.Behind.{Behind, one, more, AreBehind}
use Rattle.dependence.proofs.BehindLemmas.{edges_are}
use Rattle.dependence.proofs.ListedLemmas.{taken_more}
use Rattle.flow_graph.specs.Adding.{AddsThose, HasThose}
use Rattle.flow_graph.proofs.AddingLemmas.{adds_item}
use Rattle.flow_graph.proofs.RowLemmas.{zip_length, zip_all}
use Rattle.instance_flows.specs.Parts.{IsPlaceAmong, IsFoundAt, IsFound, IsPartRow}

-- ---- what is reached

module _ {N : Type 0} (E : N → N → Type 0) (S : N → Type 0) (never : (n : N) → S n → ⊥) (start : N) where
  along : (n : N) → Behind E S start n → Path E start n
  along _ (one n edge) = goes start n n edge (stays n)
  along _ (more x n before passes edge) = path_more (along x before) edge

  goes_on : (x n : N) → Path E x n → Behind E S start x → Behind E S start n
  goes_on _ _ (stays a) before = before
  goes_on _ _ (goes a b c edge path) before = goes_on b c path (more a b before (never a) edge)

  behind_or_here : (n : N) → Path E start n → (start ≡ n) ⊎ Behind E S start n
  behind_or_here _ (stays a) = inl refl
  behind_or_here _ (goes a b c edge path) = inr (goes_on b c path (one b edge))

pub reached_is : (flow : List FlowRow) (start : ℕ) (found : List Bool) → start < length flow → AreBehind flow None start found → (n : ℕ) → IsFound (set found start true) n ↔ Path (EdgeIn flow) start n
reached_is flow start found below are n = (there, back)
  where
    inside : start < length found
    inside = omega (arith, below, are.same_length)

    there : IsFound (set found start true) n → Path (EdgeIn flow) start n
    there is = elim (set_cases found start n is) [
      | inl had ↦ along (EdgeIn flow) (λ m. ⊥) (λ m no. no) start n ((are.each n).0 had)
      | inr same ↦ subst (λ m. Path (EdgeIn flow) start m) same (stays start)
    ]

    back : Path (EdgeIn flow) start n → IsFound (set found start true) n
    back path = elim (behind_or_here (EdgeIn flow) (λ m. ⊥) (λ m no. no) start n path) [
      | inl same ↦ subst (λ m. IsFound (set found start true) m) same (has_number-set_same found start inside)
      | inr after ↦ has_number-set found start n inside ((are.each n).1 after)
    ]

pub found_inside : (found : List Bool) (n : ℕ) → IsFound found n → n < length found
found_inside found n is = elim (cases_lt n (length found)) [
  | inl within ↦ within
  | inr beyond ↦ absurd (both_ways (has_number found n) (get_or_past found n false beyond) is)
]

-- ---- the numbers of a set

-- those below a number
abbrev pub IsFoundBelow : List Bool → ℕ → ℕ → Type 0
IsFoundBelow found n x = (x < n) × (has_number found x ≡ true)

pub found_none : (found : List Bool) → HasThose (IsFoundBelow found 0) []
found_none found x = (λ c. absurd (none_there x c), λ is. absurd (omega (arith, is.0)))

pub found_more : (found : List Bool) (n : ℕ) (old new : List ℕ) → HasThose (IsFoundBelow found n) old → AddsThose (IsFoundAt found n) old new → HasThose (IsFoundBelow found (n + 1)) new
found_more found n old new has adds x = (there, back)
  where
    there : Contains new x → IsFoundBelow found (n + 1) x
    there c = elim ((adds x).0 c) [
      | inl before ↦ let is = (has x).0 before in (omega (arith, is.0), is.1)
      | inr at ↦ (omega (arith, at.0), at.1)
    ]

    back : IsFoundBelow found (n + 1) x → Contains new x
    back is = elim (cases_eq x n) [
      | inl e ↦ (adds x).1 (inr (e, is.1))
      | inr other ↦ (adds x).1 (inl ((has x).1 (omega (arith, is.0, other), is.1)))
    ]

pub found_all : (found : List Bool) (n : ℕ) (numbers : List ℕ) → length found ≤ n → HasThose (IsFoundBelow found n) numbers → HasThose (IsFound found) numbers
found_all found n numbers past has x = (λ c. ((has x).0 c).1, λ is. (has x).1 (omega (arith, found_inside found x is, past), is))

pub fresh_next : (found : List Bool) (n : ℕ) (numbers : List ℕ) → HasThose (IsFoundBelow found n) numbers → Contains numbers n → ⊥
fresh_next found n numbers has c = omega (arith, ((has n).0 c).0)

pub adds_found : (found : List Bool) (n : ℕ) (old new : List ℕ) → has_number found n ≡ true → new ≡ old ++ n ∷ [] → AddsThose (IsFoundAt found n) old new
adds_found found n old new is made x = (there, back)
  where
    there : Contains new x → Contains old x ⊎ IsFoundAt found n x
    there c = elim (Contains-push_cases old n x (subst (λ xs. Contains xs x) made c)) [
      | inl before ↦ inl before
      | inr same ↦ inr (sym same, subst (λ k. has_number found k ≡ true) same is)
    ]

    back : Contains old x ⊎ IsFoundAt found n x → Contains new x
    back (inl before) = subst (λ xs. Contains xs x) (sym made) (Contains-append_left old (n ∷ []) x before)
    back (inr at) = subst (λ xs. Contains xs x) (sym made) (subst (λ k. Contains (old ++ n ∷ []) k) (sym at.0) (Contains-push old n))

pub adds_not_found : (found : List Bool) (n : ℕ) (old : List ℕ) → has_number found n ≡ false → AddsThose (IsFoundAt found n) old old
adds_not_found found n old not x = (λ c. inl c, back)
  where
    back : Contains old x ⊎ IsFoundAt found n x → Contains old x
    back (inl before) = before
    back (inr at) = absurd (both_ways (has_number found n) not (subst (λ k. has_number found k ≡ true) at.0 at.1))

-- ---- places

pub no_places : (numbers ends : List ℕ) → HasThose (IsPlaceAmong numbers (take 0 ends)) []
no_places numbers ends x = (λ c. absurd (none_there x c), λ among. absurd (none_there among.0 among.1))

pub place_added : (numbers : List ℕ) (end place : ℕ) (old new : List ℕ) → IsOnceEach numbers → slice_get numbers place ≡ Some end → new ≡ old ++ place ∷ [] → AddsThose (IsPlaceAmong numbers (end ∷ [])) old new
place_added numbers end place old new once at made x = (there, back)
  where
    there : Contains new x → Contains old x ⊎ IsPlaceAmong numbers (end ∷ []) x
    there c = elim (Contains-push_cases old place x (subst (λ xs. Contains xs x) made c)) [
      | inl before ↦ inl before
      | inr same ↦ inr (end, here end [], ap (slice_get numbers) (sym same) ∙ at)
    ]

    last : (b : ℕ) → Contains (end ∷ []) b → slice_get numbers x ≡ Some b → place ≡ x
    last b c stands = elim (head_or_behind end [] b c) [
      | inl e ↦ once place x end at (stands ∙ ap (λ k. Some k) (sym e))
      | inr none ↦ absurd (none_there b none)
    ]

    back : Contains old x ⊎ IsPlaceAmong numbers (end ∷ []) x → Contains new x
    back (inl before) = subst (λ xs. Contains xs x) (sym made) (Contains-append_left old (place ∷ []) x before)
    back (inr among) = subst (λ xs. Contains xs x) (sym made) (subst (λ k. Contains (old ++ place ∷ []) k) (last among.0 among.1 among.2) (Contains-push old place))

pub place_absent : (numbers : List ℕ) (end : ℕ) (old : List ℕ) → (Contains numbers end → ⊥) → AddsThose (IsPlaceAmong numbers (end ∷ [])) old old
place_absent numbers end old absent x = (λ c. inl c, back)
  where
    none : (b : ℕ) → Contains (end ∷ []) b → slice_get numbers x ≡ Some b → ⊥
    none b c stands = elim (head_or_behind end [] b c) [
      | inl e ↦ absent (subst (λ k. Contains numbers k) (sym e) (contains_at numbers x b stands))
      | inr no_more ↦ none_there b no_more
    ]

    back : Contains old x ⊎ IsPlaceAmong numbers (end ∷ []) x → Contains old x
    back (inl before) = before
    back (inr among) = absurd (none among.0 among.1 among.2)

pub place_step : (numbers ends : List ℕ) (i end : ℕ) (old new : List ℕ) → i < length ends → end ≡ get_or ends i end → HasThose (IsPlaceAmong numbers (take i ends)) old → AddsThose (IsPlaceAmong numbers (end ∷ [])) old new
    → HasThose (IsPlaceAmong numbers (take (i + 1) ends)) new
place_step numbers ends i end old new below is has adds x = (there, back)
  where
    there : Contains new x → IsPlaceAmong numbers (take (i + 1) ends) x
    there c = elim ((adds x).0 c) [
      | inl before ↦ let among = (has x).0 before in (among.0, (taken_more ends i end among.0 below is).1 (inl among.1), among.2)
      | inr among ↦ (among.0, (taken_more ends i end among.0 below is).1 (inr (only among.0 among.1)), among.2)
    ]
      where
        only : (b : ℕ) → Contains (end ∷ []) b → b ≡ end
        only b c = elim (head_or_behind end [] b c) [
          | inl e ↦ sym e
          | inr none ↦ absurd (none_there b none)
        ]

    back : IsPlaceAmong numbers (take (i + 1) ends) x → Contains new x
    back (b, among, stands) = elim ((taken_more ends i end b below is).0 among) [
      | inl before ↦ (adds x).1 (inl ((has x).1 (b, before, stands)))
      | inr same ↦ (adds x).1 (inr (b, subst (λ k. Contains (end ∷ []) k) (sym same) (here end []), stands))
    ]

-- ---- copies of places

pub copies_more : (places : List Place) (i : ℕ) (place : Place) (old new : List Place) → i < length places → place ≡ get_or places i place → HasThose (Contains (take i places)) old → AppendsNew old place new
    → HasThose (Contains (take (i + 1) places)) new
copies_more places i place old new below is has appends x = (there, back)
  where
    there : Contains new x → Contains (take (i + 1) places) x
    there c = elim ((adds_item old new place appends x).0 c) [
      | inl before ↦ (taken_more places i place x below is).1 (inl ((has x).0 before))
      | inr last ↦ (taken_more places i place x below is).1 (inr (only last))
    ]
      where
        only : Contains (place ∷ []) x → x ≡ place
        only c = elim (head_or_behind place [] x c) [
          | inl e ↦ sym e
          | inr none ↦ absurd (none_there x none)
        ]

    back : Contains (take (i + 1) places) x → Contains new x
    back among = elim ((taken_more places i place x below is).0 among) [
      | inl before ↦ (adds_item old new place appends x).1 (inl ((has x).1 before))
      | inr same ↦ (adds_item old new place appends x).1 (inr (subst (λ k. Contains (place ∷ []) k) (sym same) (here place [])))
    ]

-- ---- rows

pub reads_are : (flow : List FlowRow) (node : ℕ) (places : List Place) → option_map (λ row. row.reads) (slice_get flow node) ≡ Some places → (v : Place) → Contains places v ↔ ReadsIn flow node v
reads_are flow node places is v = by_row (slice_get flow node) is
  where
    by_row : (o : Option FlowRow) → option_map (λ row. row.reads) o ≡ Some places → Contains places v ↔ IsSomeAnd o (λ row. Contains row.reads v)
    by_row None e = absurd (cc)
    by_row (Some row) e = subst (λ (o : Option (List Place)). IsSomeAnd o (λ (xs : List Place). Contains places v ↔ Contains xs v)) (sym e) (λ h. h, λ h. h)

pub both_ways_on : {A B C : Type 0} → A ↔ B → B ↔ C → A ↔ C
both_ways_on ab bc = (λ a. bc.0 (ab.0 a), λ c. ab.1 (bc.1 c))

pub successors_kept : (kept : List FlowRow) (numbers : List ℕ) (n : ℕ) (ends places list : List ℕ) → option_map (λ row. row.successors) (slice_get kept n) ≡ Some ends → HasThose (IsPlaceAmong numbers ends) places → list ≡ places
    → HasThose (λ x. (b : ℕ) × EdgeIn kept n b × (slice_get numbers x ≡ Some b)) list
successors_kept kept numbers n ends places list is has same = subst (HasThose (λ x. (b : ℕ) × EdgeIn kept n b × (slice_get numbers x ≡ Some b))) (sym same) (λ x. (there x, back x))
  where
    there : (x : ℕ) → Contains places x → (b : ℕ) × EdgeIn kept n b × (slice_get numbers x ≡ Some b)
    there x c = let among = (has x).0 c in (among.0, (edges_are kept n ends is among.0).0 among.1, among.2)

    back : (x : ℕ) → (b : ℕ) × EdgeIn kept n b × (slice_get numbers x ≡ Some b) → Contains places x
    back x at = (has x).1 (at.0, (edges_are kept n ends is at.0).1 at.1, at.2)

pub all_below : (count : ℕ) (xs : List ℕ) → ((x : ℕ) → Contains xs x → x < count) → AllByRecursion (λ x. x < count) xs
all_below count [] below = tt
all_below count (x ∷ xs) below = (below x (here x xs), all_below count xs (λ y c. below y (beyond x xs y c)))

row_inside : (flow kept : List FlowRow) (numbers : List ℕ) (n : ℕ) (row : FlowRow) → IsPartRow flow kept numbers n row → IsInside (length numbers) row
row_inside flow kept numbers n row is = record {
  inside = all_below (length numbers) row.successors (λ x c. (let at = (is.successors x).0 c in slice_get_within numbers x at.0 at.2));
  once = is.once;
}

pub part_is_flow : (flow kept : List FlowRow) (numbers : List ℕ) (rows : List FlowRow) (count : ℕ) → AllZip (IsPartRow flow kept numbers) numbers rows → count ≡ length rows → length numbers < 2 ^ 32 → IsFlow rows count
part_is_flow flow kept numbers rows count zip counted few =
    let same = zip_length (IsPartRow flow kept numbers) numbers rows zip in
    record {
      few = omega (arith, counted, same, few);
      rows = subst (λ k. AllByRecursion (IsInside k) rows) (sym same) (zip_all (IsPartRow flow kept numbers) (IsInside (length numbers)) (row_inside flow kept numbers) numbers rows zip);
    }
