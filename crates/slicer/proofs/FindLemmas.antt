-- What a search has found, beside the sets of its nodes.
use Rattle.std.proofs.Common.{◌≡◌, ◌↔◌, ℕ, ◌+◌, ◌<◌, Bool, true, false, not, cond, List, [], ◌∷◌, ◌++◌, length, set, take, drop, Contains, refl, sym, ◌∙◌, ap, subst, arith, inl, inr, ◌⊎◌, length-set}
use Rattle.std.specs.Prelude.{Some, slice_get, count_by}
use Rattle.std.proofs.lemmas.Option.{slice_get_within, get_or_from_slice_get}
use Rattle.std.proofs.lemmas.List.{take_more_set, take_at, map-append, set-get_or, get_or_past, get_or-map, length-map}
use Rattle.std.proofs.lemmas.Bool.{both_ways, cases_lt}
use Rattle.std.proofs.lemmas.List.Sums.{sum_by-set}
use Rattle.std.proofs.lemmas.List.Elements.{Contains-append_left, Contains-push, Contains-push_cases}
use Rattle.jo_ids.specs.Rows.{has_number}
use Rattle.jo_graph.proofs.QueueLemmas.{has_number-set_same, has_number-set, set_cases}
use Rattle.slicer.specs.declared.finds.Phase.{Phase}
use Rattle.slicer.specs.declared.finds.Phase.TheVariants.{First, Second}
use Rattle.slicer.specs.declared.finds.Place.{Place}
use Rattle.slicer.specs.declared.finds.Found.{Found}
use Rattle.slicer.specs.Finds.{place, places_of, HasPlace, HasNode, row_of_phase, with_node, IsKept}

-- ---- lists of what is found

pub places_push : (found : List Found) (item : Found) → places_of (found ++ item ∷ []) ≡ places_of found ++ item.place ∷ []
places_push found item = map-append (λ f. f.place) found (item ∷ [])

pub place_kept : (found : List Found) (item : Found) (at : Place) → HasPlace found at → HasPlace (found ++ item ∷ []) at
place_kept found item at among = subst (λ ps. Contains ps at) (sym (places_push found item)) (Contains-append_left (places_of found) (item.place ∷ []) at among)

pub place_last : (found : List Found) (item : Found) → HasPlace (found ++ item ∷ []) item.place
place_last found item = subst (λ ps. Contains ps item.place) (sym (places_push found item)) (Contains-push (places_of found) item.place)

pub place_cases : (found : List Found) (item : Found) (at : Place) → HasPlace (found ++ item ∷ []) at → HasPlace found at ⊎ (item.place ≡ at)
place_cases found item at among = Contains-push_cases (places_of found) item.place at (subst (λ ps. Contains ps at) (places_push found item) among)

pub place_at : (found : List Found) (number : ℕ) (item : Found) → slice_get found number ≡ Some item → HasPlace found item.place
place_at found number item is =
    let below : number < length found = slice_get_within found number item is in
    (number, omega (arith, length-map found (λ (f : Found). f.place)), get_or-map (λ (f : Found). f.place) found number item item.place below ∙ ap (λ (f : Found). f.place) (get_or_from_slice_get found number item item is))

-- ---- the sets

-- how many numbers a set lacks
lacking-set : (row : List Bool) (i : ℕ) → i < length row → has_number row i ≡ false → count_by not (set row i true) + 1 ≡ count_by not row
lacking-set row i below new =
    let e = sum_by-set (λ x. cond (not x) 1 0) row i true false below in
    let one = ap (λ (x : Bool). let n : ℕ = cond (not x) 1 0 in n) new in
    omega (arith, e, one)

number_below : (row : List Bool) (n : ℕ) → has_number row n ≡ true → n < length row
number_below row n has = elim (cases_lt n (length row)) [
  | inl below ↦ below
  | inr past ↦ absurd (both_ways (has_number row n) (get_or_past row n false past) has)
]

module _ (first second : List Bool) (at : Place) (in_first : at.node < length first) (in_second : at.node < length second) where
  length-with_node : (named phase : Phase) (row : List Bool) → length (with_node named (place at.node phase) row) ≡ length row
  length-with_node First First row = length-set row at.node true
  length-with_node First Second row = refl
  length-with_node Second First row = refl
  length-with_node Second Second row = length-set row at.node true

  abbrev both : Phase → Phase → List Bool
  both phase named = row_of_phase named (with_node First (place at.node phase) first) (with_node Second (place at.node phase) second)

  new_set : (phase named : Phase) (node : ℕ) → has_number (both phase named) node ≡ true → (has_number (row_of_phase named first second) node ≡ true) ⊎ (place at.node phase ≡ place node named)
  new_set First First node h = elim (set_cases first at.node node h) [ inl had ↦ inl had | inr e ↦ inr (ap (λ n. place n First) e) ]
  new_set First Second node h = inl h
  new_set Second First node h = inl h
  new_set Second Second node h = elim (set_cases second at.node node h) [ inl had ↦ inl had | inr e ↦ inr (ap (λ n. place n Second) e) ]

  old_set : (phase named : Phase) (node : ℕ) → has_number (row_of_phase named first second) node ≡ true → has_number (both phase named) node ≡ true
  old_set First First node h = has_number-set first at.node node in_first h
  old_set First Second node h = h
  old_set Second First node h = h
  old_set Second Second node h = has_number-set second at.node node in_second h

  own_set : (phase : Phase) → has_number (both phase phase) at.node ≡ true
  own_set First = has_number-set_same first at.node in_first
  own_set Second = has_number-set_same second at.node in_second

  fewer : (phase : Phase) → has_number (row_of_phase phase first second) at.node ≡ false
      → (count_by not (with_node First (place at.node phase) first) + count_by not (with_node Second (place at.node phase) second)) + 1 ≡ count_by not first + count_by not second
  fewer First new = omega (arith, lacking-set first at.node in_first new)
  fewer Second new = omega (arith, lacking-set second at.node in_second new)

  set-same : (row : List Bool) → has_number row at.node ≡ true → set row at.node true ≡ row
  set-same row known = ap (set row at.node) (sym known) ∙ set-get_or row at.node false

  same_sets : (phase : Phase) → has_number (row_of_phase phase first second) at.node ≡ true → (with_node First (place at.node phase) first ≡ first) × (with_node Second (place at.node phase) second ≡ second)
  same_sets First known = (set-same first known, refl)
  same_sets Second known = (refl, set-same second known)

-- ---- one more

module _ (first second : List Bool) (places : List Found) (end : ℕ) (kept : IsKept first second places end) (item : Found) (below : item.place.node < length first) where
  abbrev Was : Bool → Type 0
  Was b = has_number (row_of_phase item.place.phase first second) item.place.node ≡ b

  also : item.place.node < length second
  also = omega (arith, kept.same_length)

  pub add_room : Was false → end < length places
  add_room new = omega (arith, fewer first second item.place below also item.place.phase new, kept.counted)

  pub add_place : Was true → HasPlace (take end places) item.place
  add_place known = (kept.sets item.place.phase item.place.node).0 known

  pub add_none : Was false → HasPlace (take end places) item.place → ⊥
  add_none new among = both_ways (has_number (row_of_phase item.place.phase first second) item.place.node) new ((kept.sets item.place.phase item.place.node).1 among)

  pub add_items : Was false → take (end + 1) (set places end item) ≡ take end places ++ item ∷ []
  add_items new = take_more_set places end item (add_room new)

  abbrev HasNow : Phase → ℕ → Type 0
  HasNow phase node = has_number (row_of_phase phase (with_node First item.place first) (with_node Second item.place second)) node ≡ true

  pub kept_new : Was false → IsKept (with_node First item.place first) (with_node Second item.place second) (set places end item) (end + 1)
  kept_new new = record {
    same_length = length_second ∙ kept.same_length ∙ sym length_first;
    room = omega (arith, length-set places end item, kept.room, length_first, length_second);
    counted = omega (arith, length-set places end item, fewer first second item.place below also item.place.phase new, kept.counted);
    sets = λ phase node. (there phase node, back phase node);
  }
    where
      length_first : length (with_node First item.place first) ≡ length first
      length_first = length-with_node first second item.place below also First item.place.phase first

      length_second : length (with_node Second item.place second) ≡ length second
      length_second = length-with_node first second item.place below also Second item.place.phase second

      there : (phase : Phase) (node : ℕ) → HasNow phase node → HasPlace (take (end + 1) (set places end item)) (place node phase)
      there phase node h = subst (λ found. HasPlace found (place node phase)) (sym (add_items new)) (elim (new_set first second item.place below also item.place.phase phase node h) [
        | inl had ↦ place_kept (take end places) item (place node phase) ((kept.sets phase node).0 had)
        | inr e ↦ subst (λ at. HasPlace (take end places ++ item ∷ []) at) e (place_last (take end places) item)
      ])

      back : (phase : Phase) (node : ℕ) → HasPlace (take (end + 1) (set places end item)) (place node phase) → HasNow phase node
      back phase node among = elim (place_cases (take end places) item (place node phase) (subst (λ found. HasPlace found (place node phase)) (add_items new) among)) [
        | inl had ↦ old_set first second item.place below also item.place.phase phase node ((kept.sets phase node).1 had)
        | inr e ↦ subst (λ at. HasNow at.phase at.node) e (own_set first second item.place below also item.place.phase)
      ]

  pub kept_known : Was true → IsKept (with_node First item.place first) (with_node Second item.place second) places end
  kept_known known =
      let same = same_sets first second item.place below also item.place.phase known in
      subst (λ row. IsKept row (with_node Second item.place second) places end) (sym same.0) (subst (λ row. IsKept first row places end) (sym same.1) kept)

pub has_node : (first second : List Bool) (places : List Found) (end : ℕ) (kept : IsKept first second places end) (node : ℕ) → (has_number first node ≡ true) ⊎ (has_number second node ≡ true) → HasNode (take end places) node
has_node first second places end kept node (inl h) = (First, (kept.sets First node).0 h)
has_node first second places end kept node (inr h) = (Second, (kept.sets Second node).0 h)

pub node_has : (first second : List Bool) (places : List Found) (end : ℕ) (kept : IsKept first second places end) (node : ℕ) → HasNode (take end places) node → (has_number first node ≡ true) ⊎ (has_number second node ≡ true)
node_has first second places end kept node (First, among) = inl ((kept.sets First node).1 among)
node_has first second places end kept node (Second, among) = inr ((kept.sets Second node).1 among)

-- the place is stored in the list's memory
pub kept_stored : (first second new_first new_second : List Bool) (places memory : List Found) (len end : ℕ) (item : Found) → IsKept first second places end → item.place.node < length first
    → new_first ≡ with_node First item.place first → new_second ≡ with_node Second item.place second → has_number (row_of_phase item.place.phase first second) item.place.node ≡ false → memory ≡ places → length places ≡ len
    → IsKept new_first new_second (take len (set memory end item ++ drop (length (set memory end item)) places)) (end + 1)
kept_stored first second new_first new_second places memory len end item kept below e f new same is_len =
    let stored : take len (set memory end item ++ drop (length (set memory end item)) places) ≡ set places end item =
    take_at (set memory end item) (drop (length (set memory end item)) places) len (length-set memory end item ∙ ap length same ∙ is_len) ∙ ap (λ xs. set xs end item) same in
    subst (λ row. IsKept row new_second (take len (set memory end item ++ drop (length (set memory end item)) places)) (end + 1)) (sym e)
    (subst (λ row. IsKept (with_node First item.place first) row (take len (set memory end item ++ drop (length (set memory end item)) places)) (end + 1)) (sym f)
    (subst (λ xs. IsKept (with_node First item.place first) (with_node Second item.place second) xs (end + 1)) (sym stored) (kept_new first second places end kept item below new)))

pub kept_same : (first second new_first new_second : List Bool) (places : List Found) (end : ℕ) (item : Found) → IsKept first second places end → item.place.node < length first
    → new_first ≡ with_node First item.place first → new_second ≡ with_node Second item.place second → has_number (row_of_phase item.place.phase first second) item.place.node ≡ true → IsKept new_first new_second places end
kept_same first second new_first new_second places end item kept below e f known =
    subst (λ row. IsKept row new_second places end) (sym e)
    (subst (λ row. IsKept (with_node First item.place first) row places end) (sym f) (kept_known first second places end kept item below known))

pub stored_items : (first second : List Bool) (places memory : List Found) (len end : ℕ) (item : Found) → IsKept first second places end → item.place.node < length first
    → has_number (row_of_phase item.place.phase first second) item.place.node ≡ false → memory ≡ places → length places ≡ len
    → take (end + 1) (take len (set memory end item ++ drop (length (set memory end item)) places)) ≡ take end places ++ item ∷ []
stored_items first second places memory len end item kept below new same is_len =
    let stored : take len (set memory end item ++ drop (length (set memory end item)) places) ≡ set places end item =
    take_at (set memory end item) (drop (length (set memory end item)) places) len (length-set memory end item ∙ ap length same ∙ is_len) ∙ ap (λ xs. set xs end item) same in
    ap (take (end + 1)) stored ∙ add_items first second places end kept item below new

pub has_answer : (first second : List Bool) (places found : List Found) (end number node : ℕ) (result : Bool) → IsKept first second places end → take end places ≡ found → number ≡ node
    → ((result ≡ true) → (has_number first number ≡ true) ⊎ (has_number second number ≡ true)) → ((has_number first number ≡ true) ⊎ (has_number second number ≡ true) → result ≡ true)
    → (result ≡ true) ↔ HasNode found node
has_answer first second places found end number node result kept same e there back = (
  (λ is. subst (λ xs. HasNode xs node) same (has_node first second places end kept node (subst (λ n. (has_number first n ≡ true) ⊎ (has_number second n ≡ true)) e (there is)))),
  (λ among. back (subst (λ n. (has_number first n ≡ true) ⊎ (has_number second n ≡ true)) (sym e) (node_has first second places end kept node (subst (λ xs. HasNode xs node) (sym same) among)))),
)

pub found_below : (first second : List Bool) (places : List Found) (end number : ℕ) (item : Found) → IsKept first second places end → slice_get (take end places) number ≡ Some item → item.place.node < length first
found_below first second places end number item kept is = in_phase item.place.phase item.place.node (place_at (take end places) number item is)
  where
    in_phase : (phase : Phase) (node : ℕ) → HasPlace (take end places) (place node phase) → node < length first
    in_phase First node among = number_below first node ((kept.sets First node).1 among)
    in_phase Second node among = omega (arith, number_below second node ((kept.sets Second node).1 among), kept.same_length)
