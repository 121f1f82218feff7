-- What the table of a list that holds each item once says.
use Rattle.std.proofs.Common.{◌≡◌, ◌⊎◌, inl, inr, ℕ, zero, suc, ◌+◌, ◌-◌, ◌<◌, ◌≤◌, ◌≢◌, ◌↔◌, IsTrue, Bool, true, false, List, [], ◌∷◌, ◌++◌, length, take, get_or, Some, Contains, slice_get, slice_set, slice_index, if◌then◌else◌, nat_eq, refl, sym, ap, subst, ◌∙◌, arith, length-append}
use Rattle.std.proofs.lemmas.Bool.{eqb-true, eq-eqb}
use Rattle.std.proofs.lemmas.List.{get_or-map, get_or_append_left, map-append, length-map, length-set, length-take-le, get_or-set_same, get_or-set_other}
use Rattle.std.proofs.Math.Seq.{get_or-append_seam, take-suc}
use Rattle.std.proofs.Math.Numerals.{add-one}
use Rattle.std.proofs.lemmas.Option.{slice_get-get_or, slice_get_within, slice_get_read, get_or_from_slice_get}
use Rattle.dep_nodes.specs.OnceLists.{IsOnceEach, IsTable, IsOnceList, slot_of, slots_of, last_place}

-- ---- the last place of a number

by_test : {A : Type 0} (P : A → Type 0) (b : Bool) (x y : A) → (b ≡ true → P x) → (b ≡ false → P y) → P (if b then x else y)
by_test P true x y yes_case no_case = yes_case refl
by_test P false x y yes_case no_case = no_case refl

not_both : (a b : ℕ) → nat_eq a b ≡ false → a ≡ b → ⊥
not_both a b differs same = absurd (let e : nat_eq a b ≡ true = eq-eqb a b same in cc)

pub last_within : (ns : List ℕ) (n bound : ℕ) → last_place ns n bound ≤ bound
last_within ns n zero = omega arith
last_within ns n (suc bound) =
    by_test (λ v. v ≤ suc bound) (nat_eq (get_or ns bound 0) n) (suc bound) (last_place ns n bound) (λ _. omega arith) (λ _. omega (arith, last_within ns n bound))

pub last_stands : (ns : List ℕ) (n bound : ℕ) → 0 < last_place ns n bound → slice_index ns (last_place ns n bound - 1) ≡ n
last_stands ns n zero some = absurd (omega (arith, some))
last_stands ns n (suc bound) there =
    by_test (λ v. 0 < v → get_or ns (v - 1) 0 ≡ n) (nat_eq (get_or ns bound 0) n) (suc bound) (last_place ns n bound)
    (λ same some. ap (λ k. get_or ns k 0) (let e : suc bound - 1 ≡ bound = omega arith in e) ∙ eqb-true (get_or ns bound 0) n same)
    (λ _. last_stands ns n bound) there

pub last_above : (ns : List ℕ) (n bound place : ℕ) → place < bound → slice_index ns place ≡ n → place < last_place ns n bound
last_above ns n zero place below stands = absurd (omega (arith, below))
last_above ns n (suc bound) place below stands =
    by_test (λ v. place < v) (nat_eq (get_or ns bound 0) n) (suc bound) (last_place ns n bound) (λ _. below)
    (λ differs. let other : place ≢ bound = λ same. not_both (get_or ns bound 0) n differs (ap (λ k. get_or ns k 0) (sym same) ∙ stands) in
    last_above ns n bound place (omega (arith, below, other)) stands)

pub last_of_more : (ns more : List ℕ) (n bound : ℕ) → bound ≤ length ns → last_place (ns ++ more) n bound ≡ last_place ns n bound
last_of_more ns more n zero within = refl
last_of_more ns more n (suc bound) within =
    let e : get_or (ns ++ more) bound 0 ≡ get_or ns bound 0 = get_or_append_left ns more 0 bound (omega (arith, within)) in
    let rest : last_place (ns ++ more) n bound ≡ last_place ns n bound = last_of_more ns more n bound (omega (arith, within)) in
    ap (λ k. if nat_eq k n then suc bound else last_place (ns ++ more) n bound) e ∙ ap (λ k. if nat_eq (get_or ns bound 0) n then suc bound else k) rest

last_is_new : (ns : List ℕ) (n bound : ℕ) → slice_index ns bound ≡ n → last_place ns n (suc bound) ≡ suc bound
last_is_new ns n bound stands = let e : nat_eq (get_or ns bound 0) n ≡ true = eq-eqb (get_or ns bound 0) n stands in ap (λ b. if b then suc bound else last_place ns n bound) e

test_fails : (a b : ℕ) → (a ≡ b → ⊥) → nat_eq a b ≡ false
test_fails a b differs = go (nat_eq a b) refl
  where
    go : (t : Bool) → nat_eq a b ≡ t → nat_eq a b ≡ false
    go true is = absurd (differs (eqb-true a b is))
    go false is = is

last_is_old : (ns : List ℕ) (n bound : ℕ) → (slice_index ns bound ≡ n → ⊥) → last_place ns n (suc bound) ≡ last_place ns n bound
last_is_old ns n bound differs = ap (λ b. if b then suc bound else last_place ns n bound) (test_fails (get_or ns bound 0) n differs)

-- ---- the table

length_push : {A : Type 0} (xs : List A) (x : A) → length (xs ++ x ∷ []) ≡ suc (length xs)
length_push xs x = simp (length-append) (omega arith)

pub table_push : (ns last before : List ℕ) (n place : ℕ) → IsTable ns last before → place ≡ length ns → n < length last → place < length before → IsTable (ns ++ n ∷ []) (slice_set last n (place + 1)) (slice_set before place (slice_index last n))
table_push ns last before n place table is below room = record {
  room = omega (arith, length_push ns n, length-set before place (slice_index last n), is, room);
  last_is = λ slot within. last_at slot (omega (arith, within, length-set last n (place + 1))) ∙ sym (ap (λ k. last_place (ns ++ n ∷ []) slot k) (length_push ns n));
  before_is = λ at within. before_at at (omega (arith, within, length_push ns n));
}
  where
    seam : get_or (ns ++ n ∷ []) (length ns) 0 ≡ n
    seam = get_or-append_seam ns n [] 0

    last_at : (slot : ℕ) → slot < length last → get_or (slice_set last n (place + 1)) slot 0 ≡ last_place (ns ++ n ∷ []) slot (suc (length ns))
    last_at slot within = by_case (nat_eq n slot) refl
      where
        by_case : (t : Bool) → nat_eq n slot ≡ t → get_or (slice_set last n (place + 1)) slot 0 ≡ last_place (ns ++ n ∷ []) slot (suc (length ns))
        by_case true same =
            let e : n ≡ slot = eqb-true n slot same in
            let number : place + 1 ≡ suc (length ns) = omega (arith, is) in
            subst (λ s. get_or (slice_set last n (place + 1)) s 0 ≡ last_place (ns ++ n ∷ []) s (suc (length ns))) e
            (get_or-set_same last n (place + 1) 0 below ∙ number ∙ sym (last_is_new (ns ++ n ∷ []) n (length ns) seam))
        by_case false differs =
            let other : slot ≢ n = λ same. not_both n slot differs (sym same) in
            get_or-set_other last n slot (place + 1) 0 other ∙ table.last_is slot within ∙ sym (last_of_more ns (n ∷ []) slot (length ns) (omega arith)) ∙ sym (last_is_old (ns ++ n ∷ []) slot (length ns) (λ same. not_both n slot differs (sym seam ∙ same)))

    before_at : (at : ℕ) → at < suc (length ns) → get_or (slice_set before place (slice_index last n)) at 0 ≡ last_place (ns ++ n ∷ []) (get_or (ns ++ n ∷ []) at 0) at
    before_at at within = by_case (nat_eq place at) refl
      where
        by_case : (t : Bool) → nat_eq place at ≡ t → get_or (slice_set before place (slice_index last n)) at 0 ≡ last_place (ns ++ n ∷ []) (get_or (ns ++ n ∷ []) at 0) at
        by_case true same =
            let e : place ≡ at = eqb-true place at same in
            let here : get_or (ns ++ n ∷ []) place 0 ≡ n = ap (λ k. get_or (ns ++ n ∷ []) k 0) is ∙ seam in
            subst (λ k. get_or (slice_set before place (slice_index last n)) k 0 ≡ last_place (ns ++ n ∷ []) (get_or (ns ++ n ∷ []) k 0) k) e
            (get_or-set_same before place (slice_index last n) 0 room ∙ table.last_is n below ∙ sym (last_of_more ns (n ∷ []) n (length ns) (omega arith)) ∙ ap (λ k. last_place (ns ++ n ∷ []) n k) (sym is) ∙ ap (λ k. last_place (ns ++ n ∷ []) k place) (sym here))
        by_case false differs =
            let other : at ≢ place = λ same. not_both place at differs (sym same) in
            let less : at < length ns = omega (arith, within, other, is) in
            let same : get_or (ns ++ n ∷ []) at 0 ≡ get_or ns at 0 = get_or_append_left ns (n ∷ []) 0 at less in
            get_or-set_other before place at (slice_index last n) 0 other ∙ table.before_is at less ∙ sym (last_of_more ns (n ∷ []) (get_or ns at 0) at (omega (arith, less))) ∙ ap (λ k. last_place (ns ++ n ∷ []) k at) (sym same)

-- ---- the walk from the last place of a slot to the first

pub record Walks {A : Type 0} (key : A → ℕ) (slots : ℕ) (xs : List A) (x : A) (link : ℕ) : Type 0 where
  pub within : link ≤ length xs
  pub stands : 0 < link → slice_index (slots_of key slots xs) (link - 1) ≡ slot_of slots (key x)
  pub above : (place : ℕ) → link ≤ place → slice_get xs place ≡ Some x → ⊥

slot_at : {A : Type 0} (key : A → ℕ) (slots : ℕ) (xs : List A) (x : A) (place : ℕ) → slice_get xs place ≡ Some x → slice_index (slots_of key slots xs) place ≡ slot_of slots (key x)
slot_at key slots xs x place is =
    let below : place < length xs = slice_get_within xs place x is in
    get_or-map (λ y. slot_of slots (key y)) xs place x 0 below ∙ ap (λ y. slot_of slots (key y)) (get_or_from_slice_get xs place x x is)

count_of : {A : Type 0} (key : A → ℕ) (slots : ℕ) (xs : List A) → length (slots_of key slots xs) ≡ length xs
count_of key slots xs = length-map xs (λ y. slot_of slots (key y))

walk_from : {A : Type 0} (key : A → ℕ) (slots : ℕ) (xs : List A) (x : A) (bound : ℕ) → bound ≤ length xs → ((place : ℕ) → bound ≤ place → slice_get xs place ≡ Some x → ⊥) → Walks key slots xs x (last_place (slots_of key slots xs) (slot_of slots (key x)) bound)
walk_from key slots xs x bound within above =
    let ns = slots_of key slots xs in
    let n = slot_of slots (key x) in
    record {
      within = omega (arith, last_within ns n bound, within);
      stands = last_stands ns n bound;
      above = λ place past is. absurd (
          let high : bound ≤ place → ⊥ = λ past_bound. above place past_bound is in
          let low : place < bound → ⊥ = λ below. (let less : place < last_place ns n bound = last_above ns n bound place below (slot_at key slots xs x place is) in absurd (omega (arith, less, past))) in
          high (omega (arith, low)));
    }

pub walk_starts : {A : Type 0} (key : A → ℕ) (slots : ℕ) (xs : List A) (x : A) (last before : List ℕ) (slot link : ℕ) → IsTable (slots_of key slots xs) last before → slots ≡ length last → slot ≡ slot_of slots (key x) → slot < length last → link ≡ slice_index last slot → Walks key slots xs x link
walk_starts key slots xs x last before slot link table all is within at =
    let ns = slots_of key slots xs in
    let e : last_place ns (slot_of slots (key x)) (length xs) ≡ link = ap (λ k. last_place ns k (length xs)) (sym is) ∙ ap (λ k. last_place ns slot k) (sym (count_of key slots xs)) ∙ sym (table.last_is slot within) ∙ sym at in
    subst (Walks key slots xs x) e (walk_from key slots xs x (length xs) (omega arith) (λ place past there. absurd (omega (arith, past, slice_get_within xs place x there))))

pub walk_goes_on : {A : Type 0} (key : A → ℕ) (slots : ℕ) (xs : List A) (x : A) (last before : List ℕ) (link place next : ℕ) → IsTable (slots_of key slots xs) last before → Walks key slots xs x link → place + 1 ≡ link → (slice_get xs place ≡ Some x → ⊥) → next ≡ slice_index before place → Walks key slots xs x next
walk_goes_on key slots xs x last before link place next table walks is differs at =
    let ns = slots_of key slots xs in
    let back : link - 1 ≡ place = omega (arith, is) in
    let stands : get_or ns place 0 ≡ slot_of slots (key x) = ap (λ k. get_or ns k 0) (sym back) ∙ walks.stands (omega (arith, is)) in
    let e : last_place ns (slot_of slots (key x)) place ≡ next = ap (λ k. last_place ns k place) (sym stands) ∙ sym (table.before_is place (omega (arith, is, walks.within, count_of key slots xs))) ∙ sym at in
    subst (Walks key slots xs x) e (walk_from key slots xs x place (omega (arith, is, walks.within)) (past_place key slots xs x link place walks is differs))
  where
    past_place : {A : Type 0} (key : A → ℕ) (slots : ℕ) (xs : List A) (x : A) (link place : ℕ) → Walks key slots xs x link → place + 1 ≡ link → (slice_get xs place ≡ Some x → ⊥) → (at : ℕ) → place ≤ at → slice_get xs at ≡ Some x → ⊥
    past_place key slots xs x link place walks is differs at past there = by_case (nat_eq place at) refl
      where
        by_case : (t : Bool) → nat_eq place at ≡ t → ⊥
        by_case true same = differs (subst (λ k. slice_get xs k ≡ Some x) (sym (eqb-true place at same)) there)
        by_case false other = let apart : place ≢ at = not_both place at other in walks.above at (omega (arith, past, apart, is)) there

pub walk_falls : {A : Type 0} (key : A → ℕ) (slots : ℕ) (xs : List A) (last before : List ℕ) (place : ℕ) → IsTable (slots_of key slots xs) last before → place < length xs → slice_index before place ≤ place
walk_falls key slots xs last before place table below =
    let ns = slots_of key slots xs in
    omega (arith, table.before_is place (omega (arith, below, count_of key slots xs)), last_within ns (get_or ns place 0) place)

pub lacks_all : {A : Type 0} (xs : List A) (x : A) → ((place : ℕ) → place < length xs → slice_get xs place ≡ Some x → ⊥) → Contains xs x → ⊥
lacks_all xs x none there = none there.0 there.1 (slice_get-get_or xs there.0 x there.1 ∙ ap Some there.2)

pub walk_ends : {A : Type 0} (key : A → ℕ) (slots : ℕ) (xs : List A) (x : A) (link : ℕ) → Walks key slots xs x link → link ≤ 0 → Contains xs x → ⊥
walk_ends key slots xs x link walks ended = lacks_all xs x (λ place _. walks.above place (omega (arith, ended)))

-- ---- the whole list

pub once_push : {A : Type 0} (xs : List A) (x : A) → IsOnceEach xs → (Contains xs x → ⊥) → IsOnceEach (xs ++ x ∷ [])
once_push xs x once new i j y at_i at_j =
    let in_i : i < length (xs ++ x ∷ []) = slice_get_within (xs ++ x ∷ []) i y at_i in
    let in_j : j < length (xs ++ x ∷ []) = slice_get_within (xs ++ x ∷ []) j y at_j in
    let n : length (xs ++ x ∷ []) ≡ suc (length xs) = length_push xs x in
    by_cases (nat_eq i (length xs)) (nat_eq j (length xs)) refl refl (omega (arith, in_i, n)) (omega (arith, in_j, n))
  where
    here : (k : ℕ) → k < length xs → slice_get (xs ++ x ∷ []) k ≡ Some y → slice_get xs k ≡ Some y
    here k below is = slice_get-get_or xs k y below ∙ ap Some (sym (get_or_append_left xs (x ∷ []) y k below) ∙ get_or_from_slice_get (xs ++ x ∷ []) k y y is)

    last : (k : ℕ) → k ≡ length xs → slice_get (xs ++ x ∷ []) k ≡ Some y → x ≡ y
    last k at is = sym (get_or-append_seam xs x [] y) ∙ ap (λ m. get_or (xs ++ x ∷ []) m y) (sym at) ∙ get_or_from_slice_get (xs ++ x ∷ []) k y y is

    absent : (k l : ℕ) → k < length xs → slice_get (xs ++ x ∷ []) k ≡ Some y → l ≡ length xs → slice_get (xs ++ x ∷ []) l ≡ Some y → ⊥
    absent k l below is at_k at_l = let e : x ≡ y = last l at_k at_l in new (k, below, ap (λ z. get_or xs k z) e ∙ get_or_from_slice_get xs k y y (here k below is) ∙ sym e)

    by_cases : (s t : Bool) → nat_eq i (length xs) ≡ s → nat_eq j (length xs) ≡ t → i ≤ length xs → j ≤ length xs → i ≡ j
    by_cases true true is_i is_j _ _ = eqb-true i (length xs) is_i ∙ sym (eqb-true j (length xs) is_j)
    by_cases true false is_i is_j _ in_j = let apart : j ≢ length xs = not_both j (length xs) is_j in absurd (absent j i (omega (arith, apart, in_j)) at_j (eqb-true i (length xs) is_i) at_i)
    by_cases false true is_i is_j in_i _ = let apart : i ≢ length xs = not_both i (length xs) is_i in absurd (absent i j (omega (arith, apart, in_i)) at_i (eqb-true j (length xs) is_j) at_j)
    by_cases false false is_i is_j in_i in_j =
        let apart_i : i ≢ length xs = not_both i (length xs) is_i in
        let apart_j : j ≢ length xs = not_both j (length xs) is_j in
        once i j y (here i (omega (arith, apart_i, in_i)) at_i) (here j (omega (arith, apart_j, in_j)) at_j)

pub slots_push : {A : Type 0} (key : A → ℕ) (slots : ℕ) (xs : List A) (x : A) → slots_of key slots (xs ++ x ∷ []) ≡ slots_of key slots xs ++ slot_of slots (key x) ∷ []
slots_push key slots xs x = map-append (λ y. slot_of slots (key y)) xs (x ∷ [])

-- ---- what a test of an item says

pub found_at : {A : Type 0} (xs : List A) (place : ℕ) (y x : A) (b : Bool) → IsTrue b ↔ (y ≡ x) → b ≡ true → y ≡ get_or xs place y → place < length xs → slice_get xs place ≡ Some x
found_at xs place y x b told found at below = slice_get_read xs (length xs) place y refl below at ∙ ap Some (told.0 found)

abbrev Is_true : Bool → Type 0
Is_true true = Unit {0}
Is_true false = ⊥

pub not_at : {A : Type 0} (xs : List A) (place : ℕ) (y x : A) (b : Bool) → IsTrue b ↔ (y ≡ x) → b ≡ false → y ≡ get_or xs place y → slice_get xs place ≡ Some x → ⊥
not_at xs place y x b told missing at there =
    let found : b ≡ true = told.1 (at ∙ get_or_from_slice_get xs place x y there) in
    subst Is_true (sym found ∙ missing) tt

-- ---- one more item

pub table_next : {A : Type 0} (key : A → ℕ) (slots : ℕ) (xs : List A) (y : A) (place slot : ℕ) (last before last_new before_new : List ℕ) → IsTable (slots_of key slots (take place xs)) last before → length last ≡ slots → length before ≡ slots → place < length xs → length xs ≤ slots → slot ≡ slot_of slots (key y) → slot < slots → y ≡ get_or xs place y → last_new ≡ slice_set last slot (place + 1) → before_new ≡ slice_set before place (slice_index last slot) → (length last_new ≡ slots) × (length before_new ≡ slots) × IsTable (slots_of key slots (take (place + 1) xs)) last_new before_new
table_next key slots xs y place slot last before last_new before_new table last_len before_len below room is within at last_is before_is =
    let more : take (place + 1) xs ≡ take place xs ++ y ∷ [] = ap (λ k. take k xs) (add-one place) ∙ take-suc xs place y below ∙ ap (λ z. take place xs ++ z ∷ []) (sym at) in
    let numbers : slots_of key slots (take (place + 1) xs) ≡ slots_of key slots (take place xs) ++ slot ∷ [] = ap (slots_of key slots) more ∙ slots_push key slots (take place xs) y ∙ ap (λ k. slots_of key slots (take place xs) ++ k ∷ []) (sym is) in
    let count : place ≡ length (slots_of key slots (take place xs)) = sym (count_of key slots (take place xs) ∙ length-take-le place xs (omega (arith, below))) in
    let grown : IsTable (slots_of key slots (take place xs) ++ slot ∷ []) (slice_set last slot (place + 1)) (slice_set before place (slice_index last slot)) =
    table_push (slots_of key slots (take place xs)) last before slot place table count (omega (arith, within, last_len)) (omega (arith, below, room, before_len)) in (
      ap length last_is ∙ length-set last slot (place + 1) ∙ last_len,
      ap length before_is ∙ length-set before place (slice_index last slot) ∙ before_len,
      subst (λ ns. IsTable ns last_new before_new) (sym numbers) (subst (λ ls. IsTable (slots_of key slots (take place xs) ++ slot ∷ []) ls before_new) (sym last_is) (subst (λ bs. IsTable (slots_of key slots (take place xs) ++ slot ∷ []) (slice_set last slot (place + 1)) bs) (sym before_is) grown)),
    )

pub table_there : {P : Type 0} (n : ℕ) → (n ≡ 0) ⊎ P → 0 < n → P
table_there n (inl none) some = absurd (omega (arith, none, some))
table_there n (inr p) some = p

pub list_grows : {A : Type 0} (key : A → ℕ) (xs xs_new : List A) (x : A) (place slot : ℕ) (last before last_new before_new : List ℕ) → IsOnceList key xs last before → xs_new ≡ xs ++ x ∷ [] → (Contains xs x → ⊥) → place ≡ length xs → place < length last → slot ≡ slot_of (length last) (key x) → slot < length last → last_new ≡ slice_set last slot (place + 1) → before_new ≡ slice_set before place (slice_index last slot) → IsOnceList key xs_new last_new before_new
list_grows key xs xs_new x place slot last before last_new before_new list made new count room is within last_is before_is =
    let slots = length last in
    let same_len : length last_new ≡ slots = ap length last_is ∙ length-set last slot (place + 1) in
    let before_len : length before_new ≡ length before = ap length before_is ∙ length-set before place (slice_index last slot) in
    let numbers : slots_of key (length last_new) xs_new ≡ slots_of key slots xs ++ slot ∷ [] = ap (λ k. slots_of key k xs_new) same_len ∙ ap (slots_of key slots) made ∙ slots_push key slots xs x ∙ ap (λ k. slots_of key slots xs ++ k ∷ []) (sym is) in
    let table : IsTable (slots_of key slots xs) last before = table_there slots list.table (omega (arith, room)) in
    let grown : IsTable (slots_of key slots xs ++ slot ∷ []) (slice_set last slot (place + 1)) (slice_set before place (slice_index last slot)) =
    table_push (slots_of key slots xs) last before slot place table (count ∙ sym (count_of key slots xs)) within (omega (arith, room, list.same)) in
    record {
      once = subst IsOnceEach (sym made) (once_push xs x list.once new);
      same = omega (arith, before_len, same_len, list.same);
      few = omega (arith, same_len, list.few);
      table = inr (subst (λ ns. IsTable ns last_new before_new) (sym numbers) (subst (λ ls. IsTable (slots_of key slots xs ++ slot ∷ []) ls before_new) (sym last_is) (subst (λ bs. IsTable (slots_of key slots xs ++ slot ∷ []) (slice_set last slot (place + 1)) bs) (sym before_is) grown)));
    }

pub list_bare : {A : Type 0} (key : A → ℕ) (xs xs_new : List A) (x : A) (last before last_new before_new : List ℕ) → IsOnceList key xs last before → xs_new ≡ xs ++ x ∷ [] → (Contains xs x → ⊥) → last_new ≡ [] → before_new ≡ [] → IsOnceList key xs_new last_new before_new
list_bare key xs xs_new x last before last_new before_new list made new no_last no_before = record {
  once = subst IsOnceEach (sym made) (once_push xs x list.once new);
  same = ap length no_before ∙ sym (ap length no_last);
  few = omega (arith, ap length no_last);
  table = inl (ap length no_last);
}

pub list_with_table : {A : Type 0} (key : A → ℕ) (xs ys : List A) (slots : ℕ) (last before last_new before_new : List ℕ) → IsOnceList key xs last before → ys ≡ xs → length last_new ≡ slots → length before_new ≡ slots → slots ≤ 2147483648 → IsTable (slots_of key slots ys) last_new before_new → IsOnceList key xs last_new before_new
list_with_table key xs ys slots last before last_new before_new list same last_len before_len few table = record {
  once = list.once;
  same = before_len ∙ sym last_len;
  few = omega (arith, last_len, few);
  table = inr (subst (λ k. IsTable (slots_of key k xs) last_new before_new) (sym last_len) (subst (λ zs. IsTable (slots_of key slots zs) last_new before_new) same table));
}

pub contains_at : {A : Type 0} (xs : List A) (place : ℕ) (x : A) → slice_get xs place ≡ Some x → Contains xs x
contains_at xs place x is = (place, slice_get_within xs place x is, get_or_from_slice_get xs place x x is)

pub told_yes : {P : Type 0} → P → IsTrue true ↔ P
told_yes p = (λ _. p, λ _. refl)

pub told_no : {P : Type 0} → (P → ⊥) → IsTrue false ↔ P
told_no none = (λ told. absurd (subst Is_true (sym told) tt), λ p. absurd (none p))
