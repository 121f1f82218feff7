-- Items under keys, after one more.
use Rattle.std.proofs.Common.{◌≡◌, ◌⊎◌, ◌↔◌, inl, inr, ℕ, zero, suc, Contains, List, [], ◌∷◌, ◌++◌, length, get_or, Option, Some, Result, Ok, Err, OnOk, OnErr, slice_get, slice_set, IsSomeAnd, refl, ap, sym, ◌∙◌, subst, arith}
use Rattle.std.proofs.lemmas.Option.{same_Some, slice_get_within, slice_get_read}
use Rattle.std.proofs.lemmas.List.{length-set, length_push}
use Rattle.std.proofs.lemmas.List.Elements.{Contains-append_left, Contains-append_cases}
use Rattle.dep_nodes.specs.OnceLists.{IsOnceEach}
use Rattle.dep_nodes.proofs.GrowingLemmas.{all_push, all_set, all_found}
use Rattle.dep_nodes.proofs.ListedLemmas.{is_there, set_keeps, set_puts, set_had, push_keeps, push_puts, only_one, last_there}
use Rattle.dep_nodes.proofs.OnceLemmas.{once_push, contains_at}
use Rattle.fact_sets.specs.Groups.{HasIn, AddsUnder, AreGroups}
use Rattle.fact_sets.proofs.SliceLemmas.{at_push, at_left, at_end, some_push}

abbrev Has : {V : Type 0} → V → List V → Type 0
Has v items = Contains items v

some_there : {A : Type 0} (P : A → Type 0) (o : Option A) (x : A) → o ≡ Some x → P x → IsSomeAnd o P
some_there {A} P o x is p = subst (λ (q : Option A). IsSomeAnd q P) (sym is) p

of_some : {A : Type 0} (P : A → Type 0) (o : Option A) (x : A) → o ≡ Some x → IsSomeAnd o P → P x
of_some {A} P o x is there = subst (λ (q : Option A). IsSomeAnd q P) is there

-- ---- looking up

pub under_key : {K V : Type 0} (keys : List K) (lists : List (List V)) (k : K) (place : ℕ) (items : List V) → AreGroups keys lists → slice_get keys place ≡ Some k → slice_get lists place ≡ Some items → (v : V) → Contains items v ↔ HasIn (keys, lists) k v
under_key keys lists k place items are key_at items_at v = (
  λ there. record { place = place; key = key_at; item = some_there (Has v) (slice_get lists place) items items_at there },
  λ has. let same : has.place ≡ place = are.keys_once has.place place k has.key key_at in
      of_some (Has v) (slice_get lists place) items items_at (subst (λ i. IsSomeAnd (slice_get lists i) (Has v)) same has.item),
)

pub under_none : {K V : Type 0} (keys : List K) (lists : List (List V)) (k : K) → (Contains keys k → ⊥) → (v : V) → Contains {X = V} [] v ↔ HasIn (keys, lists) k v
under_none keys lists k absent v = (λ none. absurd (omega (arith, none.1)), λ has. absurd (absent (contains_at keys has.place k has.key)))

pub items_once : {K V : Type 0} (keys : List K) (lists : List (List V)) (place : ℕ) (items : List V) → AreGroups keys lists → slice_get lists place ≡ Some items → IsOnceEach items
items_once keys lists place items are items_at = all_found IsOnceEach lists place items are.items_once items_at

-- ---- an item more under a key that is there

pub more_under : {K V : Type 0} (keys : List K) (lists : List (List V)) (k : K) (place : ℕ) (items : List V) (v : V) → slice_get keys place ≡ Some k → slice_get lists place ≡ Some items → IsOnceEach keys → AddsUnder (keys, lists) (keys, slice_set lists place (items ++ v ∷ [])) k v
more_under {K} {V} keys lists k place items v key_at items_at once q w = (back, forth)
  where
    on : List V → Type 0
    on = Has w

    by_item : slice_get keys place ≡ Some q → Contains items w ⊎ Contains (v ∷ []) w → HasIn (keys, lists) q w ⊎ ((q ≡ k) × (w ≡ v))
    by_item is (inl before) = inl (record { place = place; key = is; item = some_there on (slice_get lists place) items items_at before })
    by_item is (inr more) = inr (same_Some q k (sym is ∙ key_at), only_one v w more)

    by_place : (j : ℕ) → slice_get keys j ≡ Some q → IsSomeAnd (slice_get lists j) on ⊎ ((j ≡ place) × Contains (items ++ v ∷ []) w) → HasIn (keys, lists) q w ⊎ ((q ≡ k) × (w ≡ v))
    by_place j is (inl before) = inl (record { place = j; key = is; item = before })
    by_place j is (inr here) = by_item (subst (λ i. slice_get keys i ≡ Some q) here.0 is) (Contains-append_cases items (v ∷ []) w here.1)

    back : HasIn (keys, slice_set lists place (items ++ v ∷ [])) q w → HasIn (keys, lists) q w ⊎ ((q ≡ k) × (w ≡ v))
    back has = by_place has.place has.key (set_had on lists place has.place (items ++ v ∷ []) has.item)

    forth : HasIn (keys, lists) q w ⊎ ((q ≡ k) × (w ≡ v)) → HasIn (keys, slice_set lists place (items ++ v ∷ [])) q w
    forth (inl has) = record {
      place = has.place;
      key = has.key;
      item = set_keeps on lists place has.place items (items ++ v ∷ []) items_at (λ there. Contains-append_left items (v ∷ []) w there) has.item;
    }
    forth (inr same) = record {
      place = place;
      key = key_at ∙ ap Some (sym same.0);
      item = set_puts on lists place items (items ++ v ∷ []) items_at (subst (λ x. Contains (items ++ v ∷ []) x) (sym same.1) (last_there items v));
    }

pub more_kept : {K V : Type 0} (keys : List K) (lists : List (List V)) (k : K) (place : ℕ) (items : List V) (v : V) → slice_get keys place ≡ Some k → slice_get lists place ≡ Some items → (HasIn (keys, lists) k v → ⊥) → AreGroups keys lists → AreGroups keys (slice_set lists place (items ++ v ∷ []))
more_kept keys lists k place items v key_at items_at lacks are = record {
  same = are.same ∙ sym (length-set lists place (items ++ v ∷ []));
  keys_once = are.keys_once;
  items_once = all_set IsOnceEach lists place (items ++ v ∷ []) are.items_once
      (once_push items v (items_once keys lists place items are items_at)
      (λ there. lacks (record { place = place; key = key_at; item = some_there (Has v) (slice_get lists place) items items_at there })));
}

-- ---- a key more, with its first item

pub first_under : {K V : Type 0} (keys : List K) (lists : List (List V)) (k : K) (v : V) → length keys ≡ length lists → AddsUnder (keys, lists) (keys ++ k ∷ [], lists ++ (v ∷ []) ∷ []) k v
first_under {K} {V} keys lists k v same q w = (back, forth)
  where
    on : List V → Type 0
    on = Has w

    by_both : (j : ℕ) → (slice_get keys j ≡ Some q) ⊎ ((j ≡ length keys) × (q ≡ k)) → IsSomeAnd (slice_get lists j) on ⊎ ((j ≡ length lists) × Contains (v ∷ []) w) → HasIn (keys, lists) q w ⊎ ((q ≡ k) × (w ≡ v))
    by_both j (inl is) (inl there) = inl (record { place = j; key = is; item = there })
    by_both j (inl is) (inr new) = absurd (omega (arith, slice_get_within keys j q is, new.0, same))
    by_both j (inr new) (inl there) = let found = is_there on (slice_get lists j) there in absurd (omega (arith, slice_get_within lists j found.item found.is, new.0, same))
    by_both j (inr new) (inr last) = inr (new.1, only_one v w last.1)

    back : HasIn (keys ++ k ∷ [], lists ++ (v ∷ []) ∷ []) q w → HasIn (keys, lists) q w ⊎ ((q ≡ k) × (w ≡ v))
    back has = by_both has.place (at_push keys k has.place q has.key) (some_push on lists has.place (v ∷ []) has.item)

    forth : HasIn (keys, lists) q w ⊎ ((q ≡ k) × (w ≡ v)) → HasIn (keys ++ k ∷ [], lists ++ (v ∷ []) ∷ []) q w
    forth (inl has) = record {
      place = has.place;
      key = at_left keys (k ∷ []) has.place q has.key;
      item = push_keeps on lists has.place (v ∷ []) has.item;
    }
    forth (inr at) = record {
      place = length lists;
      key = subst (λ i. slice_get (keys ++ k ∷ []) i ≡ Some q) same (at_end keys k ∙ ap Some (sym at.0));
      item = push_puts on lists (v ∷ []) (subst (λ x. Contains (v ∷ []) x) (sym at.1) (last_there [] v));
    }

pub first_kept : {K V : Type 0} (keys : List K) (lists : List (List V)) (k : K) (v : V) → (Contains keys k → ⊥) → AreGroups keys lists → AreGroups (keys ++ k ∷ []) (lists ++ (v ∷ []) ∷ [])
first_kept keys lists k v absent are = record {
  same = omega (arith, length_push keys k, length_push lists (v ∷ []), are.same);
  keys_once = once_push keys k are.keys_once absent;
  items_once = all_push IsOnceEach lists (v ∷ []) are.items_once (once_push [] v (λ i j y at_i at_j. absurd (cc)) (λ none. absurd (omega (arith, none.1))));
}

-- ---- a table that has no items

pub no_groups : {K V : Type 0} → AreGroups {K = K} {V = V} [] []
no_groups = record { same = refl; keys_once = λ i j y at_i at_j. absurd (cc); items_once = tt }

-- ---- the same, where parts are known by equations

pub first_kept_is : {K V : Type 0} (keys keys_new : List K) (lists lists_new : List (List V)) (first : List V) (k : K) (v : V) → keys_new ≡ keys ++ k ∷ [] → lists_new ≡ lists ++ first ∷ [] → first ≡ v ∷ [] → (Contains keys k → ⊥) → AreGroups keys lists → AreGroups keys_new lists_new
first_kept_is keys keys_new lists lists_new first k v keys_are lists_are first_is absent are =
    let made : lists_new ≡ lists ++ (v ∷ []) ∷ [] = lists_are ∙ ap (λ x. lists ++ x ∷ []) first_is in
    subst (λ ks. AreGroups ks lists_new) (sym keys_are) (subst (AreGroups (keys ++ k ∷ [])) (sym made) (first_kept keys lists k v absent are))

pub first_under_is : {K V : Type 0} (old new : List K × List (List V)) (keys keys_new : List K) (lists lists_new : List (List V)) (first : List V) (k : K) (v : V) → (keys, lists) ≡ old → (keys_new, lists_new) ≡ new → keys_new ≡ keys ++ k ∷ [] → lists_new ≡ lists ++ first ∷ [] → first ≡ v ∷ [] → AreGroups keys lists → AddsUnder old new k v
first_under_is old new keys keys_new lists lists_new first k v old_is new_is keys_are lists_are first_is are =
    let made : lists_new ≡ lists ++ (v ∷ []) ∷ [] = lists_are ∙ ap (λ x. lists ++ x ∷ []) first_is in
    let all : (keys ++ k ∷ [], lists ++ (v ∷ []) ∷ []) ≡ new = ap (λ ks. (ks, lists ++ (v ∷ []) ∷ [])) (sym keys_are) ∙ ap (λ ls. (keys_new, ls)) (sym made) ∙ new_is in
    subst (λ o. AddsUnder o new k v) old_is (subst (λ n. AddsUnder (keys, lists) n k v) all (first_under keys lists k v are.same))

pub more_kept_is : {K V : Type 0} (keys : List K) (lists : List (List V)) (k : K) (place : ℕ) (items items_new : List V) (v : V) → slice_get keys place ≡ Some k → slice_get lists place ≡ Some items → items_new ≡ items ++ v ∷ [] → (HasIn (keys, lists) k v → ⊥) → AreGroups keys lists → AreGroups keys (slice_set lists place items_new)
more_kept_is keys lists k place items items_new v key_at items_at made lacks are = subst (λ xs. AreGroups keys (slice_set lists place xs)) (sym made) (more_kept keys lists k place items v key_at items_at lacks are)

pub more_under_set : {K V : Type 0} (old : List K × List (List V)) (keys : List K) (lists : List (List V)) (k : K) (place : ℕ) (items items_new : List V) (v : V) → (keys, lists) ≡ old → slice_get keys place ≡ Some k → slice_get lists place ≡ Some items → items_new ≡ items ++ v ∷ [] → AreGroups keys lists → AddsUnder old (keys, slice_set lists place items_new) k v
more_under_set old keys lists k place items items_new v old_is key_at items_at made are =
    subst (λ o. AddsUnder o (keys, slice_set lists place items_new) k v) old_is (subst (λ xs. AddsUnder (keys, lists) (keys, slice_set lists place xs) k v) (sym made) (more_under keys lists k place items v key_at items_at are.keys_once))

pub ok_is : {T E P : Type 0} {t : T} (r : Result T E) → r ≡ Ok t → P → OnOk r P
ok_is {P = P} r is p = subst (λ o. OnOk o P) (sym is) p

pub err_is : {T E : Type 0} (P : Type 0) {e : E} (r : Result T E) → r ≡ Err e → OnOk r P
err_is P r is = subst (λ o. OnOk o P) (sym is) tt

-- the same items, where nothing could be added
pub same_set : {A : Type 0} (xs : List A) (place : ℕ) (x y : A) → slice_get xs place ≡ Some x → y ≡ x → slice_set xs place y ≡ xs
same_set [] place x y is same = refl
same_set (z ∷ xs) zero x y is same = ap (λ w. w ∷ xs) (same ∙ sym (same_Some z x is))
same_set (z ∷ xs) (suc n) x y is same = ap (λ ws. z ∷ ws) (same_set xs n x y is same)

-- what is kept, whether there was memory or not
pub pushed_kept : {K V T E : Type 0} (r : Result T E) (keys : List K) (lists : List (List V)) (k : K) (place : ℕ) (items items_new : List V) (v : V) → OnOk r (items_new ≡ items ++ v ∷ []) → OnErr r (items_new ≡ items) → slice_get keys place ≡ Some k → slice_get lists place ≡ Some items → (HasIn (keys, lists) k v → ⊥) → AreGroups keys lists → AreGroups keys (slice_set lists place items_new)
pushed_kept (Ok t) keys lists k place items items_new v made same key_at items_at lacks are = more_kept_is keys lists k place items items_new v key_at items_at made lacks are
pushed_kept (Err e) keys lists k place items items_new v made same key_at items_at lacks are = subst (AreGroups keys) (sym (same_set lists place items items_new items_at same)) are

pub list_at : {K V : Type 0} (keys : List K) (lists : List (List V)) (k : K) (place : ℕ) (items : List V) → AreGroups keys lists → slice_get keys place ≡ Some k → items ≡ get_or lists place items → slice_get lists place ≡ Some items
list_at keys lists k place items are key_at value = slice_get_read lists (length lists) place items refl (omega (arith, slice_get_within keys place k key_at, are.same)) value
