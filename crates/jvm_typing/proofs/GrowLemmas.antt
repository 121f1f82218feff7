-- Lists of facts that grow.
use Rattle.std.proofs.Common.{◌≡◌, ◌↔◌, ◌⊎◌, ℕ, zero, suc, ◌+◌, ◌<◌, ◌≤◌, List, [], ◌∷◌, ◌++◌, length, get_or, take, map, Contains, Some, None, refl, sym, ◌∙◌, ap, subst, inl, inr, arith}
use Rattle.std.specs.Prelude.{slice_get}
use Rattle.std.specs.List.Sorted.{IsPermutation}
use Rattle.std.proofs.lemmas.List.Sorted.{Contains-permutation, IsPermutation-sym}
use Rattle.std.proofs.lemmas.List.Elements.{Contains-get_or}
use Rattle.std.proofs.lemmas.Option.{slice_get_within, get_or_from_slice_get}
use Rattle.jo_prog.specs.Typing.{Kind}
use Rattle.jvm_typing.specs.declared.facts.Fact.{Fact}
use Rattle.typing_heights.specs.Adds.{From, FromBelow}
use Rattle.jvm_typing.specs.KindPasses.{Item, item_in, items_of, Grows}
use Rattle.typing_heights.proofs.AddsLemmas.{adds_none, adds_alike, adds_pushed, over_more, over_all, below_step}

pub map_push : {A B : Type 0} (f : A → B) (xs : List A) (x : A) → map f (xs ++ x ∷ []) ≡ map f xs ++ f x ∷ []
map_push f [] x = refl
map_push f (y ∷ xs) x = ap (λ ys. f y ∷ ys) (map_push f xs x)

pub contains_map : {A B : Type 0} (f : A → B) (xs : List A) (x : A) → Contains xs x → Contains (map f xs) (f x)
contains_map f [] x c = absurd (let b = c.1 in omega arith)
contains_map f (y ∷ xs) x (zero, b, e) = (0, omega arith, ap f e)
contains_map f (y ∷ xs) x (suc k, b, e) = let r = contains_map f xs x (k, omega arith, e) in (suc r.0, (let l = r.1 in omega arith), r.2)

pub from_map : {A B : Type 0} (f : A → B) (xs : List A) (y : B) → Contains (map f xs) y → (x : A) × Contains xs x × (f x ≡ y)
from_map f [] y c = absurd (let b = c.1 in omega arith)
from_map f (x ∷ xs) y (zero, b, e) = (x, (0, omega arith, refl), e)
from_map f (x ∷ xs) y (suc k, b, e) =
    let r = from_map f xs y (k, (let l = b in omega arith), e) in
    let c = r.1 in (r.0, (suc c.0, (let l = c.1 in omega arith), c.2), r.2)

pub contains_at : {A : Type 0} (xs : List A) (n : ℕ) (x : A) → slice_get xs n ≡ Some x → Contains xs x
contains_at xs n x found = subst (λ y. Contains xs y) (get_or_from_slice_get xs n x x found) (Contains-get_or xs n x (slice_get_within xs n x found))

pub number_of : {A : Type 0} (xs : List A) (x : A) → Contains xs x → (n : ℕ) × (slice_get xs n ≡ Some x)
number_of [] x c = absurd (let b = c.1 in omega arith)
number_of (y ∷ xs) x (zero, b, e) = (0, ap Some e)
number_of (y ∷ xs) x (suc k, b, e) = let r = number_of xs x (k, (let l = b in omega arith), e) in (suc r.0, r.1)

pub none_past : {A : Type 0} (xs : List A) (k : ℕ) → slice_get xs k ≡ None → length xs ≤ k
none_past [] k e = omega arith
none_past (x ∷ xs) zero e = absurd (cc)
none_past (x ∷ xs) (suc k) e = let r = none_past xs k e in omega arith

stays_push : (xs : List Item) (y : Item) (k : ℕ) (x : Item) → slice_get xs k ≡ Some x → slice_get (xs ++ y ∷ []) k ≡ Some x
stays_push [] y k x e = absurd (cc)
stays_push (z ∷ xs) y zero x e = e
stays_push (z ∷ xs) y (suc k) x e = stays_push xs y k x e

pub item_is : (x : Item) (pc place : ℕ) (kind : Kind) → x.pc ≡ pc → x.place ≡ place → x.kind ≡ kind → x ≡ record { pc = pc; place = place; kind = kind }
item_is x pc place kind e f g =
    let s1 : ◌≡◌ {A = Item} x (record { pc = pc; place = x.place; kind = x.kind }) = ap (λ y. record { pc = y; place = x.place; kind = x.kind }) e in
    let s2 : ◌≡◌ {A = Item} (record { pc = pc; place = x.place; kind = x.kind }) (record { pc = pc; place = place; kind = x.kind }) = ap (λ y. record { pc = pc; place = y; kind = x.kind }) f in
    let s3 : ◌≡◌ {A = Item} (record { pc = pc; place = place; kind = x.kind }) (record { pc = pc; place = place; kind = kind }) = ap (λ y. record { pc = pc; place = place; kind = y }) g in
    s1 ∙ s2 ∙ s3

-- ---- one fact

pub grows_known : (facts : List Fact) (fact : Fact) → Contains facts fact → Grows (λ (x : Item). x ≡ item_in fact) (items_of facts) (items_of facts)
grows_known facts fact among = record { stays = λ k x e. e; adds = λ x. (λ c. inl c, there x) }
  where
    there : (x : Item) → Contains (items_of facts) x ⊎ (x ≡ item_in fact) → Contains (items_of facts) x
    there x (inl c) = c
    there x (inr e) = subst (λ (y : Item). Contains (items_of facts) y) (sym e) (contains_map item_in facts fact among)

pub grows_new : (facts new : List Fact) (fact : Fact) → new ≡ facts ++ fact ∷ [] → Grows (λ (x : Item). x ≡ item_in fact) (items_of facts) (items_of new)
grows_new facts new fact made =
    let is = ap items_of made ∙ map_push item_in facts fact in
    record {
      stays = λ k x e. subst (λ (l : List Item). slice_get l k ≡ Some x) (sym is) (stays_push (items_of facts) (item_in fact) k x e);
      adds = adds_pushed (items_of facts) (items_of new) (item_in fact) is;
    }

-- ---- more of them

pub grows_none : (W : Item → Type 0) (old : List Item) → ((x : Item) → W x → ⊥) → Grows W old old
grows_none W old never = record { stays = λ k x e. e; adds = adds_none (Contains old) W never }

pub grows_alike : (V W : Item → Type 0) (old new : List Item) → Grows V old new → ((x : Item) → V x ↔ W x) → Grows W old new
grows_alike V W old new grows alike = record { stays = grows.stays; adds = adds_alike (Contains old) (Contains new) V W grows.adds alike }

module _ {A : Type 0} (xs : List A) (makes : A → Item → Type 0) where
  pub grows_over : (start old new : List Item) (i : ℕ) (d : A) → i < length xs → Grows (From (take i xs) makes) start old → Grows (makes (get_or xs i d)) old new → Grows (From (take (i + 1) xs) makes) start new
  grows_over start old new i d below first second = record {
    stays = λ k x e. second.stays k x (first.stays k x e);
    adds = over_more xs makes (Contains start) (Contains old) (Contains new) i d below first.adds second.adds;
  }

  pub grows_all : (start new : List Item) (i : ℕ) → length xs ≤ i → Grows (From (take i xs) makes) start new → Grows (From xs makes) start new
  grows_all start new i past grows = record { stays = grows.stays; adds = over_all xs makes (Contains start) (Contains new) i past grows.adds }

pub grows_below : (start old new : List Item) (n : ℕ) (makes : ℕ → Item → Type 0) → Grows (FromBelow n makes) start old → Grows (makes n) old new → Grows (FromBelow (n + 1) makes) start new
grows_below start old new n makes first second = record {
  stays = λ k x e. second.stays k x (first.stays k x e);
  adds = below_step (Contains start) (Contains old) (Contains new) n makes first.adds second.adds;
}

-- ---- in another order

pub same_items : (xs ys : List Fact) → IsPermutation xs ys → (x : Item) → Contains (items_of ys) x ↔ Contains (items_of xs) x
same_items xs ys moved x = (there xs ys moved, there ys xs (IsPermutation-sym xs ys moved))
  where
    there : (first second : List Fact) → IsPermutation first second → Contains (items_of second) x → Contains (items_of first) x
    there first second moved among =
        let r = from_map item_in second x among in
        subst (λ (y : Item). Contains (items_of first) y) r.2 (contains_map item_in first r.0 (Contains-permutation second first r.0 (IsPermutation-sym first second moved) r.1))
