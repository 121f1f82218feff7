-- The objects of string constants: each text has one, and no two have the same.
use Rattle.std.proofs.Common.{◌≡◌, ◌∙◌, ℕ, zero, suc, ◌<◌, Bool, true, false, not, cond, List, [], ◌∷◌, ◌++◌, length, replicate, filter, Option, Some, None, refl, sym, ap, subst, arith, inl, inr}
use Rattle.std.specs.Prelude.{option_map, slice_get}
use Rattle.std.specs.Str.{bytes_eq}
use Rattle.std.specs.List.{AllByRecursion}
use Rattle.std.specs.Cmp.Lexicographic.{bytes_decides}
use Rattle.std.proofs.lemmas.Bool.{false≢true, cases_Bool}
use Rattle.std.proofs.lemmas.Option.{none-some, same_Some, slice_get_within}
use Rattle.jo_prog.specs.declared.program.Program.{Program}
use Rattle.jo_prog.specs.declared.labels.Labels.{Labels}
use Rattle.jo_prog.specs.Constants.{texts_of, distinct, place_of, string_constants, string_address}
use Rattle.jo_prog.specs.Machine.{string_object, first_heap, start}

same_texts : (a b : List ℕ) → bytes_eq a b ≡ true → a ≡ b
same_texts a b e = (bytes_decides a b).0 e

unequal : (a b : List ℕ) → (a ≡ b → ⊥) → bytes_eq a b ≡ false
unequal a b apart = elim (cases_Bool (bytes_eq a b)) [ inl same ↦ absurd (apart (same_texts a b same)) | inr other ↦ other ]

-- ---- a place in a list

module _ (text : List ℕ) where
  at_head : (other : List ℕ) (others : List (List ℕ)) → bytes_eq other text ≡ true → place_of text (other ∷ others) ≡ Some 0
  at_head other others e = ap (λ b. cond b (Some 0) (option_map (λ place. suc place) (place_of text others))) e

  behind_head : (other : List ℕ) (others : List (List ℕ)) (place : ℕ) → bytes_eq other text ≡ false → place_of text others ≡ Some place → place_of text (other ∷ others) ≡ Some (suc place)
  behind_head other others place e at =
      ap (λ b. cond b (Some 0) (option_map (λ k. suc k) (place_of text others))) e ∙ ap (option_map (λ k. suc k)) at

  -- at its place stands the text
  place-text : (xs : List (List ℕ)) (place : ℕ) → place_of text xs ≡ Some place → slice_get xs place ≡ Some text
  place-text [] place e = absurd (none-some place e)
  place-text (x ∷ xs) place e = by_head (bytes_eq x text) refl (place_of text xs) (λ k at. place-text xs k at) e
    where
      by_head : (b : Bool) → bytes_eq x text ≡ b → (o : Option ℕ) → ((k : ℕ) → o ≡ Some k → slice_get xs k ≡ Some text) → cond b (Some 0) (option_map (λ k. suc k) o) ≡ Some place → slice_get (x ∷ xs) place ≡ Some text
      by_head true same o behind is = subst (λ n. slice_get (x ∷ xs) n ≡ Some text) (same_Some 0 place is) (ap (λ (t : List ℕ). Some t) (same_texts x text same))
      by_head false other None behind is = absurd (none-some place is)
      by_head false other (Some k) behind is = subst (λ n. slice_get (x ∷ xs) n ≡ Some text) (same_Some (suc k) place is) (behind k refl)

  abbrev HasPlace : List (List ℕ) → Type 0
  HasPlace xs = (place : ℕ) × (place_of text xs ≡ Some place)

  -- a text that a filter keeps still has a place
  kept : (test : List ℕ → Bool) (xs : List (List ℕ)) (place : ℕ) → test text ≡ true → place_of text xs ≡ Some place → HasPlace (filter test xs)
  kept test [] place keep e = absurd (none-some place e)
  kept test (x ∷ xs) place keep e = by_head (bytes_eq x text) refl (place_of text xs) (λ k at. kept test xs k keep at) e
    where
      onward : (b : Bool) → bytes_eq x text ≡ false → HasPlace (filter test xs) → HasPlace (cond b (x ∷ filter test xs) (filter test xs))
      onward true other found = (suc found.0, behind_head x (filter test xs) found.0 other found.1)
      onward false other found = found

      by_head : (b : Bool) → bytes_eq x text ≡ b → (o : Option ℕ) → ((k : ℕ) → o ≡ Some k → HasPlace (filter test xs)) → cond b (Some 0) (option_map (λ k. suc k) o) ≡ Some place → HasPlace (filter test (x ∷ xs))
      by_head true same o behind is =
          (0, ap (λ b. place_of text (cond b (x ∷ filter test xs) (filter test xs))) (subst (λ t. test t ≡ true) (sym (same_texts x text same)) keep) ∙ at_head x (filter test xs) same)
      by_head false other None behind is = absurd (none-some place is)
      by_head false other (Some k) behind is = onward (test x) other (behind k refl)

  -- each of some texts has a place among the distinct ones
  has_place : (xs : List (List ℕ)) (k : ℕ) → slice_get xs k ≡ Some text → HasPlace (distinct xs)
  has_place [] k e = absurd (none-some text e)
  has_place (x ∷ xs) zero e = (0, at_head x _ ((bytes_decides x text).1 (same_Some x text e)))
  has_place (x ∷ xs) (suc k) e = by_head (bytes_eq x text) refl (has_place xs k e)
    where
      by_head : (b : Bool) → bytes_eq x text ≡ b → HasPlace (distinct xs) → HasPlace (x ∷ filter (λ other. not (bytes_eq other x)) (distinct xs))
      by_head true same found = (0, at_head x _ same)
      by_head false other found =
          let apart = unequal text x (λ same. false≢true (sym other ∙ (bytes_decides x text).1 (sym same))) in
          let keeps = kept (λ o. not (bytes_eq o x)) (distinct xs) found.0 (ap not apart) found.1 in
          (suc keeps.0, behind_head x _ keeps.0 other keeps.1)

-- ---- no text stands twice

abbrev Apart : List (List ℕ) → Type 0
Apart [] = Unit {0}
Apart (x ∷ xs) = AllByRecursion (λ y. bytes_eq x y ≡ false) xs × Apart xs

all_kept : (P : List ℕ → Type 0) (test : List ℕ → Bool) (xs : List (List ℕ)) → AllByRecursion P xs → AllByRecursion P (filter test xs)
all_kept P test [] h = tt
all_kept P test (x ∷ xs) h = by_test (test x) (all_kept P test xs h.1)
  where
    by_test : (b : Bool) → AllByRecursion P (filter test xs) → AllByRecursion P (cond b (x ∷ filter test xs) (filter test xs))
    by_test true rest = (h.0, rest)
    by_test false rest = rest

apart_kept : (test : List ℕ → Bool) (xs : List (List ℕ)) → Apart xs → Apart (filter test xs)
apart_kept test [] h = tt
apart_kept test (x ∷ xs) h = by_test (test x) (apart_kept test xs h.1)
  where
    by_test : (b : Bool) → Apart (filter test xs) → Apart (cond b (x ∷ filter test xs) (filter test xs))
    by_test true rest = (all_kept (λ y. bytes_eq x y ≡ false) test xs h.0, rest)
    by_test false rest = rest

none_left : (x : List ℕ) (xs : List (List ℕ)) → AllByRecursion (λ y. bytes_eq x y ≡ false) (filter (λ other. not (bytes_eq other x)) xs)
none_left x [] = tt
none_left x (y ∷ ys) = by_test (bytes_eq y x) refl (none_left x ys)
  where
    by_test : (b : Bool) → bytes_eq y x ≡ b → AllByRecursion (λ z. bytes_eq x z ≡ false) (filter (λ other. not (bytes_eq other x)) ys)
        → AllByRecursion (λ z. bytes_eq x z ≡ false) (cond (not b) (y ∷ filter (λ other. not (bytes_eq other x)) ys) (filter (λ other. not (bytes_eq other x)) ys))
    by_test true same rest = rest
    by_test false other rest = (unequal x y (λ same. false≢true (sym other ∙ (bytes_decides y x).1 (sym same))), rest)

distinct-apart : (xs : List (List ℕ)) → Apart (distinct xs)
distinct-apart [] = tt
distinct-apart (x ∷ xs) = (none_left x (distinct xs), apart_kept (λ other. not (bytes_eq other x)) (distinct xs) (distinct-apart xs))

at_place : (P : List ℕ → Type 0) (xs : List (List ℕ)) (k : ℕ) (x : List ℕ) → AllByRecursion P xs → slice_get xs k ≡ Some x → P x
at_place P [] k x h e = absurd (none-some x e)
at_place P (y ∷ ys) zero x h e = subst P (same_Some y x e) h.0
at_place P (y ∷ ys) (suc k) x h e = at_place P ys k x h.1 e

text-place : (text : List ℕ) (xs : List (List ℕ)) (k : ℕ) → Apart xs → slice_get xs k ≡ Some text → place_of text xs ≡ Some k
text-place text [] k h e = absurd (none-some text e)
text-place text (x ∷ xs) zero h e = at_head text x xs ((bytes_decides x text).1 (same_Some x text e))
text-place text (x ∷ xs) (suc k) h e = behind_head text x xs k (at_place (λ y. bytes_eq x y ≡ false) xs k text h.0 e) (text-place text xs k h.1 e)

-- ---- the law

pub has_address : (program : Program) (k : ℕ) (text : List ℕ) → slice_get (texts_of program) k ≡ Some text → (address : ℕ) × (string_address program text ≡ Some address)
unfolding string_constants
has_address program k text e = has_place text (texts_of program) k e

pub text_at_address : (program : Program) (text : List ℕ) (address : ℕ) → string_address program text ≡ Some address → slice_get (string_constants program) address ≡ Some text
text_at_address program text address e = place-text text (string_constants program) address e

pub address_of_text : (program : Program) (text : List ℕ) (address : ℕ) → slice_get (string_constants program) address ≡ Some text → string_address program text ≡ Some address
unfolding string_constants
address_of_text program text address e = text-place text (distinct (texts_of program)) address (distinct-apart (texts_of program)) e

at_front : {X : Type 0} → (n : ℕ) (x : X) (xs : List X) (k : ℕ) → k < n → slice_get (replicate n x ++ xs) k ≡ Some x
at_front zero x xs k below = absurd (omega arith)
at_front (suc n) x xs zero below = refl
at_front (suc n) x xs (suc k) below = at_front n x xs k (omega arith)

pub object_at_address : (program : Program) (labels : Labels) (text : List ℕ) (address : ℕ) → string_address program text ≡ Some address → slice_get (start program labels).heap address ≡ Some string_object
unfolding first_heap
object_at_address program labels text address e =
    at_front (length (string_constants program)) string_object _ address (slice_get_within (string_constants program) address text (text_at_address program text address e))
