-- Distinct texts, one after another.
use Rattle.std.proofs.Common.{◌≡◌, ◌∙◌, sym, ap, refl, ℕ, suc, ◌+◌, Bool, true, false, not, ◌||◌, cond, List, [], ◌∷◌, ◌++◌, filter, map, Option, Some, None, Vec, Global, append-nil, arith}
use Rattle.std.specs.Prelude.{option_map}
use Rattle.std.specs.List.{list_any, position, position_from}
use Rattle.std.specs.Str.{bytes_eq}
use Rattle.std.proofs.lemmas.Slice.Eq.{bytes_eq-Decides}
use Rattle.std.proofs.lemmas.Iterator.Adapters.{position_from-zero}
use Rattle.jo_prog.specs.Constants.{distinct, place_of}
use Rattle.resolved_insns.specs.Strings.{key_text}

either_way : (a b : Bool) → (a ≡ true → b ≡ true) → (b ≡ true → a ≡ true) → a ≡ b
either_way true true to back = refl
either_way true false to back = let e : false ≡ true = to refl in absurd (cc)
either_way false true to back = let e : false ≡ true = back refl in absurd (cc)
either_way false false to back = refl

turned : (xs ys : List ℕ) → bytes_eq xs ys ≡ bytes_eq ys xs
turned xs ys = either_way (bytes_eq xs ys) (bytes_eq ys xs)
    (λ h. (bytes_eq-Decides ys xs).1 (sym ((bytes_eq-Decides xs ys).0 h)))
    (λ h. (bytes_eq-Decides xs ys).1 (sym ((bytes_eq-Decides ys xs).0 h)))

-- texts that are the same test the same
alike : (x y t : List ℕ) → bytes_eq x y ≡ true → bytes_eq t x ≡ bytes_eq t y
alike x y t same = ap (λ (z : List ℕ). bytes_eq t z) ((bytes_eq-Decides x y).0 same)

abbrev has : List ℕ → List (List ℕ) → Bool
has t ys = list_any (λ y. bytes_eq t y) ys

abbrev others : List ℕ → List (List ℕ) → List (List ℕ)
others x ys = filter (λ other. not (bytes_eq other x)) ys

-- another text than the one that is dropped stays
stays : (x t : List ℕ) (ys : List (List ℕ)) → bytes_eq t x ≡ false → has t (others x ys) ≡ has t ys
stays x t [] apart = refl
stays x t (y ∷ ys) apart = by_test (bytes_eq y x) refl (stays x t ys apart)
  where
    by_test : (b : Bool) → bytes_eq y x ≡ b → has t (others x ys) ≡ has t ys → has t (others x (y ∷ ys)) ≡ has t (y ∷ ys)
    by_test true is behind =
        let away : bytes_eq t y ≡ false = alike y x t is ∙ apart in
        rw (is, away) behind
    by_test false is behind = rw is (ap (λ b. bytes_eq t y || b) behind)

others_more : (x t : List ℕ) (ys : List (List ℕ)) → others x (ys ++ t ∷ []) ≡ others x ys ++ cond (bytes_eq t x) [] (t ∷ [])
others_more x t [] = by_test (bytes_eq t x)
  where
    by_test : (b : Bool) → cond (not b) (t ∷ []) [] ≡ cond b [] (t ∷ [])
    by_test true = refl
    by_test false = refl
others_more x t (y ∷ ys) = by_test (bytes_eq y x) (others_more x t ys)
  where
    by_test : (b : Bool) → others x (ys ++ t ∷ []) ≡ others x ys ++ cond (bytes_eq t x) [] (t ∷ []) → cond (not b) (y ∷ others x (ys ++ t ∷ [])) (others x (ys ++ t ∷ [])) ≡ cond (not b) (y ∷ others x ys) (others x ys) ++ cond (bytes_eq t x) [] (t ∷ [])
    by_test true behind = behind
    by_test false behind = ap (λ zs. y ∷ zs) behind

abbrev joined : List ℕ → List (List ℕ) → List (List ℕ)
joined t ys = cond (has t ys) ys (ys ++ t ∷ [])

joined_behind : (x t : List ℕ) (ys : List (List ℕ)) → x ∷ others x (joined t ys) ≡ joined t (x ∷ others x ys)
joined_behind x t ys = by_first (bytes_eq t x) refl (has t ys) refl
  where
    by_first : (b : Bool) → bytes_eq t x ≡ b → (h : Bool) → has t ys ≡ h → x ∷ others x (joined t ys) ≡ joined t (x ∷ others x ys)
    by_first true is true there = rw (is, there) refl
    by_first true is false there = rw (is, there) (ap (λ zs. x ∷ zs) (others_more x t ys ∙ rw is (append-nil (others x ys))))
    by_first false is true there = rw (is, stays x t ys is, there) refl
    by_first false is false there = rw (is, stays x t ys is, there) (ap (λ zs. x ∷ zs) (others_more x t ys ∙ rw is refl))

distinct_joined : (xs : List (List ℕ)) (t : List ℕ) → distinct (xs ++ t ∷ []) ≡ joined t (distinct xs)
distinct_joined [] t = refl
distinct_joined (x ∷ xs) t = ap (λ zs. x ∷ others x zs) (distinct_joined xs t) ∙ joined_behind x t (distinct xs)

-- ---- the set

any_text : (t : List ℕ) (keys : List (Vec ℕ Global)) → list_any (λ (k : Vec ℕ Global). bytes_eq t k.items) keys ≡ has t (map key_text keys)
any_text t [] = refl
any_text t (k ∷ keys) = ap (λ b. bytes_eq t k.items || b) (any_text t keys)

map_more : (keys : List (Vec ℕ Global)) (key : Vec ℕ Global) → map key_text (keys ++ key ∷ []) ≡ map key_text keys ++ key.items ∷ []
map_more [] key = refl
map_more (k ∷ keys) key = ap (λ zs. k.items ∷ zs) (map_more keys key)

pub text_put : (keys : List (Vec ℕ Global)) (key : Vec ℕ Global) (before : List (List ℕ)) → map key_text keys ≡ distinct before
    → map key_text (cond (list_any (λ (k : Vec ℕ Global). bytes_eq key.items k.items) keys) keys (keys ++ key ∷ [])) ≡ distinct (before ++ key.items ∷ [])
text_put keys key before are = by_test (has key.items (map key_text keys)) refl
  where
    by_test : (b : Bool) → has key.items (map key_text keys) ≡ b → map key_text (cond (list_any (λ (k : Vec ℕ Global). bytes_eq key.items k.items) keys) keys (keys ++ key ∷ [])) ≡ distinct (before ++ key.items ∷ [])
    by_test true is = rw (any_text key.items keys, is) (are ∙ sym (distinct_joined before key.items ∙ rw (← are, is) refl))
    by_test false is = rw (any_text key.items keys, is) (map_more keys key ∙ sym (distinct_joined before key.items ∙ rw (← are, is) refl))

-- ---- places

place_behind : (text : List ℕ) (n : ℕ) (keys : List (Vec ℕ Global)) → position_from (λ (k : Vec ℕ Global). bytes_eq text k.items) n keys ≡ option_map (λ k. n + k) (place_of text (map key_text keys))
place_behind text n [] = refl
place_behind text n (key ∷ keys) = by_test (bytes_eq text key.items) refl (place_behind text (n + 1) keys)
  where
    further : (o : Option ℕ) → option_map (λ k. (n + 1) + k) o ≡ option_map (λ k. n + k) (option_map (λ k. suc k) o)
    further None = refl
    further (Some k) = ap (λ m. Some m) (omega arith)

    by_test : (b : Bool) → bytes_eq text key.items ≡ b → position_from (λ (k : Vec ℕ Global). bytes_eq text k.items) (n + 1) keys ≡ option_map (λ k. (n + 1) + k) (place_of text (map key_text keys)) → position_from (λ (k : Vec ℕ Global). bytes_eq text k.items) n (key ∷ keys) ≡ option_map (λ k. n + k) (place_of text (map key_text (key ∷ keys)))
    by_test true is behind = rw (turned key.items text, is) (ap (λ m. Some m) (omega arith))
    by_test false is behind = rw (turned key.items text, is) (behind ∙ further (place_of text (map key_text keys)))

same_from_zero : (o : Option ℕ) → option_map (λ k. 0 + k) o ≡ o
same_from_zero None = refl
same_from_zero (Some k) = ap (λ m. Some m) (omega arith)

pub place_is : (text : List ℕ) (keys : List (Vec ℕ Global)) → position (λ (k : Vec ℕ Global). bytes_eq text k.items) keys ≡ place_of text (map key_text keys)
place_is text keys = position_from-zero (λ (k : Vec ℕ Global). bytes_eq text k.items) keys ∙ place_behind text 0 keys ∙ same_from_zero (place_of text (map key_text keys))
