-- The names of classes: in a set in memory, and among those of earlier classes.
use Rattle.std.proofs.Common.{◌≡◌, ◌↔◌, ◌<◌, ◌≤◌, ◌+◌, ℕ, Option, None, get_or, arith, Bool, true, false, List, [], ◌∷◌, ◌++◌, map, take, length, Some, refl, sym, subst, ap, ◌∙◌, Contains, Vec, Global}
use Rattle.std.specs.Prelude.{if◌then◌else◌, position, slice_get}
use Rattle.std.specs.List.{list_any, position_from}
use Rattle.std.specs.Option.{IsSomeAnd}
use Rattle.std.specs.Str.{bytes_eq}
use Rattle.std.proofs.lemmas.Cmp.{nat_list_eq_equiv}
use Rattle.std.proofs.lemmas.List.{take-map, map-append, take_more, take_all, length-map}
use Rattle.std.proofs.lemmas.Map.Views.{Contains-from_any, list_any-from_Contains}
use Rattle.std.proofs.lemmas.Option.{slice_get-map, slice_get_within, get_or_from_slice_get}
use Rattle.std.proofs.lemmas.Slice.Eq.{bytes_eq-Decides}
use Rattle.indexmap.specs.IndexSet.{insert_key}
use Rattle.class_pool.specs.declared.classes.ClassFile.{ClassFile}
use Rattle.std.proofs.lemmas.Iterator.Adapters.{position_from-zero}
use Rattle.linker.specs.Linking.{this_name, number_of}
use Rattle.linker.specs.LinkFaults.{class_names, IsTwiceDefined}
use Rattle.linker.specs.KnownNames.{text_in}

-- ---- a set of texts

pub any_named : (keys : List (Vec ℕ Global)) (name : List ℕ) → list_any (λ key. bytes_eq name key.items) keys ≡ list_any (bytes_eq name) (map text_in keys)
any_named [] name = refl
any_named (key ∷ keys) name = rw (any_named keys name) refl

found : (keys : List (Vec ℕ Global)) (name : List ℕ) → list_any (λ key. bytes_eq name key.items) keys ≡ true → Contains (map text_in keys) name
found keys name is = Contains-from_any {eq = bytes_eq} (λ x y. (bytes_eq-Decides x y).0) name (map text_in keys) (sym (any_named keys name) ∙ is)

finds : (keys : List (Vec ℕ Global)) (name : List ℕ) → Contains (map text_in keys) name → list_any (λ key. bytes_eq name key.items) keys ≡ true
finds keys name there = any_named keys name ∙ list_any-from_Contains {eq = bytes_eq} nat_list_eq_equiv name (map text_in keys) there

pub has_is : (keys : List (Vec ℕ Global)) (name : List ℕ) (answer : Bool) → answer ≡ list_any (λ key. bytes_eq name key.items) keys → (answer ≡ true) ↔ Contains (map text_in keys) name
has_is keys name answer is = (λ t. found keys name (sym is ∙ t), λ there. is ∙ finds keys name there)

put_by : (there : Bool) (keys : List (Vec ℕ Global)) (text : Vec ℕ Global) → (there ≡ true → ⊥) → map text_in (if there then keys else keys ++ text ∷ []) ≡ map text_in keys ++ text.items ∷ []
put_by true keys text new = absurd (new refl)
put_by false keys text new = map-append text_in keys (text ∷ [])

-- a text that isn't there goes last
pub put_last : (keys : List (Vec ℕ Global)) (text : Vec ℕ Global) (name : List ℕ) → text.items ≡ name → (Contains (map text_in keys) name → ⊥)
    → map text_in (insert_key (λ key other. bytes_eq key.items other.items) keys text) ≡ map text_in keys ++ name ∷ []
put_last keys text name is new =
    put_by (list_any (λ key. bytes_eq text.items key.items) keys) keys text (λ there. new (subst (Contains (map text_in keys)) is (found keys text.items there)))
    ∙ ap (λ n. map text_in keys ++ n ∷ []) is

-- ---- earlier names

at_place : (classes : List ClassFile) (k : ℕ) (class : ClassFile) → slice_get classes k ≡ Some class → slice_get (class_names classes) k ≡ Some (this_name class)
at_place classes k class at = slice_get-map this_name classes k ∙ rw at refl

pub twice_here : (classes : List ClassFile) (k : ℕ) (class : ClassFile) → slice_get classes k ≡ Some class → Contains (map this_name (take k classes)) (this_name class)
    → IsTwiceDefined (class_names classes) k
twice_here classes k class at there =
    let named = at_place classes k class at in
    let before : take k (class_names classes) ≡ map this_name (take k classes) = take-map this_name k classes in
    subst (λ o. IsSomeAnd o (λ name. Contains (take k (class_names classes)) name)) (sym named)
    (subst (λ names. Contains names (this_name class)) (sym before) there)

pub once_here : (classes : List ClassFile) (k : ℕ) (class : ClassFile) → slice_get classes k ≡ Some class → (Contains (map this_name (take k classes)) (this_name class) → ⊥)
    → IsTwiceDefined (class_names classes) k → ⊥
once_here classes k class at new twice =
    let named = at_place classes k class at in
    let before : take k (class_names classes) ≡ map this_name (take k classes) = take-map this_name k classes in
    new (subst (λ names. Contains names (this_name class)) before
    (subst (λ o. IsSomeAnd o (λ name. Contains (take k (class_names classes)) name)) named twice))

-- one name more
pub names_more : (classes : List ClassFile) (k : ℕ) (class : ClassFile) → slice_get classes k ≡ Some class → map this_name (take k classes) ++ this_name class ∷ [] ≡ map this_name (take (k + 1) classes)
names_more classes k class at =
    let same : get_or classes k class ≡ class = get_or_from_slice_get classes k class class at in
    let more : take (k + 1) classes ≡ take k classes ++ get_or classes k class ∷ [] = take_more classes k class (slice_get_within classes k class at) in
    sym (ap (map this_name) (more ∙ ap (λ c. take k classes ++ c ∷ []) same) ∙ map-append this_name (take k classes) (class ∷ []))

below : (names : List (List ℕ)) (k : ℕ) → IsTwiceDefined names k → k < length names
below names k twice = by_name (slice_get names k) refl twice
  where
    by_name : (found : Option (List ℕ)) → slice_get names k ≡ found → IsSomeAnd found (λ name. Contains (take k names) name) → k < length names
    by_name None at there = absurd there
    by_name (Some name) at there = slice_get_within names k name at

-- the names of all classes
pub none_twice : (classes : List ClassFile) (count : ℕ) (names : List (List ℕ)) → length classes ≤ count → names ≡ map this_name (take count classes)
    → ((j : ℕ) → j < count → IsTwiceDefined (class_names classes) j → ⊥) → (k : ℕ) → IsTwiceDefined names k → ⊥
none_twice classes count names past is once k twice =
    let all : names ≡ class_names classes = is ∙ ap (map this_name) (take_all count classes past) in
    let among : IsTwiceDefined (class_names classes) k = subst (λ ns. IsTwiceDefined ns k) all twice in
    let within : k < length (class_names classes) = below (class_names classes) k among in
    once k (omega (arith, within, past, length-map classes this_name)) among

-- ---- the place of a name

pub place_named : (keys : List (Vec ℕ Global)) (name : List ℕ) (k : ℕ) → position_from (λ key. bytes_eq name key.items) k keys ≡ position_from (bytes_eq name) k (map text_in keys)
place_named [] name k = refl
place_named (key ∷ keys) name k = rw (place_named keys name (k + 1)) refl

pub is_place : (keys : List (Vec ℕ Global)) (name : List ℕ) → position (λ key. bytes_eq name key.items) keys ≡ number_of (map text_in keys) name
is_place keys name =
    position_from-zero (λ key. bytes_eq name key.items) keys ∙ place_named keys name 0 ∙ sym (position_from-zero (bytes_eq name) (map text_in keys))
