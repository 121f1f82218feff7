-- Numbers of levels and of methods, and labels in the order of their methods.
use Rattle.std.proofs.Common.{◌≡◌, ℕ, ◌+◌, ◌-◌, ◌<◌, ◌≤◌, Bool, true, false, cond, List, [], ◌∷◌, length, map, get_or, Option, Some, None, IfSome, zero, suc, refl, arith, add-one}
use Rattle.std.specs.List.{AllByRecursion, slice_get}
use Rattle.std.specs.List.Sorted.{IsStrictlyIncreasing}
use Rattle.std.specs.Str.{bytes_eq}
use Rattle.std.proofs.lemmas.Option.{IfSome_then}
use Rattle.jo_prog.specs.declared.labels.Label.{Label}
use Rattle.jo_prog.specs.declared.program.Method.{Method}
use Rattle.jo_prog.specs.Numbers.{count_from}
use Rattle.jo_policy.specs.Numbering.{place_from}

-- ---- what holds of the value in a `Some`

pub if_then_some : {X : Type 0} (P : X → Type 0) (b : Bool) (x y : Option X) → (b ≡ true → IfSome x P) → IfSome y P → IfSome (cond b x y) P
if_then_some P true x y p q = p refl
if_then_some P false x y p q = q

pub at_some : {X : Type 0} (P : X → Type 0) (o : Option X) (x : X) → IfSome o P → o ≡ Some x → P x
at_some P None x p is = absurd (cc)
at_some P (Some y) x p is = let e : y ≡ x = cc in rw (← e) p

-- ---- numbers

pub place_from-below : (first : ℕ) (names : List (List ℕ)) (text : List ℕ) → IfSome (place_from first names text) (λ n. n < first + length names)
place_from-below first [] text = tt
place_from-below first (name ∷ names) text =
    let more : IfSome (place_from (suc first) names text) (λ n. n < first + suc (length names)) = IfSome_then (place_from (suc first) names text) (place_from-below (suc first) names text) (λ n below. omega arith) in
    if_then_some (λ n. n < first + suc (length names)) (bytes_eq name text) (Some first) (place_from (suc first) names text) (λ _. omega arith) more

-- the numbers counted are below the end
pub count_from-below : (first n end : ℕ) → first + n ≡ end → AllByRecursion (λ l. l < end) (count_from first n)
count_from-below first zero end e = tt
count_from-below first (suc n) end e = (omega arith, count_from-below (suc first) n end (omega arith))

-- a level more
pub count_from-step : (first n : ℕ) → first < n → count_from first (n - first) ≡ first ∷ count_from (first + 1) (n - (first + 1))
count_from-step first n below =
    let e : n - first ≡ suc (n - (first + 1)) = omega arith in
    rw (e, add-one)

pub method_below : (methods : List Method) (i : ℕ) → i < length methods → (m : Method) × (slice_get methods i ≡ Some m)
method_below [] i below = absurd (omega arith)
method_below (m ∷ ms) zero below = (m, refl)
method_below (m ∷ ms) (suc i) below = method_below ms i (omega arith)

-- ---- the labelled methods, in order

abbrev pub Item : Type 0
Item = ℕ × Label

-- the numbers ascend from a first one on
abbrev pub Ascends : ℕ → List Item → Type 0
Ascends first [] = Unit {0}
Ascends first (item ∷ items) = (first ≤ item.0) × Ascends (suc item.0) items

pub ascends_before : (first : ℕ) (items : List Item) → Ascends (suc first) items → Ascends first items
ascends_before first [] h = tt
ascends_before first (item ∷ items) h = (omega arith, h.1)

increasing : (first : ℕ) (items : List Item) → Ascends first items → (k : ℕ) → suc k < length (map (λ (item : Item). item.0) items)
    → get_or (map (λ (item : Item). item.0) items) k 0 < get_or (map (λ (item : Item). item.0) items) (suc k) 0
increasing first [] h k below = absurd (omega arith)
increasing first (x ∷ []) h k below = absurd (omega arith)
increasing first (x ∷ y ∷ items) h zero below = omega (arith, h.1.0)
increasing first (x ∷ y ∷ items) h (suc k) below = increasing (suc x.0) (y ∷ items) h.1 k (omega arith)

pub in_order : (items : List Item) → Ascends 0 items → IsStrictlyIncreasing (map (λ (item : Item). item.0) items)
in_order items h = λ k below. rw add-one (increasing 0 items h k (omega arith))
