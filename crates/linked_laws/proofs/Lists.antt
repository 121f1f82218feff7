-- Facts of each item of a list.
use Rattle.std.proofs.Common.{◌≡◌, ℕ, zero, suc, ◌+◌, List, [], ◌∷◌, ◌++◌, length, map, Some, subst, ap, ◌∙◌, arith}
use Rattle.std.specs.Prelude.{slice_get}
use Rattle.std.specs.List.{Contains, AllByRecursion}
use Rattle.std.proofs.lemmas.Option.{none-some, same_Some, slice_get_within, get_or_from_slice_get}

pub all_append : {X : Type 0} (P : X → Type 0) (front back : List X) → AllByRecursion P front → AllByRecursion P back → AllByRecursion P (front ++ back)
all_append P [] back f b = b
all_append P (one ∷ more) back f b = (f.0, all_append P more back f.1 b)

pub each_at : {X : Type 0} (P : X → Type 0) (all : List X) (k : ℕ) (one : X) → AllByRecursion P all → slice_get all k ≡ Some one → P one
each_at P [] k one each at = absurd (none-some one at)
each_at P (x ∷ more) zero one each at = subst P (same_Some x one at) each.0
each_at P (x ∷ more) (suc k) one each at = each_at P more k one each.1 at

pub contains_at : {X : Type 0} (xs : List X) (k : ℕ) (x : X) → slice_get xs k ≡ Some x → Contains xs x
contains_at xs k x at = (k, slice_get_within xs k x at, get_or_from_slice_get xs k x x at)

pub all_mapped : {X Y : Type 0} (P : Y → Type 0) (f : X → Y) (xs : List X) → AllByRecursion P (map f xs) → AllByRecursion (λ x. P (f x)) xs
all_mapped P f [] all = tt
all_mapped P f (x ∷ xs) all = (all.0, all_mapped P f xs all.1)

pub to_mapped : {X Y : Type 0} (P : Y → Type 0) (f : X → Y) (xs : List X) → AllByRecursion (λ x. P (f x)) xs → AllByRecursion P (map f xs)
to_mapped P f [] all = tt
to_mapped P f (x ∷ xs) all = (all.0, to_mapped P f xs all.1)

pub all_weaker : {X : Type 0} (P Q : X → Type 0) → ((x : X) → P x → Q x) → (xs : List X) → AllByRecursion P xs → AllByRecursion Q xs
all_weaker P Q goes [] all = tt
all_weaker P Q goes (x ∷ xs) all = (goes x all.0, all_weaker P Q goes xs all.1)

pub item_behind : {X : Type 0} (front xs : List X) (k : ℕ) → slice_get (front ++ xs) (length front + k) ≡ slice_get xs k
item_behind [] xs k = ap (slice_get xs) (omega arith)
item_behind (x ∷ front) xs k = ap (slice_get (x ∷ front ++ xs)) (one_more (length front)) ∙ item_behind front xs k
  where
    one_more : (n : ℕ) → suc n + k ≡ suc (n + k)
    one_more n = omega arith
