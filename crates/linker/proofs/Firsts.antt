-- The first item of a list that passes a test, where a loop has passed over those before it.
use Rattle.std.proofs.Common.{◌≡◌, ◌≤◌, ℕ, suc, Bool, true, List, ◌∷◌, drop, get_or, length, Some, None, refl, sym, ap, ◌∙◌}
use Rattle.std.specs.Prelude.{position, slice_get}
use Rattle.std.specs.List.{position_from}
use Rattle.std.proofs.Math.ListN.{drop_of_length-le}
use Rattle.std.proofs.Math.Seq.{drop-cons}
use Rattle.std.proofs.lemmas.Iterator.Adapters.{position_from-zero}
use Rattle.std.proofs.lemmas.Option.{slice_get_within, get_or_from_slice_get}

-- none is left
pub none_left : {X : Type 0} (test : X → Bool) (xs : List X) (k : ℕ) → length xs ≤ k → position_from test k (drop k xs) ≡ position_from test 0 xs → None ≡ position test xs
none_left test xs k past left =
    ap (position_from test k) (sym (drop_of_length-le xs past)) ∙ left ∙ sym (position_from-zero test xs)

-- the next one passes
pub first_here : {X : Type 0} (test : X → Bool) (xs : List X) (k : ℕ) (x : X) → slice_get xs k ≡ Some x → test x ≡ true → position_from test k (drop k xs) ≡ position_from test 0 xs
    → Some k ≡ position test xs
first_here test xs k x at passes left =
    let same : get_or xs k x ≡ x = get_or_from_slice_get xs k x x at in
    let rest : drop k xs ≡ get_or xs k x ∷ drop (suc k) xs = drop-cons xs k x (slice_get_within xs k x at) in
    let next : position_from test k (x ∷ drop (suc k) xs) ≡ Some k = rw passes refl in
    sym next ∙ ap (position_from test k) (sym (rest ∙ ap (λ y. y ∷ drop (suc k) xs) same)) ∙ left ∙ sym (position_from-zero test xs)
