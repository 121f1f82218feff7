-- Effects of instructions.
use Rattle.std.proofs.Common.{◌≡◌, List, [], ◌∷◌, map, refl}
use mathlib.Core.List.{reverse, reverse_aux}

reverse_onto : {A B : Type 0} (f : A → B) (xs acc : List A) → map f (reverse_aux xs acc) ≡ reverse_aux (map f xs) (map f acc)
unfolding reverse_aux
reverse_onto f [] acc = refl
reverse_onto f (x ∷ xs) acc = reverse_onto f xs (x ∷ acc)

pub map_reverse : {A B : Type 0} (f : A → B) (xs : List A) → map f (reverse xs) ≡ reverse (map f xs)
unfolding reverse
map_reverse f xs = reverse_onto f xs []
