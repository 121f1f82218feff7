-- The values that calls take, by their shapes, in order (this project's own).
use Rattle.std.specs.Prelude.{ℕ, ℤ, Bool, true, false, List, [], ◌∷◌, Option, Some, None}
use Rattle.jo_prog.specs.Values.{Value, int, null, ref}

abbrev pub no_value : List (Value ℕ) → Bool
no_value [] = true
no_value (v ∷ vs) = false

abbrev pub one_int : List (Value ℕ) → Option ℤ
one_int (int z ∷ []) = Some z
one_int vs = None

abbrev pub one_object : List (Value ℕ) → Option ℕ
one_object (ref a ∷ []) = Some a
one_object vs = None

-- the receiver, which may be null
abbrev pub receiver_of : List (Value ℕ) → Option (Option ℕ)
receiver_of (null ∷ vs) = Some None
receiver_of (ref a ∷ vs) = Some (Some a)
receiver_of vs = None
