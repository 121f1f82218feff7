-- The values that instructions pop, by their shapes, the top of the stack first (this project's own).
use Rattle.std.specs.Prelude.{ℕ, ℤ, Bool, true, false, List, [], ◌∷◌, Option, Some, None}
use Rattle.jo_prog.specs.Values.{Value, int, null, ref}

abbrev pub no_value : List (Value ℕ) → Bool
no_value [] = true
no_value (v ∷ vs) = false

abbrev pub one_value : List (Value ℕ) → Option (Value ℕ)
one_value (v ∷ []) = Some v
one_value vs = None

abbrev pub one_int : List (Value ℕ) → Option ℤ
one_int (int x ∷ []) = Some x
one_int vs = None

abbrev pub two_ints : List (Value ℕ) → Option (ℤ × ℤ)
two_ints (int y ∷ int x ∷ []) = Some (x, y)
two_ints vs = None

-- null is no address
abbrev pub one_reference : List (Value ℕ) → Option (Option ℕ)
one_reference (null ∷ []) = Some None
one_reference (ref a ∷ []) = Some (Some a)
one_reference vs = None

abbrev pub two_references : List (Value ℕ) → Option (Option ℕ × Option ℕ)
two_references (null ∷ null ∷ []) = Some (None, None)
two_references (null ∷ ref a ∷ []) = Some (Some a, None)
two_references (ref b ∷ null ∷ []) = Some (None, Some b)
two_references (ref b ∷ ref a ∷ []) = Some (Some a, Some b)
two_references vs = None

-- an index on an array
abbrev pub on_array : List (Value ℕ) → Option (ℤ × Option ℕ)
on_array (int i ∷ null ∷ []) = Some (i, None)
on_array (int i ∷ ref a ∷ []) = Some (i, Some a)
on_array vs = None

-- a value on an index on an array
abbrev pub stored_on_array : List (Value ℕ) → Option (Value ℕ × (ℤ × Option ℕ))
stored_on_array (v ∷ int i ∷ null ∷ []) = Some (v, (i, None))
stored_on_array (v ∷ int i ∷ ref a ∷ []) = Some (v, (i, Some a))
stored_on_array vs = None

-- a value on an object
abbrev pub on_object : List (Value ℕ) → Option (Value ℕ × Option ℕ)
on_object (v ∷ null ∷ []) = Some (v, None)
on_object (v ∷ ref a ∷ []) = Some (v, Some a)
on_object vs = None
