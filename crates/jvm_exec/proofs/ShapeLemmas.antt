-- Values of another number are of no shape.
use Rattle.std.proofs.Common.{◌≡◌, ◌∙◌, ℕ, List, [], ◌∷◌, length, reverse, None, refl, sym}
use Rattle.std.proofs.lemmas.List.{length-map, length-reverse}
use Rattle.jo_prog.specs.Values as machine
use Rattle.jo_prog.specs.Values.{int, null, ref}
use Rattle.jvm_values.specs.declared.values.Value.{Value}
use Rattle.jvm_values.specs.Values.{value_of, popped_values}
use Rattle.jvm_exec.specs.Shapes.{two_ints, two_references, on_array, stored_on_array, on_object}

same_length : (values : List Value) → length (popped_values values) ≡ length values
same_length values = length-map (reverse values) value_of ∙ length-reverse values

two_ints_none : (vs : List (machine.Value ℕ)) → (length vs ≡ 2 → ⊥) → two_ints vs ≡ None
two_ints_none ([]) never = refl
two_ints_none (int z0 ∷ []) never = refl
two_ints_none (int z0 ∷ int z1 ∷ []) never = absurd (never refl)
two_ints_none (int z0 ∷ int z1 ∷ v2 ∷ vs) never = refl
two_ints_none (int z0 ∷ null ∷ vs) never = refl
two_ints_none (int z0 ∷ ref a1 ∷ vs) never = refl
two_ints_none (null ∷ vs) never = refl
two_ints_none (ref a0 ∷ vs) never = refl

pub two_ints_otherwise : (values : List Value) → (length values ≡ 2 → ⊥) → two_ints (popped_values values) ≡ None
two_ints_otherwise values never = two_ints_none (popped_values values) (λ e. never (sym (same_length values) ∙ e))

two_references_none : (vs : List (machine.Value ℕ)) → (length vs ≡ 2 → ⊥) → two_references vs ≡ None
two_references_none ([]) never = refl
two_references_none (int z0 ∷ vs) never = refl
two_references_none (null ∷ []) never = refl
two_references_none (null ∷ int z1 ∷ vs) never = refl
two_references_none (null ∷ null ∷ []) never = absurd (never refl)
two_references_none (null ∷ null ∷ v2 ∷ vs) never = refl
two_references_none (null ∷ ref a1 ∷ []) never = absurd (never refl)
two_references_none (null ∷ ref a1 ∷ v2 ∷ vs) never = refl
two_references_none (ref a0 ∷ []) never = refl
two_references_none (ref a0 ∷ int z1 ∷ vs) never = refl
two_references_none (ref a0 ∷ null ∷ []) never = absurd (never refl)
two_references_none (ref a0 ∷ null ∷ v2 ∷ vs) never = refl
two_references_none (ref a0 ∷ ref a1 ∷ []) never = absurd (never refl)
two_references_none (ref a0 ∷ ref a1 ∷ v2 ∷ vs) never = refl

pub two_references_otherwise : (values : List Value) → (length values ≡ 2 → ⊥) → two_references (popped_values values) ≡ None
two_references_otherwise values never = two_references_none (popped_values values) (λ e. never (sym (same_length values) ∙ e))

on_array_none : (vs : List (machine.Value ℕ)) → (length vs ≡ 2 → ⊥) → on_array vs ≡ None
on_array_none ([]) never = refl
on_array_none (int z0 ∷ []) never = refl
on_array_none (int z0 ∷ int z1 ∷ vs) never = refl
on_array_none (int z0 ∷ null ∷ []) never = absurd (never refl)
on_array_none (int z0 ∷ null ∷ v2 ∷ vs) never = refl
on_array_none (int z0 ∷ ref a1 ∷ []) never = absurd (never refl)
on_array_none (int z0 ∷ ref a1 ∷ v2 ∷ vs) never = refl
on_array_none (null ∷ vs) never = refl
on_array_none (ref a0 ∷ vs) never = refl

pub on_array_otherwise : (values : List Value) → (length values ≡ 2 → ⊥) → on_array (popped_values values) ≡ None
on_array_otherwise values never = on_array_none (popped_values values) (λ e. never (sym (same_length values) ∙ e))

on_object_none : (vs : List (machine.Value ℕ)) → (length vs ≡ 2 → ⊥) → on_object vs ≡ None
on_object_none ([]) never = refl
on_object_none (v0 ∷ []) never = refl
on_object_none (v0 ∷ int z1 ∷ vs) never = refl
on_object_none (v0 ∷ null ∷ []) never = absurd (never refl)
on_object_none (v0 ∷ null ∷ v2 ∷ vs) never = refl
on_object_none (v0 ∷ ref a1 ∷ []) never = absurd (never refl)
on_object_none (v0 ∷ ref a1 ∷ v2 ∷ vs) never = refl

pub on_object_otherwise : (values : List Value) → (length values ≡ 2 → ⊥) → on_object (popped_values values) ≡ None
on_object_otherwise values never = on_object_none (popped_values values) (λ e. never (sym (same_length values) ∙ e))

stored_on_array_none : (vs : List (machine.Value ℕ)) → (length vs ≡ 3 → ⊥) → stored_on_array vs ≡ None
stored_on_array_none ([]) never = refl
stored_on_array_none (v0 ∷ []) never = refl
stored_on_array_none (v0 ∷ int z1 ∷ []) never = refl
stored_on_array_none (v0 ∷ int z1 ∷ int z2 ∷ vs) never = refl
stored_on_array_none (v0 ∷ int z1 ∷ null ∷ []) never = absurd (never refl)
stored_on_array_none (v0 ∷ int z1 ∷ null ∷ v3 ∷ vs) never = refl
stored_on_array_none (v0 ∷ int z1 ∷ ref a2 ∷ []) never = absurd (never refl)
stored_on_array_none (v0 ∷ int z1 ∷ ref a2 ∷ v3 ∷ vs) never = refl
stored_on_array_none (v0 ∷ null ∷ vs) never = refl
stored_on_array_none (v0 ∷ ref a1 ∷ vs) never = refl

pub stored_on_array_otherwise : (values : List Value) → (length values ≡ 3 → ⊥) → stored_on_array (popped_values values) ≡ None
stored_on_array_otherwise values never = stored_on_array_none (popped_values values) (λ e. never (sym (same_length values) ∙ e))
