-- What a descriptor spells is what is read of it.
use Rattle.std.proofs.Common.{◌≡◌, ℕ, zero, suc, ◌+◌, ◌<◌, ◌≤◌, Bool, true, false, List, [], ◌∷◌, ◌++◌, length, Option, Some, None, refl, sym, ◌∙◌, ap, replicate, append_assoc, append-nil, arith}
use Rattle.std.specs.Prelude.{option_map, option_and_then, IfSome, codes, cond}
use Rattle.std.specs.List.{flat_map, AllByRecursion}
use Rattle.std.specs.Option.{option_or}
use Rattle.std.specs.Str.{bytes_eq}
use Rattle.std.proofs.lemmas.Slice.Eq.{bytes_eq-Decides}
use Rattle.jo_text.specs.declared.descriptors.FieldDesc.{FieldDesc}
use Rattle.jo_text.specs.declared.descriptors.MethodDesc.{MethodDesc}
use Rattle.jo_text.specs.declared.descriptors.Base.{Base}
use Rattle.jo_text.specs.declared.descriptors.Base.TheVariants.{Byte, Char, Double, Float, Int, Long, Short, Boolean, Class}
use Rattle.jo_text.specs.Descriptors.{base_text, field_text, result_text, IsType, IsResult, SpellsField, SpellsMethod, IsFieldDesc, IsMethodDesc}
use Rattle.jo_text.specs.Scan.{after_byte, read_field}
use Rattle.jo_text.proofs.DescriptorFields.{field_again, field_taken, byte_taken, byte_again}
use Rattle.jo_text.proofs.DescriptorMethods.{field_shorter}
use Rattle.jo_prog.specs.MethodTypes.{with_param, params_from, whole, field_desc_in, result_in, with_result, method_desc_in}

-- ---- fields

pub field_whole : (desc : FieldDesc) (bytes : List ℕ) → SpellsField desc bytes → field_desc_in bytes ≡ Some desc
field_whole desc bytes h =
    let read : read_field bytes ≡ Some (desc, []) = ap read_field (h.0 ∙ sym (append-nil (field_text desc))) ∙ field_again desc [] h.1 in
    ap (option_and_then whole) read

pub field_is : (bytes : List ℕ) → IsFieldDesc bytes → (desc : FieldDesc) × (field_desc_in bytes ≡ Some desc)
field_is bytes h = (h.0, field_whole h.0 bytes h.1)

field_found : (bytes : List ℕ) (found : Option (FieldDesc × List ℕ)) → read_field bytes ≡ found → IfSome (option_and_then whole found) (λ desc. SpellsField desc bytes)
field_found bytes None e = tt
field_found bytes (Some (desc, [])) e = let t = field_taken bytes desc [] (sym e) in (t.0 ∙ append-nil (field_text desc), t.1)
field_found bytes (Some (desc, b ∷ rest)) e = tt

pub field_isnt : (bytes : List ℕ) → (IsFieldDesc bytes → ⊥) → field_desc_in bytes ≡ None
field_isnt bytes never = by_kind (field_desc_in bytes) (field_found bytes (read_field bytes) refl)
  where
    by_kind : (found : Option FieldDesc) → IfSome found (λ desc. SpellsField desc bytes) → found ≡ None
    by_kind None h = refl
    by_kind (Some desc) h = absurd (never (desc, h))

-- ---- parameters

not_parenthesis : (desc : FieldDesc) (rest : List ℕ) → after_byte 41 (field_text desc ++ rest) ≡ None
not_parenthesis desc rest = by_dims desc.dims
  where
    by_base : (base : Base) → after_byte 41 (base_text base ++ rest) ≡ None
    by_base Byte = refl
    by_base Char = refl
    by_base Double = refl
    by_base Float = refl
    by_base Int = refl
    by_base Long = refl
    by_base Short = refl
    by_base Boolean = refl
    by_base (Class name) = refl

    by_dims : (dims : ℕ) → after_byte 41 ((replicate dims 91 ++ base_text desc.base) ++ rest) ≡ None
    by_dims zero = by_base desc.base
    by_dims (suc n) = refl

params_again : (k : ℕ) (params : List FieldDesc) (rest : List ℕ) → length params < k → AllByRecursion IsType params
    → params_from k (flat_map field_text params ++ 41 ∷ rest) ≡ Some (params, rest)
unfolding params_from
params_again zero params rest below all = absurd (omega arith)
params_again (suc k) [] rest below all = refl
params_again (suc k) (desc ∷ params) rest below all =
    let behind = flat_map field_text params ++ 41 ∷ rest in
    let split : flat_map field_text (desc ∷ params) ++ 41 ∷ rest ≡ field_text desc ++ behind = append_assoc (field_text desc) (flat_map field_text params) (41 ∷ rest) in
    rw (split, not_parenthesis desc behind, field_again desc behind all.0) (ap (option_map (λ (r : List FieldDesc × List ℕ). (desc ∷ r.0, r.1))) (params_again k params rest (omega arith) all.1))

enough : (params : List FieldDesc) (rest : List ℕ) → AllByRecursion IsType params → length params + length rest ≤ length (flat_map field_text params ++ rest)
enough [] rest all = omega arith
enough (desc ∷ params) rest all =
    let behind = flat_map field_text params ++ rest in
    let split : flat_map field_text (desc ∷ params) ++ rest ≡ field_text desc ++ behind = append_assoc (field_text desc) (flat_map field_text params) rest in
    let shorter = field_shorter (field_text desc ++ behind) behind desc (sym (field_again desc behind all.0)) in
    let more = enough params rest all.1 in
    let same = ap length split in
    omega arith

result_again : (result : Option FieldDesc) → IsResult result → result_in (result_text result) ≡ Some result
result_again None h = refl
result_again (Some desc) h = rw (not_void desc, field_whole desc (field_text desc) (refl, h)) refl
  where
    not_void : (desc : FieldDesc) → bytes_eq (field_text desc) (codes "V") ≡ false
    not_void desc = by_dims desc.dims
      where
        by_base : (base : Base) → bytes_eq (base_text base) (codes "V") ≡ false
        by_base Byte = refl
        by_base Char = refl
        by_base Double = refl
        by_base Float = refl
        by_base Int = refl
        by_base Long = refl
        by_base Short = refl
        by_base Boolean = refl
        by_base (Class name) = refl

        by_dims : (dims : ℕ) → bytes_eq (replicate dims 91 ++ base_text desc.base) (codes "V") ≡ false
        by_dims zero = by_base desc.base
        by_dims (suc n) = refl

pub method_is : (desc : MethodDesc) (bytes : List ℕ) → SpellsMethod desc bytes → method_desc_in bytes ≡ Some desc
unfolding method_desc_in
method_is desc bytes h =
    let rest = flat_map field_text desc.params ++ 41 ∷ result_text desc.result in
    let begins : after_byte 40 bytes ≡ Some rest = ap (after_byte 40) h.0 ∙ sym (byte_again 40 rest) in
    let few : length desc.params < length bytes = (let e = ap length h.0 in let n = enough desc.params (41 ∷ result_text desc.result) h.1 in omega arith) in
    rw (begins, params_again (length bytes) desc.params (result_text desc.result) few h.1, result_again desc.result h.2) refl

-- ---- and back

abbrev PassParams : List ℕ → List FieldDesc × List ℕ → Type 0
PassParams bytes r = (bytes ≡ flat_map field_text r.0 ++ 41 ∷ r.1) × AllByRecursion IsType r.0

params_taken : (k : ℕ) (bytes : List ℕ) → IfSome (params_from k bytes) (PassParams bytes)
unfolding params_from
params_taken zero bytes = tt
params_taken (suc k) bytes = by_end (params_taken k) (after_byte 41 bytes) refl
  where
    more : (desc : FieldDesc) (rest : List ℕ) → read_field bytes ≡ Some (desc, rest) → (found : Option (List FieldDesc × List ℕ)) → IfSome found (PassParams rest)
        → IfSome (option_map (λ (r : List FieldDesc × List ℕ). (desc ∷ r.0, r.1)) found) (PassParams bytes)
    more desc rest e None h = tt
    more desc rest e (Some r) h =
        let t = field_taken bytes desc rest (sym e) in
        (t.0 ∙ ap (λ b. field_text desc ++ b) h.0 ∙ sym (append_assoc (field_text desc) (flat_map field_text r.0) (41 ∷ r.1)), (t.1, h.1))

    by_field : ((b : List ℕ) → IfSome (params_from k b) (PassParams b)) → (found : Option (FieldDesc × List ℕ)) → read_field bytes ≡ found
        → IfSome (option_and_then (with_param (params_from k)) found) (PassParams bytes)
    by_field taken None e = tt
    by_field taken (Some (desc, rest)) e = more desc rest e (params_from k rest) (taken rest)

    by_end : ((b : List ℕ) → IfSome (params_from k b) (PassParams b)) → (found : Option (List ℕ)) → after_byte 41 bytes ≡ found
        → IfSome (option_or (option_map (λ rest. ([], rest)) found) (option_and_then (with_param (params_from k)) (read_field bytes))) (PassParams bytes)
    by_end taken None e = by_field taken (read_field bytes) refl
    by_end taken (Some rest) e = (byte_taken 41 bytes rest (sym e), tt)

result_taken : (bytes : List ℕ) → IfSome (result_in bytes) (λ result. (bytes ≡ result_text result) × IsResult result)
result_taken bytes = by_void (bytes_eq bytes (codes "V")) refl
  where
    by_field : (found : Option FieldDesc) → IfSome found (λ desc. SpellsField desc bytes)
        → IfSome (option_map (λ (desc : FieldDesc). Some desc) found) (λ result. (bytes ≡ result_text result) × IsResult result)
    by_field None h = tt
    by_field (Some desc) h = h

    by_void : (b : Bool) → bytes_eq bytes (codes "V") ≡ b
        → IfSome (cond b (Some None) (option_map (λ (desc : FieldDesc). Some desc) (field_desc_in bytes))) (λ result. (bytes ≡ result_text result) × IsResult result)
    by_void true e = ((bytes_eq-Decides bytes (codes "V")).0 e, tt)
    by_void false e = by_field (field_desc_in bytes) (field_found bytes (read_field bytes) refl)

method_taken : (bytes : List ℕ) → IfSome (method_desc_in bytes) (λ desc. SpellsMethod desc bytes)
unfolding method_desc_in
method_taken bytes = by_begin (after_byte 40 bytes) refl
  where
    by_result : (rest : List ℕ) → bytes ≡ 40 ∷ rest → (r : List FieldDesc × List ℕ) → PassParams rest r
        → (found : Option (Option FieldDesc)) → IfSome found (λ result. (r.1 ≡ result_text result) × IsResult result)
        → IfSome (option_map (λ (result : Option FieldDesc). record { params = r.0; result = result }) found) (λ (desc : MethodDesc). SpellsMethod desc bytes)
    by_result rest e r p None h = tt
    by_result rest e r p (Some result) h = (e ∙ ap (λ l. 40 ∷ l) (p.0 ∙ ap (λ l. flat_map field_text r.0 ++ 41 ∷ l) h.0), p.1, h.1)

    by_params : (rest : List ℕ) → bytes ≡ 40 ∷ rest → (found : Option (List FieldDesc × List ℕ)) → IfSome found (PassParams rest)
        → IfSome (option_and_then with_result found) (λ desc. SpellsMethod desc bytes)
    by_params rest e None h = tt
    by_params rest e (Some r) h = by_result rest e r h (result_in r.1) (result_taken r.1)

    by_begin : (found : Option (List ℕ)) → after_byte 40 bytes ≡ found
        → IfSome (option_and_then (λ rest. option_and_then with_result (params_from (length bytes) rest)) found) (λ desc. SpellsMethod desc bytes)
    by_begin None e = tt
    by_begin (Some rest) e = by_params rest (byte_taken 40 bytes rest (sym e)) (params_from (length bytes) rest) (params_taken (length bytes) rest)

pub method_isnt : (bytes : List ℕ) → (IsMethodDesc bytes → ⊥) → method_desc_in bytes ≡ None
method_isnt bytes never = by_kind (method_desc_in bytes) (method_taken bytes)
  where
    by_kind : (found : Option MethodDesc) → IfSome found (λ desc. SpellsMethod desc bytes) → found ≡ None
    by_kind None h = refl
    by_kind (Some desc) h = absurd (never (desc, h))
