-- The types that descriptors name, read from left to right (JVM Specification SE 8, 4.3.2 and 4.3.3).
use Rattle.std.specs.Prelude.{ℕ, zero, suc, ◌==◌, if◌then◌else◌, List, [], ◌∷◌, length, Option, Some, None, option_map, option_and_then, codes}
use Rattle.std.specs.Option.{option_or}
use Rattle.std.specs.Str.{bytes_eq}
use Rattle.jo_text.specs.declared.descriptors.FieldDesc.{FieldDesc}
use Rattle.jo_text.specs.declared.descriptors.MethodDesc.{MethodDesc}
use Rattle.jo_text.specs.Scan.{after_byte, read_field}

abbrev pub with_param : (List ℕ → Option (List FieldDesc × List ℕ)) → FieldDesc × List ℕ → Option (List FieldDesc × List ℕ)
with_param more (desc, rest) = option_map (λ r. (desc ∷ r.0, r.1)) (more rest)

-- the types of the parameters up to the parenthesis, and what follows it; the number bounds how many there are
unfoldable pub params_from : ℕ → List ℕ → Option (List FieldDesc × List ℕ)
params_from zero bytes = None
params_from (suc k) bytes =
    option_or (option_map (λ rest. ([], rest)) (after_byte 41 bytes)) (option_and_then (with_param (params_from k)) (read_field bytes))

abbrev pub whole : FieldDesc × List ℕ → Option FieldDesc
whole (desc, []) = Some desc
whole (desc, b ∷ rest) = None

-- what the bytes spell, where they are a field's descriptor
abbrev pub field_desc_in : List ℕ → Option FieldDesc
field_desc_in bytes = option_and_then whole (read_field bytes)

-- the type of the result, which is none for `V`
abbrev pub result_in : List ℕ → Option (Option FieldDesc)
result_in bytes = if bytes_eq bytes (codes "V") then Some None else option_map (λ desc. Some desc) (field_desc_in bytes)

abbrev pub with_result : List FieldDesc × List ℕ → Option MethodDesc
with_result (params, rest) = option_map (λ result. record { params = params; result = result }) (result_in rest)

-- what the bytes spell, where they are a method's descriptor
unfoldable pub method_desc_in : List ℕ → Option MethodDesc
method_desc_in bytes = option_and_then (λ rest. option_and_then with_result (params_from (length bytes) rest)) (after_byte 40 bytes)
