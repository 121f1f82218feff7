-- The types that bytes spell.
use Rattle.std.proofs.Common.{◌≡◌, ℕ, Bool, true, false, List, [], ◌∷◌, length, Option, Some, None, refl, sym, ap, ◌∙◌, arith}
use Rattle.std.specs.Prelude.{◌==◌, option_and_then}
use Rattle.std.proofs.lemmas.Bool.Decides.{nat_tests}
use Rattle.jo_text.specs.declared.descriptors.FieldDesc.{FieldDesc}
use Rattle.jo_text.specs.Descriptors.{SpellsField, IsFieldDesc}
use Rattle.jo_text.specs.Scan.{read_field}
use Rattle.jo_text.proofs.DescriptorFields.{whole_once, whole_none, whole_some, whole_more}
use Rattle.linker.specs.Linking.{whole, desc_in}

pub spelled_is_in : (desc : FieldDesc) (bytes : List ℕ) → SpellsField desc bytes → desc_in bytes ≡ Some desc
spelled_is_in desc bytes spells = by_found (read_field bytes) refl
  where
    by_found : (found : Option (FieldDesc × List ℕ)) → found ≡ read_field bytes → option_and_then whole found ≡ Some desc
    by_found None is = absurd (whole_none bytes is (desc, spells))
    by_found (Some (other, [])) is = ap (λ (d : FieldDesc). Some d) (whole_once other desc bytes (whole_some bytes other [] is refl) spells)
    by_found (Some (other, b ∷ rest)) is =
        let more : false ≡ (length (b ∷ rest) == 0) = grind (arith, nat_tests) in
        absurd (whole_more bytes other (b ∷ rest) is more (desc, spells))

pub none_is_in : (bytes : List ℕ) → (IsFieldDesc bytes → ⊥) → desc_in bytes ≡ None
none_is_in bytes none = by_found (read_field bytes) refl
  where
    by_found : (found : Option (FieldDesc × List ℕ)) → found ≡ read_field bytes → option_and_then whole found ≡ None
    by_found None is = refl
    by_found (Some (other, [])) is = absurd (none (other, whole_some bytes other [] is refl))
    by_found (Some (other, b ∷ rest)) is = refl
