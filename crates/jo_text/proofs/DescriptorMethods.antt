-- Field descriptors one behind the other, and what a method's descriptor has round them.
use Rattle.std.proofs.Common.{◌≡◌, ℕ, ◌<◌, Bool, false, List, [], ◌∷◌, ◌++◌, length, refl, sym, ap, ◌∙◌, append_assoc, arith}
use Rattle.std.specs.Prelude.{Option, Some, None, IfSome, MatchOption, IsTrue, ◌↔◌, codes, replicate, option_map}
use Rattle.std.specs.List.{flat_map, AllByRecursion}
use Rattle.std.proofs.lemmas.List.{length-append}
use Rattle.std.proofs.lemmas.Option.{same_Some}
use Rattle.std.proofs.lemmas.Grind.{flat_map-append}
use Rattle.jo_text.specs.declared.descriptors.Base.{Base}
use Rattle.jo_text.specs.declared.descriptors.Base.TheVariants.{Byte, Char, Double, Float, Int, Long, Short, Boolean, Class}
use Rattle.jo_text.specs.declared.descriptors.FieldDesc.{FieldDesc}
use Rattle.jo_text.specs.declared.descriptors.MethodDesc.{MethodDesc}
use Rattle.jo_text.specs.Descriptors.{base_text, field_text, result_text, IsType, SpellsMethod, IsFieldDesc, IsMethodDesc}
use Rattle.jo_text.specs.Scan.{after_byte, letter_base, read_base, read_field, PassFields, BeginsFields, SpellsResult, IsResultDesc}
use Rattle.jo_text.proofs.DescriptorFields.{field_taken, field_again, whole_once, whole_none, byte_taken, byte_again}

-- ---- the steps of the two loops

all_more : (descs : List FieldDesc) (desc : FieldDesc) → AllByRecursion IsType descs → IsType desc → AllByRecursion IsType (descs ++ desc ∷ [])
all_more [] desc all h = (h, tt)
all_more (d ∷ ds) desc all h = (all.0, all_more ds desc all.1 h)

-- one more field descriptor
pub pass_more : (descs : List FieldDesc) (bytes rest after : List ℕ) (desc : FieldDesc) → PassFields descs bytes rest → Some (desc, after) ≡ read_field rest → PassFields (descs ++ desc ∷ []) bytes after
pass_more descs bytes rest after desc p h =
    let t = field_taken rest desc after h in
    record {
      parts = p.parts ∙ rw (t.0, flat_map-append field_text descs (desc ∷ [])) (simp append_assoc);
      types = all_more descs desc p.types t.1;
    }

base_long : (base : Base) → 0 < length (base_text base)
base_long Byte = omega arith
base_long Char = omega arith
base_long Double = omega arith
base_long Float = omega arith
base_long Int = omega arith
base_long Long = omega arith
base_long Short = omega arith
base_long Boolean = omega arith
base_long (Class name) = omega arith

pub field_shorter : (rest after : List ℕ) (desc : FieldDesc) → Some (desc, after) ≡ read_field rest → length after < length rest
field_shorter rest after desc h =
    let t = field_taken rest desc after h in
    omega (arith, base_long desc.base, ap length t.0, length-append (field_text desc) after, length-append (replicate desc.dims 91) (base_text desc.base))

one_is_read : (found : Option (FieldDesc × List ℕ)) (after : List ℕ) → Some after ≡ option_map (λ r. r.1) found → (desc : FieldDesc) × (Some (desc, after) ≡ found)
one_is_read None after e = absurd cc
one_is_read (Some r) after e = (r.0, rw (same_Some after r.1 e) refl)

pub begins_more : (bytes rest after : List ℕ) → BeginsFields bytes rest → Some after ≡ option_map (λ r. r.1) (read_field rest) → BeginsFields bytes after
begins_more bytes rest after p e = let d = one_is_read (read_field rest) after e in (p.0 ++ d.0 ∷ [], pass_more p.0 bytes rest after d.0 p.1 d.1)

pub rest_shorter : (rest after : List ℕ) → Some after ≡ option_map (λ r. r.1) (read_field rest) → length after < length rest
rest_shorter rest after e = let d = one_is_read (read_field rest) after e in field_shorter rest after d.0 d.1

-- ---- as many field descriptors as there are are the same ones each time

first_again : (desc : FieldDesc) (descs : List FieldDesc) (rest : List ℕ) → IsType desc → read_field (flat_map field_text (desc ∷ descs) ++ rest) ≡ Some (desc, flat_map field_text descs ++ rest)
first_again desc descs rest h = ap read_field (append_assoc (field_text desc) (flat_map field_text descs) rest) ∙ field_again desc (flat_map field_text descs ++ rest) h

same_fields : (ones others : List FieldDesc) (rest end : List ℕ) → flat_map field_text ones ++ rest ≡ flat_map field_text others ++ end → AllByRecursion IsType ones → AllByRecursion IsType others
    → read_field rest ≡ None → read_field end ≡ None → (ones ≡ others) × (rest ≡ end)
same_fields [] [] rest end e h k stops ends = (refl, e)
same_fields [] (o ∷ os) rest end e h k stops ends = absurd (cc (stops, first_again o os end k.0))
same_fields (o ∷ os) [] rest end e h k stops ends = absurd (cc (ends, first_again o os rest h.0))
same_fields (o ∷ os) (p ∷ ps) rest end e h k stops ends =
    let same = same_Some (o, flat_map field_text os ++ rest) (p, flat_map field_text ps ++ end) (sym (first_again o os rest h.0) ∙ ap read_field e ∙ first_again p ps end k.0) in
    let first : o ≡ p = ap (λ (r : FieldDesc × List ℕ). r.0) same in
    let more = same_fields os ps rest end (ap (λ (r : FieldDesc × List ℕ). r.1) same) h.1 k.1 stops ends in
    (cc (first, more.0), more.1)

-- `)` begins no field descriptor, and `V` is none
close_ends : (rest : List ℕ) → read_field (41 ∷ rest) ≡ None
unfolding read_field read_base letter_base
close_ends rest = refl

void_is_no_field : None ≡ read_field (codes "V")
unfolding read_field read_base letter_base
void_is_no_field = refl

result_once : (one other : Option FieldDesc) (bytes : List ℕ) → SpellsResult one bytes → SpellsResult other bytes → one ≡ other
result_once None None bytes h k = refl
result_once None (Some d) bytes h k = absurd (whole_none (codes "V") void_is_no_field (d, (sym h.0 ∙ k.0, k.1)))
result_once (Some d) None bytes h k = absurd (whole_none (codes "V") void_is_no_field (d, (sym k.0 ∙ h.0, h.1)))
result_once (Some d) (Some o) bytes h k = ap (λ (x : FieldDesc). Some x) (whole_once d o bytes h k)

-- a result that is not `V`
pub field_result : (bytes : List ℕ) (answer : Bool) → (bytes ≡ codes "V" → ⊥) → IsTrue answer ↔ IsFieldDesc bytes → IsTrue answer ↔ IsResultDesc bytes
field_result bytes answer other h = (λ yes. let d = h.0 yes in (Some d.0, d.1), λ r. is_field r.0 r.1)
  where
    is_field : (result : Option FieldDesc) → SpellsResult result bytes → IsTrue answer
    is_field None k = absurd (other k.0)
    is_field (Some d) k = h.1 (d, k)

pub method_once : (bytes : List ℕ) (one other : MethodDesc) → SpellsMethod one bytes → SpellsMethod other bytes → one ≡ other
method_once bytes one other h k =
    let inside : ◌≡◌ {A = List ℕ} (40 ∷ flat_map field_text one.params ++ 41 ∷ result_text one.result) (40 ∷ flat_map field_text other.params ++ 41 ∷ result_text other.result) = sym h.0 ∙ k.0 in
    let same = same_fields one.params other.params (41 ∷ result_text one.result) (41 ∷ result_text other.result) (cc (inside)) h.1 k.1 (close_ends (result_text one.result)) (close_ends (result_text other.result)) in
    let same_end : result_text one.result ≡ result_text other.result = cc (same.1) in
    let last = result_once one.result other.result (result_text one.result) (refl, h.2) (same_end, k.2) in
    let make : List FieldDesc → Option FieldDesc → MethodDesc = λ params result. record { params = params; result = result } in
    ap (λ (x : List FieldDesc). make x one.result) same.0 ∙ ap (λ (x : Option FieldDesc). make other.params x) last

-- ---- the parentheses of a method descriptor

module _ (bytes params rest : List ℕ) (is_open : Some params ≡ after_byte 40 bytes) (passed : BeginsFields params rest) (stops : read_field rest ≡ None) where
  inside : IsMethodDesc bytes → (result : List ℕ) × (Some result ≡ after_byte 41 rest) × IsResultDesc result
  inside d =
      let result = result_text d.0.result in
      let same : params ≡ flat_map field_text d.0.params ++ 41 ∷ result = cc (byte_taken 40 bytes params is_open, d.1.0) in
      let at_end = same_fields passed.0 d.0.params rest (41 ∷ result) (sym passed.1.parts ∙ same) passed.1.types d.1.1 stops (close_ends result) in
      (result, rw (at_end.1) (byte_again 41 result), (d.0.result, (refl, d.1.2)))

  outside : (result : List ℕ) → Some result ≡ after_byte 41 rest → IsResultDesc result → IsMethodDesc bytes
  outside result is_closed r =
      let end = byte_taken 41 rest result is_closed ∙ ap (λ (x : List ℕ). 41 ∷ x) r.1.0 in
      let whole = byte_taken 40 bytes params is_open ∙ ap (λ (x : List ℕ). 40 ∷ x) (passed.1.parts ∙ ap (λ (x : List ℕ). flat_map field_text passed.0 ++ x) end) in
      (record { params = passed.0; result = r.0 }, (whole, passed.1.types, r.1.1))

  pub method_refused : (found : Option (List ℕ)) → found ≡ after_byte 41 rest → IfSome found (λ result. IsResultDesc result → ⊥) → IsMethodDesc bytes → ⊥
  method_refused None e h d = absurd (cc (e, (inside d).1))
  method_refused (Some result) e h d = let m = inside d in h (rw (same_Some result m.0 (e ∙ sym m.1)) m.2)

  pub method_tested : (found : Option (List ℕ)) (answer : Bool) → found ≡ after_byte 41 rest → MatchOption found (answer ≡ false) (λ result. IsTrue answer ↔ IsResultDesc result) → IsTrue answer ↔ IsMethodDesc bytes
  method_tested None answer e h = (λ yes. absurd (cc (h, yes)), λ d. absurd (method_refused None e tt d))
  method_tested (Some result) answer e h = (λ yes. outside result e (h.0 yes), λ d. let m = inside d in h.1 (rw (same_Some result m.0 (e ∙ sym m.1)) m.2))
