-- The pools of a program of files are sound.
use Rattle.std.proofs.Common.{◌≡◌, ◌∙◌, ℕ, zero, suc, ◌+◌, ◌<◌, Bool, true, false, ◌&&◌, ◌||◌, not, List, [], ◌∷◌, map, length, Option, Some, None, refl, sym, subst, ap, ◌⊎◌, inl, inr, arith}
use Rattle.std.specs.Prelude.{◌==◌, if◌then◌else◌, slice_get, slice_index, option_map, option_and_then, unwrap_or}
use Rattle.std.specs.List.{AllByRecursion, list_any, list_all, position_from}
use Rattle.std.specs.Option.{IsSomeAnd}
use Rattle.std.specs.Str.{bytes_eq}
use Rattle.std.specs.Cmp.Lexicographic.{bytes_decides}
use Rattle.std.proofs.lemmas.Bool.{eqb-true}
use Rattle.std.proofs.lemmas.List.{length-map}
use Rattle.std.proofs.lemmas.List.Quantifiers.{position-Some}
use Rattle.std.proofs.lemmas.Option.{none-some, same_Some}
use Rattle.jo_text.specs.declared.descriptors.Base.{Base}
use Rattle.jo_text.specs.declared.descriptors.Base.TheVariants.{Byte, Char, Double, Float, Int as IntBase, Long, Short, Boolean, Class as OfName}
use Rattle.jo_text.specs.declared.descriptors.FieldDesc.{FieldDesc}
use Rattle.jo_text.specs.Descriptors.{field_text, SpellsField, IsFieldDesc, IsMethodDesc}
use Rattle.jo_text.specs.Scan.{read_field}
use Rattle.jo_text.specs.Tests.{ends_there, is_field_desc}
use Rattle.jo_text.proofs.DescriptorFields.{whole_some}
use Rattle.jo_text.proofs.TestLaws.{field_decided}
use Rattle.class_pool.specs.declared.entries.PoolEntry.{PoolEntry}
use Rattle.class_pool.specs.declared.entries.PoolEntry.TheVariants.{Second, Utf8, Integer, Float as FloatEntry, Long as LongEntry, Double as DoubleEntry, Class as ClassEntry, Text as TextEntry, FieldRef, MethodRef, InterfaceMethodRef, NameAndType, MethodHandle, MethodType, InvokeDynamic}
use Rattle.class_pool.specs.declared.classes.ClassFile.{ClassFile}
use Rattle.class_pool.specs.Pool.{entry_at, utf8_at, desc_at, desc_of}
use Rattle.class_pool.specs.ClassGrammar.{RefersWell}
use Rattle.class_pool.specs.Fitting.{FitsClass}
use Rattle.class_pool.specs.Writing.{FitsEntry}
use Rattle.jo_prog.specs.declared.program.Program.{Program}
use Rattle.jo_prog.specs.declared.program.Class.{Class}
use Rattle.jo_prog.specs.declared.program.Operand.{Operand}
use Rattle.jo_prog.specs.declared.program.Operand.TheVariants.{Unused}
use Rattle.jo_prog.specs.declared.program.TypeRef.{TypeRef}
use Rattle.jo_prog.specs.declared.program.TypeRef.TheVariants.{Class as OfClass, Array as OfArray}
use Rattle.jo_prog.specs.Program.{class_at}
use Rattle.jo_prog.specs.MethodTypes.{field_desc_in, whole as type_whole}
use Rattle.jo_prog.specs.Types.{class_named}
use Rattle.hierarchy.specs.Resolutions.{is_of_method}
use Rattle.prelude.specs.Classes.{prelude_classes}
use Rattle.linker.specs.Linking.{whole, this_name, number_of, desc_in, array_of, type_of, type_at, member_by, of_type, operand_of, is_used, operands_from, operands_of, class_of, classes_from, program_among, linked_classes, program_of}
use Rattle.linker.specs.LinkFaults.{class_names, is_known}
use Rattle.linker.specs.LinkOrder.{HasNoFault}
use Rattle.linker.specs.NeededClasses.{names_there, is_type_there, is_entry_there, are_used_there, has_parts, has_needed, lacks_class}
use Rattle.linker.proofs.ParentsThere.{class_count}
use Rattle.linked_laws.specs.Codes.{IsBaseThere, IsTypeThere, IsSoundEntry, HasSoundPools}
use Rattle.linked_laws.specs.Files.{IsSoundFile, AreSoundFiles}
use Rattle.linked_laws.proofs.Lists.{all_append, each_at, all_mapped, all_weaker}
use Rattle.linked_laws.proofs.NameLemmas.{element_known}
use Rattle.linked_laws.proofs.FileLemmas.{none_lacks}
use Rattle.linked_laws.proofs.PreludeSpelled.{Spelled, is_typed, names_typed, spelled_of, prelude_spelled, prelude_is_spelled}

and_both : (a b : Bool) → (a && b) ≡ true → (a ≡ true) × (b ≡ true)
and_both true b h = (refl, h)
and_both false b h = absurd (cc)

either : (a b : Bool) → (a || b) ≡ true → a ≡ false → b ≡ true
either true b h e = absurd (cc)
either false b h e = h

-- ---- classes by their files

pub record IsFileOf (names : List (List ℕ)) (files : List ClassFile) (place : ℕ) (class : Class) : Type 0 where
  pub file : ClassFile
  pub is_file : slice_get files place ≡ Some file
  pub operands_are : class.operands ≡ operands_of names file
  pub name_is : class.name ≡ this_name file

pub file_of : (names : List (List ℕ)) (field method : ℕ) (files : List ClassFile) (place : ℕ) (class : Class) → slice_get (classes_from names field method files) place ≡ Some class → IsFileOf names files place class
file_of names field method [] place class at = absurd (none-some class at)
file_of names field method (file ∷ more) zero class at =
    record { file = file; is_file = refl; operands_are = sym (ap (λ (own : Class). own.operands) (same_Some (class_of names field method file) class at)); name_is = sym (ap (λ (own : Class). own.name) (same_Some (class_of names field method file) class at)) }
file_of names field method (file ∷ more) (suc place) class at =
    let rest = file_of names (field + length file.fields) (method + length file.methods) more place class at in
    record { file = rest.file; is_file = rest.is_file; operands_are = rest.operands_are; name_is = rest.name_is }

-- an operand that stands for an entry which an instruction names
pub record IsOfEntry (names : List (List ℕ)) (file : ClassFile) (k : ℕ) (entries : List PoolEntry) (j : ℕ) (operand : Operand) : Type 0 where
  pub entry : PoolEntry
  pub is_entry : slice_get entries j ≡ Some entry
  pub used : is_used file (k + j) ≡ true
  pub operand_is : operand_of names file.pool entry ≡ operand

pub entry_of : (names : List (List ℕ)) (file : ClassFile) (k : ℕ) (entries : List PoolEntry) (j : ℕ) (operand : Operand) → slice_get (operands_from names file k entries) j ≡ Some operand
    → (Unused ≡ operand) ⊎ IsOfEntry names file k entries j operand
entry_of names file k [] j operand at = absurd (none-some operand at)
entry_of names file k (entry ∷ more) zero operand at = by_test (is_used file k) refl (same_Some _ operand at)
  where
    by_test : (b : Bool) → is_used file k ≡ b → (if b then operand_of names file.pool entry else Unused) ≡ operand → (Unused ≡ operand) ⊎ IsOfEntry names file k (entry ∷ more) zero operand
    by_test true is same = inr (record { entry = entry; is_entry = refl; used = ap (is_used file) (omega arith) ∙ is; operand_is = same })
    by_test false is same = inl same
entry_of names file k (entry ∷ more) (suc j) operand at = by_rest (entry_of names file (k + 1) more j operand at)
  where
    next : k + suc j ≡ k + 1 + j
    next = omega arith

    by_rest : (Unused ≡ operand) ⊎ IsOfEntry names file (k + 1) more j operand → (Unused ≡ operand) ⊎ IsOfEntry names file k (entry ∷ more) (suc j) operand
    by_rest (inl same) = inl same
    by_rest (inr is) = inr (record { entry = is.entry; is_entry = is.is_entry; used = ap (is_used file) next ∙ is.used; operand_is = is.operand_is })

-- what an instruction names is there
needed_at : (there : List ℕ → Bool) (file : ClassFile) (k : ℕ) (entries : List PoolEntry) (j : ℕ) (entry : PoolEntry) → are_used_there there file k entries ≡ true → slice_get entries j ≡ Some entry
    → is_used file (k + j) ≡ true → is_entry_there there file.pool entry ≡ true
needed_at there file k [] j entry all at used = absurd (none-some entry at)
needed_at there file k (first ∷ more) zero entry all at used =
    subst (λ (e : PoolEntry). is_entry_there there file.pool e ≡ true) (same_Some first entry at)
    (by_test (is_used file k) (ap (is_used file) same_place ∙ used) (and_both (if is_used file k then is_entry_there there file.pool first else true) _ all).0)
  where
    same_place : k ≡ k + 0
    same_place = omega arith

    by_test : (b : Bool) → b ≡ true → (if b then is_entry_there there file.pool first else true) ≡ true → is_entry_there there file.pool first ≡ true
    by_test true e h = h
    by_test false e h = absurd (cc)
needed_at there file k (first ∷ more) (suc j) entry all at used =
    needed_at there file (k + 1) more j entry (and_both (if is_used file k then is_entry_there there file.pool first else true) _ all).1 at (ap (is_used file) next ∙ used)
  where
    next : k + 1 + j ≡ k + suc j
    next = omega arith

-- ---- what is asked of the entries of a file

pub record HasGoodEntries (file : ClassFile) : Type 0 where
  pub fits : AllByRecursion FitsEntry file.pool
  pub typed : list_all (names_typed file.pool) file.pool ≡ true

all_true : {X : Type 0} (test : X → Bool) (xs : List X) → AllByRecursion (λ x. test x ≡ true) xs → list_all test xs ≡ true
all_true test [] all = refl
all_true test (x ∷ xs) all = both_and all.0 (all_true test xs all.1)
  where
    both_and : {a b : Bool} → a ≡ true → b ≡ true → (a && b) ≡ true
    both_and p q = rw (p, q) refl

true_at : {X : Type 0} (test : X → Bool) (xs : List X) (k : ℕ) (x : X) → list_all test xs ≡ true → slice_get xs k ≡ Some x → test x ≡ true
true_at test [] k x all at = absurd (none-some x at)
true_at test (y ∷ ys) zero x all at = subst (λ z. test z ≡ true) (same_Some y x at) (and_both (test y) (list_all test ys) all).0
true_at test (y ∷ ys) (suc k) x all at = true_at test ys k x (and_both (test y) (list_all test ys) all).1 at

field_typed : (o : Option (List ℕ)) → IsSomeAnd o IsFieldDesc → is_typed o ≡ true
field_typed None is = absurd is
field_typed (Some text) is = second (is_of_method text) ((field_decided text).1 is)
  where
    second : (a : Bool) {b : Bool} → b ≡ true → (a || b) ≡ true
    second true e = refl
    second false e = e

method_typed : (o : Option (List ℕ)) → IsSomeAnd o IsMethodDesc → is_typed o ≡ true
method_typed None is = absurd is
method_typed (Some text) is = subst (λ (t : List ℕ). (is_of_method t || is_field_desc t) ≡ true) (sym is.1.0) refl

refers_typed : (pool : List PoolEntry) (entry : PoolEntry) → RefersWell pool entry → names_typed pool entry ≡ true
refers_typed pool Second is = refl
refers_typed pool (Utf8 text) is = refl
refers_typed pool (Integer n) is = refl
refers_typed pool (FloatEntry bits) is = refl
refers_typed pool (LongEntry bits) is = refl
refers_typed pool (DoubleEntry bits) is = refl
refers_typed pool (ClassEntry name) is = refl
refers_typed pool (TextEntry text) is = refl
refers_typed pool (FieldRef class type) is = field_typed (desc_at pool type) is.1
refers_typed pool (MethodRef class type) is = method_typed (desc_at pool type) is.1
refers_typed pool (InterfaceMethodRef class type) is = method_typed (desc_at pool type) is.1
refers_typed pool (NameAndType name desc) is = refl
refers_typed pool (MethodHandle kind target) is = refl
refers_typed pool (MethodType desc) is = refl
refers_typed pool (InvokeDynamic method type) is = refl

good_file : (file : ClassFile) → IsSoundFile file → HasGoodEntries file
good_file file sound = record { fits = sound.entries; typed = all_true (names_typed file.pool) file.pool (all_weaker (RefersWell file.pool) _ (refers_typed file.pool) file.pool sound.references) }

all_typed_spelled : AllByRecursion (λ (s : Spelled). s.typed ≡ true) prelude_spelled
all_typed_spelled = (refl, (refl, (refl, (refl, (refl, (refl, (refl, (refl, (refl, (refl, (refl, (refl, (refl, (refl, (refl, (refl, (refl, (refl, (refl, (refl, (refl, (refl, (refl, tt)))))))))))))))))))))))

both_facts : (files : List ClassFile) → AllByRecursion FitsClass files → AllByRecursion (λ (file : ClassFile). (spelled_of file).typed ≡ true) files → AllByRecursion HasGoodEntries files
both_facts [] fits typed = tt
both_facts (file ∷ more) fits typed = (record { fits = fits.0.pool.entries; typed = typed.0 }, both_facts more fits.1 typed.1)

good_prelude : AllByRecursion FitsClass prelude_classes → AllByRecursion HasGoodEntries prelude_classes
good_prelude fits =
    both_facts prelude_classes fits
    (all_mapped (λ (s : Spelled). s.typed ≡ true) spelled_of prelude_classes (subst (AllByRecursion (λ (s : Spelled). s.typed ≡ true)) (sym prelude_is_spelled) all_typed_spelled))

-- ---- descriptors

spelled_by : (bytes : List ℕ) (found : Option (FieldDesc × List ℕ)) → found ≡ read_field bytes → (desc : FieldDesc) → option_and_then whole found ≡ Some desc → SpellsField desc bytes
spelled_by bytes None is desc at = absurd (cc)
spelled_by bytes (Some (own, [])) is desc at = subst (λ (d : FieldDesc). SpellsField d bytes) (same_Some own desc at) (whole_some bytes own [] is refl)
spelled_by bytes (Some (own, b ∷ rest)) is desc at = absurd (cc)

desc_there : (text : List ℕ) → is_field_desc text ≡ true → (type : FieldDesc) × (field_desc_in text ≡ Some type)
desc_there text is = by_found (read_field text) is
  where
    by_found : (found : Option (FieldDesc × List ℕ)) → ends_there found ≡ true → (type : FieldDesc) × (option_and_then type_whole found ≡ Some type)
    by_found None e = absurd (cc)
    by_found (Some (type, [])) e = (type, refl)
    by_found (Some (type, b ∷ rest)) e = absurd (ends e)
      where
        ends : (length (b ∷ rest) == 0) ≡ true → ⊥
        ends h = omega (arith, eqb-true (length (b ∷ rest)) 0 h)

-- ---- the program of files

names_from : (names : List (List ℕ)) (field method : ℕ) (files : List ClassFile) → map (λ (class : Class). class.name) (classes_from names field method files) ≡ map this_name files
names_from names field method [] = refl
names_from names field method (file ∷ more) = ap (λ (rest : List (List ℕ)). this_name file ∷ rest) (names_from names (field + length file.fields) (method + length file.methods) more)

found_named : (name : List ℕ) (classes : List Class) (k : ℕ) → list_any (bytes_eq name) (map (λ (class : Class). class.name) classes) ≡ true
    → (c : ℕ) × (position_from (λ (class : Class). bytes_eq class.name name) k classes ≡ Some c)
found_named name [] k known = absurd (cc)
found_named name (class ∷ more) k known = by_test (bytes_eq class.name name) refl (λ rest. found_named name more (k + 1) rest)
  where
    by_test : (b : Bool) → bytes_eq class.name name ≡ b
        → (list_any (bytes_eq name) (map (λ (other : Class). other.name) more) ≡ true → (c : ℕ) × (position_from (λ (other : Class). bytes_eq other.name name) (k + 1) more ≡ Some c)) → (c : ℕ) × ((if b then Some k else position_from (λ (other : Class). bytes_eq other.name name) (k + 1) more) ≡ Some c)
    by_test true is further = (k, refl)
    by_test false is further = further (either (bytes_eq name class.name) _ known (other (bytes_eq name class.name) refl))
      where
        other : (b : Bool) → bytes_eq name class.name ≡ b → bytes_eq name class.name ≡ false
        other false e = e
        other true e = absurd (differ (sym is ∙ (bytes_decides class.name name).1 (sym ((bytes_decides name class.name).0 e))))
          where
            differ : false ≡ true → ⊥
            differ h = absurd (cc)

class_within : (classes : List Class) (c : ℕ) → c < length classes → (class : Class) × (slice_get classes c ≡ Some class)
class_within [] c inside = absurd (omega (arith, inside))
class_within (class ∷ more) zero inside = (class, refl)
class_within (class ∷ more) (suc c) inside = class_within more c (omega (arith, inside))

module _ (files : List ClassFile) where
  abbrev names : List (List ℕ)
  names = class_names (linked_classes files)

  abbrev program : Program
  program = program_of files

  name_there : (name : List ℕ) → is_known names name ≡ true → (c : ℕ) × (class_named program name ≡ Some c)
  unfolding program_among
  name_there name known =
      found_named name program.classes 0 (subst (λ (ns : List (List ℕ)). list_any (bytes_eq name) ns ≡ true) (sym (names_from names 0 0 (linked_classes files))) known)

  number_there : (name : List ℕ) (c : ℕ) → number_of names name ≡ Some c → (class : Class) × (class_at program c ≡ Some class)
  number_there name c is =
      class_within program.classes c
      (subst (λ (n : ℕ). c < n) (length-map (linked_classes files) this_name ∙ sym (class_count (linked_classes files))) (position-Some (bytes_eq name) names c [] is).0)

  base_there : (d : ℕ) (base : Base) (name : List ℕ) → SpellsField (record { dims = d; base = base }) name → names_there (is_known names) name ≡ true → IsBaseThere program base
  base_there d Byte name spells known = tt
  base_there d Char name spells known = tt
  base_there d Double name spells known = tt
  base_there d Float name spells known = tt
  base_there d IntBase name spells known = tt
  base_there d Long name spells known = tt
  base_there d Short name spells known = tt
  base_there d Boolean name spells known = tt
  base_there d (OfName own) name spells known = name_there own (element_known (is_known names) d own spells.1.1 (subst (λ (t : List ℕ). names_there (is_known names) t ≡ true) spells.0 known))

  -- a descriptor without a bracket begins with no bracket
  has_bracket : (d : ℕ) (base : Base) (name : List ℕ) → name ≡ field_text (record { dims = d; base = base }) → (slice_index name 0 == 91) ≡ true → 0 < d
  has_bracket (suc d) base name is bracket = omega arith
  has_bracket zero base name is bracket = absurd (letter base (subst (λ (t : List ℕ). (slice_index t 0 == 91) ≡ true) is bracket))
    where
      letter : (b : Base) → (slice_index (field_text (record { dims = 0; base = b })) 0 == 91) ≡ true → ⊥
      letter Byte e = absurd (cc)
      letter Char e = absurd (cc)
      letter Double e = absurd (cc)
      letter Float e = absurd (cc)
      letter IntBase e = absurd (cc)
      letter Long e = absurd (cc)
      letter Short e = absurd (cc)
      letter Boolean e = absurd (cc)
      letter (OfName own) e = absurd (cc)

  type_named : (name : List ℕ) (type : TypeRef) → is_type_there (is_known names) (Some name) ≡ true → type_of names name ≡ Some type → IsTypeThere program type
  type_named name type known is = by_test (slice_index name 0 == 91) refl known is
    where
      by_array : (o : Option FieldDesc) → desc_in name ≡ o → (slice_index name 0 == 91) ≡ true → names_there (is_known names) name ≡ true → option_map (λ (desc : FieldDesc). OfArray desc) o ≡ Some type → IsTypeThere program type
      by_array None at bracket there e = absurd (cc)
      by_array (Some desc) at bracket there e =
          let spells = spelled_by name (read_field name) refl desc at in
          subst (IsTypeThere program) (same_Some (OfArray desc) type e) (has_bracket desc.dims desc.base name spells.0 bracket, base_there desc.dims desc.base name spells there)

      by_number : (o : Option ℕ) → number_of names name ≡ o → option_map (λ c. OfClass c) o ≡ Some type → IsTypeThere program type
      by_number None at e = absurd (cc)
      by_number (Some c) at e = subst (IsTypeThere program) (same_Some (OfClass c) type e) (number_there name c at)

      by_test : (b : Bool) → (slice_index name 0 == 91) ≡ b → (if b then names_there (is_known names) name else is_known names name) ≡ true
          → (if b then array_of name else option_map (λ c. OfClass c) (number_of names name)) ≡ Some type → IsTypeThere program type
      by_test true bracket there e = by_array (desc_in name) refl bracket there e
      by_test false bracket there e = by_number (number_of names name) refl e

  class_sound : (o : Option (List ℕ)) → is_type_there (is_known names) o ≡ true → IsSoundEntry program (of_type (option_and_then (type_of names) o))
  class_sound None known = tt
  class_sound (Some name) known = by_type (type_of names name) refl
    where
      by_type : (o : Option TypeRef) → type_of names name ≡ o → IsSoundEntry program (of_type o)
      by_type None is = tt
      by_type (Some type) is = type_named name type known is

  text_typed : (o : Option (List ℕ)) → is_typed o ≡ true → is_of_method (unwrap_or o []) ≡ false → (type : FieldDesc) × (field_desc_in (unwrap_or o []) ≡ Some type)
  text_typed None typed no_method = absurd (cc)
  text_typed (Some text) typed no_method = desc_there text (either (is_of_method text) (is_field_desc text) typed no_method)

  member_sound : (pool : List PoolEntry) (owner : Option TypeRef) (o : Option PoolEntry) → is_typed (desc_of pool o) ≡ true → IsSoundEntry program (member_by pool owner o)
  member_sound pool None None typed = tt
  member_sound pool (Some own) None typed = tt
  member_sound pool owner (Some Second) typed = absurd (cc)
  member_sound pool owner (Some (Utf8 text)) typed = absurd (cc)
  member_sound pool owner (Some (Integer n)) typed = absurd (cc)
  member_sound pool owner (Some (FloatEntry bits)) typed = absurd (cc)
  member_sound pool owner (Some (LongEntry bits)) typed = absurd (cc)
  member_sound pool owner (Some (DoubleEntry bits)) typed = absurd (cc)
  member_sound pool owner (Some (ClassEntry name)) typed = absurd (cc)
  member_sound pool owner (Some (TextEntry text)) typed = absurd (cc)
  member_sound pool owner (Some (FieldRef class type)) typed = absurd (cc)
  member_sound pool owner (Some (MethodRef class type)) typed = absurd (cc)
  member_sound pool owner (Some (InterfaceMethodRef class type)) typed = absurd (cc)
  member_sound pool owner (Some (MethodHandle kind target)) typed = absurd (cc)
  member_sound pool owner (Some (MethodType desc)) typed = absurd (cc)
  member_sound pool owner (Some (InvokeDynamic method type)) typed = absurd (cc)
  member_sound pool None (Some (NameAndType name desc)) typed = tt
  member_sound pool (Some own) (Some (NameAndType name desc)) typed = λ no_method. text_typed (utf8_at pool desc) typed no_method

  entry_sound : (pool : List PoolEntry) (entry : PoolEntry) → FitsEntry entry → names_typed pool entry ≡ true → is_entry_there (is_known names) pool entry ≡ true → IsSoundEntry program (operand_of names pool entry)
  entry_sound pool Second fits typed there = tt
  entry_sound pool (Utf8 text) fits typed there = tt
  entry_sound pool (Integer n) fits typed there = fits
  entry_sound pool (FloatEntry bits) fits typed there = tt
  entry_sound pool (LongEntry bits) fits typed there = tt
  entry_sound pool (DoubleEntry bits) fits typed there = tt
  entry_sound pool (ClassEntry name) fits typed there = class_sound (utf8_at pool name) there
  entry_sound pool (TextEntry text) fits typed there = tt
  entry_sound pool (FieldRef class type) fits typed there = member_sound pool (type_at names pool class) (entry_at pool type) typed
  entry_sound pool (MethodRef class type) fits typed there = member_sound pool (type_at names pool class) (entry_at pool type) typed
  entry_sound pool (InterfaceMethodRef class type) fits typed there = member_sound pool (type_at names pool class) (entry_at pool type) typed
  entry_sound pool (NameAndType name desc) fits typed there = tt
  entry_sound pool (MethodHandle kind target) fits typed there = tt
  entry_sound pool (MethodType desc) fits typed there = tt
  entry_sound pool (InvokeDynamic method type) fits typed there = tt

  file_sound : (file : ClassFile) → HasGoodEntries file → lacks_class names file ≡ false → (k : ℕ) (operand : Operand) → slice_get (operands_of names file) k ≡ Some operand → IsSoundEntry program operand
  file_sound file good whole zero operand at = subst (IsSoundEntry program) (same_Some Unused operand at) tt
  file_sound file good whole (suc j) operand at = by_entry (entry_of names file 1 file.pool j operand at)
    where
      there : are_used_there (is_known names) file 1 file.pool ≡ true
      there = (and_both (has_parts (is_known names) file) (are_used_there (is_known names) file 1 file.pool) (not_false (has_needed (is_known names) file) whole)).1
        where
          not_false : (b : Bool) → not b ≡ false → b ≡ true
          not_false true e = refl
          not_false false e = absurd (cc)

      by_entry : (Unused ≡ operand) ⊎ IsOfEntry names file 1 file.pool j operand → IsSoundEntry program operand
      by_entry (inl same) = subst (IsSoundEntry program) same tt
      by_entry (inr is) =
          subst (IsSoundEntry program) is.operand_is
          (entry_sound file.pool is.entry (each_at FitsEntry file.pool j is.entry good.fits is.is_entry) (true_at (names_typed file.pool) file.pool j is.entry good.typed is.is_entry)
          (needed_at (is_known names) file 1 file.pool j is.entry there is.is_entry is.used))

  pub sound_pools : AllByRecursion FitsClass prelude_classes → AreSoundFiles files → HasNoFault (linked_classes files) → HasSoundPools program
  unfolding program_among
  sound_pools fits sound none c k class operand at found =
      let own = file_of names 0 0 (linked_classes files) c class at in
      file_sound own.file
      (each_at HasGoodEntries (linked_classes files) c own.file (all_append HasGoodEntries prelude_classes files (good_prelude fits) (all_weaker IsSoundFile HasGoodEntries good_file files sound)) own.is_file)
      (none_lacks (linked_classes files) none c own.file own.is_file) k operand (ap (λ (operands : List Operand). slice_get operands k) (sym own.operands_are) ∙ found)
