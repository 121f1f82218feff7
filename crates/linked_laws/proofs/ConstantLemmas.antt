-- In the program of files strings have no fields, and the constants of fields are of their types.
use Rattle.std.proofs.Common.{◌≡◌, ◌∙◌, ℕ, zero, suc, ◌+◌, true, ◌||◌, List, [], ◌∷◌, ◌++◌, map, Option, Some, None, refl, sym, subst, ap, inl, inr}
use Rattle.std.specs.Prelude.{codes, unwrap_or}
use Rattle.std.specs.List.{flat_map, AllByRecursion}
use Rattle.std.specs.Option.{IsSomeAnd}
use Rattle.std.specs.Str.{bytes_eq}
use Rattle.std.specs.Cmp.Lexicographic.{bytes_decides}
use Rattle.std.proofs.lemmas.Bool.{or_cases}
use Rattle.jo_text.specs.Scan.{names_on, read_class, letter_base, read_base, read_field}
use Rattle.class_pool.specs.declared.entries.PoolEntry.{PoolEntry}
use Rattle.class_pool.specs.declared.entries.PoolEntry.TheVariants.{Second, Utf8, Integer, Float, Long, Double, Class as ClassEntry, Text as TextEntry, FieldRef, MethodRef, InterfaceMethodRef, NameAndType, MethodHandle, MethodType, InvokeDynamic}
use Rattle.class_pool.specs.declared.classes.ClassFile.{ClassFile}
use Rattle.class_pool.specs.declared.classes.FieldInfo.{FieldInfo}
use Rattle.class_pool.specs.Pool.{entry_at, utf8_at}
use Rattle.class_pool.specs.ClassOrder.{fits_constant}
use Rattle.class_pool.specs.Writing.{FitsEntry}
use Rattle.jo_prog.specs.declared.program.Program.{Program}
use Rattle.jo_prog.specs.declared.program.Field.{Field}
use Rattle.jo_prog.specs.Program.{class_at}
use Rattle.jo_prog.specs.PreludeClasses.{object_number, string_class}
use Rattle.jo_prog.specs.MethodTypes.{field_desc_in}
use Rattle.jo_prog.specs.Hierarchy.{HasNoCycle, superclasses}
use Rattle.jo_prog.specs.Typing.{Kind, Int}
use Rattle.jo_prog.proofs.HierarchyLemmas.{superclasses_unfold}
use Rattle.machine.specs.Heaps.{own_contents, first_contents}
use Rattle.step_laws.specs.TypedStates.{kind_of_desc}
use Rattle.prelude.specs.Classes.{prelude_classes}
use Rattle.linker.specs.Linking.{text_at, constant_of, constant_in, field_of, fields_from, program_among, linked_classes, program_of}
use Rattle.linked_laws.specs.Files.{HasFittingConstant, IsSoundFile, AreSoundFiles}
use Rattle.linked_laws.proofs.Lists.{all_append, each_at, all_mapped, to_mapped, all_weaker}
use Rattle.linked_laws.proofs.Outlines.{BeginsWithPrelude, string_named, string_made, string_above, object_above, string_empty, object_empty}
use Rattle.linked_laws.proofs.PreludeSpelled.{Spelled, spelled_of, prelude_spelled, prelude_is_spelled}
use Rattle.linked_laws.proofs.StartLemmas.{HasPlainStrings, FitsFirst, HasSoundConstants}

-- ---- strings

module _ (program : Program) (begins : BeginsWithPrelude program) (none : HasNoCycle program) where
  object_order : superclasses program object_number ≡ object_number ∷ []
  object_order = superclasses_unfold program none object_number ∙ ap (λ (above : List ℕ). object_number ∷ flat_map (superclasses program) above) (object_above program begins)

  string_order : superclasses program string_class ≡ string_class ∷ object_number ∷ []
  string_order =
      superclasses_unfold program none string_class ∙ ap (λ (above : List ℕ). string_class ∷ flat_map (superclasses program) above) (string_above program begins)
      ∙ ap (λ (above : List ℕ). string_class ∷ (above ++ [])) object_order

  no_fields : first_contents program string_class ≡ []
  no_fields =
      ap (flat_map (λ above. own_contents program (class_at program above))) string_order
      ∙ ap (λ (own : List (ℕ × _)). own ++ (own_contents program (class_at program object_number) ++ [])) (string_empty program begins)
      ∙ ap (λ (own : List (ℕ × _)). own ++ []) (object_empty program begins)

  pub plain_strings : HasPlainStrings program
  plain_strings =
      let made = string_made program begins in
      record { string_named = string_named program begins; class = made.class; is_there = made.is_there; made = made.made; no_fields = no_fields }

-- ---- constants of files

module _ (program : Program) where
  int_kind : (desc : List ℕ)
      → (bytes_eq desc (codes "I") || (bytes_eq desc (codes "B") || (bytes_eq desc (codes "C") || (bytes_eq desc (codes "S") || bytes_eq desc (codes "Z"))))) ≡ true
      → kind_of_desc program (field_desc_in desc) ≡ Int
  unfolding names_on read_class letter_base read_base read_field
  int_kind desc is = elim (or_cases (bytes_eq desc (codes "I")) _ is) [
    | inl e ↦ ap of_desc ((bytes_decides desc (codes "I")).0 e)
    | inr more ↦ elim (or_cases (bytes_eq desc (codes "B")) _ more) [
      | inl e ↦ ap of_desc ((bytes_decides desc (codes "B")).0 e)
      | inr more ↦ elim (or_cases (bytes_eq desc (codes "C")) _ more) [
        | inl e ↦ ap of_desc ((bytes_decides desc (codes "C")).0 e)
        | inr more ↦ elim (or_cases (bytes_eq desc (codes "S")) _ more) [
          | inl e ↦ ap of_desc ((bytes_decides desc (codes "S")).0 e)
          | inr e ↦ ap of_desc ((bytes_decides desc (codes "Z")).0 e)
        ]
      ]
    ]
  ]
    where
      of_desc : List ℕ → Kind
      of_desc d = kind_of_desc program (field_desc_in d)

  module _ (pool : List PoolEntry) (entries : AllByRecursion FitsEntry pool) where
    entry_there : (k : ℕ) (entry : PoolEntry) → entry_at pool k ≡ Some entry → FitsEntry entry
    entry_there zero entry is = absurd (cc)
    entry_there (suc k) entry is = each_at FitsEntry pool k entry entries is

    by_entry : (k : ℕ) (text : List ℕ) (o : Option PoolEntry) → entry_at pool k ≡ o → fits_constant text o ≡ true → FitsFirst program text (Some (constant_of pool o))
    by_entry k text None is fits = tt
    by_entry k text (Some Second) is fits = tt
    by_entry k text (Some (Utf8 bytes)) is fits = tt
    by_entry k text (Some (Integer n)) is fits = (entry_there k (Integer n) is, int_kind text fits)
    by_entry k text (Some (Float bits)) is fits = tt
    by_entry k text (Some (Long bits)) is fits = tt
    by_entry k text (Some (Double bits)) is fits = tt
    by_entry k text (Some (ClassEntry name)) is fits = tt
    by_entry k text (Some (TextEntry index)) is fits = (bytes_decides text (codes "Ljava/lang/String;")).0 fits
    by_entry k text (Some (FieldRef class type)) is fits = tt
    by_entry k text (Some (MethodRef class type)) is fits = tt
    by_entry k text (Some (InterfaceMethodRef class type)) is fits = tt
    by_entry k text (Some (NameAndType name desc)) is fits = tt
    by_entry k text (Some (MethodHandle kind target)) is fits = tt
    by_entry k text (Some (MethodType desc)) is fits = tt
    by_entry k text (Some (InvokeDynamic method type)) is fits = tt

    by_text : (k : ℕ) (desc : ℕ) (o : Option (List ℕ)) → utf8_at pool desc ≡ o → IsSomeAnd o (λ text. fits_constant text (entry_at pool k) ≡ true) → FitsFirst program (text_at pool desc) (Some (constant_of pool (entry_at pool k)))
    by_text k desc None is fits = absurd fits
    by_text k desc (Some text) is fits =
        subst (λ (o : Option (List ℕ)). FitsFirst program (unwrap o) (Some (constant_of pool (entry_at pool k)))) (sym is) (by_entry k text (entry_at pool k) refl fits)
      where
        unwrap : Option (List ℕ) → List ℕ
        unwrap o = unwrap_or o []

    field_first : (field : FieldInfo) → HasFittingConstant pool field → FitsFirst program (text_at pool field.desc) (constant_in pool field.constant)
    field_first field fits = by_constant field.constant refl
      where
        by_constant : (o : Option ℕ) → field.constant ≡ o → FitsFirst program (text_at pool field.desc) (constant_in pool o)
        by_constant None is = tt
        by_constant (Some k) is = by_text k field.desc (utf8_at pool field.desc) refl (fits k is)

  -- ---- all fields of a program

  abbrev IsFirstOf : Field → Type 0
  IsFirstOf field = FitsFirst program field.desc field.constant

  abbrev HasFirsts : ClassFile → Type 0
  HasFirsts file = AllByRecursion (λ (info : FieldInfo). FitsFirst program (text_at file.pool info.desc) (constant_in file.pool info.constant)) file.fields

  all_fields : (class : ℕ) (files : List ClassFile) → AllByRecursion HasFirsts files → AllByRecursion IsFirstOf (fields_from class files)
  all_fields class [] all = tt
  all_fields class (file ∷ more) all =
      all_append IsFirstOf (map (field_of class file.pool) file.fields) (fields_from (class + 1) more)
      (to_mapped IsFirstOf (field_of class file.pool) file.fields all.0) (all_fields (class + 1) more all.1)

  sound_firsts : (file : ClassFile) → IsSoundFile file → HasFirsts file
  sound_firsts file sound = all_weaker (HasFittingConstant file.pool) _ (field_first file.pool sound.entries) file.fields sound.constants

  -- ---- the prelude has no constants

  abbrev HasNoConstants : Spelled → Type 0
  HasNoConstants spelled = AllByRecursion (λ (o : Option ℕ). o ≡ None) spelled.constants

  none_spelled : AllByRecursion HasNoConstants prelude_spelled
  none_spelled = (tt, (tt, (tt, ((refl, tt), ((refl, tt), (tt, (tt, (tt, (tt, (tt, (tt, (tt, (tt, (tt, (tt, (tt, (tt, (tt, (tt, (tt, (tt, (tt, (tt, tt)))))))))))))))))))))))

  none_first : (file : ClassFile) → HasNoConstants (spelled_of file) → HasFirsts file
  none_first file none =
      all_weaker (λ (info : FieldInfo). info.constant ≡ None) _ (λ info is. subst (λ (o : Option ℕ). FitsFirst program (text_at file.pool info.desc) (constant_in file.pool o)) (sym is) tt) file.fields
      (all_mapped (λ (o : Option ℕ). o ≡ None) (λ (info : FieldInfo). info.constant) file.fields none)

  prelude_firsts : AllByRecursion HasFirsts prelude_classes
  prelude_firsts =
      all_weaker (λ (file : ClassFile). HasNoConstants (spelled_of file)) HasFirsts none_first prelude_classes
      (all_mapped HasNoConstants spelled_of prelude_classes (subst (AllByRecursion HasNoConstants) (sym prelude_is_spelled) none_spelled))

pub sound_constants : (files : List ClassFile) → AreSoundFiles files → HasSoundConstants (program_of files)
unfolding program_among
sound_constants files sound f field at =
    each_at (IsFirstOf (program_of files)) (fields_from 0 (linked_classes files)) f field
    (all_fields (program_of files) 0 (linked_classes files)
    (all_append (HasFirsts (program_of files)) prelude_classes files (prelude_firsts (program_of files)) (all_weaker IsSoundFile (HasFirsts (program_of files)) (sound_firsts (program_of files)) files sound)))
    at
