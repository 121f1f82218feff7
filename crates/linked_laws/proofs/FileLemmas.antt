-- The program of files that were linked begins with the prelude, and each of its classes but java/lang/Object has a superclass.
use Rattle.std.proofs.Common.{◌≡◌, ◌∙◌, ℕ, zero, suc, ◌+◌, Bool, true, false, ◌&&◌, ◌||◌, not, List, [], ◌∷◌, ◌++◌, length, map, Option, Some, None, refl, sym, subst, ap, arith}
use Rattle.std.specs.Prelude.{◌==◌, if◌then◌else◌, option_and_then, slice_get, slice_index}
use Rattle.std.specs.List.{flat_map, list_any, position_from, AllByRecursion}
use Rattle.std.specs.Option.{option_to_list, IsSomeAnd}
use Rattle.std.specs.Str.{bytes_eq}
use Rattle.std.proofs.lemmas.List.{map-append, length-map}
use Rattle.std.proofs.lemmas.Iterator.Adapters.{position_from-zero}
use Rattle.class_pool.specs.declared.classes.ClassFile.{ClassFile}
use Rattle.class_pool.specs.declared.entries.PoolEntry.{PoolEntry}
use Rattle.class_pool.specs.declared.classes.FieldInfo.{FieldInfo}
use Rattle.class_pool.specs.Pool.{class_name_at}
use Rattle.class_pool.specs.Code.{dims_of}
use Rattle.jo_prog.specs.Numbers.{count_from}
use Rattle.jo_prog.specs.Hierarchy.{HasNoCycle}
use Rattle.prelude.specs.Classes.{prelude_classes}
use Rattle.linker.specs.declared.causes.LinkCode.TheVariants.{MissingClass, CyclicSuper}
use Rattle.linker.specs.Linking.{this_name, number_of, numbers_at, class_of, classes_from, program_among, linked_classes, program_of}
use Rattle.linker.specs.LinkFaults.{class_names, is_known}
use Rattle.linker.specs.LinkOrder.{HasNoFault}
use Rattle.linker.specs.NeededClasses.{names_there, is_type_there, has_needed, lacks_class}
use Rattle.linker.proofs.ParentsThere.{parents_there}
use Rattle.program_faults.specs.SuperFaults.{IsCyclicSuper}
use Rattle.step_laws.specs.Premises.{HasSoundHierarchy}
use Rattle.kept_laws.specs.Going.{HasRaisedClasses}
use Rattle.linked_laws.specs.Files.{IsSoundFile, AreSoundFiles}
use Rattle.linked_laws.proofs.Lists.{item_behind}
use Rattle.linked_laws.proofs.Outlines.{Outline, outline_of, prelude_outlines, BeginsWithPrelude, HasAbove, superclasses, HasSuperclasses}
use Rattle.linked_laws.proofs.AboveLemmas.{no_cycle, sound_hierarchy, raised_classes}
use Rattle.linked_laws.proofs.PreludeSpelled.{Spelled, spelled_of, prelude_spelled, prelude_is_spelled}

-- ---- outlines by names

abbrev number_in : List (List ℕ) → Option (List ℕ) → Option ℕ
number_in names o = option_and_then (λ (name : List ℕ). position_from (bytes_eq name) 0 names) o

abbrev outline_by : List (List ℕ) → Spelled → Outline
outline_by names spelled = record {
  name = spelled.name;
  flags = spelled.flags;
  superclass = number_in names spelled.superclass;
  interfaces = flat_map (λ (o : Option (List ℕ)). option_to_list (number_in names o)) spelled.interfaces;
  fields = length spelled.constants;
}

number_same : (names : List (List ℕ)) (o : Option (List ℕ)) → option_and_then (number_of names) o ≡ number_in names o
number_same names None = refl
number_same names (Some name) = position_from-zero (bytes_eq name) names

numbers_same : (names : List (List ℕ)) (pool : List PoolEntry) (indices : List ℕ)
    → numbers_at names pool indices ≡ flat_map (λ (o : Option (List ℕ)). option_to_list (number_in names o)) (map (class_name_at pool) indices)
numbers_same names pool [] = refl
numbers_same names pool (k ∷ more) =
    ap (λ (o : Option ℕ). option_to_list o ++ numbers_at names pool more) (number_same names (class_name_at pool k))
    ∙ ap (λ (rest : List ℕ). option_to_list (number_in names (class_name_at pool k)) ++ rest) (numbers_same names pool more)

as_many : (first n : ℕ) → length (count_from first n) ≡ n
as_many first zero = refl
as_many first (suc n) = ap suc (as_many (suc first) n)

abbrev outline_from : List ℕ → ℕ → Option ℕ → List ℕ → ℕ → Outline
outline_from name flags superclass interfaces fields = record { name = name; flags = flags; superclass = superclass; interfaces = interfaces; fields = fields }

outline_with : (name : List ℕ) (flags : ℕ) (one other : Option ℕ) (these those : List ℕ) (few many : ℕ) → one ≡ other → these ≡ those → few ≡ many
    → outline_from name flags one these few ≡ outline_from name flags other those many
outline_with name flags one other these those few many p q r =
    ap (λ (o : Option ℕ). outline_from name flags o these few) p ∙ ap (λ (is : List ℕ). outline_from name flags other is few) q ∙ ap (outline_from name flags other those) r

outlined_by : (names : List (List ℕ)) (field method : ℕ) (file : ClassFile) → outline_of (class_of names field method file) ≡ outline_by names (spelled_of file)
outlined_by names field method file =
    outline_with (this_name file) file.flags _ _ _ _ _ _ (number_same names (class_name_at file.pool file.super_class)) (numbers_same names file.pool file.interfaces)
    (as_many field (length file.fields) ∙ sym (length-map file.fields (λ (info : FieldInfo). info.constant)))

outlines_from : (names : List (List ℕ)) (field method : ℕ) (files : List ClassFile) → map outline_of (classes_from names field method files) ≡ map (outline_by names) (map spelled_of files)
outlines_from names field method [] = refl
outlines_from names field method (file ∷ more) =
    ap (λ (o : Outline). o ∷ map outline_of (classes_from names (field + length file.fields) (method + length file.methods) more)) (outlined_by names field method file)
    ∙ ap (λ (os : List Outline). outline_by names (spelled_of file) ∷ os) (outlines_from names (field + length file.fields) (method + length file.methods) more)

-- ---- the prelude comes first

names_are : (classes : List ClassFile) (spelled : List Spelled) → map spelled_of classes ≡ spelled → map this_name classes ≡ map (λ (s : Spelled). s.name) spelled
names_are classes spelled is = named classes ∙ ap (map (λ (s : Spelled). s.name)) is
  where
    named : (xs : List ClassFile) → map this_name xs ≡ map (λ (s : Spelled). s.name) (map spelled_of xs)
    named [] = refl
    named (x ∷ xs) = ap (λ (rest : List (List ℕ)). this_name x ∷ rest) (named xs)

prelude_drawn : (others : List (List ℕ)) → map (outline_by (map (λ (s : Spelled). s.name) prelude_spelled ++ others)) prelude_spelled ≡ prelude_outlines
prelude_drawn others = refl

module _ (files : List ClassFile) where
  abbrev all_names : List (List ℕ)
  all_names = class_names (linked_classes files)

  pub names_begin : all_names ≡ map (λ (s : Spelled). s.name) prelude_spelled ++ map this_name files
  names_begin =
      map-append this_name prelude_classes files
      ∙ ap (λ (front : List (List ℕ)). front ++ map this_name files) (names_are prelude_classes prelude_spelled prelude_is_spelled)

  abbrev pub file_outlines : List Outline
  file_outlines = map (outline_by all_names) (map spelled_of files)

  outlines_begin : map outline_of (program_of files).classes ≡ prelude_outlines ++ file_outlines
  unfolding program_among
  outlines_begin =
      outlines_from all_names 0 0 (linked_classes files)
      ∙ ap (map (outline_by all_names)) (map-append spelled_of prelude_classes files)
      ∙ map-append (outline_by all_names) (map spelled_of prelude_classes) (map spelled_of files)
      ∙ ap (λ (front : List Outline). front ++ file_outlines)
      (ap (map (outline_by all_names)) prelude_is_spelled
      ∙ ap (λ (names : List (List ℕ)). map (outline_by names) prelude_spelled) names_begin
      ∙ prelude_drawn (map this_name files))

  pub begins_with_prelude : BeginsWithPrelude (program_of files)
  begins_with_prelude = record { more = file_outlines; outlines = outlines_begin }

-- ---- superclasses are there

and_front : (a b : Bool) → (a && b) ≡ true → a ≡ true
and_front true b h = refl
and_front false b h = absurd (cc)

pub no_array : (name : List ℕ) → dims_of name ≡ 0 → (slice_index name 0 == 91) ≡ false
no_array [] none = refl
no_array (b ∷ bs) none = by_first (b == 91) none
  where
    by_first : (test : Bool) → (if test then 1 + dims_of bs else 0) ≡ 0 → test ≡ false
    by_first true e = absurd (omega (arith, e))
    by_first false e = refl

is_found : (test : List ℕ → Bool) (names : List (List ℕ)) (k : ℕ) → list_any test names ≡ true → (n : ℕ) × (position_from test k names ≡ Some n)
is_found test [] k some = absurd (cc)
is_found test (name ∷ more) k some = by_test (test name) some (λ rest. is_found test more (k + 1) rest)
  where
    by_test : (b : Bool) → (b || list_any test more) ≡ true → (list_any test more ≡ true → (n : ℕ) × (position_from test (k + 1) more ≡ Some n))
        → (n : ℕ) × ((if b then Some k else position_from test (k + 1) more) ≡ Some n)
    by_test true some goes = (k, refl)
    by_test false some goes = goes some

has_above : (names : List (List ℕ)) (file : ClassFile) → IsSoundFile file → lacks_class names file ≡ false → HasAbove (outline_by names (spelled_of file))
has_above names file named whole = by_name (class_name_at file.pool file.super_class) refl named.superclass.1
  where
    there : is_type_there (is_known names) (class_name_at file.pool file.super_class) ≡ true
    there = and_front _ _ (and_front _ _ (not_false (has_needed (is_known names) file) whole))
      where
        not_false : (b : Bool) → not b ≡ false → b ≡ true
        not_false true e = refl
        not_false false e = absurd (cc)

    by_name : (o : Option (List ℕ)) → class_name_at file.pool file.super_class ≡ o → IsSomeAnd o (λ name. dims_of name ≡ 0) → HasAbove (outline_by names (spelled_of file))
    by_name None is at = absurd at
    by_name (Some name) is at =
        let known : is_known names name ≡ true =
        sym (ap (λ (b : Bool). if b then names_there (is_known names) name else is_known names name) (no_array name at)) ∙ sym (ap (is_type_there (is_known names)) is) ∙ there in
        let found = is_found (bytes_eq name) names 0 known in
        record { above = found.0; is_above = ap (number_in names) is ∙ found.1 }

pub none_lacks : (classes : List ClassFile) → HasNoFault classes → (c : ℕ) (file : ClassFile) → slice_get classes c ≡ Some file → lacks_class (class_names classes) file ≡ false
none_lacks classes none c file at = by_test (lacks_class (class_names classes) file) refl
  where
    by_test : (b : Bool) → lacks_class (class_names classes) file ≡ b → lacks_class (class_names classes) file ≡ false
    by_test false is = is
    by_test true is = absurd (none MissingClass c (subst (λ (o : Option ClassFile). IsSomeAnd o (λ class. lacks_class (class_names classes) class ≡ true)) (sym at) is))

all_above : (names : List (List ℕ)) (files : List ClassFile) → AreSoundFiles files → ((k : ℕ) (file : ClassFile) → slice_get files k ≡ Some file → lacks_class names file ≡ false)
    → AllByRecursion HasAbove (map (outline_by names) (map spelled_of files))
all_above names [] named whole = tt
all_above names (file ∷ more) named whole = (has_above names file named.0 (whole 0 file refl), all_above names more named.1 (λ k other at. whole (suc k) other at))

pub files_have_above : (files : List ClassFile) → AreSoundFiles files → HasNoFault (linked_classes files) → AllByRecursion HasAbove (file_outlines files)
files_have_above files named none =
    all_above (class_names (linked_classes files)) files named
    (λ k file at. none_lacks (linked_classes files) none (length prelude_classes + k) file (item_behind prelude_classes files k ∙ at))

-- ---- the laws

none_cyclic : (files : List ClassFile) → HasNoFault (linked_classes files) → (c : ℕ) → IsCyclicSuper (program_of files) c → ⊥
none_cyclic files none c cyclic = none CyclicSuper c cyclic

pub no_cycle_of_files : (files : List ClassFile) → HasNoFault (linked_classes files) → HasNoCycle (program_of files)
no_cycle_of_files files none = no_cycle (program_of files) (none_cyclic files none)

pub supers_of_files : (files : List ClassFile) → AreSoundFiles files → HasNoFault (linked_classes files) → HasSuperclasses (program_of files)
unfolding begins_with_prelude
supers_of_files files named none = superclasses (program_of files) (begins_with_prelude files) (files_have_above files named none)

pub hierarchy_of_files : (files : List ClassFile) → AreSoundFiles files → HasNoFault (linked_classes files) → HasSoundHierarchy (program_of files)
hierarchy_of_files files named none =
    sound_hierarchy (program_of files) (begins_with_prelude files) (none_cyclic files none) (parents_there (linked_classes files)) (supers_of_files files named none)

pub raised_of_files : (files : List ClassFile) → HasNoFault (linked_classes files) → HasRaisedClasses (program_of files)
raised_of_files files none = raised_classes (program_of files) (begins_with_prelude files) (none_cyclic files none)
