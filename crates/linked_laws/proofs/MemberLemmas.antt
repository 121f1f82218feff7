-- How fields and methods of a program are numbered: those of a file behind those of the files before it, and its class lists them.
use Rattle.std.proofs.Common.{◌≡◌, ◌∙◌, ℕ, zero, suc, ◌+◌, ◌<◌, Bool, true, false, ◌&&◌, ◌||◌, not, List, [], ◌∷◌, ◌++◌, map, length, Option, Some, refl, sym, subst, ap, ◌⊎◌, inl, inr, arith}
use Rattle.std.specs.Prelude.{slice_get, option_map}
use Rattle.std.specs.List.{Contains, list_any}
use Rattle.std.specs.Option.{IsSomeAnd}
use Rattle.std.proofs.lemmas.List.{length-map}
use Rattle.std.proofs.lemmas.Option.{same_Some, none-some, slice_get-map, slice_get_within}
use Rattle.jo_insn.specs.AccessFlags.{has_flag, static_flag}
use Rattle.class_pool.specs.declared.classes.ClassFile.{ClassFile}
use Rattle.class_pool.specs.declared.classes.FieldInfo.{FieldInfo}
use Rattle.jo_prog.specs.declared.program.Class.{Class}
use Rattle.jo_prog.specs.declared.program.Field.{Field}
use Rattle.jo_prog.specs.declared.program.Method.{Method}
use Rattle.jo_prog.specs.declared.program.TypeRef.TheVariants.{Class as OfClass}
use Rattle.jo_prog.specs.Numbers.{count_from}
use Rattle.jo_prog.specs.Program.{class_at, method_at}
use Rattle.jo_prog.specs.Shapes.{is_interface, is_interface_class}
use Rattle.jo_prog.proofs.WalkLemmas.{here, behind, head_or_behind, none_there}
use Rattle.program_faults.specs.SuperFaults.{interface_flag}
use Rattle.program_faults.specs.UsedOperands.{methods_in, methods_of}
use Rattle.linker.specs.declared.causes.LinkCode.TheVariants.{InterfaceBody}
use Rattle.linker.specs.Linking.{this_name, class_of, classes_from, field_of, fields_from, method_of, methods_from, program_among, linked_classes, program_of}
use Rattle.linker.specs.LinkFaults.{has_code, is_of_instances, has_interface_body}
use Rattle.linker.specs.LinkOrder.{HasNoFault}
use Rattle.linked_laws.specs.Codes.{HasSoundMembers}
use Rattle.linked_laws.proofs.Lists.{contains_at, item_behind}
use Rattle.linked_laws.proofs.Outlines.{object_listing}
use Rattle.linked_laws.proofs.FileLemmas.{begins_with_prelude}

-- ---- lists

pub in_front_or_behind : {X : Type 0} (xs ys : List X) (i : ℕ) (y : X) → slice_get (xs ++ ys) i ≡ Some y
    → (slice_get xs i ≡ Some y) ⊎ ((j : ℕ) × (i ≡ length xs + j) × (slice_get ys j ≡ Some y))
in_front_or_behind [] ys i y at = inr (i, omega arith, at)
in_front_or_behind (x ∷ xs) ys zero y at = inl at
in_front_or_behind (x ∷ xs) ys (suc i) y at = by_part (in_front_or_behind xs ys i y at)
  where
    by_part : (slice_get xs i ≡ Some y) ⊎ ((j : ℕ) × (i ≡ length xs + j) × (slice_get ys j ≡ Some y))
        → (slice_get xs i ≡ Some y) ⊎ ((j : ℕ) × (suc i ≡ suc (length xs) + j) × (slice_get ys j ≡ Some y))
    by_part (inl front) = inl front
    by_part (inr (j, is, found)) = inr (j, omega (arith, is), found)

pub front_kept : {X : Type 0} (xs ys : List X) (i : ℕ) (x : X) → slice_get xs i ≡ Some x → slice_get (xs ++ ys) i ≡ Some x
front_kept [] ys i x at = absurd (none-some x at)
front_kept (z ∷ xs) ys zero x at = at
front_kept (z ∷ xs) ys (suc i) x at = front_kept xs ys i x at

pub counted : (first n i : ℕ) → i < n → Contains (count_from first n) (first + i)
counted first zero i below = absurd (omega (arith, below))
counted first (suc n) zero below = subst (λ (k : ℕ). Contains (count_from first (suc n)) k) (omega arith) (here first (count_from (suc first) n))
counted first (suc n) (suc i) below =
    subst (λ (k : ℕ). Contains (count_from first (suc n)) k) (omega arith) (behind first (count_from (suc first) n) (suc first + i) (counted (suc first) n i (omega (arith, below))))

pub uncounted : (first n k : ℕ) → Contains (count_from first n) k → (i : ℕ) × (i < n) × (k ≡ first + i)
uncounted first zero k among = absurd (none_there k among)
uncounted first (suc n) k among = elim (head_or_behind first (count_from (suc first) n) k among) [
  | inl same ↦ (0, omega arith, omega (arith, same))
  | inr more ↦ let found = uncounted (suc first) n k more in (suc found.0, omega (arith, found.1), omega (arith, found.2))
]

pub item_at : {X : Type 0} (xs : List X) (i : ℕ) → i < length xs → (x : X) × (slice_get xs i ≡ Some x)
item_at [] i below = absurd (omega (arith, below))
item_at (x ∷ xs) zero below = (x, refl)
item_at (x ∷ xs) (suc i) below = item_at xs i (omega (arith, below))

pub mapped_at : {X Y : Type 0} (f : X → Y) (xs : List X) (i : ℕ) (y : Y) → slice_get (map f xs) i ≡ Some y → (x : X) × (slice_get xs i ≡ Some x) × (f x ≡ y)
mapped_at f [] i y at = absurd (none-some y at)
mapped_at f (x ∷ xs) zero y at = (x, refl, same_Some (f x) y at)
mapped_at f (x ∷ xs) (suc i) y at = mapped_at f xs i y at

-- ---- methods

-- the class with the method's number lists it
pub record IsListed (classes : List Class) (first_class number : ℕ) (method : Method) : Type 0 where
  pub place : ℕ
  pub class : Class
  pub is_class : slice_get classes place ≡ Some class
  pub number_is : method.class ≡ first_class + place
  pub lists : Contains class.methods number

pub listed_from : (names : List (List ℕ)) (first_class field first : ℕ) (files : List ClassFile) (i : ℕ) (method : Method) → slice_get (methods_from names first_class files) i ≡ Some method
    → IsListed (classes_from names field first files) first_class (first + i) method
listed_from names first_class field first [] i method at = absurd (none-some method at)
listed_from names first_class field first (file ∷ more) i method at =
    by_part (in_front_or_behind (map (method_of names first_class file.pool) file.methods) (methods_from names (first_class + 1) more) i method at)
    (λ j found. listed_from names (first_class + 1) (field + length file.fields) (first + length file.methods) more j method found)
  where
    by_part : (slice_get (map (method_of names first_class file.pool) file.methods) i ≡ Some method)
        ⊎ ((j : ℕ) × (i ≡ length (map (method_of names first_class file.pool) file.methods) + j) × (slice_get (methods_from names (first_class + 1) more) j ≡ Some method))
        → ((j : ℕ) → slice_get (methods_from names (first_class + 1) more) j ≡ Some method
        → IsListed (classes_from names (field + length file.fields) (first + length file.methods) more) (first_class + 1) (first + length file.methods + j) method)
        → IsListed (classes_from names field first (file ∷ more)) first_class (first + i) method
    by_part (inl front) further =
        let info = mapped_at (method_of names first_class file.pool) file.methods i method front in
        record {
          place = 0;
          class = class_of names field first file;
          is_class = refl;
          number_is = sym (ap (λ (m : Method). m.class) info.2) ∙ (omega arith);
          lists = counted first (length file.methods) i (slice_get_within file.methods i info.0 info.1);
        }
    by_part (inr (j, is, found)) further =
        let rest = further j found in
        record {
          place = suc rest.place;
          class = rest.class;
          is_class = rest.is_class;
          number_is = rest.number_is ∙ (omega arith);
          lists = subst (λ (k : ℕ). Contains rest.class.methods k) (omega (arith, is, length-map file.methods (method_of names first_class file.pool))) rest.lists;
        }

-- ---- fields

-- the field with that number is one of the file of a class
pub record IsOfFile (files : List ClassFile) (fields : List Field) (place i : ℕ) (class : Class) : Type 0 where
  pub file : ClassFile
  pub is_file : slice_get files place ≡ Some file
  pub flags_are : class.flags ≡ file.flags
  pub info : FieldInfo
  pub is_own : Contains file.fields info
  pub number : ℕ
  pub is_field : slice_get fields i ≡ Some (field_of number file.pool info)

fields_of_file : (names : List (List ℕ)) (first_class first method : ℕ) (files : List ClassFile) (place f : ℕ) (class : Class) → slice_get (classes_from names first method files) place ≡ Some class
    → Contains class.fields f → (i : ℕ) × (f ≡ first + i) × IsOfFile files (fields_from first_class files) place i class
fields_of_file names first_class first method [] place f class at among = absurd (none-some class at)
fields_of_file names first_class first method (file ∷ more) zero f class at among =
    let among_own : Contains (count_from first (length file.fields)) f = subst (λ (own : Class). Contains own.fields f) (sym (same_Some (class_of names first method file) class at)) among in
    let counted_at = uncounted first (length file.fields) f among_own in
    let info = item_at file.fields counted_at.0 counted_at.1 in (
      counted_at.0,
      counted_at.2,
      record {
        file = file;
        is_file = refl;
        flags_are = sym (ap (λ (own : Class). own.flags) (same_Some (class_of names first method file) class at));
        info = info.0;
        is_own = contains_at file.fields counted_at.0 info.0 info.1;
        number = first_class;
        is_field = front_kept (map (field_of first_class file.pool) file.fields) (fields_from (first_class + 1) more) counted_at.0 (field_of first_class file.pool info.0)
            (slice_get-map (field_of first_class file.pool) file.fields counted_at.0 ∙ ap (option_map (field_of first_class file.pool)) info.1);
      },
    )
fields_of_file names first_class first method (file ∷ more) (suc place) f class at among =
    let rest = fields_of_file names (first_class + 1) (first + length file.fields) (method + length file.methods) more place f class at among in (
      length file.fields + rest.0,
      rest.1 ∙ (omega arith),
      record {
        file = rest.2.file;
        is_file = rest.2.is_file;
        flags_are = rest.2.flags_are;
        info = rest.2.info;
        is_own = rest.2.is_own;
        number = rest.2.number;
        is_field = ap (λ (k : ℕ). slice_get (fields_from first_class (file ∷ more)) k) (ap (λ (n : ℕ). n + rest.0) (sym (length-map file.fields (field_of first_class file.pool))))
            ∙ item_behind (map (field_of first_class file.pool) file.fields) (fields_from (first_class + 1) more) rest.0 ∙ rest.2.is_field;
      },
    )

-- ---- interfaces

pub neither : (a b : Bool) → (a || b) ≡ false → (a ≡ false) × (b ≡ false)
neither true b e = absurd (cc)
neither false b e = (refl, e)

pub none_of : {X : Type 0} (test : X → Bool) (xs : List X) (x : X) → list_any test xs ≡ false → Contains xs x → test x ≡ false
none_of test [] x none among = absurd (none_there x among)
none_of test (y ∷ ys) x none among =
    let both = neither (test y) (list_any test ys) none in
    elim (head_or_behind y ys x among) [
      | inl same ↦ subst (λ z. test z ≡ false) same both.0
      | inr more ↦ none_of test ys x both.1 more
    ]

static_of : (b : Bool) → not b ≡ false → b ≡ true
static_of true e = refl
static_of false e = absurd (cc)

plain_body : (file : ClassFile) → has_interface_body file ≡ false → has_flag interface_flag file.flags ≡ true → (info : FieldInfo) → Contains file.fields info → has_flag static_flag info.flags ≡ true
plain_body file none flag info among =
    static_of (has_flag static_flag info.flags) (none_of is_of_instances file.fields info (neither (list_any has_code file.methods) (list_any is_of_instances file.fields) (second _ none flag)).1 among)
  where
    second : (a : Bool) {b : Bool} → (a && b) ≡ false → a ≡ true → b ≡ false
    second true e t = e
    second false e t = absurd (cc)

pub no_body : (classes : List ClassFile) → HasNoFault classes → (c : ℕ) (file : ClassFile) → slice_get classes c ≡ Some file → has_interface_body file ≡ false
no_body classes none c file at = by_test (has_interface_body file) refl
  where
    by_test : (b : Bool) → has_interface_body file ≡ b → has_interface_body file ≡ false
    by_test false is = is
    by_test true is = absurd (none InterfaceBody c (subst (λ (o : Option ClassFile). IsSomeAnd o (λ class. has_interface_body class ≡ true)) (sym at) is))

-- ---- the program of files

pub method_listed : (files : List ClassFile) (m : ℕ) (method : Method) → method_at (program_of files) m ≡ Some method → Contains (methods_of (program_of files) method.class) m
unfolding program_among
method_listed files m method at =
    let is = listed_from (map this_name (linked_classes files)) 0 0 0 (linked_classes files) m method at in
    let class_there : class_at (program_of files) method.class ≡ Some is.class = ap (λ (k : ℕ). class_at (program_of files) k) (is.number_is ∙ (omega arith)) ∙ is.is_class in
    subst (λ (o : Option Class). Contains (methods_in o) m) (sym class_there) (subst (λ (k : ℕ). Contains is.class.methods k) (omega arith) is.lists)

interface_static : (files : List ClassFile) → HasNoFault (linked_classes files) → (c f : ℕ) (class : Class) (field : Field) → class_at (program_of files) c ≡ Some class
    → is_interface (program_of files) (OfClass c) ≡ true → Contains class.fields f → slice_get (program_of files).fields f ≡ Some field → has_flag static_flag field.flags ≡ true
unfolding program_among
interface_static files none c f class field at flag among is_field =
    let found = fields_of_file (map this_name (linked_classes files)) 0 0 0 (linked_classes files) c f class at among in
    let own = found.2 in
    let flag_is : has_flag interface_flag own.file.flags ≡ true = ap (has_flag interface_flag) (sym own.flags_are) ∙ sym (ap (λ (o : Option Class). is_interface_class o) at) ∙ flag in
    let same : field_of own.number own.file.pool own.info ≡ field =
    same_Some (field_of own.number own.file.pool own.info) field (sym own.is_field ∙ ap (λ (k : ℕ). slice_get (program_of files).fields k) (omega (arith, found.1)) ∙ is_field) in
    ap (λ (known : Field). has_flag static_flag known.flags) (sym same)
    ∙ plain_body own.file (no_body (linked_classes files) none c own.file own.is_file) flag_is own.info own.is_own

pub sound_members : (files : List ClassFile) → HasNoFault (linked_classes files) → HasSoundMembers (program_of files)
sound_members files none = record {
  listed = method_listed files;
  interface_fields = interface_static files none;
  object_fields = object_listing (program_of files) (begins_with_prelude files);
}
