-- Methods of a linked program: each that a class lists is of that class, and those of interfaces have no code.
use Rattle.std.proofs.Common.{◌≡◌, ◌∙◌, ℕ, zero, suc, ◌+◌, Bool, true, false, ◌&&◌, List, [], ◌∷◌, map, length, Option, Some, None, refl, sym, subst, ap, arith}
use Rattle.std.specs.Prelude.{slice_get, option_map, is_some}
use Rattle.std.specs.List.{Contains, list_any}
use Rattle.std.proofs.lemmas.List.{length-map}
use Rattle.std.proofs.lemmas.Option.{same_Some, none-some, slice_get-map}
use Rattle.jo_insn.specs.AccessFlags.{has_flag}
use Rattle.class_pool.specs.declared.classes.ClassFile.{ClassFile}
use Rattle.class_pool.specs.declared.classes.CodeInfo.{CodeInfo}
use Rattle.class_pool.specs.declared.classes.MethodInfo.{MethodInfo}
use Rattle.jo_prog.specs.declared.program.Class.{Class}
use Rattle.jo_prog.specs.declared.program.Code.{Code}
use Rattle.jo_prog.specs.declared.program.Method.{Method}
use Rattle.jo_prog.specs.declared.program.TypeRef.TheVariants.{Class as OfClass}
use Rattle.jo_prog.specs.Numbers.{count_from}
use Rattle.jo_prog.specs.Program.{class_at, method_at}
use Rattle.jo_prog.specs.Shapes.{is_interface, is_interface_class}
use Rattle.program_faults.specs.SuperFaults.{interface_flag}
use Rattle.linker.specs.Linking.{this_name, class_of, classes_from, code_of, method_of, methods_from, program_among, linked_classes, program_of}
use Rattle.linker.specs.LinkFaults.{has_code, is_of_instances}
use Rattle.linker.specs.LinkOrder.{HasNoFault}
use Rattle.linked_laws.proofs.Lists.{contains_at, item_behind}
use Rattle.linked_laws.proofs.MemberLemmas.{front_kept, uncounted, item_at, listed_from, none_of, neither, no_body}

-- the method with that number is one of the file of a class, and has the class's number
pub record IsMethodOf (names : List (List ℕ)) (files : List ClassFile) (methods : List Method) (first_class place i : ℕ) (class : Class) : Type 0 where
  pub file : ClassFile
  pub is_file : slice_get files place ≡ Some file
  pub flags_are : class.flags ≡ file.flags
  pub info : MethodInfo
  pub is_own : Contains file.methods info
  pub is_method : slice_get methods i ≡ Some (method_of names (first_class + place) file.pool info)

methods_of_file : (names : List (List ℕ)) (first_class field first : ℕ) (files : List ClassFile) (place m : ℕ) (class : Class) → slice_get (classes_from names field first files) place ≡ Some class
    → Contains class.methods m → (i : ℕ) × (m ≡ first + i) × IsMethodOf names files (methods_from names first_class files) first_class place i class
methods_of_file names first_class field first [] place m class at among = absurd (none-some class at)
methods_of_file names first_class field first (file ∷ more) zero m class at among =
    let among_own : Contains (count_from first (length file.methods)) m = subst (λ (own : Class). Contains own.methods m) (sym (same_Some (class_of names field first file) class at)) among in
    let counted_at = uncounted first (length file.methods) m among_own in
    let info = item_at file.methods counted_at.0 counted_at.1 in
    let own : slice_get (methods_from names first_class (file ∷ more)) counted_at.0 ≡ Some (method_of names first_class file.pool info.0) =
    front_kept (map (method_of names first_class file.pool) file.methods) (methods_from names (first_class + 1) more) counted_at.0 (method_of names first_class file.pool info.0)
    (slice_get-map (method_of names first_class file.pool) file.methods counted_at.0 ∙ ap (option_map (method_of names first_class file.pool)) info.1) in
    let number : first_class ≡ first_class + 0 = omega arith in (
      counted_at.0,
      counted_at.2,
      record {
        file = file;
        is_file = refl;
        flags_are = sym (ap (λ (own : Class). own.flags) (same_Some (class_of names field first file) class at));
        info = info.0;
        is_own = contains_at file.methods counted_at.0 info.0 info.1;
        is_method = own ∙ ap (λ (n : ℕ). Some (method_of names n file.pool info.0)) number;
      },
    )
methods_of_file names first_class field first (file ∷ more) (suc place) m class at among =
    let rest = methods_of_file names (first_class + 1) (field + length file.fields) (first + length file.methods) more place m class at among in
    let number : first_class + 1 + place ≡ first_class + suc place = omega arith in (
      length file.methods + rest.0,
      rest.1 ∙ (omega arith),
      record {
        file = rest.2.file;
        is_file = rest.2.is_file;
        flags_are = rest.2.flags_are;
        info = rest.2.info;
        is_own = rest.2.is_own;
        is_method = ap (λ (k : ℕ). slice_get (methods_from names first_class (file ∷ more)) k) (ap (λ (n : ℕ). n + rest.0) (sym (length-map file.methods (method_of names first_class file.pool))))
            ∙ item_behind (map (method_of names first_class file.pool) file.methods) (methods_from names (first_class + 1) more) rest.0 ∙ rest.2.is_method
            ∙ ap (λ (n : ℕ). Some (method_of names n rest.2.file.pool rest.2.info)) number;
      },
    )

module _ (files : List ClassFile) where
  abbrev names : List (List ℕ)
  names = map this_name (linked_classes files)

  -- a method that a class lists, by its file
  pub own_file : (c m : ℕ) (class : Class) (method : Method) → class_at (program_of files) c ≡ Some class → Contains class.methods m → method_at (program_of files) m ≡ Some method
      → (file : ClassFile) × (info : MethodInfo) × (slice_get (linked_classes files) c ≡ Some file) × (class.flags ≡ file.flags) × Contains file.methods info × (method ≡ method_of names c file.pool info)
  unfolding program_among
  own_file c m class method at among is =
      let found = methods_of_file names 0 0 0 (linked_classes files) c m class at among in
      let own = found.2 in
      let there : method_at (program_of files) m ≡ Some (method_of names (0 + c) own.file.pool own.info) = ap (λ (k : ℕ). method_at (program_of files) k) (omega (arith, found.1)) ∙ own.is_method in
      let number : 0 + c ≡ c = omega arith in
      (own.file, own.info, own.is_file, own.flags_are, own.is_own, same_Some method (method_of names (0 + c) own.file.pool own.info) (sym is ∙ there) ∙ ap (λ (n : ℕ). method_of names n own.file.pool own.info) number)

  pub listed_class : (c m : ℕ) (class : Class) (method : Method) → class_at (program_of files) c ≡ Some class → Contains class.methods m → method_at (program_of files) m ≡ Some method → method.class ≡ c
  listed_class c m class method at among is = ap (λ (x : Method). x.class) (own_file c m class method at among is).5

  -- the class of a method lists it
  pub record HasOwner (m : ℕ) (method : Method) : Type 0 where
    pub class : Class
    pub is_class : class_at (program_of files) method.class ≡ Some class
    pub lists : Contains class.methods m

  pub owner_of : (m : ℕ) (method : Method) → method_at (program_of files) m ≡ Some method → HasOwner m method
  unfolding program_among
  owner_of m method is =
      let own = listed_from names 0 0 0 (linked_classes files) m method is in
      record {
        class = own.class;
        is_class = ap (λ (k : ℕ). class_at (program_of files) k) (own.number_is ∙ (omega arith)) ∙ own.is_class;
        lists = subst (λ (k : ℕ). Contains own.class.methods k) (omega arith) own.lists;
      }

  pub interface_code : HasNoFault (linked_classes files) → (m : ℕ) (method : Method) (code : Code) → method_at (program_of files) m ≡ Some method → method.code ≡ Some code
      → is_interface (program_of files) (OfClass method.class) ≡ false
  interface_code none m method code is has = by_flag (is_interface (program_of files) (OfClass method.class)) refl
    where
      never : {X : Type 0} → false ≡ true → X
      never e = absurd (cc)

      second : (a : Bool) {b : Bool} → (a && b) ≡ false → a ≡ true → b ≡ false
      second true e t = e
      second false e t = absurd (cc)

      coded : (o : Option CodeInfo) (f : CodeInfo → Code) → is_some o ≡ false → option_map f o ≡ Some code → false ≡ true
      coded None f e h = absurd (cc)
      coded (Some info) f e h = sym e

      by_flag : (b : Bool) → is_interface (program_of files) (OfClass method.class) ≡ b → is_interface (program_of files) (OfClass method.class) ≡ false
      by_flag false e = e
      by_flag true e =
          let owner = owner_of m method is in
          let own = own_file method.class m owner.class method owner.is_class owner.lists is in
          let flag : has_flag interface_flag own.0.flags ≡ true = ap (has_flag interface_flag) (sym own.3) ∙ sym (ap (λ (o : Option Class). is_interface_class o) owner.is_class) ∙ e in
          let bare = neither (list_any has_code own.0.methods) (list_any is_of_instances own.0.fields) (second (has_flag interface_flag own.0.flags) (no_body (linked_classes files) none method.class own.0 own.2) flag) in
          let no_code : has_code own.1 ≡ false = none_of has_code own.0.methods own.1 bare.0 own.4 in
          never (coded own.1.code (code_of names own.0.pool) no_code (ap (λ (x : Method). x.code) (sym own.5) ∙ has))
