-- The instructions of the program of files.
use Rattle.std.proofs.Common.{◌≡◌, ◌∙◌, ℕ, zero, suc, ◌<◌, ◌^◌, Bool, true, false, ◌&&◌, List, [], ◌∷◌, length, Option, Some, None, Result, Ok, Err, refl, sym, subst, ap, ◌⊎◌, inl, inr}
use Rattle.std.specs.Prelude.{◌==◌, is_none, nat_lt, slice_get, slice_index, if◌then◌else◌, option_map, option_and_then}
use Rattle.std.specs.List.{Contains, AllByRecursion, list_all}
use Rattle.std.proofs.lemmas.Bool.{eqb-true, ltb-true}
use Rattle.std.proofs.lemmas.Option.{none-some, same_Some}
use Rattle.jo_insn.specs.declared.instructions.Insn.TheVariants.{Pooled}
use Rattle.jo_insn.specs.declared.jumps.Placed.{Placed}
use Rattle.class_pool.specs.declared.entries.PoolEntry.{PoolEntry}
use Rattle.class_pool.specs.declared.entries.PoolEntry.TheVariants.{Second, Utf8, Integer, Float, Long, Double, Class as ClassEntry, Text as TextEntry, FieldRef, MethodRef, InterfaceMethodRef, NameAndType, MethodHandle, MethodType, InvokeDynamic}
use Rattle.class_pool.specs.declared.classes.ClassFile.{ClassFile}
use Rattle.class_pool.specs.declared.classes.CodeInfo.{CodeInfo}
use Rattle.class_pool.specs.declared.classes.MethodInfo.{MethodInfo}
use Rattle.class_pool.specs.declared.faults.ClassCode.{ClassCode}
use Rattle.class_pool.specs.declared.faults.ClassCode.TheVariants.{PoolIndex}
use Rattle.class_pool.specs.ClassGrammar.{AreInsnsFrom, ends, goes_on}
use Rattle.class_pool.specs.Code.{dims_of, insn_fault, insns_of, first_bad_jump, row_fault}
use Rattle.class_pool.specs.Pool.{class_name_of, class_name_at}
use Rattle.class_pool.proofs.GrammarInsns.{insns_of_grammar}
use Rattle.class_pool.proofs.GrammarJumps.{no_bad_jump, no_bad_row}
use Rattle.jo_prog.specs.declared.program.Class.{Class}
use Rattle.jo_prog.specs.declared.program.Code.{Code}
use Rattle.jo_prog.specs.declared.program.Method.{Method}
use Rattle.jo_prog.specs.declared.program.Operand.{Operand}
use Rattle.jo_prog.specs.declared.program.Operand.TheVariants.{Unused, OfType}
use Rattle.jo_prog.specs.declared.program.TypeRef.{TypeRef}
use Rattle.jo_prog.specs.declared.program.TypeRef.TheVariants.{Class as OfClass}
use Rattle.jo_prog.specs.Program.{class_at, method_at, operand_at}
use Rattle.jo_prog.specs.Sites.{insns_in}
use Rattle.jo_prog.proofs.WalkLemmas.{head_or_behind, none_there, at_recursion}
use Rattle.prelude.specs.Classes.{prelude_classes}
use Rattle.linker.specs.Linking.{number_of, array_of, type_of, of_type, operand_of, operands_of, code_of, program_among, linked_classes, program_of}
use Rattle.linker.specs.LinkFaults.{class_names}
use Rattle.linked_laws.specs.Codes.{HasWholeInsns, HasSoundInsns}
use Rattle.linked_laws.specs.Files.{HasWholeCode, HasWholeCodeIfAny, HasWholeCodes, IsSoundFile, AreSoundFiles}
use Rattle.linked_laws.proofs.Lists.{all_append, each_at, all_mapped, all_weaker}
use Rattle.linked_laws.proofs.FileLemmas.{no_array}
use Rattle.linked_laws.proofs.MethodFileLemmas.{own_file, owner_of}
use Rattle.linked_laws.proofs.PoolLemmas.{file_of, IsOfEntry, entry_of}
use Rattle.linked_laws.proofs.PreludeSpelled.{Spelled, are_whole, is_whole_if_any, spelled_of, prelude_spelled, prelude_is_spelled}
use Rattle.linked_laws.proofs.WholeLemmas.{insns_are, whole_insns}

and_both : (a b : Bool) → (a && b) ≡ true → (a ≡ true) × (b ≡ true)
and_both true b h = (refl, h)
and_both false b h = absurd (cc)

-- ---- the prelude's code is whole

no_fault : {X : Type 0} (o : Option X) → is_none o ≡ true → o ≡ None
no_fault None is = refl
no_fault (Some x) is = absurd (cc)

all_below : (bytes : List ℕ) → list_all (λ byte. nat_lt byte (2 ^ 8)) bytes ≡ true → AllByRecursion (λ byte. byte < 2 ^ 8) bytes
all_below [] test = tt
all_below (byte ∷ more) test =
    let both = and_both (nat_lt byte (2 ^ 8)) (list_all (λ other. nat_lt other (2 ^ 8)) more) test in
    (ltb-true byte (2 ^ 8) both.0, all_below more both.1)

read_whole : (pool : List PoolEntry) (c : CodeInfo) (read : Result (List Placed) (ClassCode × ℕ)) → insns_of pool c.bytes ≡ read → are_whole pool c read ≡ true → HasWholeCode pool c
read_whole pool c (Err fault) is test = absurd (cc)
read_whole pool c (Ok insns) is test =
    let whole = and_both ((nat_lt 0 (length c.bytes) && nat_lt (length c.bytes) (2 ^ 16)) && (is_none (first_bad_jump c.bytes insns insns) && is_none (row_fault pool (length c.bytes) insns 0 c.rows))) (list_all (λ byte. nat_lt byte (2 ^ 8)) c.bytes) test in
    let both = and_both (nat_lt 0 (length c.bytes) && nat_lt (length c.bytes) (2 ^ 16)) _ whole.0 in
    let sizes = and_both (nat_lt 0 (length c.bytes)) (nat_lt (length c.bytes) (2 ^ 16)) both.0 in
    let faults = and_both (is_none (first_bad_jump c.bytes insns insns)) (is_none (row_fault pool (length c.bytes) insns 0 c.rows)) both.1 in
    record {
      insns = insns;
      in_bytes = all_below c.bytes whole.1;
      not_empty = ltb-true 0 (length c.bytes) sizes.0;
      short = ltb-true (length c.bytes) (2 ^ 16) sizes.1;
      instructions = (insns_of_grammar pool c.bytes insns).0 is;
      jumps = (no_bad_jump c.bytes insns insns).0 (no_fault (first_bad_jump c.bytes insns insns) faults.0);
      rows = (no_bad_row pool c.bytes insns 0 c.rows).0 (no_fault (row_fault pool (length c.bytes) insns 0 c.rows) faults.1);
    }

any_whole : (pool : List PoolEntry) (o : Option CodeInfo) → is_whole_if_any pool o ≡ true → HasWholeCodeIfAny pool o
any_whole pool None test = tt
any_whole pool (Some c) test = read_whole pool c (insns_of pool c.bytes) refl test

all_whole : (pool : List PoolEntry) (methods : List MethodInfo) → list_all (λ (method : MethodInfo). is_whole_if_any pool method.code) methods ≡ true
    → AllByRecursion (λ (method : MethodInfo). HasWholeCodeIfAny pool method.code) methods
all_whole pool [] test = tt
all_whole pool (method ∷ more) test =
    let both = and_both (is_whole_if_any pool method.code) (list_all (λ (other : MethodInfo). is_whole_if_any pool other.code) more) test in
    (any_whole pool method.code both.0, all_whole pool more both.1)

whole_spelled : AllByRecursion (λ (s : Spelled). s.whole ≡ true) prelude_spelled
whole_spelled = (refl, (refl, (refl, (refl, (refl, (refl, (refl, (refl, (refl, (refl, (refl, (refl, (refl, (refl, (refl, (refl, (refl, (refl, (refl, (refl, (refl, (refl, (refl, tt)))))))))))))))))))))))

prelude_whole : AllByRecursion HasWholeCodes prelude_classes
prelude_whole =
    all_weaker (λ (file : ClassFile). (spelled_of file).whole ≡ true) HasWholeCodes (λ file is. all_whole file.pool file.methods is) prelude_classes
    (all_mapped (λ (s : Spelled). s.whole ≡ true) spelled_of prelude_classes (subst (AllByRecursion (λ (s : Spelled). s.whole ≡ true)) (sym prelude_is_spelled) whole_spelled))

-- ---- what a new names

insn_sound : (pool : List PoolEntry) (code : List ℕ) {pc : ℕ} {insns : List Placed} → AreInsnsFrom pool code pc insns → (placed : Placed) → Contains insns placed → insn_fault pool placed.insn ≡ None
insn_sound pool code (ends pc end) placed among = absurd (none_there placed among)
insn_sound pool code (goes_on pc next insn more is sound others) placed among = elim (head_or_behind (record { pc = pc; insn = insn; next = next }) more placed among) [
  | inl same ↦ subst (λ (p : Placed). insn_fault pool p.insn ≡ None) same sound
  | inr later ↦ insn_sound pool code others placed later
]

no_dims : (pool : List PoolEntry) (index : ℕ) → class_name_at pool index ≡ None → insn_fault pool (Pooled 187 index) ≡ None → ⊥
no_dims pool index is sound = absurd (faulty is sound)
  where
    faulty : class_name_at pool index ≡ None → insn_fault pool (Pooled 187 index) ≡ None → ⊥
    faulty at none = differ (sym (fault_is at) ∙ none)
      where
        fault_is : class_name_at pool index ≡ None → insn_fault pool (Pooled 187 index) ≡ Some PoolIndex
        fault_is e = rw e refl

        differ : ◌≡◌ {A = Option ClassCode} (Some PoolIndex) None → ⊥
        differ e = absurd (none-some PoolIndex (sym e))

named_dims : (pool : List PoolEntry) (index : ℕ) (name : List ℕ) → class_name_at pool index ≡ Some name → insn_fault pool (Pooled 187 index) ≡ None → dims_of name ≡ 0
named_dims pool index name is sound = by_test (dims_of name == 0) refl (sym fault_is ∙ sound)
  where
    fault_is : insn_fault pool (Pooled 187 index) ≡ (if dims_of name == 0 then None else Some PoolIndex)
    fault_is = rw is refl

    by_test : (b : Bool) → (dims_of name == 0) ≡ b → (if b then None else Some PoolIndex) ≡ None → dims_of name ≡ 0
    by_test true e none = eqb-true (dims_of name) 0 e
    by_test false e none = absurd (none-some PoolIndex (sym none))

type_class : (names : List (List ℕ)) (name : List ℕ) (type : TypeRef) → dims_of name ≡ 0 → of_type (type_of names name) ≡ OfType type → (c : ℕ) × (type ≡ OfClass c)
type_class names name type plain is = by_test (slice_index name 0 == 91) (no_array name plain) is
  where
    by_number : (o : Option ℕ) → of_type (option_map (λ c. OfClass c) o) ≡ OfType type → (c : ℕ) × (type ≡ OfClass c)
    by_number None e = absurd (cc)
    by_number (Some c) e = (c, same_type e)
      where
        same_type : OfType (OfClass c) ≡ OfType type → type ≡ OfClass c
        same_type h = cc

    by_test : (b : Bool) → b ≡ false → of_type (if b then array_of name else option_map (λ c. OfClass c) (number_of names name)) ≡ OfType type → (c : ℕ) × (type ≡ OfClass c)
    by_test true e h = absurd (cc)
    by_test false e h = by_number (number_of names name) h

entry_class : (names : List (List ℕ)) (pool : List PoolEntry) (name : List ℕ) (type : TypeRef) (entry : PoolEntry) → class_name_of pool (Some entry) ≡ Some name → dims_of name ≡ 0
    → operand_of names pool entry ≡ OfType type → (c : ℕ) × (type ≡ OfClass c)
entry_class names pool name type Second named plain is = absurd (none-some name named)
entry_class names pool name type (Utf8 text) named plain is = absurd (none-some name named)
entry_class names pool name type (Integer n) named plain is = absurd (none-some name named)
entry_class names pool name type (Float bits) named plain is = absurd (none-some name named)
entry_class names pool name type (Long bits) named plain is = absurd (none-some name named)
entry_class names pool name type (Double bits) named plain is = absurd (none-some name named)
entry_class names pool name type (TextEntry text) named plain is = absurd (none-some name named)
entry_class names pool name type (FieldRef class t) named plain is = absurd (none-some name named)
entry_class names pool name type (MethodRef class t) named plain is = absurd (none-some name named)
entry_class names pool name type (InterfaceMethodRef class t) named plain is = absurd (none-some name named)
entry_class names pool name type (NameAndType n desc) named plain is = absurd (none-some name named)
entry_class names pool name type (MethodHandle kind target) named plain is = absurd (none-some name named)
entry_class names pool name type (MethodType desc) named plain is = absurd (none-some name named)
entry_class names pool name type (InvokeDynamic method t) named plain is = absurd (none-some name named)
entry_class names pool name type (ClassEntry index) named plain is = type_class names name type plain (ap (λ (o : Option (List ℕ)). of_type (option_and_then (type_of names) o)) (sym named) ∙ is)

new_class : (names : List (List ℕ)) (file : ClassFile) (index : ℕ) (type : TypeRef) (operand : Operand) → insn_fault file.pool (Pooled 187 index) ≡ None → slice_get (operands_of names file) index ≡ Some operand
    → operand ≡ OfType type → (c : ℕ) × (type ≡ OfClass c)
new_class names file zero type operand sound at is = absurd (no_dims file.pool 0 refl sound)
new_class names file (suc j) type operand sound at is = by_entry (entry_of names file 1 file.pool j operand at)
  where
    by_entry : (Unused ≡ operand) ⊎ IsOfEntry names file 1 file.pool j operand → (c : ℕ) × (type ≡ OfClass c)
    by_entry (inl same) = absurd (differ (same ∙ is))
      where
        differ : Unused ≡ OfType type → ⊥
        differ e = absurd (cc)
    by_entry (inr own) = by_name (class_name_at file.pool (suc j)) refl
      where
        by_name : (o : Option (List ℕ)) → class_name_at file.pool (suc j) ≡ o → (c : ℕ) × (type ≡ OfClass c)
        by_name None e = absurd (no_dims file.pool (suc j) e sound)
        by_name (Some name) e =
            entry_class names file.pool name type own.entry (ap (class_name_of file.pool) (sym own.is_entry) ∙ e) (named_dims file.pool (suc j) name e sound) (own.operand_is ∙ is)

-- ---- the program of files

code_in : (names : List (List ℕ)) (pool : List PoolEntry) (o : Option CodeInfo) (code : Code) → option_map (code_of names pool) o ≡ Some code → HasWholeCodeIfAny pool o
    → (c : CodeInfo) × HasWholeCode pool c × (code_of names pool c ≡ code)
code_in names pool None code is whole = absurd (none-some code is)
code_in names pool (Some c) code is whole = (c, whole, same_Some (code_of names pool c) code is)

module _ (files : List ClassFile) (sound : AreSoundFiles files) where
  abbrev names : List (List ℕ)
  names = class_names (linked_classes files)

  all_codes : AllByRecursion HasWholeCodes (linked_classes files)
  all_codes = all_append HasWholeCodes prelude_classes files prelude_whole (all_weaker IsSoundFile HasWholeCodes (λ file is. is.codes) files sound)

  pub sound_insns : (m : ℕ) (method : Method) (code : Code) → method_at (program_of files) m ≡ Some method → method.code ≡ Some code → HasSoundInsns (program_of files) m code
  unfolding program_among
  sound_insns m method code is_method has_code =
      let owner = owner_of files m method is_method in
      let own = own_file files method.class m owner.class method owner.is_class owner.lists is_method in
      let codes : HasWholeCodes own.0 = each_at HasWholeCodes (linked_classes files) method.class own.0 all_codes own.2 in
      let in_file = code_in names own.0.pool own.1.code code (sym (ap (λ (x : Method). x.code) own.5) ∙ has_code) (at_recursion (λ (info : MethodInfo). HasWholeCodeIfAny own.0.pool info.code) own.0.methods own.1 codes own.4) in
      let by_file = file_of names 0 0 (linked_classes files) method.class owner.class owner.is_class in
      let same_file : by_file.file ≡ own.0 = same_Some by_file.file own.0 (sym by_file.is_file ∙ own.2) in
      let operands : owner.class.operands ≡ operands_of names own.0 = by_file.operands_are ∙ ap (operands_of names) same_file in
      let operand_is : (index : ℕ) → operand_at (program_of files) m index ≡ slice_get (operands_of names own.0) index = λ index.
      ap (λ (o : Option Method). option_and_then (λ (class : Class). slice_get class.operands index) (option_and_then (λ (x : Method). class_at (program_of files) x.class) o)) is_method
      ∙ ap (λ (o : Option Class). option_and_then (λ (class : Class). slice_get class.operands index) o) owner.is_class ∙ ap (λ (os : List Operand). slice_get os index) operands in
      record {
        bytes = subst (λ (x : Code). AllByRecursion (λ byte. byte < 2 ^ 8) x.bytes) in_file.2 in_file.1.in_bytes;
        whole = subst HasWholeInsns in_file.2 (whole_insns names own.0.pool in_file.0 in_file.1);
        new_classes = λ pc next index type among is.
            let among_own : Contains (insns_in in_file.0.bytes) (record { pc = pc; insn = Pooled 187 index; next = next }) =
            subst (λ (x : Code). Contains (insns_in x.bytes) (record { pc = pc; insn = Pooled 187 index; next = next })) (sym in_file.2) among in
            let among_whole = subst (λ (xs : List Placed). Contains xs (record { pc = pc; insn = Pooled 187 index; next = next })) (sym (insns_are names own.0.pool in_file.0 in_file.1)) among_own in
            new_class names own.0 index type (OfType type) (insn_sound own.0.pool in_file.0.bytes in_file.1.instructions (record { pc = pc; insn = Pooled 187 index; next = next }) among_whole) (sym (operand_is index) ∙ is) refl;
      }
