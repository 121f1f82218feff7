-- What is read as a class has the entries that its instructions name.
use Rattle.std.proofs.Common.{◌≡◌, ℕ, zero, suc, Bool, true, false, nat_lt, ◌==◌, if◌then◌else◌, List, [], ◌∷◌, length, Option, Some, None, IfSome, slice_get, refl, sym, subst, arith}
use Rattle.std.specs.Prelude.{IsSome, IsSomeAnd}
use Rattle.std.specs.List.{AllByRecursion}
use Rattle.jo_insn.specs.declared.instructions.Insn.{Insn}
use Rattle.jo_insn.specs.declared.instructions.Insn.TheVariants.{Pooled}
use Rattle.jo_insn.specs.Instructions.{decoded}
use Rattle.jo_insn.proofs.Numbers.{are_bytes}
use Rattle.jo_text.specs.Descriptors.{IsFieldDesc, IsMethodDesc}
use Rattle.class_pool.specs.declared.entries.PoolEntry.{PoolEntry}
use Rattle.class_pool.specs.declared.entries.PoolEntry.TheVariants.{Integer, Text, Class, FieldRef, MethodRef, InterfaceMethodRef, NameAndType}
use Rattle.class_pool.specs.declared.classes.ClassFile.{ClassFile}
use Rattle.class_pool.specs.declared.classes.MethodInfo.{MethodInfo}
use Rattle.class_pool.specs.declared.classes.CodeInfo.{CodeInfo}
use Rattle.class_pool.specs.declared.faults.ClassCode.{ClassCode}
use Rattle.class_pool.specs.Pool.{entry_at, class_name_of, desc_of, desc_at}
use Rattle.jo_insn.specs.declared.jumps.Placed.{Placed}
use Rattle.class_pool.specs.Code.{dims_at, has_dims_that, constant_fault, field_fault, method_fault, interface_fault, class_method_fault, index_unless, pooled_fault, insn_fault}
use Rattle.class_pool.specs.ClassGrammar.{IsClassEntry, RefersWell, AreInsnsFrom, ends, goes_on, SpellsCode, IsClass}
use Rattle.class_pool.proofs.GrammarBytes.{AllBytes, code_bytes}
use Rattle.class_pool.proofs.KeptAgain.{again}
use Rattle.class_dis.specs.Insns.{insns_from}
use Rattle.class_dis.specs.Words.{member_name_of}
use Rattle.class_dis.specs.Names.{HasReference, HasEntry, HasOperand, HasOperands}
use Rattle.class_dis.proofs.InsnSteps.{one_more}
use Rattle.class_dis.proofs.ListedWhole.{nothing_past, each_code}
use Rattle.class_dis.proofs.NamesThere.{is_there}

each_at : {A : Type 0} (P : A → Type 0) (xs : List A) (k : ℕ) → AllByRecursion P xs → IfSome (slice_get xs k) P
each_at P [] k all = tt
each_at P (x ∷ xs) zero all = all.0
each_at P (x ∷ xs) (suc k) all = each_at P xs k all.1

either : (P : Type 0) (test : Bool) (a b : Option ClassCode) → (a ≡ None → P) → (b ≡ None → P) → (if test then a else b) ≡ None → P
either P true a b p q none = p none
either P false a b p q none = q none

module _ (pool : List PoolEntry) (references : AllByRecursion (RefersWell pool) pool) where
  refers : (index : ℕ) → IfSome (entry_at pool index) (RefersWell pool)
  refers zero = tt
  refers (suc k) = each_at (RefersWell pool) pool k references

  -- ---- the names in an entry

  class_there : (entry : Option PoolEntry) → IfSome entry (RefersWell pool) → IsClassEntry entry → IsSome (class_name_of pool entry)
  class_there (Some (Class name)) well is = is_there _ _ well
  class_there _ well is = absurd is

  -- a NameAndType with a descriptor has a name
  name_there : (entry : Option PoolEntry) → IfSome entry (RefersWell pool) → IsSome (desc_of pool entry) → IsSome (member_name_of pool entry)
  name_there (Some (NameAndType name desc)) well is = is_there _ _ well.0
  name_there _ well is = is

  reference_there : (class type : ℕ) (P : List ℕ → Type 0) → IsClassEntry (entry_at pool class) × IsSomeAnd (desc_at pool type) P → HasReference pool class type
  reference_there class type P h =
      let desc : IsSome (desc_at pool type) = is_there (desc_at pool type) P h.1 in
      (class_there (entry_at pool class) (refers class) h.0, name_there (entry_at pool type) (refers type) desc, desc)

  -- ---- the entry that an instruction names

  constant_there : (index : ℕ) (entry : Option PoolEntry) → IfSome entry (RefersWell pool) → constant_fault index entry ≡ None → HasEntry pool entry
  constant_there index (Some (Integer n)) well none = tt
  constant_there index (Some (Text text)) well none = is_there _ _ well
  constant_there index _ well none = absurd (cc)

  field_there : (entry : Option PoolEntry) → IfSome entry (RefersWell pool) → field_fault pool entry ≡ None → HasEntry pool entry
  field_there (Some (FieldRef class type)) well none = reference_there class type IsFieldDesc well
  field_there _ well none = absurd (cc)

  method_there : (entry : Option PoolEntry) → IfSome entry (RefersWell pool) → method_fault pool entry ≡ None → HasEntry pool entry
  method_there (Some (MethodRef class type)) well none = reference_there class type IsMethodDesc well
  method_there _ well none = absurd (cc)

  class_method_there : (op : ℕ) (entry : Option PoolEntry) → IfSome entry (RefersWell pool) → class_method_fault op pool entry ≡ None → HasEntry pool entry
  class_method_there op (Some (MethodRef class type)) well none = reference_there class type IsMethodDesc well
  class_method_there op (Some (InterfaceMethodRef class type)) well none = reference_there class type IsMethodDesc well
  class_method_there op _ well none = absurd (cc)

  interface_there : (entry : Option PoolEntry) → IfSome entry (RefersWell pool) → interface_fault pool entry ≡ None → HasEntry pool entry
  interface_there (Some (InterfaceMethodRef class type)) well none = reference_there class type IsMethodDesc well
  interface_there _ well none = absurd (cc)

  dims_there : (test : ℕ → Bool) (index : ℕ) (entry : Option PoolEntry) → entry_at pool index ≡ entry → IfSome entry (RefersWell pool) → index_unless (has_dims_that test (dims_at pool index)) ≡ None → HasEntry pool entry
  dims_there test index (Some (Class name)) is well none = is_there _ _ well
  dims_there test index _ is well none = let none = rw is at none in absurd (cc)

  pooled_there : (op index : ℕ) → pooled_fault pool op index ≡ None → HasEntry pool (entry_at pool index)
  pooled_there op index =
      let entry : Option PoolEntry = entry_at pool index in
      let well : IfSome entry (RefersWell pool) = refers index in
      let P : Type 0 = HasEntry pool entry in
      either P (nat_lt op 20) _ _ (constant_there index entry well)
      (either P (nat_lt op 182) _ _ (field_there entry well)
      (either P (op == 182) _ _ (method_there entry well)
      (either P (nat_lt op 185) _ _ (class_method_there op entry well)
      (either P (op == 185) _ _ (interface_there entry well)
      (either P (op == 187) _ _ (dims_there (λ dims. dims == 0) index entry refl well)
      (either P (op == 189) _ _ (dims_there (λ dims. nat_lt dims 255) index entry refl well) (dims_there (λ _. true) index entry refl well)))))))

  insn_there : (insn : Insn) → insn_fault pool insn ≡ None → HasOperand pool insn
  insn_there (Pooled op index) none = pooled_there op index none
  insn_there _ none = tt

  -- ---- those of some code

  abbrev Each : List Placed → Type 0
  Each insns = AllByRecursion (λ (placed : Placed). HasOperand pool placed.insn) insns

  insns_there : (code : List ℕ) (k : ℕ) {pc : ℕ} {insns : List Placed} → AreInsnsFrom pool code pc insns → Each (insns_from k code pc)
  unfolding insns_from
  insns_there code k (ends pc end) = subst Each (sym (nothing_past pool code pc k (decoded code pc) (omega arith) refl)) tt
  insns_there code zero (goes_on pc next insn more is sound others) = tt
  insns_there code (suc k) (goes_on pc next insn more is sound others) = subst Each (sym (one_more code k pc next insn is)) (insn_there insn sound, insns_there code k others)

  code_there : (code : CodeInfo) (content : List ℕ) → AllBytes content → SpellsCode pool code content → HasOperands pool (Some code)
  code_there code content all h =
      let bytes = are_bytes h.code (code_bytes pool code content all h) in
      insns_there code.bytes (length code.bytes) (again pool h.code bytes code.bytes [] h.instructions refl h.kept)

pub operands_there : (bytes : List ℕ) (c : ClassFile) → AllBytes bytes → IsClass bytes c → AllByRecursion (λ (method : MethodInfo). HasOperands c.pool method.code) c.methods
operands_there bytes c all h = each_code bytes c all h (HasOperands c.pool) tt (code_there c.pool h.references)
