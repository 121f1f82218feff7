-- The pool of a class has the names that the lines of its parts spell (JVM Specification SE 8, 4.1, 4.5, 4.6, 4.7.3), and
-- the entries that its instructions name (6.5).
use Rattle.std.specs.Prelude.{◌≡◌, ◌⊎◌, ℕ, List, Option, Some, None, IsSome}
use Rattle.std.specs.List.{AllByRecursion}
use Rattle.jo_insn.specs.declared.instructions.Insn.{Insn}
use Rattle.jo_insn.specs.declared.instructions.Insn.TheVariants.{Pooled}
use Rattle.class_pool.specs.declared.entries.PoolEntry.{PoolEntry}
use Rattle.class_pool.specs.declared.entries.PoolEntry.TheVariants.{Integer, Text, Class, FieldRef, MethodRef, InterfaceMethodRef}
use Rattle.class_pool.specs.declared.classes.ClassFile.{ClassFile}
use Rattle.class_pool.specs.declared.classes.FieldInfo.{FieldInfo}
use Rattle.class_pool.specs.declared.classes.MethodInfo.{MethodInfo}
use Rattle.class_pool.specs.declared.classes.CodeInfo.{CodeInfo}
use Rattle.class_pool.specs.declared.classes.RowInfo.{RowInfo}
use Rattle.jo_insn.specs.declared.jumps.Placed.{Placed}
use Rattle.class_pool.specs.Pool.{entry_at, utf8_at, class_name_at, desc_at}
use Rattle.class_dis.specs.Insns.{insns_of}
use Rattle.class_dis.specs.Words.{member_name_at}

abbrev pub HasClass : List PoolEntry → ℕ → Type 0
HasClass pool index = IsSome (class_name_at pool index)

-- the name and the descriptor of a field or a method
abbrev pub HasMember : List PoolEntry → ℕ → ℕ → Type 0
HasMember pool name desc = IsSome (utf8_at pool name) × IsSome (utf8_at pool desc)

-- the classes that rows catch; index 0 catches all
abbrev pub HasCaught : List PoolEntry → Option CodeInfo → Type 0
HasCaught pool None = Unit {0}
HasCaught pool (Some code) = AllByRecursion (λ (row : RowInfo). (row.catch_type ≡ 0) ⊎ HasClass pool row.catch_type) code.rows

pub record HasNames (c : ClassFile) : Type 0 where
  pub this_class : HasClass c.pool c.this_class
  pub super_class : HasClass c.pool c.super_class
  pub interfaces : AllByRecursion (HasClass c.pool) c.interfaces
  pub fields : AllByRecursion (λ (f : FieldInfo). HasMember c.pool f.name f.desc) c.fields
  pub methods : AllByRecursion (λ (m : MethodInfo). HasMember c.pool m.name m.desc × HasCaught c.pool m.code) c.methods

-- ---- what instructions name

-- the class of a member, its name and its descriptor
abbrev pub HasReference : List PoolEntry → ℕ → ℕ → Type 0
HasReference pool class type = HasClass pool class × IsSome (member_name_at pool type) × IsSome (desc_at pool type)

-- an entry of a kind that instructions name, and the names in it
abbrev pub HasEntry : List PoolEntry → Option PoolEntry → Type 0
HasEntry pool (Some (Integer n)) = Unit {0}
HasEntry pool (Some (Text text)) = IsSome (utf8_at pool text)
HasEntry pool (Some (Class name)) = IsSome (utf8_at pool name)
HasEntry pool (Some (FieldRef class type)) = HasReference pool class type
HasEntry pool (Some (MethodRef class type)) = HasReference pool class type
HasEntry pool (Some (InterfaceMethodRef class type)) = HasReference pool class type
HasEntry pool _ = ⊥

-- the entry that an instruction names, where it names one
abbrev pub HasOperand : List PoolEntry → Insn → Type 0
HasOperand pool (Pooled op index) = HasEntry pool (entry_at pool index)
HasOperand pool _ = Unit {0}

abbrev pub HasOperands : List PoolEntry → Option CodeInfo → Type 0
HasOperands pool None = Unit {0}
HasOperands pool (Some code) = AllByRecursion (λ (placed : Placed). HasOperand pool placed.insn) (insns_of code.bytes)
