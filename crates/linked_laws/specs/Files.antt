-- What linking asks of class files beyond its own faults: each is so in a class file that was read (JVM Specification SE 8, 4.1, 4.4.4,
-- 4.6, 4.7.2, 4.7.3 and 4.9.1).
use Rattle.std.specs.Prelude.{◌≡◌, ℕ, ◌<◌, ◌^◌, true, List, length, Option, Some, None}
use Rattle.std.specs.List.{AllByRecursion}
use Rattle.std.specs.Option.{IsSomeAnd}
use Rattle.class_pool.specs.declared.entries.PoolEntry.{PoolEntry}
use Rattle.class_pool.specs.declared.classes.ClassFile.{ClassFile}
use Rattle.class_pool.specs.declared.classes.FieldInfo.{FieldInfo}
use Rattle.class_pool.specs.declared.classes.MethodInfo.{MethodInfo}
use Rattle.class_pool.specs.declared.classes.CodeInfo.{CodeInfo}
use Rattle.jo_insn.specs.declared.jumps.Placed.{Placed}
use Rattle.class_pool.specs.Pool.{entry_at, utf8_at}
use Rattle.class_pool.specs.ClassGrammar.{IsClassIndex, RefersWell, AreInsnsFrom, JumpsWell, IsRow, HasBody}
use Rattle.class_pool.specs.ClassOrder.{fits_constant}
use Rattle.class_pool.specs.Writing.{FitsEntry}

-- the constant that a field begins with is of its type
abbrev pub HasFittingConstant : List PoolEntry → FieldInfo → Type 0
HasFittingConstant pool field = (k : ℕ) → field.constant ≡ Some k → IsSomeAnd (utf8_at pool field.desc) (λ text. fits_constant text (entry_at pool k) ≡ true)

-- Code with instructions that stand one behind another up to its end, and jump and are caught where one stands.
pub record HasWholeCode (pool : List PoolEntry) (c : CodeInfo) : Type 0 where
  pub insns : List Placed
  pub in_bytes : AllByRecursion (λ byte. byte < 2 ^ 8) c.bytes
  pub not_empty : 0 < length c.bytes
  pub short : length c.bytes < 2 ^ 16
  pub instructions : AreInsnsFrom pool c.bytes 0 insns
  pub jumps : AllByRecursion (JumpsWell c.bytes insns) insns
  pub rows : AllByRecursion (IsRow pool c.bytes insns) c.rows

abbrev pub HasWholeCodeIfAny : List PoolEntry → Option CodeInfo → Type 0
HasWholeCodeIfAny pool None = Unit {0}
HasWholeCodeIfAny pool (Some c) = HasWholeCode pool c

abbrev pub HasWholeCodes : ClassFile → Type 0
HasWholeCodes file = AllByRecursion (λ (method : MethodInfo). HasWholeCodeIfAny file.pool method.code) file.methods

abbrev pub HasBodies : ClassFile → Type 0
HasBodies file = AllByRecursion (λ (method : MethodInfo). HasBody method.flags method.code) file.methods

-- it names a superclass that is no array, the entries of its pool fit their fields and refer to what they may, and the constants of its
-- own fields are of their types; the code of its methods is whole, and a method without code is native or abstract
pub record IsSoundFile (file : ClassFile) : Type 0 where
  pub superclass : IsClassIndex file.pool file.super_class
  pub entries : AllByRecursion FitsEntry file.pool
  pub references : AllByRecursion (RefersWell file.pool) file.pool
  pub constants : AllByRecursion (HasFittingConstant file.pool) file.fields
  pub codes : HasWholeCodes file
  pub bodies : HasBodies file

abbrev pub AreSoundFiles : List ClassFile → Type 0
AreSoundFiles files = AllByRecursion IsSoundFile files
