-- Which classes the format has room for (JVM Specification SE 8, 4.1 to 4.7): each number fits its field, each list its count,
-- and the pool has the names of the attributes that are kept.
use Rattle.std.specs.Prelude.{◌≡◌, ℕ, ◌^◌, ◌<◌, List, length, Option, Some, None, codes}
use Rattle.std.specs.List.{AllByRecursion}
use Rattle.class_pool.specs.declared.entries.PoolEntry.{PoolEntry}
use Rattle.class_pool.specs.declared.classes.ClassFile.{ClassFile}
use Rattle.class_pool.specs.declared.classes.FieldInfo.{FieldInfo}
use Rattle.class_pool.specs.declared.classes.MethodInfo.{MethodInfo}
use Rattle.class_pool.specs.declared.classes.CodeInfo.{CodeInfo}
use Rattle.class_pool.specs.declared.classes.RowInfo.{RowInfo}
use Rattle.class_pool.specs.Pool.{utf8_at}
use Rattle.class_pool.specs.Writing.{FitsPool}

-- the pool has the text
abbrev pub HasText : List PoolEntry → List ℕ → Type 0
HasText pool text = (index : ℕ) × (utf8_at pool index ≡ Some text)

abbrev pub FitsConstant : List PoolEntry → Option ℕ → Type 0
FitsConstant pool None = Unit {0}
FitsConstant pool (Some constant) = (constant < 2 ^ 16) × HasText pool (codes "ConstantValue")

pub record FitsField (pool : List PoolEntry) (f : FieldInfo) : Type 0 where
  pub flags : f.flags < 2 ^ 16
  pub name : f.name < 2 ^ 16
  pub desc : f.desc < 2 ^ 16
  pub constant : FitsConstant pool f.constant

pub record FitsRow (row : RowInfo) : Type 0 where
  pub start : row.start < 2 ^ 16
  pub end : row.end < 2 ^ 16
  pub handler : row.handler < 2 ^ 16
  pub catch_type : row.catch_type < 2 ^ 16

pub record FitsContent (c : CodeInfo) : Type 0 where
  pub max_stack : c.max_stack < 2 ^ 16
  pub max_locals : c.max_locals < 2 ^ 16
  pub bytes : length c.bytes < 2 ^ 16
  pub few_rows : length c.rows < 2 ^ 16
  pub rows : AllByRecursion FitsRow c.rows

abbrev pub FitsCode : List PoolEntry → Option CodeInfo → Type 0
FitsCode pool None = Unit {0}
FitsCode pool (Some c) = FitsContent c × HasText pool (codes "Code")

pub record FitsMethod (pool : List PoolEntry) (m : MethodInfo) : Type 0 where
  pub flags : m.flags < 2 ^ 16
  pub name : m.name < 2 ^ 16
  pub desc : m.desc < 2 ^ 16
  pub code : FitsCode pool m.code

pub record FitsClass (c : ClassFile) : Type 0 where
  pub minor : c.minor < 2 ^ 16
  pub major : c.major < 2 ^ 16
  pub pool : FitsPool c.pool
  pub flags : c.flags < 2 ^ 16
  pub this_class : c.this_class < 2 ^ 16
  pub super_class : c.super_class < 2 ^ 16
  pub few_interfaces : length c.interfaces < 2 ^ 16
  pub interfaces : AllByRecursion (λ (index : ℕ). index < 2 ^ 16) c.interfaces
  pub few_fields : length c.fields < 2 ^ 16
  pub fields : AllByRecursion (FitsField c.pool) c.fields
  pub few_methods : length c.methods < 2 ^ 16
  pub methods : AllByRecursion (FitsMethod c.pool) c.methods
