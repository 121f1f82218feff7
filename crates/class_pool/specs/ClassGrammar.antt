-- The grammar of class files (JVM Specification SE 8, 4.1 to 4.7), cut to the profile: which bytes are those of a class.
-- It splits whole lists of bytes and says of each part what it spells. Attributes that mean nothing to a run aren't kept.
-- This project's own: any minor version and any flags are taken; MethodHandle, MethodType and InvokeDynamic entries and
-- unread attributes are unchecked, and so is whether two members have one name; there is always a superclass; no code uses
-- long, float or double, no method is synchronized, and no invokespecial or invokestatic names an interface's method.
use Rattle.std.specs.Prelude.{◌≡◌, ◌⊎◌, ℕ, ◌+◌, ◌^◌, ◌<◌, ◌≤◌, ℤ, List, [], ◌∷◌, ◌++◌, length, Bool, true, false, Option, Some, None, Ok, IsSomeAnd, codes, Contains, pos, ◌+ℤ◌}
use Rattle.std.specs.Int.{w32, cast_unsigned}
use Rattle.std.specs.Int.RustNames.{FitsSigned}
use Rattle.std.specs.List.{AllByRecursion}
use Rattle.byteorder.specs.Endian.{big_bytes}
use Rattle.jo_text.specs.Mutf8.{IsMutf8}
use Rattle.jo_text.specs.Descriptors.{IsMemberName, IsFieldDesc, IsMethodDesc, IsClassOrArray}
use Rattle.jo_insn.specs.declared.instructions.Insn.{Insn}
use Rattle.jo_insn.specs.Instructions.{decoded}
use Rattle.class_pool.specs.declared.entries.PoolEntry.{PoolEntry}
use Rattle.class_pool.specs.declared.entries.PoolEntry.TheVariants.{Second, Utf8, Integer, Float, Long, Double, Class, Text, FieldRef, MethodRef, InterfaceMethodRef, NameAndType, MethodHandle, MethodType, InvokeDynamic}
use Rattle.class_pool.specs.declared.classes.ClassFile.{ClassFile}
use Rattle.class_pool.specs.declared.classes.FieldInfo.{FieldInfo}
use Rattle.class_pool.specs.declared.classes.MethodInfo.{MethodInfo}
use Rattle.class_pool.specs.declared.classes.CodeInfo.{CodeInfo}
use Rattle.class_pool.specs.declared.classes.RowInfo.{RowInfo}
use Rattle.class_pool.specs.Pool.{entry_at, utf8_at, class_name_at, desc_at, is_double}
use Rattle.jo_insn.specs.declared.jumps.Placed.{Placed}
use Rattle.jo_insn.specs.Jumps.{jumps_of}
use Rattle.class_pool.specs.Code.{is_wide_desc, dims_of, insn_fault, canonical_code}
use Rattle.jo_insn.specs.AccessFlags.{has_flag, static_flag, synchronized_flag, native_flag, abstract_flag}
use Rattle.class_pool.specs.ClassOrder.{fits_constant}

-- numbers in one, two, four and eight bytes, the highest first
abbrev pub u1 : ℕ → List ℕ
u1 n = big_bytes 1 n

abbrev pub u2 : ℕ → List ℕ
u2 n = big_bytes 2 n

abbrev pub u4 : ℕ → List ℕ
u4 n = big_bytes 4 n

abbrev pub u8 : ℕ → List ℕ
u8 n = big_bytes 8 n

-- the bytes are those of the items, one after another, where Spells says which bytes spell an item
abbrev pub SpellsEach : {X : Type 0} → (X → List ℕ → Type 0) → List X → List ℕ → Type 0
SpellsEach Spells [] bytes = bytes ≡ []
SpellsEach Spells (x ∷ xs) bytes = (first : List ℕ) × (rest : List ℕ) × (bytes ≡ first ++ rest) × Spells x first × SpellsEach Spells xs rest

-- so many items, with their count in two bytes
abbrev pub SpellsCounted : {X : Type 0} → (X → List ℕ → Type 0) → List X → List ℕ → Type 0
SpellsCounted Spells xs bytes = (items : List ℕ) × (bytes ≡ u2 (length xs) ++ items) × (length xs < 2 ^ 16) × SpellsEach Spells xs items

-- ---- the pool (4.4)

-- the bytes of an entry
abbrev pub SpellsEntry : PoolEntry → List ℕ → Type 0
SpellsEntry Second bytes = ⊥
SpellsEntry (Utf8 text) bytes = (bytes ≡ 1 ∷ u2 (length text) ++ text) × (length text < 2 ^ 16) × IsMutf8 text
SpellsEntry (Integer n) bytes = (bytes ≡ 3 ∷ u4 (cast_unsigned w32 n)) × FitsSigned w32 n
SpellsEntry (Float bits) bytes = (bytes ≡ 4 ∷ u4 bits) × (bits < 2 ^ 32)
SpellsEntry (Long bits) bytes = (bytes ≡ 5 ∷ u8 bits) × (bits < 2 ^ 64)
SpellsEntry (Double bits) bytes = (bytes ≡ 6 ∷ u8 bits) × (bits < 2 ^ 64)
SpellsEntry (Class name) bytes = (bytes ≡ 7 ∷ u2 name) × (name < 2 ^ 16)
SpellsEntry (Text text) bytes = (bytes ≡ 8 ∷ u2 text) × (text < 2 ^ 16)
SpellsEntry (FieldRef class type) bytes = (bytes ≡ 9 ∷ u2 class ++ u2 type) × (class < 2 ^ 16) × (type < 2 ^ 16)
SpellsEntry (MethodRef class type) bytes = (bytes ≡ 10 ∷ u2 class ++ u2 type) × (class < 2 ^ 16) × (type < 2 ^ 16)
SpellsEntry (InterfaceMethodRef class type) bytes = (bytes ≡ 11 ∷ u2 class ++ u2 type) × (class < 2 ^ 16) × (type < 2 ^ 16)
SpellsEntry (NameAndType name desc) bytes = (bytes ≡ 12 ∷ u2 name ++ u2 desc) × (name < 2 ^ 16) × (desc < 2 ^ 16)
SpellsEntry (MethodHandle kind target) bytes = (bytes ≡ 15 ∷ u1 kind ++ u2 target) × (kind < 2 ^ 8) × (target < 2 ^ 16)
SpellsEntry (MethodType desc) bytes = (bytes ≡ 16 ∷ u2 desc) × (desc < 2 ^ 16)
SpellsEntry (InvokeDynamic method type) bytes = (bytes ≡ 18 ∷ u2 method ++ u2 type) × (method < 2 ^ 16) × (type < 2 ^ 16)

-- the bytes of the entries; behind a Long or a Double stands its second index, which no bytes spell
pub data SpellsEntries : List PoolEntry → List ℕ → Type 0 where
  no_entry : SpellsEntries [] []
  single : (entry : PoolEntry) (more : List PoolEntry) (first rest : List ℕ) → is_double entry ≡ false → SpellsEntry entry first → SpellsEntries more rest → SpellsEntries (entry ∷ more) (first ++ rest)
  twofold : (entry : PoolEntry) (more : List PoolEntry) (first rest : List ℕ) → is_double entry ≡ true → SpellsEntry entry first → SpellsEntries more rest → SpellsEntries (entry ∷ Second ∷ more) (first ++ rest)

abbrev pub IsClassEntry : Option PoolEntry → Type 0
IsClassEntry (Some (Class name)) = Unit {0}
IsClassEntry _ = ⊥

-- what an entry refers to is there and fits
abbrev pub RefersWell : List PoolEntry → PoolEntry → Type 0
RefersWell pool (Class name) = IsSomeAnd (utf8_at pool name) IsClassOrArray
RefersWell pool (Text text) = IsSomeAnd (utf8_at pool text) (λ _. Unit {0})
RefersWell pool (FieldRef class type) = IsClassEntry (entry_at pool class) × IsSomeAnd (desc_at pool type) IsFieldDesc
RefersWell pool (MethodRef class type) = IsClassEntry (entry_at pool class) × IsSomeAnd (desc_at pool type) IsMethodDesc
RefersWell pool (InterfaceMethodRef class type) = IsClassEntry (entry_at pool class) × IsSomeAnd (desc_at pool type) IsMethodDesc
RefersWell pool (NameAndType name desc) = IsSomeAnd (utf8_at pool name) IsMemberName × IsSomeAnd (utf8_at pool desc) (λ text. IsFieldDesc text ⊎ IsMethodDesc text)
RefersWell pool _ = Unit {0}

-- ---- attributes (4.7)

-- an attribute: the index of its name, and its content
pub record Attribute : Type 0 where
  pub name : ℕ
  pub content : List ℕ

abbrev pub SpellsAttribute : List PoolEntry → Attribute → List ℕ → Type 0
SpellsAttribute pool attribute bytes = (bytes ≡ u2 attribute.name ++ u4 (length attribute.content) ++ attribute.content)
    × (attribute.name < 2 ^ 16) × (length attribute.content < 2 ^ 32) × IsSomeAnd (utf8_at pool attribute.name) (λ _. Unit {0})

abbrev pub SpellsAttributes : List PoolEntry → List Attribute → List ℕ → Type 0
SpellsAttributes pool attributes bytes = SpellsCounted (SpellsAttribute pool) attributes bytes

-- attributes of which nothing is kept
abbrev pub AreAttributes : List PoolEntry → List ℕ → Type 0
AreAttributes pool bytes = (attributes : List Attribute) × SpellsAttributes pool attributes bytes

-- ---- fields (4.5, 4.7.2)

-- the attribute is a ConstantValue of this constant
abbrev pub IsConstantValue : List PoolEntry → ℕ → Attribute → ℕ → Type 0
IsConstantValue pool desc attribute constant = (attribute.content ≡ u2 constant) × (constant < 2 ^ 16)
    × IsSomeAnd (utf8_at pool desc) (λ text. fits_constant text (entry_at pool constant) ≡ true)

-- The constant of a static field: that of its one ConstantValue, where it has one. Any other field has none.
pub data HasConstant (pool : List PoolEntry) (static : Bool) (desc : ℕ) : List Attribute → Option ℕ → Type 0 where
  no_constant : HasConstant pool static desc [] None
  not_constant : (attribute : Attribute) (more : List Attribute) (constant : Option ℕ) → (static ≡ true → utf8_at pool attribute.name ≡ Some (codes "ConstantValue") → ⊥)
      → HasConstant pool static desc more constant → HasConstant pool static desc (attribute ∷ more) constant
  constant_value : (attribute : Attribute) (more : List Attribute) (constant : ℕ) → static ≡ true → utf8_at pool attribute.name ≡ Some (codes "ConstantValue")
      → IsConstantValue pool desc attribute constant → HasConstant pool static desc more None → HasConstant pool static desc (attribute ∷ more) (Some constant)

pub record SpellsField (pool : List PoolEntry) (f : FieldInfo) (bytes : List ℕ) : Type 0 where
  pub attributes : List Attribute
  pub others : List ℕ
  pub spelled : bytes ≡ u2 f.flags ++ u2 f.name ++ u2 f.desc ++ others
  pub flags : f.flags < 2 ^ 16
  pub name_index : f.name < 2 ^ 16
  pub desc_index : f.desc < 2 ^ 16
  pub name : IsSomeAnd (utf8_at pool f.name) IsMemberName
  pub desc : IsSomeAnd (utf8_at pool f.desc) IsFieldDesc
  pub attributes_spelled : SpellsAttributes pool attributes others
  pub constant : HasConstant pool (has_flag static_flag f.flags) f.desc attributes f.constant

-- ---- code (4.7.3, 4.9.1)

-- from this pc on, these are the instructions up to the code's end
pub data AreInsnsFrom (pool : List PoolEntry) (code : List ℕ) : ℕ → List Placed → Type 0 where
  ends : (pc : ℕ) → pc ≡ length code → AreInsnsFrom pool code pc []
  goes_on : (pc next : ℕ) (insn : Insn) (more : List Placed) → decoded code pc ≡ Ok (insn, next) → insn_fault pool insn ≡ None → AreInsnsFrom pool code next more
      → AreInsnsFrom pool code pc (record { pc = pc; insn = insn; next = next } ∷ more)

-- an instruction starts there
abbrev pub IsStart : List Placed → ℤ → Type 0
IsStart insns target = (placed : Placed) × Contains insns placed × (pos placed.pc ≡ target)

abbrev pub JumpsWell : List ℕ → List Placed → Placed → Type 0
JumpsWell code insns placed = AllByRecursion (λ (by : ℤ). IsStart insns (pos placed.pc +ℤ by)) (jumps_of code placed.insn)

pub record IsRow (pool : List PoolEntry) (code : List ℕ) (insns : List Placed) (row : RowInfo) : Type 0 where
  pub forward : row.start < row.end
  pub start : IsStart insns (pos row.start)
  pub handler : IsStart insns (pos row.handler)
  pub end : (row.end ≡ length code) ⊎ IsStart insns (pos row.end)
  pub catches : (row.catch_type ≡ 0) ⊎ IsSomeAnd (class_name_at pool row.catch_type) (λ _. Unit {0})

abbrev pub SpellsRow : RowInfo → List ℕ → Type 0
SpellsRow row bytes = (bytes ≡ u2 row.start ++ u2 row.end ++ u2 row.handler ++ u2 row.catch_type)
    × (row.start < 2 ^ 16) × (row.end < 2 ^ 16) × (row.handler < 2 ^ 16) × (row.catch_type < 2 ^ 16)

-- The content of an attribute Code. The code that is kept has zero padding and canonical counts.
pub record SpellsCode (pool : List PoolEntry) (c : CodeInfo) (content : List ℕ) : Type 0 where
  pub code : List ℕ
  pub rows : List ℕ
  pub attributes : List ℕ
  pub insns : List Placed
  pub spelled : content ≡ u2 c.max_stack ++ u2 c.max_locals ++ u4 (length code) ++ code ++ rows ++ attributes
  pub stack : c.max_stack < 2 ^ 16
  pub locals : c.max_locals < 2 ^ 16
  pub not_empty : 0 < length code
  pub short : length code < 2 ^ 16
  pub rows_spelled : SpellsCounted SpellsRow c.rows rows
  pub attributes_spelled : AreAttributes pool attributes
  pub instructions : AreInsnsFrom pool code 0 insns
  pub jumps : AllByRecursion (JumpsWell code insns) insns
  pub rows_fit : AllByRecursion (IsRow pool code insns) c.rows
  pub kept : c.bytes ≡ canonical_code pool code insns

-- ---- methods (4.6)

-- the codes of a method's attributes: those named Code, in order
pub data HasCodes (pool : List PoolEntry) : List Attribute → List CodeInfo → Type 0 where
  no_code : HasCodes pool [] []
  not_code : (attribute : Attribute) (more : List Attribute) (codes_of : List CodeInfo) → (utf8_at pool attribute.name ≡ Some (codes "Code") → ⊥) → HasCodes pool more codes_of → HasCodes pool (attribute ∷ more) codes_of
  code_attribute : (attribute : Attribute) (more : List Attribute) (c : CodeInfo) (codes_of : List CodeInfo) → utf8_at pool attribute.name ≡ Some (codes "Code") → SpellsCode pool c attribute.content
      → HasCodes pool more codes_of → HasCodes pool (attribute ∷ more) (c ∷ codes_of)

abbrev pub codes_in : Option CodeInfo → List CodeInfo
codes_in None = []
codes_in (Some code) = code ∷ []

-- a method has code, or is native or abstract: one at least, and no code beside one of the flags
abbrev pub HasBody : ℕ → Option CodeInfo → Type 0
HasBody flags (Some code) = (has_flag native_flag flags ≡ false) × (has_flag abstract_flag flags ≡ false)
HasBody flags None = (has_flag native_flag flags ≡ true) ⊎ (has_flag abstract_flag flags ≡ true)

-- a method that is abstract alone doesn't run
abbrev pub Runs : ℕ → Option CodeInfo → Type 0
Runs flags (Some code) = Unit {0}
Runs flags None = has_flag native_flag flags ≡ true

pub record SpellsMethod (pool : List PoolEntry) (m : MethodInfo) (bytes : List ℕ) : Type 0 where
  pub attributes : List Attribute
  pub others : List ℕ
  pub spelled : bytes ≡ u2 m.flags ++ u2 m.name ++ u2 m.desc ++ others
  pub flags : m.flags < 2 ^ 16
  pub name_index : m.name < 2 ^ 16
  pub desc_index : m.desc < 2 ^ 16
  pub name : IsSomeAnd (utf8_at pool m.name) IsMemberName
  pub desc : IsSomeAnd (utf8_at pool m.desc) IsMethodDesc
  pub attributes_spelled : SpellsAttributes pool attributes others
  pub body : HasCodes pool attributes (codes_in m.code)
  pub has_body : HasBody m.flags m.code
  pub not_synchronized : has_flag synchronized_flag m.flags ≡ false
  pub not_wide : Runs m.flags m.code → is_wide_desc (utf8_at pool m.desc) ≡ false

-- ---- the class (4.1)

-- the index of a class that is no array
abbrev pub IsClassIndex : List PoolEntry → ℕ → Type 0
IsClassIndex pool index = (index < 2 ^ 16) × IsSomeAnd (class_name_at pool index) (λ name. dims_of name ≡ 0)

abbrev pub SpellsClassIndex : List PoolEntry → ℕ → List ℕ → Type 0
SpellsClassIndex pool index bytes = (bytes ≡ u2 index) × IsClassIndex pool index

-- the bytes are those of the class, all of them
pub record IsClass (bytes : List ℕ) (c : ClassFile) : Type 0 where
  pub pool_bytes : List ℕ
  pub interface_bytes : List ℕ
  pub field_bytes : List ℕ
  pub method_bytes : List ℕ
  pub attribute_bytes : List ℕ
  pub spelled : bytes ≡ u4 0xcafebabe ++ u2 c.minor ++ u2 c.major ++ u2 (length c.pool + 1) ++ pool_bytes
      ++ u2 c.flags ++ u2 c.this_class ++ u2 c.super_class ++ interface_bytes ++ field_bytes ++ method_bytes ++ attribute_bytes
  pub minor : c.minor < 2 ^ 16
  pub oldest : 45 ≤ c.major
  pub newest : c.major ≤ 52
  pub pool_length : length c.pool + 1 < 2 ^ 16
  pub pool_spelled : SpellsEntries c.pool pool_bytes
  pub references : AllByRecursion (RefersWell c.pool) c.pool
  pub flags : c.flags < 2 ^ 16
  pub this_class : IsClassIndex c.pool c.this_class
  pub super_class : IsClassIndex c.pool c.super_class
  pub interfaces : SpellsCounted (SpellsClassIndex c.pool) c.interfaces interface_bytes
  pub fields : SpellsCounted (SpellsField c.pool) c.fields field_bytes
  pub methods : SpellsCounted (SpellsMethod c.pool) c.methods method_bytes
  pub attributes : AreAttributes c.pool attribute_bytes
