-- Where indices, attributes, fields, codes and methods stop first (JVM Specification SE 8, 4.5 to 4.7), behind this pool.
use Rattle.std.specs.Prelude.{◌≡◌, ◌⊎◌, ℕ, ◌+◌, ◌-◌, ◌*◌, ◌^◌, ◌<◌, Bool, true, false, List, ◌∷◌, ◌++◌, length, Option, Some, None, Ok, Err, IsSomeAnd, codes, pos}
use Rattle.std.specs.List.{AllByRecursion}
use Rattle.jo_text.specs.Descriptors.{IsMemberName, IsFieldDesc, IsMethodDesc}
use Rattle.jo_insn.specs.declared.instructions.Insn.{Insn}
use Rattle.jo_insn.specs.declared.instructions.InsnFault.{InsnFault}
use Rattle.jo_insn.specs.Instructions.{decoded}
use Rattle.class_pool.specs.declared.entries.PoolEntry.{PoolEntry}
use Rattle.class_pool.specs.declared.classes.MemberKind.{MemberKind}
use Rattle.class_pool.specs.declared.classes.MemberKind.TheVariants.{Field, Method}
use Rattle.class_pool.specs.declared.classes.CodeInfo.{CodeInfo}
use Rattle.class_pool.specs.declared.classes.RowInfo.{RowInfo}
use Rattle.class_pool.specs.declared.faults.Cut.TheVariants.{WideType, Synchronized}
use Rattle.class_pool.specs.declared.faults.ClassCode.{ClassCode}
use Rattle.class_pool.specs.declared.faults.ClassCode.TheVariants.{PoolIndex, BadDescriptor, CodeBounds, Unsupported}
use Rattle.class_pool.specs.declared.faults.ClassFault.{ClassFault}
use Rattle.class_pool.specs.Items.{place_of, fault}
use Rattle.class_pool.specs.Pool.{entry_at, utf8_at, class_name_at}
use Rattle.jo_insn.specs.declared.jumps.Placed.{Placed}
use Rattle.class_pool.specs.Code.{is_wide_desc, dims_of, insn_fault, code_for}
use Rattle.jo_insn.specs.AccessFlags.{has_flag, static_flag, synchronized_flag, native_flag}
use Rattle.class_pool.specs.ClassOrder.{fits_constant}
use Rattle.class_pool.specs.ClassGrammar.{u2, SpellsEach, Attribute, SpellsAttribute, HasConstant, AreInsnsFrom, IsStart, JumpsWell, IsRow, SpellsRow, HasCodes, codes_in, HasBody}
use Rattle.class_pool.specs.FirstFaultItems.{IsCut, Never, Check, Either, Item, Number, Bytes, OneStops, Many, Counted}
use Rattle.class_pool.specs.FirstFaultPool.{IsTextIndex}

-- ---- indices

-- the index of a text
abbrev pub SpellsTextIndex : List PoolEntry → ℕ → List ℕ → Type 0
SpellsTextIndex pool index text = (text ≡ u2 index) × (index < 2 ^ 16) × IsTextIndex pool index

abbrev pub TextIndexStops : ℕ → List PoolEntry → List ℕ → ClassFault → Type 0
TextIndexStops size pool rest f = Number size 2 rest (λ index _. Check (IsTextIndex pool index) PoolIndex (place_of size rest) Never) f

abbrev pub TextIndex : ℕ → List PoolEntry → List ℕ → (ℕ → List ℕ → ClassFault → Type 0) → ClassFault → Type 0
TextIndex size pool rest Next f = Item (SpellsTextIndex pool) (TextIndexStops size pool) rest Next f

-- the index of a class that is no array
abbrev pub ClassIndexStops : ℕ → List PoolEntry → List ℕ → ClassFault → Type 0
ClassIndexStops size pool rest f = Number size 2 rest (λ index _. Check (IsSomeAnd (class_name_at pool index) (λ name. dims_of name ≡ 0)) PoolIndex (place_of size rest) Never) f

-- ---- what begins a field or a method: flags, and the indices of its name and its descriptor

abbrev pub IsDescOf : MemberKind → List ℕ → Type 0
IsDescOf Field text = IsFieldDesc text
IsDescOf Method text = IsMethodDesc text

pub record SpellsHead (pool : List PoolEntry) (kind : MemberKind) (head : ℕ × ℕ × ℕ) (text : List ℕ) : Type 0 where
  pub spelled : text ≡ u2 head.0 ++ u2 head.1 ++ u2 head.2
  pub flags : head.0 < 2 ^ 16
  pub name_index : head.1 < 2 ^ 16
  pub desc_index : head.2 < 2 ^ 16
  pub name : IsSomeAnd (utf8_at pool head.1) IsMemberName
  pub desc : IsSomeAnd (utf8_at pool head.2) (IsDescOf kind)

-- both indices come before what they name
abbrev pub HeadStops : ℕ → List PoolEntry → MemberKind → List ℕ → ClassFault → Type 0
HeadStops size pool kind rest f =
    Number size 2 rest (λ flags at_name.
    TextIndex size pool at_name (λ name at_desc.
    TextIndex size pool at_desc (λ desc _.
    Check (IsSomeAnd (utf8_at pool name) IsMemberName) BadDescriptor (place_of size at_name)
    (Check (IsSomeAnd (utf8_at pool desc) (IsDescOf kind)) BadDescriptor (place_of size at_desc) Never)))) f

-- ---- attributes

-- an attribute's name and its length, which stands at this place
abbrev pub AttributeHead : ℕ → List PoolEntry → List ℕ → (ℕ → ℕ → ℕ → List ℕ → ClassFault → Type 0) → ClassFault → Type 0
AttributeHead size pool rest Next f = TextIndex size pool rest (λ name at_length. Number size 4 at_length (λ count content. Next name (place_of size at_length) count content)) f

-- attributes that are stepped over
abbrev pub AttributeStops : ℕ → List PoolEntry → List ℕ → ClassFault → Type 0
AttributeStops size pool rest f = AttributeHead size pool rest (λ name place count content. IsCut size count content) f

abbrev pub Attributes : ℕ → List PoolEntry → List ℕ → (List ℕ → ClassFault → Type 0) → ClassFault → Type 0
Attributes size pool rest Next f = Counted size (SpellsAttribute pool) (AttributeStops size pool) rest (λ attributes left. Next left) f

-- ---- fields

abbrev pub IsConstant : List PoolEntry → Bool → ℕ → Type 0
IsConstant pool static name = (static ≡ true) × (utf8_at pool name ≡ Some (codes "ConstantValue"))

-- the value of a ConstantValue, behind its length, where the attributes before have this constant
abbrev pub ConstantStops : ℕ → List PoolEntry → ℕ → Option ℕ → ℕ → ℕ → List ℕ → ClassFault → Type 0
ConstantStops size pool desc known place count rest f =
    Check ((count ≡ 2) × (known ≡ None)) CodeBounds place
    (Number size 2 rest (λ constant _. Check (IsSomeAnd (utf8_at pool desc) (λ text. fits_constant text (entry_at pool constant) ≡ true)) PoolIndex (place_of size rest) Never)) f

abbrev pub FieldAttributeStops : ℕ → List PoolEntry → Bool → ℕ → Option ℕ → List ℕ → ClassFault → Type 0
FieldAttributeStops size pool static desc known rest f =
    AttributeHead size pool rest (λ name place count content. Either (IsConstant pool static name) (ConstantStops size pool desc known place count content) (IsCut size count content)) f

-- an attribute stops behind these, which have at most one constant
abbrev pub BehindConstants : ℕ → List PoolEntry → Bool → ℕ → List Attribute → List ℕ → ClassFault → Type 0
BehindConstants size pool static desc before rest f = (known : Option ℕ) × HasConstant pool static desc before known × FieldAttributeStops size pool static desc known rest f

abbrev pub FieldStops : ℕ → List PoolEntry → List ℕ → ClassFault → Type 0
FieldStops size pool rest f =
    Item (SpellsHead pool Field) (HeadStops size pool Field) rest (λ head at_count.
    Number size 2 at_count (λ n attributes.
    OneStops (SpellsAttribute pool) (BehindConstants size pool (has_flag static_flag head.0) head.2) n attributes)) f

-- ---- code

-- from the first pc on, instructions that pass lead to the second
pub data LeadsTo (pool : List PoolEntry) (code : List ℕ) : ℕ → ℕ → Type 0 where
  here : (pc : ℕ) → LeadsTo pool code pc pc
  onward : (pc next at : ℕ) (insn : Insn) → decoded code pc ≡ Ok (insn, next) → insn_fault pool insn ≡ None → LeadsTo pool code next at → LeadsTo pool code pc at

-- what is wrong with the instruction there: there is none, or it names a wrong entry or one outside the profile
pub data InsnFails (pool : List PoolEntry) (code : List ℕ) (pc : ℕ) : ClassCode → Type 0 where
  no_insn : (e : InsnFault) → decoded code pc ≡ Err e → InsnFails pool code pc (code_for e)
  names_wrong : (insn : Insn) (next : ℕ) (wrong : ClassCode) → decoded code pc ≡ Ok (insn, next) → insn_fault pool insn ≡ Some wrong → InsnFails pool code pc wrong

-- a row's places
pub record IsInCode (code : List ℕ) (insns : List Placed) (row : RowInfo) : Type 0 where
  pub forward : row.start < row.end
  pub start : IsStart insns (pos row.start)
  pub handler : IsStart insns (pos row.handler)
  pub end : (row.end ≡ length code) ⊎ IsStart insns (pos row.end)

-- a row catches everything, or a class
abbrev pub Catches : List PoolEntry → RowInfo → Type 0
Catches pool row = (row.catch_type ≡ 0) ⊎ IsSomeAnd (class_name_at pool row.catch_type) (λ _. Unit {0})

abbrev pub RowStops : List PoolEntry → List ℕ → List Placed → RowInfo → ℕ → ClassFault → Type 0
RowStops pool code insns row place f = Check (IsInCode code insns row) CodeBounds place (Check (Catches pool row) PoolIndex place Never) f

-- Code and its rows, with the places of both. An instruction stops, in order of pc; else one jumps elsewhere than to an
-- instruction; else a row stops.
pub data ChecksStop (pool : List PoolEntry) (code : List ℕ) (code_place : ℕ) (rows : List RowInfo) (rows_place : ℕ) (f : ClassFault) : Type 0 where
  an_insn : (pc : ℕ) (wrong : ClassCode) → LeadsTo pool code 0 pc → pc < length code → InsnFails pool code pc wrong → f ≡ fault wrong (code_place + pc) → ChecksStop pool code code_place rows rows_place f
  a_jump : (insns before more : List Placed) (placed : Placed) → AreInsnsFrom pool code 0 insns → insns ≡ before ++ placed ∷ more → AllByRecursion (JumpsWell code insns) before
      → (JumpsWell code insns placed → ⊥) → f ≡ fault CodeBounds (code_place + placed.pc) → ChecksStop pool code code_place rows rows_place f
  a_row : (insns : List Placed) (before more : List RowInfo) (row : RowInfo) → AreInsnsFrom pool code 0 insns → AllByRecursion (JumpsWell code insns) insns → rows ≡ before ++ row ∷ more
      → AllByRecursion (IsRow pool code insns) before → RowStops pool code insns row (rows_place + 8 * length before) f → ChecksStop pool code code_place rows rows_place f

-- An attribute Code behind its length, which stands at this place: its limits, its code, its rows and its attributes; then
-- whether its length is right; then what its code and its rows are checked for.
abbrev pub CodeStops : ℕ → List PoolEntry → ℕ → ℕ → List ℕ → ClassFault → Type 0
CodeStops size pool place count rest f =
    Number size 2 rest (λ max_stack at_locals.
    Number size 2 at_locals (λ max_locals at_length.
    Number size 4 at_length (λ n at_code.
    Check ((0 < n) × (n < 2 ^ 16)) CodeBounds (place_of size at_length)
    (Bytes size n at_code (λ code at_count.
    Number size 2 at_count (λ k at_rows.
    Many SpellsRow (IsCut size 8) k at_rows (λ rows at_attributes.
    Attributes size pool at_attributes (λ left.
    Check (length rest - length left ≡ count) CodeBounds place
    (ChecksStop pool code (place_of size at_code) rows (place_of size at_rows)))))))))) f

-- ---- methods

abbrev pub MethodAttributeStops : ℕ → List PoolEntry → List ℕ → ClassFault → Type 0
MethodAttributeStops size pool rest f =
    AttributeHead size pool rest (λ name place count content. Either (utf8_at pool name ≡ Some (codes "Code")) (CodeStops size pool place count content) (IsCut size count content)) f

-- an attribute stops behind these, whose codes pass
abbrev pub BehindCodes : ℕ → List PoolEntry → List Attribute → List ℕ → ClassFault → Type 0
BehindCodes size pool before rest f = (found : List CodeInfo) × HasCodes pool before found × MethodAttributeStops size pool rest f

-- so many attributes with these codes among them
abbrev pub SpellsCodes : List PoolEntry → ℕ → List CodeInfo → List ℕ → Type 0
SpellsCodes pool n found text = (attributes : List Attribute) × SpellsEach (SpellsAttribute pool) attributes text × (length attributes ≡ n) × HasCodes pool attributes found

-- it has code or is native
abbrev pub HasCode : ℕ → List CodeInfo → Type 0
HasCode flags found = (has_flag native_flag flags ≡ true) ⊎ (0 < length found)

-- one Code at most, and one or none as the flags say
abbrev pub HasOneBody : ℕ → List CodeInfo → Type 0
HasOneBody flags found = (code : Option CodeInfo) × (found ≡ codes_in code) × HasBody flags code

-- a method's own faults, looked for behind all of its attributes; the place is its first byte
abbrev pub MethodStops : ℕ → List PoolEntry → List ℕ → ClassFault → Type 0
MethodStops size pool rest f =
    Item (SpellsHead pool Method) (HeadStops size pool Method) rest (λ head at_count.
    Number size 2 at_count (λ n attributes.
    Item (SpellsCodes pool n) (OneStops (SpellsAttribute pool) (BehindCodes size pool) n) attributes (λ found _.
    Check (HasCode head.0 found → is_wide_desc (utf8_at pool head.2) ≡ false) (Unsupported WideType) (place_of size rest)
    (Check (has_flag synchronized_flag head.0 ≡ false) (Unsupported Synchronized) (place_of size rest)
    (Check (HasOneBody head.0 found) CodeBounds (place_of size rest) Never))))) f
