-- A class file from its first byte to its last (JVM Specification SE 8, 4.1 to 4.7), in the order in which its items are
-- read and checked: the class, or the first fault with its place. The order, the codes and the places are this project's own.
use Rattle.std.specs.Prelude.{ℕ, zero, suc, ◌+◌, ◌-◌, ◌*◌, Bool, true, false, ◌&&◌, ◌||◌, not, nat_lt, nat_le, ◌==◌, if◌then◌else◌, List, [], ◌∷◌, length, Option, Some, None, Result, Ok, Err, codes}
use Rattle.std.specs.Str.{bytes_eq}
use Rattle.jo_text.specs.Tests.{is_member_name, is_field_desc, is_method_desc}
use Rattle.jo_insn.specs.AccessFlags.{has_flag, static_flag, synchronized_flag, native_flag, abstract_flag}
use Rattle.class_pool.specs.declared.entries.PoolEntry.{PoolEntry}
use Rattle.class_pool.specs.declared.entries.PoolEntry.TheVariants.{Integer, Float, Long, Double, Text}
use Rattle.class_pool.specs.declared.classes.MemberKind.{MemberKind}
use Rattle.class_pool.specs.declared.classes.MemberKind.TheVariants.{Field, Method}
use Rattle.class_pool.specs.declared.classes.ClassFile.{ClassFile}
use Rattle.class_pool.specs.declared.classes.FieldInfo.{FieldInfo}
use Rattle.class_pool.specs.declared.classes.MethodInfo.{MethodInfo}
use Rattle.class_pool.specs.declared.classes.CodeInfo.{CodeInfo}
use Rattle.class_pool.specs.declared.classes.RowInfo.{RowInfo}
use Rattle.class_pool.specs.declared.faults.Cut.TheVariants.{WideType, Synchronized}
use Rattle.class_pool.specs.declared.faults.ClassCode.{ClassCode}
use Rattle.class_pool.specs.declared.faults.ClassCode.TheVariants.{Magic, Version, PoolIndex, BadDescriptor, CodeBounds, Trailing, Unsupported}
use Rattle.class_pool.specs.declared.faults.ClassFault.{ClassFault}
use Rattle.class_pool.specs.Items.{◌>>=◌, place_of, fault, passing, number, bytes_of, two_numbers, many}
use Rattle.class_pool.specs.Pool.{entry_at, utf8_at, is_text_that, is_text, first_failing, read_pool_from}
use Rattle.jo_insn.specs.declared.jumps.Placed.{Placed}
use Rattle.class_pool.specs.Code.{is_wide_desc, has_dims_that, dims_at, insns_of, first_bad_jump, row_fault, canonical_code}

-- ---- parts

-- the index of a class, which is no array
abbrev pub class_index : ℕ → List PoolEntry → List ℕ → Result (ℕ × List ℕ) ClassFault
class_index size pool rest = do
  index ← number size 2 rest
  passing (has_dims_that (λ dims. dims == 0) (dims_at pool index.0)) PoolIndex (place_of size rest) (Ok index)

-- the index of a text
abbrev pub text_index : ℕ → List PoolEntry → List ℕ → Result (ℕ × List ℕ) ClassFault
text_index size pool rest = do
  index ← number size 2 rest
  passing (is_text (utf8_at pool index.0)) PoolIndex (place_of size rest) (Ok index)

-- a descriptor of a field, and of a method
abbrev pub fits_kind : MemberKind → List ℕ → Bool
fits_kind Field text = is_field_desc text
fits_kind Method text = is_method_desc text

-- what begins a field or a method: flags, and the indices of its name and its descriptor
unfoldable pub read_head : ℕ → List PoolEntry → MemberKind → List ℕ → Result ((ℕ × ℕ × ℕ) × List ℕ) ClassFault
read_head size pool kind rest = do
  flags ← number size 2 rest
  name ← text_index size pool flags.1
  desc ← text_index size pool name.1
  passing (is_text_that is_member_name (utf8_at pool name.0)) BadDescriptor (place_of size flags.1)
      (passing (is_text_that (fits_kind kind) (utf8_at pool desc.0)) BadDescriptor (place_of size name.1) (Ok ((flags.0, name.0, desc.0), desc.1)))

-- what begins an attribute (4.7): its name and its length
abbrev pub attribute_head : ℕ → List PoolEntry → List ℕ → Result ((ℕ × ℕ) × List ℕ) ClassFault
attribute_head size pool rest = do
  name ← text_index size pool rest
  count ← number size 4 name.1
  Ok ((name.0, count.0), count.1)

-- an attribute that is stepped over
unfoldable pub skip_attribute : ℕ → List PoolEntry → List ℕ → Result (Unit {0} × List ℕ) ClassFault
skip_attribute size pool rest = do
  head ← attribute_head size pool rest
  content ← bytes_of size head.0.1 head.1
  Ok (tt, content.1)

-- attributes that are stepped over, with their count
abbrev pub skip_attributes : ℕ → List PoolEntry → List ℕ → Result (List ℕ) ClassFault
skip_attributes size pool rest = do
  count ← number size 2 rest
  others ← many (skip_attribute size pool) count.0 count.1
  Ok others.1

abbrev pub is_named : List ℕ → Option (List ℕ) → Bool
is_named name text = is_text_that (bytes_eq name) text

-- ---- fields (4.5, 4.7.2)

-- the constant of a field with this descriptor
abbrev pub fits_constant : List ℕ → Option PoolEntry → Bool
fits_constant desc (Some (Integer n)) = bytes_eq desc (codes "I") || (bytes_eq desc (codes "B") || (bytes_eq desc (codes "C") || (bytes_eq desc (codes "S") || bytes_eq desc (codes "Z"))))
fits_constant desc (Some (Float bits)) = bytes_eq desc (codes "F")
fits_constant desc (Some (Long bits)) = bytes_eq desc (codes "J")
fits_constant desc (Some (Double bits)) = bytes_eq desc (codes "D")
fits_constant desc (Some (Text text)) = bytes_eq desc (codes "Ljava/lang/String;")
fits_constant desc _ = false

-- the value of a ConstantValue, behind its length, which stands at this place
abbrev pub constant_value : ℕ → List PoolEntry → ℕ → Option ℕ → ℕ → ℕ → List ℕ → Result (Option ℕ × List ℕ) ClassFault
constant_value size pool desc known place count rest = passing (count == 2 && is_none known) CodeBounds place (at_value (number size 2 rest))
  where
    is_none : Option ℕ → Bool
    is_none None = true
    is_none (Some index) = false

    at_value : Result (ℕ × List ℕ) ClassFault → Result (Option ℕ × List ℕ) ClassFault
    at_value (Err f) = Err f
    at_value (Ok index) = passing (is_text_that (λ text. fits_constant text (entry_at pool index.0)) (utf8_at pool desc)) PoolIndex (place_of size rest) (Ok (Some index.0, index.1))

-- an attribute of a field, and its constant where one is known
unfoldable pub field_attribute : ℕ → List PoolEntry → ℕ × ℕ × ℕ → Option ℕ → List ℕ → Result (Option ℕ × List ℕ) ClassFault
field_attribute size pool head known rest = do
  name ← text_index size pool rest
  count ← number size 4 name.1
  if has_flag static_flag head.0 && is_named (codes "ConstantValue") (utf8_at pool name.0) then constant_value size pool head.2 known (place_of size name.1) count.0 count.1 else stepped known (bytes_of size count.0 count.1)
  where
    stepped : Option ℕ → Result (List ℕ × List ℕ) ClassFault → Result (Option ℕ × List ℕ) ClassFault
    stepped known (Err f) = Err f
    stepped known (Ok content) = Ok (known, content.1)

unfoldable pub field_attributes : ℕ → List PoolEntry → ℕ × ℕ × ℕ → ℕ → Option ℕ → List ℕ → Result (Option ℕ × List ℕ) ClassFault
field_attributes size pool head zero known rest = Ok (known, rest)
field_attributes size pool head (suc n) known rest = do
  first ← field_attribute size pool head known rest
  field_attributes size pool head n first.0 first.1

unfoldable pub read_field : ℕ → List PoolEntry → List ℕ → Result (FieldInfo × List ℕ) ClassFault
read_field size pool rest = do
  head ← read_head size pool Field rest
  count ← number size 2 head.1
  constant ← field_attributes size pool head.0 count.0 None count.1
  Ok (record { flags = head.0.0; name = head.0.1; desc = head.0.2; constant = constant.0 }, constant.1)

-- ---- code (4.7.3)

abbrev pub read_row : ℕ → List ℕ → Result (RowInfo × List ℕ) ClassFault
read_row size rest = do
  bounds ← two_numbers size rest
  handling ← two_numbers size bounds.1
  Ok (record { start = bounds.0.0; end = bounds.0.1; handler = handling.0.0; catch_type = handling.0.1 }, handling.1)

-- the attribute Code as it is spelled: its limits, the place of its code and the code, its rows
pub record Spelled : Type 0 where
  pub max_stack : ℕ
  pub max_locals : ℕ
  pub code_place : ℕ
  pub code : List ℕ
  pub rows_place : ℕ
  pub rows : List RowInfo

-- The attribute behind its length, which stands at this place and is asked for last.
unfoldable pub read_spelled : ℕ → List PoolEntry → ℕ → ℕ → List ℕ → Result (Spelled × List ℕ) ClassFault
read_spelled size pool place count rest = do
  limits ← two_numbers size rest
  code_count ← number size 4 limits.1
  code ← passing (nat_le 1 code_count.0 && nat_le code_count.0 65535) CodeBounds (place_of size limits.1) (bytes_of size code_count.0 code_count.1)
  row_count ← number size 2 code.1
  rows ← many (read_row size) row_count.0 row_count.1
  others ← skip_attributes size pool rows.1
  passing (length rest - length others == count) CodeBounds place
      (Ok (record { max_stack = limits.0.0; max_locals = limits.0.1; code_place = place_of size code_count.1; code = code.0; rows_place = place_of size row_count.1; rows = rows.0 }, others))

-- a fault of the code, of a jump and of a row, at its place in the file
abbrev pub jump_checked : ℕ → Option ℕ → Result (List ℕ) ClassFault → Result (List ℕ) ClassFault
jump_checked code_place None next = next
jump_checked code_place (Some pc) next = Err (fault CodeBounds (code_place + pc))

abbrev pub row_checked : ℕ → Option (ClassCode × ℕ) → Result (List ℕ) ClassFault → Result (List ℕ) ClassFault
row_checked rows_place None next = next
row_checked rows_place (Some (code, k)) next = Err (fault code (rows_place + 8 * k))

-- what its instructions are checked for, in order, and the code that is kept
abbrev pub code_checked : List PoolEntry → Spelled → Result (List Placed) (ClassCode × ℕ) → Result (List ℕ) ClassFault
code_checked pool s (Err (code, pc)) = Err (fault code (s.code_place + pc))
code_checked pool s (Ok insns) =
    jump_checked s.code_place (first_bad_jump s.code insns insns)
    (row_checked s.rows_place (row_fault pool (length s.code) insns 0 s.rows) (Ok (canonical_code pool s.code insns)))

unfoldable pub read_code : ℕ → List PoolEntry → ℕ → ℕ → List ℕ → Result (CodeInfo × List ℕ) ClassFault
read_code size pool place count rest = do
  s ← read_spelled size pool place count rest
  bytes ← code_checked pool s.0 (insns_of pool s.0.code)
  Ok (record { max_stack = s.0.max_stack; max_locals = s.0.max_locals; bytes = bytes; rows = s.0.rows }, s.1)

-- ---- methods (4.6)

-- the Codes of a method's attributes
unfoldable pub method_attributes : ℕ → List PoolEntry → ℕ → List ℕ → Result (List CodeInfo × List ℕ) ClassFault
method_attributes size pool zero rest = Ok ([], rest)
method_attributes size pool (suc n) rest = do
  name ← text_index size pool rest
  count ← number size 4 name.1
  codes ← attribute_codes (is_named (codes "Code") (utf8_at pool name.0)) (read_code size pool (place_of size name.1) count.0 count.1) (bytes_of size count.0 count.1)
  others ← method_attributes size pool n codes.1
  Ok (joined codes.0 others.0, others.1)
  where
    attribute_codes : Bool → Result (CodeInfo × List ℕ) ClassFault → Result (List ℕ × List ℕ) ClassFault → Result (List CodeInfo × List ℕ) ClassFault
    attribute_codes true (Err f) skipped = Err f
    attribute_codes true (Ok code) skipped = Ok (code.0 ∷ [], code.1)
    attribute_codes false code (Err f) = Err f
    attribute_codes false code (Ok content) = Ok ([], content.1)

    joined : List CodeInfo → List CodeInfo → List CodeInfo
    joined [] others = others
    joined (code ∷ more) others = code ∷ others

-- A method's own faults: a long, float or double in the descriptor of one that has code or is native, synchronized, and that
-- not exactly one of a Code and a flag which says that there is none is there.
abbrev pub method_questions : Bool → ℕ → List CodeInfo → List (Bool × ClassCode)
method_questions wide flags codes =
    (not (wide && (has_flag native_flag flags || nat_lt 0 (length codes))), Unsupported WideType)
    ∷ (not (has_flag synchronized_flag flags), Unsupported Synchronized)
    ∷ (length codes + (if has_flag native_flag flags || has_flag abstract_flag flags then 1 else 0) == 1, CodeBounds) ∷ []

abbrev pub first_code : List CodeInfo → Option CodeInfo
first_code [] = None
first_code (code ∷ more) = Some code

unfoldable pub read_method : ℕ → List PoolEntry → List ℕ → Result (MethodInfo × List ℕ) ClassFault
read_method size pool rest = do
  head ← read_head size pool Method rest
  count ← number size 2 head.1
  codes ← method_attributes size pool count.0 count.1
  method_checked (first_failing (method_questions (is_wide_desc (utf8_at pool head.0.2)) head.0.0 codes.0)) (Ok (record { flags = head.0.0; name = head.0.1; desc = head.0.2; code = first_code codes.0 }, codes.1))
  where
    method_checked : Option ClassCode → Result (MethodInfo × List ℕ) ClassFault → Result (MethodInfo × List ℕ) ClassFault
    method_checked None next = next
    method_checked (Some code) next = Err (fault code (place_of size rest))

-- ---- the class (4.1)

-- the class behind its pool
unfoldable pub read_behind : ℕ → ℕ × ℕ → List PoolEntry → List ℕ → Result ClassFile ClassFault
read_behind size version pool rest = do
  flags ← number size 2 rest
  this_class ← class_index size pool flags.1
  super_class ← class_index size pool this_class.1
  interface_count ← number size 2 super_class.1
  interfaces ← many (class_index size pool) interface_count.0 interface_count.1
  field_count ← number size 2 interfaces.1
  fields ← many (read_field size pool) field_count.0 field_count.1
  method_count ← number size 2 fields.1
  methods ← many (read_method size pool) method_count.0 method_count.1
  end ← skip_attributes size pool methods.1
  passing (length end == 0) Trailing (place_of size end)
      (Ok (record { minor = version.0; major = version.1; pool = pool; flags = flags.0; this_class = this_class.0; super_class = super_class.0; interfaces = interfaces.0; fields = fields.0; methods = methods.0 }))

unfoldable pub class_of : List ℕ → Result ClassFile ClassFault
class_of file = do
  magic ← number (length file) 4 file
  version ← passing (magic.0 == 0xcafebabe) Magic 0 (read_version (length file) magic.1)
  pool ← read_pool_from (length file) version.1
  read_behind (length file) version.0 pool.0 pool.1
  where
    read_version : ℕ → List ℕ → Result ((ℕ × ℕ) × List ℕ) ClassFault
    read_version size rest = do
      minor ← number size 2 rest
      major ← number size 2 minor.1
      passing (nat_le 45 major.0 && nat_le major.0 52) Version (place_of size minor.1) (Ok ((minor.0, major.0), major.1))
