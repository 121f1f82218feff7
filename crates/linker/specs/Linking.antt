-- The program of class files (JVM Specification SE 8, 4.1, 4.4 to 4.7 and 5.3): the classes of the prelude and then those of the
-- files, with numbers by their order in the place of names (this project's own).
use Rattle.std.specs.Prelude.{ℕ, ◌+◌, ◌^◌, Bool, false, nat_lt, ◌==◌, if◌then◌else◌, List, [], ◌∷◌, ◌++◌, map, length, Option, Some, None, option_map, option_and_then, unwrap_or, position, slice_index}
use Rattle.std.specs.List.{flat_map, list_any}
use Rattle.std.specs.Option.{option_to_list}
use Rattle.std.specs.Str.{bytes_eq}
use Rattle.jo_text.specs.declared.descriptors.FieldDesc.{FieldDesc}
use Rattle.jo_text.specs.Scan.{read_field}
use Rattle.jo_insn.specs.declared.instructions.Insn.{Insn}
use Rattle.jo_insn.specs.declared.instructions.Insn.TheVariants.{Pooled}
use Rattle.jo_insn.specs.declared.jumps.Placed.{Placed}
use Rattle.class_pool.specs.Pool.{utf8_at, class_name_at, entry_at}
use Rattle.class_pool.specs.declared.entries.PoolEntry.{PoolEntry}
use Rattle.class_pool.specs.declared.entries.PoolEntry.TheVariants.{Integer, Class as ClassEntry, Text as TextEntry, FieldRef, MethodRef, InterfaceMethodRef, NameAndType}
use Rattle.class_pool.specs.declared.classes.ClassFile.{ClassFile}
use Rattle.class_pool.specs.declared.classes.FieldInfo.{FieldInfo}
use Rattle.class_pool.specs.declared.classes.MethodInfo.{MethodInfo}
use Rattle.class_pool.specs.declared.classes.CodeInfo.{CodeInfo}
use Rattle.class_pool.specs.declared.classes.RowInfo.{RowInfo}
use Rattle.jo_prog.specs.Numbers.{count_from}
use Rattle.jo_prog.specs.Program.{program_with}
use Rattle.jo_prog.specs.Sites.{insns_in}
use Rattle.jo_prog.specs.declared.program.Program.{Program}
use Rattle.jo_prog.specs.declared.program.Class.{Class}
use Rattle.jo_prog.specs.declared.program.Field.{Field}
use Rattle.jo_prog.specs.declared.program.Method.{Method}
use Rattle.jo_prog.specs.declared.program.Code.{Code}
use Rattle.jo_prog.specs.declared.program.Row.{Row}
use Rattle.jo_prog.specs.declared.program.TypeRef.{TypeRef}
use Rattle.jo_prog.specs.declared.program.TypeRef.TheVariants.{Class as OfClass, Array as OfArray}
use Rattle.jo_prog.specs.declared.program.Operand.{Operand}
use Rattle.jo_prog.specs.declared.program.Operand.TheVariants.{Unused, Int, Text, OfType, Member}
use Rattle.prelude.specs.Classes.{prelude_classes}

-- ---- names

-- the text of a Utf8 entry, or none
abbrev pub text_at : List PoolEntry → ℕ → List ℕ
text_at pool k = unwrap_or (utf8_at pool k) []

abbrev pub this_name : ClassFile → List ℕ
this_name c = unwrap_or (class_name_at c.pool c.this_class) []

abbrev pub super_name : ClassFile → List ℕ
super_name c = unwrap_or (class_name_at c.pool c.super_class) []

-- the number of the first class with that name
abbrev pub number_of : List (List ℕ) → List ℕ → Option ℕ
number_of names name = position (bytes_eq name) names

-- the number of the class that a Class entry names
abbrev pub number_at : List (List ℕ) → List PoolEntry → ℕ → Option ℕ
number_at names pool k = option_and_then (number_of names) (class_name_at pool k)

-- ---- types (4.4.1)

abbrev pub whole : FieldDesc × List ℕ → Option FieldDesc
whole (desc, []) = Some desc
whole (desc, b ∷ rest) = None

-- what the bytes spell, where they are a field's descriptor
abbrev pub desc_in : List ℕ → Option FieldDesc
desc_in bytes = option_and_then whole (read_field bytes)

abbrev pub array_of : List ℕ → Option TypeRef
array_of name = option_map (λ desc. OfArray desc) (desc_in name)

-- an array by its descriptor, a class by its name
abbrev pub type_of : List (List ℕ) → List ℕ → Option TypeRef
type_of names name = if slice_index name 0 == 91 then array_of name else option_map (λ c. OfClass c) (number_of names name)

-- the type that a Class entry names
abbrev pub type_at : List (List ℕ) → List PoolEntry → ℕ → Option TypeRef
type_at names pool k = option_and_then (type_of names) (class_name_at pool k)

-- ---- operands

-- a member by its owner and its NameAndType entry
abbrev pub member_by : List PoolEntry → Option TypeRef → Option PoolEntry → Operand
member_by pool (Some owner) (Some (NameAndType name desc)) = Member (record { owner = owner; name = text_at pool name; desc = text_at pool desc })
member_by pool _ _ = Unused

abbrev pub member_of : List (List ℕ) → List PoolEntry → ℕ → ℕ → Operand
member_of names pool class type = member_by pool (type_at names pool class) (entry_at pool type)

abbrev pub of_type : Option TypeRef → Operand
of_type None = Unused
of_type (Some type) = OfType type

-- a class by the Utf8 entry with its name
abbrev pub class_named : List (List ℕ) → List PoolEntry → ℕ → Operand
class_named names pool name = of_type (option_and_then (type_of names) (utf8_at pool name))

-- what an entry of the pool stands for in the program
abbrev pub operand_of : List (List ℕ) → List PoolEntry → PoolEntry → Operand
operand_of names pool (Integer value) = Int value
operand_of names pool (TextEntry text) = Text (text_at pool text)
operand_of names pool (ClassEntry name) = class_named names pool name
operand_of names pool (FieldRef class type) = member_of names pool class type
operand_of names pool (MethodRef class type) = member_of names pool class type
operand_of names pool (InterfaceMethodRef class type) = member_of names pool class type
operand_of names pool _ = Unused

-- the first value of a field (4.7.2)
abbrev pub constant_of : List PoolEntry → Option PoolEntry → Operand
constant_of pool (Some (Integer value)) = Int value
constant_of pool (Some (TextEntry text)) = Text (text_at pool text)
constant_of pool _ = Unused

-- the index of the entry that an instruction names
abbrev pub index_in : Insn → Option ℕ
index_in (Pooled op index) = Some index
index_in _ = None

abbrev pub is_index : ℕ → Option ℕ → Bool
is_index k None = false
is_index k (Some index) = index == k

abbrev pub names_entry : ℕ → Placed → Bool
names_entry k placed = is_index k (index_in placed.insn)

-- code has fewer than 65,536 bytes (4.7.3), so longer code has no instructions
abbrev pub is_used_by : ℕ → Option CodeInfo → Bool
is_used_by k None = false
is_used_by k (Some code) = if nat_lt (length code.bytes) (2 ^ 16) then list_any (names_entry k) (insns_in code.bytes) else false

abbrev pub is_used_in : ℕ → MethodInfo → Bool
is_used_in k method = is_used_by k method.code

abbrev pub is_used : ClassFile → ℕ → Bool
is_used file k = list_any (is_used_in k) file.methods

-- the entries from an index on; what no instruction of the class names is left out
abbrev pub operands_from : List (List ℕ) → ClassFile → ℕ → List PoolEntry → List Operand
operands_from names file k [] = []
operands_from names file k (entry ∷ more) = (if is_used file k then operand_of names file.pool entry else Unused) ∷ operands_from names file (k + 1) more

-- each at its index; 0 is none
abbrev pub operands_of : List (List ℕ) → ClassFile → List Operand
operands_of names file = Unused ∷ operands_from names file 1 file.pool

-- ---- fields and methods

abbrev pub constant_in : List PoolEntry → Option ℕ → Option Operand
constant_in pool constant = option_map (λ k. constant_of pool (entry_at pool k)) constant

abbrev pub field_of : ℕ → List PoolEntry → FieldInfo → Field
field_of class pool field = record {
  class = class;
  name = text_at pool field.name;
  desc = text_at pool field.desc;
  flags = field.flags;
  constant = constant_in pool field.constant;
}

-- the catch type 0 catches every exception (4.7.3)
abbrev pub row_of : List (List ℕ) → List PoolEntry → RowInfo → Row
row_of names pool row = record { start = row.start; end = row.end; handler = row.handler; catches = type_at names pool row.catch_type }

abbrev pub code_of : List (List ℕ) → List PoolEntry → CodeInfo → Code
code_of names pool code = record { max_stack = code.max_stack; max_locals = code.max_locals; bytes = code.bytes; rows = map (row_of names pool) code.rows }

abbrev pub method_of : List (List ℕ) → ℕ → List PoolEntry → MethodInfo → Method
method_of names class pool method = record {
  class = class;
  name = text_at pool method.name;
  desc = text_at pool method.desc;
  flags = method.flags;
  code = option_map (code_of names pool) method.code;
}

-- ---- classes, whose first field and first method have these numbers

abbrev pub numbers_at : List (List ℕ) → List PoolEntry → List ℕ → List ℕ
numbers_at names pool indices = flat_map (λ k. option_to_list (number_at names pool k)) indices

abbrev pub class_of : List (List ℕ) → ℕ → ℕ → ClassFile → Class
class_of names field method file = record {
  name = this_name file;
  flags = file.flags;
  superclass = number_at names file.pool file.super_class;
  interfaces = numbers_at names file.pool file.interfaces;
  fields = count_from field (length file.fields);
  methods = count_from method (length file.methods);
  operands = operands_of names file;
}

abbrev pub classes_from : List (List ℕ) → ℕ → ℕ → List ClassFile → List Class
classes_from names field method [] = []
classes_from names field method (file ∷ more) =
    class_of names field method file ∷ classes_from names (field + length file.fields) (method + length file.methods) more

-- the fields and methods of the classes from a number on
abbrev pub fields_from : ℕ → List ClassFile → List Field
fields_from class [] = []
fields_from class (file ∷ more) = map (field_of class file.pool) file.fields ++ fields_from (class + 1) more

abbrev pub methods_from : List (List ℕ) → ℕ → List ClassFile → List Method
methods_from names class [] = []
methods_from names class (file ∷ more) = map (method_of names class file.pool) file.methods ++ methods_from names (class + 1) more

-- ---- the program

-- of these classes
unfoldable pub program_among : List ClassFile → Program
program_among classes =
    let names = map this_name classes in
    program_with (classes_from names 0 0 classes) (fields_from 0 classes) (methods_from names 0 classes)

-- the prelude's classes, and then those of the files
abbrev pub linked_classes : List ClassFile → List ClassFile
linked_classes files = prelude_classes ++ files

abbrev pub program_of : List ClassFile → Program
program_of files = program_among (linked_classes files)
