-- Spellings of fields and methods by the indices of the two attributes' names. Private functions compute these; the public
-- contracts cite `Spelling` alone.
use Rattle.std.specs.Prelude.{ℕ, List, ◌++◌, Option, Some, None, IfSome, codes}
use Rattle.class_pool.specs.declared.entries.PoolEntry.{PoolEntry}
use Rattle.class_pool.specs.declared.classes.FieldInfo.{FieldInfo}
use Rattle.class_pool.specs.declared.classes.MethodInfo.{MethodInfo}
use Rattle.class_pool.specs.declared.classes.CodeInfo.{CodeInfo}
use Rattle.class_pool.specs.ClassGrammar.{u2, u4}
use Rattle.class_write.specs.declared.members.AttributeNames.{AttributeNames}
use Rattle.class_pool.specs.Fitting.{FitsContent}
use Rattle.class_write.specs.Spelling.{text_index, spelled_head, code_size, spelled_content}

-- the indices in a pool
abbrev pub names_in : List PoolEntry → AttributeNames
names_in pool = record { code = text_index pool (codes "Code"); constant_value = text_index pool (codes "ConstantValue") }

-- the count of one attribute, the index of its name, and the size of its content
abbrev pub attribute_named : ℕ → ℕ → List ℕ
attribute_named name size = u2 1 ++ u2 name ++ u4 size

abbrev pub constant_named : ℕ → Option ℕ → List ℕ
constant_named name None = u2 0
constant_named name (Some constant) = attribute_named name 2 ++ u2 constant

abbrev pub field_named : AttributeNames → FieldInfo → List ℕ
field_named names f = spelled_head f.flags f.name f.desc ++ constant_named names.constant_value f.constant

abbrev pub code_named : ℕ → Option CodeInfo → List ℕ
code_named name None = u2 0
code_named name (Some c) = attribute_named name (code_size c) ++ spelled_content c

abbrev pub method_named : AttributeNames → MethodInfo → List ℕ
method_named names m = spelled_head m.flags m.name m.desc ++ code_named names.code m.code

-- the method's code fits, where it has one
abbrev pub HasFittingCode : MethodInfo → Type 0
HasFittingCode m = IfSome m.code FitsContent
