-- The one canonical spelling of a class (JVM Specification SE 8, 4.1 to 4.7): its parts, no attribute but ConstantValue and
-- Code, and each attribute's name by its first entry of the pool. This project's own.
use Rattle.std.specs.Prelude.{ℕ, suc, ◌+◌, ◌*◌, Bool, false, if◌then◌else◌, List, [], ◌∷◌, ◌++◌, length, Option, Some, None, codes}
use Rattle.std.specs.Str.{bytes_eq}
use Rattle.std.specs.List.{flat_map}
use Rattle.class_pool.specs.declared.entries.PoolEntry.{PoolEntry}
use Rattle.class_pool.specs.declared.entries.PoolEntry.TheVariants.{Utf8}
use Rattle.class_pool.specs.declared.classes.ClassFile.{ClassFile}
use Rattle.class_pool.specs.declared.classes.FieldInfo.{FieldInfo}
use Rattle.class_pool.specs.declared.classes.MethodInfo.{MethodInfo}
use Rattle.class_pool.specs.declared.classes.CodeInfo.{CodeInfo}
use Rattle.class_pool.specs.declared.classes.RowInfo.{RowInfo}
use Rattle.class_pool.specs.Writing.{spelled_pool}
use Rattle.class_pool.specs.ClassGrammar.{u2, u4}

-- ---- the index of a text

abbrev pub is_text_of : List ℕ → PoolEntry → Bool
is_text_of text (Utf8 other) = bytes_eq other text
is_text_of text _ = false

-- the number of the first entry that spells the text, where the first has this number; 0 where there is none
abbrev pub index_from : ℕ → List ℕ → List PoolEntry → ℕ
index_from k text [] = 0
index_from k text (entry ∷ more) = if is_text_of text entry then k else index_from (suc k) text more

-- the index of the first Utf8 entry that spells the text, 0 where there is none
abbrev pub text_index : List PoolEntry → List ℕ → ℕ
text_index pool text = index_from 1 text pool

-- ---- spellings

-- the count in two bytes, and the items
abbrev pub counted : {X : Type 0} → (X → List ℕ) → List X → List ℕ
counted spelled xs = u2 (length xs) ++ flat_map spelled xs

-- what begins a field or a method
abbrev pub spelled_head : ℕ → ℕ → ℕ → List ℕ
spelled_head flags name desc = u2 flags ++ u2 name ++ u2 desc

-- the count of one attribute, and what begins it: its name, and the size of its content
abbrev pub spelled_attribute : List PoolEntry → List ℕ → ℕ → List ℕ
spelled_attribute pool name size = u2 1 ++ u2 (text_index pool name) ++ u4 size

-- no attribute, or one ConstantValue
abbrev pub spelled_constant : List PoolEntry → Option ℕ → List ℕ
spelled_constant pool None = u2 0
spelled_constant pool (Some constant) = spelled_attribute pool (codes "ConstantValue") 2 ++ u2 constant

abbrev pub spelled_field : List PoolEntry → FieldInfo → List ℕ
spelled_field pool f = spelled_head f.flags f.name f.desc ++ spelled_constant pool f.constant

abbrev pub spelled_row : RowInfo → List ℕ
spelled_row row = u2 row.start ++ u2 row.end ++ u2 row.handler ++ u2 row.catch_type

-- how many bytes the content of a Code has
abbrev pub code_size : CodeInfo → ℕ
code_size c = 12 + length c.bytes + 8 * length c.rows

-- the content of a Code, which has no attributes
abbrev pub spelled_content : CodeInfo → List ℕ
spelled_content c = u2 c.max_stack ++ u2 c.max_locals ++ u4 (length c.bytes) ++ c.bytes ++ counted spelled_row c.rows ++ u2 0

-- no attribute, or one Code
abbrev pub spelled_code : List PoolEntry → Option CodeInfo → List ℕ
spelled_code pool None = u2 0
spelled_code pool (Some c) = spelled_attribute pool (codes "Code") (code_size c) ++ spelled_content c

abbrev pub spelled_method : List PoolEntry → MethodInfo → List ℕ
spelled_method pool m = spelled_head m.flags m.name m.desc ++ spelled_code pool m.code

abbrev pub spelled_class : ClassFile → List ℕ
spelled_class c = u4 0xcafebabe ++ u2 c.minor ++ u2 c.major ++ spelled_pool c.pool ++ u2 c.flags ++ u2 c.this_class ++ u2 c.super_class
    ++ counted u2 c.interfaces ++ counted (spelled_field c.pool) c.fields ++ counted (spelled_method c.pool) c.methods ++ u2 0
