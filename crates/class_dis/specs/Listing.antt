-- The listing of a class file as assembly (this project's own; the parts are those of the JVM Specification SE 8, 4.1 to
-- 4.7). Versions, entries of the pool that nothing names, and long, float and double constants of fields aren't listed.
use Rattle.std.specs.Prelude.{ℕ, zero, suc, Bool, true, false, if◌then◌else◌, ℤ, pos, List, [], ◌∷◌, ◌++◌, length, drop, map, Option, Some, None, codes}
use Rattle.std.specs.Str.{bytes_eq}
use Rattle.std.specs.List.{flat_map}
use Rattle.std.specs.Fmt.{decimal, signed_decimal}
use Rattle.byteorder.specs.Endian.{big_number, twos_complement}
use Rattle.jo_text.specs.Escapes.{escaped}
use Rattle.jo_insn.specs.declared.instructions.Insn.{Insn}
use Rattle.jo_insn.specs.declared.instructions.Insn.TheVariants.{Plain, Local, Iinc, Push, Pooled, Array, Jump, TableSwitch, LookupSwitch}
use Rattle.jo_insn.specs.Opcodes.{name_of}
use Rattle.jo_insn.specs.ArrayKinds.{name_of_kind}
use Rattle.class_pool.specs.declared.entries.PoolEntry.{PoolEntry}
use Rattle.class_pool.specs.declared.entries.PoolEntry.TheVariants.{Integer, Text}
use Rattle.class_pool.specs.declared.classes.ClassFile.{ClassFile}
use Rattle.class_pool.specs.declared.classes.FieldInfo.{FieldInfo}
use Rattle.class_pool.specs.declared.classes.MethodInfo.{MethodInfo}
use Rattle.class_pool.specs.declared.classes.CodeInfo.{CodeInfo}
use Rattle.class_pool.specs.declared.classes.RowInfo.{RowInfo}
use Rattle.class_pool.specs.Pool.{entry_at, class_name_at}
use Rattle.jo_insn.specs.declared.jumps.Placed.{Placed}
use Rattle.jo_insn.specs.Jumps.{targets_of}
use Rattle.class_dis.specs.Insns.{insns_of}
use Rattle.class_dis.specs.Labels.{has_label}
use Rattle.class_dis.specs.Words.{line, hex, label, text_of, name_word, class_word, text_word, entry_word}

-- ---- instructions

abbrev pub op_word : ℕ → List ℕ
op_word op = text_of (name_of op)

-- the kind of an array of a base type
abbrev pub kind_word : ℕ → List ℕ
kind_word kind = text_of (name_of_kind kind)

-- `wide` stands before the opcode that it widens
abbrev pub widened : Bool → List (List ℕ) → List (List ℕ)
widened false words = words
widened true words = codes "wide" ∷ words

-- the keys of a table of pairs, each with the label of its target
abbrev pub pair_words : List ℕ → List ℤ → List (List ℕ)
pair_words table [] = []
pair_words table (target ∷ more) = signed_decimal (twos_complement 4 (big_number 4 table)) ∷ label target ∷ pair_words (drop 8 table) more

-- the label of the default, which is the first target, and the pairs
abbrev pub lookup_words : List ℕ → List ℤ → List (List ℕ)
lookup_words table [] = []
lookup_words table (other ∷ more) = label other ∷ pair_words table more

-- The opcode and its operands. A tableswitch has its least key, its default, and a label for each key; a lookupswitch its
-- default, and each key with its label.
abbrev pub insn_words : List PoolEntry → List ℕ → ℕ → Insn → List (List ℕ)
insn_words pool code pc (Plain op) = op_word op ∷ []
insn_words pool code pc (Local op index wide) = widened wide (op_word op ∷ decimal index ∷ [])
insn_words pool code pc (Iinc index by wide) = widened wide (codes "iinc" ∷ decimal index ∷ signed_decimal by ∷ [])
insn_words pool code pc (Push op value) = op_word op ∷ signed_decimal value ∷ []
insn_words pool code pc (Pooled op index) = op_word op ∷ entry_word pool (entry_at pool index) ∷ []
insn_words pool code pc (Array kind) = codes "newarray" ∷ kind_word kind ∷ []
insn_words pool code pc (Jump op by) = op_word op ∷ map label (targets_of code pc (Jump op by))
insn_words pool code pc (TableSwitch other low high at) = codes "tableswitch" ∷ signed_decimal low ∷ map label (targets_of code pc (TableSwitch other low high at))
insn_words pool code pc (LookupSwitch other pairs at) = codes "lookupswitch" ∷ lookup_words (drop at code) (targets_of code pc (LookupSwitch other pairs at))

-- ---- code

-- the line of a label, where the pc has one
abbrev pub label_line : Bool → ℕ → List ℕ
label_line false pc = []
label_line true pc = line ((label (pos pc) ++ 58 ∷ []) ∷ [])

-- an instruction, behind its label where the test says that it has one
abbrev pub insn_lines : List PoolEntry → List ℕ → (ℕ → Bool) → Placed → List ℕ
insn_lines pool code labelled placed = label_line (labelled placed.pc) placed.pc ++ line (insn_words pool code placed.pc placed.insn)

-- the class that a row catches: index 0 catches all, and `any` says so, so a class of this name is spelled otherwise
abbrev pub catch_word : List PoolEntry → ℕ → List ℕ
catch_word pool zero = codes "any"
catch_word pool (suc k) = caught (text_of (class_name_at pool (suc k)))
  where
    caught : List ℕ → List ℕ
    caught name = if bytes_eq name (codes "any") then codes "Lany;" else escaped name

abbrev pub catch_line : List PoolEntry → RowInfo → List ℕ
catch_line pool row = line (codes "catch" ∷ label (pos row.start) ∷ label (pos row.end) ∷ label (pos row.handler) ∷ catch_word pool row.catch_type ∷ [])

-- the instructions, the label of the end, the rows of the exception table
abbrev pub body_lines : List PoolEntry → CodeInfo → List ℕ
body_lines pool code =
    flat_map (insn_lines pool code.bytes (has_label code)) (insns_of code.bytes) ++ label_line (has_label code (length code.bytes)) (length code.bytes)
    ++ flat_map (catch_line pool) code.rows ++ line (codes "end" ∷ [])

-- ---- the class

abbrev pub class_line : ClassFile → List ℕ
class_line c = line (codes "class" ∷ class_word c.pool c.this_class ∷ codes "super" ∷ class_word c.pool c.super_class ∷ codes "flags" ∷ hex c.flags ∷ [])

abbrev pub interface_line : List PoolEntry → ℕ → List ℕ
interface_line pool interface = line (codes "implements" ∷ class_word pool interface ∷ [])

-- the constant of a field; a long, float or double isn't spelled
abbrev pub value_words : List PoolEntry → Option PoolEntry → List (List ℕ)
value_words pool (Some (Integer n)) = codes "value" ∷ signed_decimal n ∷ []
value_words pool (Some (Text text)) = codes "value" ∷ text_word pool text ∷ []
value_words pool _ = []

abbrev pub constant_words : List PoolEntry → Option ℕ → List (List ℕ)
constant_words pool None = []
constant_words pool (Some index) = value_words pool (entry_at pool index)

-- the words of a field or a method behind its first one
abbrev pub head_words : List PoolEntry → ℕ → ℕ → ℕ → List (List ℕ)
head_words pool flags name desc = name_word pool name ∷ name_word pool desc ∷ codes "flags" ∷ hex flags ∷ []

abbrev pub field_line : List PoolEntry → FieldInfo → List ℕ
field_line pool f =
    line (codes "field" ∷ head_words pool f.flags f.name f.desc ++ constant_words pool f.constant)

abbrev pub limit_words : Option CodeInfo → List (List ℕ)
limit_words None = []
limit_words (Some code) = codes "stack" ∷ decimal code.max_stack ∷ codes "locals" ∷ decimal code.max_locals ∷ []

abbrev pub method_line : List PoolEntry → MethodInfo → List ℕ
method_line pool m =
    line (codes "method" ∷ head_words pool m.flags m.name m.desc ++ limit_words m.code)

abbrev pub code_lines : List PoolEntry → Option CodeInfo → List ℕ
code_lines pool None = []
code_lines pool (Some code) = body_lines pool code

abbrev pub method_lines : List PoolEntry → MethodInfo → List ℕ
method_lines pool m = method_line pool m ++ code_lines pool m.code

-- the whole text
unfoldable pub listing_of : ClassFile → List ℕ
listing_of c =
    class_line c ++ flat_map (interface_line c.pool) c.interfaces ++ flat_map (field_line c.pool) c.fields ++ flat_map (method_lines c.pool) c.methods
