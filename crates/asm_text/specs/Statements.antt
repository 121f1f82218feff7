-- What a line says (this project's own; opcodes, names and descriptors by the JVM Specification SE 8, 6.5, 4.2 and 4.3).
-- Each reader takes the items that are left of a line, and gives what it read and the items behind it, or what the rest of
-- the line says.
use Rattle.std.specs.Prelude.{ℕ, ◌-◌, Bool, true, false, nat_lt, ◌==◌, if◌then◌else◌, List, [], ◌∷◌, length, take, Option, Some, None, option_map, slice_index, codes}
use Rattle.std.specs.Str.{bytes_eq}
use Rattle.jo_insn.specs.declared.opcodes.Operands.{Operands}
use Rattle.jo_insn.specs.declared.opcodes.Operands.TheVariants.{NoOperand, SignedByte, SignedShort, LocalByte, LocalAndStep, WidePrefix, PoolByte, PoolShort, PoolShortAndTwo, ArrayKind, OffsetShort, OffsetInt, OffsetTable, KeyTable}
use Rattle.jo_insn.specs.Opcodes.{operands_of, opcode_named}
use Rattle.jo_insn.specs.ArrayKinds.{kind_named}
use Rattle.asm_text.specs.declared.statements.Number.{Number}
use Rattle.asm_text.specs.declared.statements.Constant.{Constant}
use Rattle.asm_text.specs.declared.statements.Constant.TheVariants.{Int, Text}
use Rattle.asm_text.specs.declared.statements.Limits.{Limits}
use Rattle.asm_text.specs.declared.statements.Member.{Member}
use Rattle.asm_text.specs.declared.statements.Case.{Case}
use Rattle.asm_text.specs.declared.statements.Operation.{Operation}
use Rattle.asm_text.specs.declared.statements.Operation.TheVariants.{Plain, Local, Iinc, Push, Load, OfClass, OfMember, NewArray, Jump, TableSwitch, LookupSwitch}
use Rattle.asm_text.specs.declared.statements.Statement.{Statement}
use Rattle.asm_text.specs.declared.statements.Statement.TheVariants.{Class, Implements, Field, Method, Label, Instruction, Catch, End}
use Rattle.asm_text.specs.declared.words.Kind.{Kind}
use Rattle.asm_text.specs.declared.words.Kind.TheVariants.{ClassName, ClassOrArray, MemberName, FieldDesc, MethodDesc}
use Rattle.asm_text.specs.Lines.{items_of, ends_in_space}
use Rattle.asm_text.specs.ItemScan.{first_of}
use Rattle.asm_text.specs.Words.{◌>>=◌, passing, name_in, quoted_in, kept, name_of_kind, label_in, number_in, flags_in, field_in, method_in}

abbrev pub Items : Type 0
Items = List (List ℕ)

-- ---- one item

abbrev pub item_by : {A : Type 0} → (List ℕ → Option A) → Items → Option (A × Items)
item_by read items = do
  first ← first_of items
  x ← read first.0
  Some (x, first.1)

abbrev pub named : Kind → Items → Option (List ℕ × Items)
named kind items = item_by (name_of_kind kind) items

abbrev pub label : Items → Option (List ℕ × Items)
label items = item_by label_in items

abbrev pub number : Items → Option (Number × Items)
number items = item_by number_in items

abbrev pub flags : Items → Option (ℕ × Items)
flags items = item_by flags_in items

-- the items behind this word
abbrev pub behind_word : List ℕ → Items → Option Items
behind_word word items = do
  first ← first_of items
  passing (bytes_eq first.0 word) first.1

-- nothing is left
abbrev pub at_end : {A : Type 0} → Items → A → Option A
at_end [] x = Some x
at_end (item ∷ more) x = None

-- `flags` and the flags
abbrev pub flag_words : Items → Option (ℕ × Items)
flag_words items = do
  items ← behind_word (codes "flags") items
  flags items

-- a text between quotes, or else an int
abbrev pub begins_quoted : List ℕ → Bool
begins_quoted text = slice_index text 0 == 34

abbrev pub constant_in : List ℕ → Option Constant
constant_in text = if begins_quoted text then option_map Text (quoted_in text) else option_map Int (number_in text)

abbrev pub constant : Items → Option (Constant × Items)
constant items = item_by constant_in items

-- ---- classes, fields and methods

abbrev pub class_words : Items → Option Statement
class_words items = do
  name ← named ClassName items
  rest ← behind_word (codes "super") name.1
  above ← named ClassName rest
  flags ← flag_words above.1
  at_end flags.1 (Class name.0 above.0 flags.0)

abbrev pub implements_words : Items → Option Statement
implements_words items = do
  name ← named ClassName items
  at_end name.1 (Implements name.0)

-- `value` and a constant, or nothing
abbrev pub value_words : Items → Option (Option Constant)
value_words [] = Some None
value_words (item ∷ more) = do
  items ← behind_word (codes "value") (item ∷ more)
  constant ← constant items
  at_end constant.1 (Some constant.0)

abbrev pub field_words : Items → Option Statement
field_words items = do
  name ← named MemberName items
  desc ← named FieldDesc name.1
  flags ← flag_words desc.1
  constant ← value_words flags.1
  Some (Field name.0 desc.0 flags.0 constant)

-- `stack` and `locals`, each with a number, or nothing
abbrev pub limit_words : Items → Option (Option Limits)
limit_words [] = Some None
limit_words (item ∷ more) = do
  items ← behind_word (codes "stack") (item ∷ more)
  stack ← number items
  items ← behind_word (codes "locals") stack.1
  locals ← number items
  at_end locals.1 (Some (record { stack = stack.0; locals = locals.0 }))

abbrev pub method_words : Items → Option Statement
method_words items = do
  name ← named MemberName items
  desc ← named MethodDesc name.1
  flags ← flag_words desc.1
  limits ← limit_words flags.1
  Some (Method name.0 desc.0 flags.0 limits)

-- ---- code

-- `any` catches all; a class of this name is spelled as a descriptor
abbrev pub caught_named : List ℕ → Option (List ℕ)
caught_named name = if bytes_eq name (codes "Lany;") then Some (codes "any") else kept ClassOrArray name

abbrev pub caught_in : List ℕ → Option (Option (List ℕ))
caught_in text = if bytes_eq text (codes "any") then Some None else do
  name ← name_in text
  option_map Some (caught_named name)

abbrev pub catch_words : Items → Option Statement
catch_words items = do
  start ← label items
  end ← label start.1
  handler ← label end.1
  caught ← item_by caught_in handler.1
  at_end caught.1 (Catch start.0 end.0 handler.0 caught.0)

-- each item is a label
abbrev pub labels : Items → Option (List (List ℕ))
labels [] = Some []
labels (item ∷ more) = do
  first ← label_in item
  others ← labels more
  Some (first ∷ others)

-- the items are pairs of a key and a label
abbrev pub cases : Items → Option (List Case)
cases [] = Some []
cases (item ∷ []) = None
cases (item ∷ next ∷ more) = do
  key ← number_in item
  label ← label_in next
  others ← cases more
  Some (record { key = key; label = label } ∷ others)

abbrev pub local_words : ℕ → Bool → Items → Option Operation
local_words op wide items = do
  index ← number items
  at_end index.1 (Local op index.0 wide)

abbrev pub iinc_words : Bool → Items → Option Operation
iinc_words wide items = do
  index ← number items
  by ← number index.1
  at_end by.1 (Iinc index.0 by.0 wide)

-- `wide` stands before the opcode that it widens
abbrev pub widened : ℕ → Items → Option Operands → Option Operation
widened op items (Some LocalByte) = local_words op true items
widened op items (Some LocalAndStep) = iinc_words true items
widened op items _ = None

abbrev pub wide_words : Items → Option Operation
wide_words items = do
  first ← first_of items
  op ← opcode_named first.0
  widened op first.1 (operands_of op)

abbrev pub push_words : ℕ → Items → Option Operation
push_words op items = do
  value ← number items
  at_end value.1 (Push op value.0)

abbrev pub load_words : ℕ → Items → Option Operation
load_words op items = do
  constant ← constant items
  at_end constant.1 (Load op constant.0)

abbrev pub member_words : (List ℕ → Option Member) → ℕ → Items → Option Operation
member_words read op items = do
  member ← item_by read items
  at_end member.1 (OfMember op member.0)

abbrev pub class_operand : ℕ → Items → Option Operation
class_operand op items = do
  class ← named ClassOrArray items
  at_end class.1 (OfClass op class.0)

-- Opcodes: 19 ldc_w, 178 to 181 getstatic to putfield, 182 to 184 invokevirtual to invokestatic, and from 187 on those that
-- name a class or an array.
abbrev pub pooled_words : ℕ → Items → Option Operation
pooled_words op items =
    if nat_lt op 20 then load_words op items
    else if nat_lt op 182 then member_words field_in op items
    else if nat_lt op 185 then member_words method_in op items
    else class_operand op items

abbrev pub array_words : Items → Option Operation
array_words items = do
  kind ← item_by kind_named items
  at_end kind.1 (NewArray kind.0)

abbrev pub jump_words : ℕ → Items → Option Operation
jump_words op items = do
  target ← label items
  at_end target.1 (Jump op target.0)

abbrev pub table_with : Number → List ℕ → List (List ℕ) → Option Operation
table_with low other [] = None
table_with low other (first ∷ more) = Some (TableSwitch low other (first ∷ more))

abbrev pub table_words : Items → Option Operation
table_words items = do
  low ← number items
  other ← label low.1
  targets ← labels other.1
  table_with low.0 other.0 targets

abbrev pub lookup_words : Items → Option Operation
lookup_words items = do
  other ← label items
  pairs ← cases other.1
  Some (LookupSwitch other.0 pairs)

-- an instruction behind its opcode
abbrev pub operand_words : ℕ → Items → Option Operands → Option Operation
operand_words op items (Some NoOperand) = at_end items (Plain op)
operand_words op items (Some SignedByte) = push_words op items
operand_words op items (Some SignedShort) = push_words op items
operand_words op items (Some LocalByte) = local_words op false items
operand_words op items (Some LocalAndStep) = iinc_words false items
operand_words op items (Some WidePrefix) = wide_words items
operand_words op items (Some PoolByte) = load_words op items
operand_words op items (Some PoolShort) = pooled_words op items
operand_words op items (Some PoolShortAndTwo) = member_words method_in op items
operand_words op items (Some ArrayKind) = array_words items
operand_words op items (Some OffsetShort) = jump_words op items
operand_words op items (Some OffsetInt) = jump_words op items
operand_words op items (Some OffsetTable) = table_words items
operand_words op items (Some KeyTable) = lookup_words items
operand_words op items None = None

abbrev pub insn_words : List ℕ → Items → Option Statement
insn_words word items = do
  op ← opcode_named word
  operation ← operand_words op items (operands_of op)
  Some (Instruction operation)

-- a label that is set: its spelling and a `:`
abbrev pub ends_in_colon : List ℕ → Bool
ends_in_colon word = slice_index word (length word - 1) == 58

abbrev pub label_set : List ℕ → Items → Option Statement
label_set word items = do
  name ← label_in (take (length word - 1) word)
  at_end items (Label name)

-- ---- lines

-- the other lines are known by their first word
abbrev pub code_words : List ℕ → Items → Option Statement
code_words word items =
    if bytes_eq word (codes "catch") then catch_words items
    else if bytes_eq word (codes "end") then at_end items End
    else if ends_in_colon word then label_set word items
    else insn_words word items

unfoldable pub words : List ℕ → Items → Option Statement
words word items =
    if bytes_eq word (codes "class") then class_words items
    else if bytes_eq word (codes "implements") then implements_words items
    else if bytes_eq word (codes "field") then field_words items
    else if bytes_eq word (codes "method") then method_words items
    else code_words word items

-- a line of no items says nothing, and no other line ends in a space
abbrev pub line_words : Bool → Items → Option (Option Statement)
line_words spaced [] = Some None
line_words spaced (word ∷ items) = if spaced then None else option_map Some (words word items)

-- what a line says, where it is in the grammar
unfoldable pub statement_of : List ℕ → Option (Option Statement)
statement_of line = line_words (ends_in_space line) (items_of line)
