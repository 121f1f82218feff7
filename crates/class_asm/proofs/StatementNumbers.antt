-- Numbers that lines say fit the fields of a class file.
use Rattle.std.proofs.Common.{◌≡◌, ℕ, ◌+◌, ◌-◌, ◌^◌, ◌<◌, ◌≤◌, Bool, true, false, ◌&&◌, not, nat_lt, nat_le, ◌==◌, List, [], ◌∷◌, Option, Some, None, option_map, refl, arith}
use Rattle.std.specs.Prelude.{pos, ◌-ℤ◌, if◌then◌else◌, codes, IfSome}
use Rattle.std.specs.Int.{w32, is_in_range}
use Rattle.std.specs.Int.RustNames.{FitsSigned}
use Rattle.std.specs.List.{AllByRecursion}
use Rattle.std.specs.Str.{bytes_eq}
use Rattle.std.proofs.lemmas.Int.{ints}
use Rattle.std.proofs.lemmas.Bool.Decides.{nat_tests}
use Rattle.jo_insn.specs.declared.opcodes.Operands.{Operands}
use Rattle.jo_insn.specs.declared.opcodes.Operands.TheVariants.{NoOperand, SignedByte, SignedShort, LocalByte, LocalAndStep, WidePrefix, PoolByte, PoolShort, PoolShortAndTwo, ArrayKind, OffsetShort, OffsetInt, OffsetTable, KeyTable}
use Rattle.jo_insn.specs.Opcodes.{operands_of, opcode_named}
use Rattle.asm_text.specs.declared.statements.Number.{Number}
use Rattle.asm_text.specs.declared.statements.Number.TheVariants.{Of, TooLarge}
use Rattle.asm_text.specs.declared.statements.Constant.{Constant}
use Rattle.asm_text.specs.declared.statements.Constant.TheVariants.{Int, Text}
use Rattle.asm_text.specs.declared.statements.Operation.{Operation}
use Rattle.asm_text.specs.declared.statements.Operation.TheVariants.{Plain, Local, Iinc, Push, Load, OfClass, OfMember, NewArray, Jump}
use Rattle.asm_text.specs.declared.statements.Statement.{Statement}
use Rattle.asm_text.specs.declared.statements.Statement.TheVariants.{Class, Implements, Field, Method, Label, Instruction, Catch, End}
use Rattle.asm_text.specs.declared.texts.NumberedLine.{NumberedLine}
use Rattle.asm_text.specs.declared.statements.Member.{Member}
use Rattle.asm_text.specs.declared.words.Kind.TheVariants.{ClassName, ClassOrArray, MemberName, FieldDesc, MethodDesc}
use Rattle.asm_text.specs.Lines.{items_of, ends_in_space}
use Rattle.asm_text.specs.ItemScan.{first_of}
use Rattle.asm_text.specs.Words.{◌>>=◌, passing, quoted_in, is_magnitude, magnitude, number_of, number_in, hex_value, flags_in, label_in, field_in, method_in}
use Rattle.asm_text.specs.Statements as st
use Rattle.asm_text.specs.Numbered.{numbered, numbered_as}

-- ---- what holds of what is read, if anything is

pub and_then : {A B : Type 0} (P : A → Type 0) (Q : B → Type 0) (read : Option A) (more : A → Option B) → IfSome read P → ((x : A) → P x → IfSome (more x) Q) → IfSome (read >>= more) Q
and_then P Q None more p goes = tt
and_then P Q (Some x) more p goes = goes x p

after : {A B : Type 0} (Q : B → Type 0) (read : Option A) (more : A → Option B) → ((x : A) → IfSome (more x) Q) → IfSome (read >>= more) Q
after Q None more goes = tt
after Q (Some x) more goes = goes x

pub either : {A : Type 0} (P : A → Type 0) (test : Bool) (this other : Option A) → IfSome this P → IfSome other P → IfSome (if test then this else other) P
either P true this other p q = p
either P false this other p q = q

mapped : {A B : Type 0} (P : B → Type 0) (f : A → B) (read : Option A) → IfSome read (λ x. P (f x)) → IfSome (option_map f read) P
mapped P f None p = tt
mapped P f (Some x) p = p

anything : {A : Type 0} (read : Option A) → IfSome read (λ x. Unit {0})
anything None = tt
anything (Some x) = tt

passed : {A : Type 0} (P : A → Type 0) (test : Bool) (x : A) → P x → IfSome (passing test x) P
passed P true x p = p
passed P false x p = tt

ended : {A : Type 0} (P : A → Type 0) (items : st.Items) (x : A) → P x → IfSome (st.at_end items x) P
ended P [] x p = p
ended P (item ∷ more) x p = tt

item_so : {A : Type 0} (P : A → Type 0) (read : List ℕ → Option A) → ((text : List ℕ) → IfSome (read text) P) → (items : st.Items) → IfSome (st.item_by read items) (λ x. P x.0)
item_so P read each items = after _ (first_of items) _ (λ first. and_then P _ (read first.0) _ (each first.0) (λ x p. p))

-- ---- numbers and flags

abbrev pub FitsNumber : Number → Type 0
FitsNumber (Of z) = FitsSigned w32 z
FitsNumber TooLarge = Unit {0}

number_fits : (negative : Bool) (n : ℕ) → FitsNumber (number_of negative n)
number_fits false n = by_test (nat_lt n (2 ^ 31)) refl
  where
    by_test : (v : Bool) → nat_lt n (2 ^ 31) ≡ v → FitsNumber (if v then Of (pos n) else TooLarge)
    by_test true is = let small : n < 2 ^ 31 = grind (arith, nat_tests) in omega (arith, ints, small)
    by_test false is = tt
number_fits true n = by_test (nat_le n (2 ^ 31)) refl
  where
    by_test : (v : Bool) → nat_le n (2 ^ 31) ≡ v → FitsNumber (if v then Of (pos 0 -ℤ pos n) else TooLarge)
    by_test true is = let small : n ≤ 2 ^ 31 = grind (arith, nat_tests) in omega (arith, ints, small)
    by_test false is = tt

number_in_fits : (text : List ℕ) → IfSome (number_in text) FitsNumber
unfolding number_in
number_in_fits [] = tt
number_in_fits (b ∷ bs) =
    either FitsNumber (b == 45) _ _ (passed FitsNumber (is_magnitude bs && not (magnitude bs == 0)) _ (number_fits true (magnitude bs)))
    (passed FitsNumber (is_magnitude (b ∷ bs)) _ (number_fits false (magnitude (b ∷ bs))))

digit_fits : (d : ℕ) → IfSome (hex_value d) (λ n. n < 16)
digit_fits d = by_tests (is_in_range 48 57 d) (is_in_range 65 70 d) (is_in_range 97 102 d) refl refl refl
  where
    by_tests : (a b c : Bool) → is_in_range 48 57 d ≡ a → is_in_range 65 70 d ≡ b → is_in_range 97 102 d ≡ c
        → IfSome (if a then Some (d - 48) else if b then Some (d - 55) else if c then Some (d - 87) else None) (λ n. n < 16)
    by_tests true b c is _ _ = let within : d ≤ 57 = grind (arith, nat_tests) in omega (arith, within)
    by_tests false true c _ is _ = let within : d ≤ 70 = grind (arith, nat_tests) in omega (arith, within)
    by_tests false false true _ _ is = let within : d ≤ 102 = grind (arith, nat_tests) in omega (arith, within)
    by_tests false false false _ _ _ = tt

flags_fit : (text : List ℕ) → IfSome (flags_in text) (λ n. n < 2 ^ 16)
flags_fit (z ∷ x ∷ a ∷ b ∷ c ∷ d ∷ []) =
    either _ (z == 48 && x == 120) _ _
    (and_then _ _ (hex_value a) _ (digit_fits a) (λ high p.
    and_then _ _ (hex_value b) _ (digit_fits b) (λ next q.
    and_then _ _ (hex_value c) _ (digit_fits c) (λ third r.
    and_then _ _ (hex_value d) _ (digit_fits d) (λ low s. omega (arith, p, q, r, s)))))) tt
flags_fit _ = tt

abbrev pub FitsValue : Constant → Type 0
FitsValue (Int n) = FitsNumber n
FitsValue (Text text) = Unit {0}

constant_fits : (text : List ℕ) → IfSome (st.constant_in text) FitsValue
constant_fits text = either FitsValue (st.begins_quoted text) _ _ (mapped FitsValue Text (quoted_in text) (anything (quoted_in text))) (mapped FitsValue Int (number_in text) (number_in_fits text))

-- ---- what a line says

abbrev pub FitsOptional : Option Constant → Type 0
FitsOptional None = Unit {0}
FitsOptional (Some constant) = FitsValue constant

abbrev pub FitsOperation : Operation → Type 0
FitsOperation (Load op constant) = FitsValue constant
FitsOperation _ = Unit {0}

abbrev pub FitsStatement : Statement → Type 0
FitsStatement (Class name above flags) = flags < 2 ^ 16
FitsStatement (Field name desc flags constant) = (flags < 2 ^ 16) × FitsOptional constant
FitsStatement (Method name desc flags limits) = flags < 2 ^ 16
FitsStatement (Instruction operation) = FitsOperation operation
FitsStatement _ = Unit {0}

abbrev pub FitsSaid : Option Statement → Type 0
FitsSaid None = Unit {0}
FitsSaid (Some statement) = FitsStatement statement

flag_words_fit : (items : st.Items) → IfSome (st.flag_words items) (λ x. x.0 < 2 ^ 16)
flag_words_fit items = after _ (st.behind_word (codes "flags") items) _ (λ rest. item_so (λ n. n < 2 ^ 16) flags_in flags_fit rest)

class_fits : (items : st.Items) → IfSome (st.class_words items) FitsStatement
class_fits items =
    after _ (st.named ClassName items) _ (λ name.
    after _ (st.behind_word (codes "super") name.1) _ (λ rest.
    after _ (st.named ClassName rest) _ (λ above.
    and_then _ _ (st.flag_words above.1) _ (flag_words_fit above.1) (λ flags p.
    ended FitsStatement flags.1 (Class name.0 above.0 flags.0) p))))

implements_fits : (items : st.Items) → IfSome (st.implements_words items) FitsStatement
implements_fits items = after _ (st.named ClassName items) _ (λ name. ended FitsStatement name.1 (Implements name.0) tt)

value_fits : (items : st.Items) → IfSome (st.value_words items) FitsOptional
value_fits [] = tt
value_fits (item ∷ more) =
    after _ (st.behind_word (codes "value") (item ∷ more)) _ (λ rest.
    and_then _ _ (st.constant rest) _ (item_so FitsValue st.constant_in constant_fits rest) (λ constant p.
    ended FitsOptional constant.1 (Some constant.0) p))

field_fits : (items : st.Items) → IfSome (st.field_words items) FitsStatement
field_fits items =
    after _ (st.named MemberName items) _ (λ name.
    after _ (st.named FieldDesc name.1) _ (λ desc.
    and_then _ _ (st.flag_words desc.1) _ (flag_words_fit desc.1) (λ flags p.
    and_then _ _ (st.value_words flags.1) _ (value_fits flags.1) (λ constant q. (p, q)))))

method_fits : (items : st.Items) → IfSome (st.method_words items) FitsStatement
method_fits items =
    after _ (st.named MemberName items) _ (λ name.
    after _ (st.named MethodDesc name.1) _ (λ desc.
    and_then _ _ (st.flag_words desc.1) _ (flag_words_fit desc.1) (λ flags p.
    after _ (st.limit_words flags.1) _ (λ limits. p))))

catch_fits : (items : st.Items) → IfSome (st.catch_words items) FitsStatement
catch_fits items =
    after _ (st.label items) _ (λ start.
    after _ (st.label start.1) _ (λ end.
    after _ (st.label end.1) _ (λ handler.
    after _ (st.item_by st.caught_in handler.1) _ (λ caught.
    ended FitsStatement caught.1 (Catch start.0 end.0 handler.0 caught.0) tt))))

-- ---- instructions

local_fits : (op : ℕ) (wide : Bool) (items : st.Items) → IfSome (st.local_words op wide items) FitsOperation
local_fits op wide items = after _ (st.number items) _ (λ index. ended FitsOperation index.1 (Local op index.0 wide) tt)

iinc_fits : (wide : Bool) (items : st.Items) → IfSome (st.iinc_words wide items) FitsOperation
iinc_fits wide items = after _ (st.number items) _ (λ index. after _ (st.number index.1) _ (λ by. ended FitsOperation by.1 (Iinc index.0 by.0 wide) tt))

widened_fits : (op : ℕ) (items : st.Items) (operands : Option Operands) → IfSome (st.widened op items operands) FitsOperation
widened_fits op items (Some LocalByte) = local_fits op true items
widened_fits op items (Some LocalAndStep) = iinc_fits true items
widened_fits op items _ = tt

wide_fits : (items : st.Items) → IfSome (st.wide_words items) FitsOperation
wide_fits items = after _ (first_of items) _ (λ first. after _ (opcode_named first.0) _ (λ op. widened_fits op first.1 (operands_of op)))

push_fits : (op : ℕ) (items : st.Items) → IfSome (st.push_words op items) FitsOperation
push_fits op items = after _ (st.number items) _ (λ value. ended FitsOperation value.1 (Push op value.0) tt)

load_fits : (op : ℕ) (items : st.Items) → IfSome (st.load_words op items) FitsOperation
load_fits op items = and_then _ _ (st.constant items) _ (item_so FitsValue st.constant_in constant_fits items) (λ constant p. ended FitsOperation constant.1 (Load op constant.0) p)

member_fits : (read : List ℕ → Option Member) (op : ℕ) (items : st.Items) → IfSome (st.member_words read op items) FitsOperation
member_fits read op items = after _ (st.item_by read items) _ (λ member. ended FitsOperation member.1 (OfMember op member.0) tt)

class_operand_fits : (op : ℕ) (items : st.Items) → IfSome (st.class_operand op items) FitsOperation
class_operand_fits op items = after _ (st.named ClassOrArray items) _ (λ class. ended FitsOperation class.1 (OfClass op class.0) tt)

pooled_fits : (op : ℕ) (items : st.Items) → IfSome (st.pooled_words op items) FitsOperation
pooled_fits op items =
    either FitsOperation (nat_lt op 20) _ _ (load_fits op items)
    (either FitsOperation (nat_lt op 182) _ _ (member_fits field_in op items)
    (either FitsOperation (nat_lt op 185) _ _ (member_fits method_in op items) (class_operand_fits op items)))

array_fits : (items : st.Items) → IfSome (st.array_words items) FitsOperation
array_fits items = after _ (st.item_by _ items) _ (λ kind. ended FitsOperation kind.1 (NewArray kind.0) tt)

jump_fits : (op : ℕ) (items : st.Items) → IfSome (st.jump_words op items) FitsOperation
jump_fits op items = after _ (st.label items) _ (λ target. ended FitsOperation target.1 (Jump op target.0) tt)

table_with_fits : (low : Number) (other : List ℕ) (labels : List (List ℕ)) → IfSome (st.table_with low other labels) FitsOperation
table_with_fits low other [] = tt
table_with_fits low other (first ∷ more) = tt

table_fits : (items : st.Items) → IfSome (st.table_words items) FitsOperation
table_fits items = after _ (st.number items) _ (λ low. after _ (st.label low.1) _ (λ other. after _ (st.labels other.1) _ (λ targets. table_with_fits low.0 other.0 targets)))

lookup_fits : (items : st.Items) → IfSome (st.lookup_words items) FitsOperation
lookup_fits items = after _ (st.label items) _ (λ other. after _ (st.cases other.1) _ (λ pairs. tt))

operand_fits : (op : ℕ) (items : st.Items) (operands : Option Operands) → IfSome (st.operand_words op items operands) FitsOperation
operand_fits op items (Some NoOperand) = ended FitsOperation items (Plain op) tt
operand_fits op items (Some SignedByte) = push_fits op items
operand_fits op items (Some SignedShort) = push_fits op items
operand_fits op items (Some LocalByte) = local_fits op false items
operand_fits op items (Some LocalAndStep) = iinc_fits false items
operand_fits op items (Some WidePrefix) = wide_fits items
operand_fits op items (Some PoolByte) = load_fits op items
operand_fits op items (Some PoolShort) = pooled_fits op items
operand_fits op items (Some PoolShortAndTwo) = member_fits method_in op items
operand_fits op items (Some ArrayKind) = array_fits items
operand_fits op items (Some OffsetShort) = jump_fits op items
operand_fits op items (Some OffsetInt) = jump_fits op items
operand_fits op items (Some OffsetTable) = table_fits items
operand_fits op items (Some KeyTable) = lookup_fits items
operand_fits op items None = tt

insn_fits : (word : List ℕ) (items : st.Items) → IfSome (st.insn_words word items) FitsStatement
insn_fits word items =
    after _ (opcode_named word) _ (λ op.
    and_then _ _ (st.operand_words op items (operands_of op)) _ (operand_fits op items (operands_of op)) (λ operation p. p))

label_fits : (word : List ℕ) (items : st.Items) → IfSome (st.label_set word items) FitsStatement
label_fits word items = after _ (label_in _) _ (λ name. ended FitsStatement items (Label name) tt)

-- ---- lines

code_words_fit : (word : List ℕ) (items : st.Items) → IfSome (st.code_words word items) FitsStatement
code_words_fit word items =
    either FitsStatement (bytes_eq word (codes "catch")) _ _ (catch_fits items)
    (either FitsStatement (bytes_eq word (codes "end")) _ _ (ended FitsStatement items End tt)
    (either FitsStatement (st.ends_in_colon word) _ _ (label_fits word items) (insn_fits word items)))

words_fit : (word : List ℕ) (items : st.Items) → IfSome (st.words word items) FitsStatement
unfolding st.words
words_fit word items =
    either FitsStatement (bytes_eq word (codes "class")) _ _ (class_fits items)
    (either FitsStatement (bytes_eq word (codes "implements")) _ _ (implements_fits items)
    (either FitsStatement (bytes_eq word (codes "field")) _ _ (field_fits items)
    (either FitsStatement (bytes_eq word (codes "method")) _ _ (method_fits items) (code_words_fit word items))))

line_words_fit : (spaced : Bool) (items : st.Items) → IfSome (st.line_words spaced items) FitsSaid
line_words_fit spaced [] = tt
line_words_fit true (word ∷ items) = tt
line_words_fit false (word ∷ items) = mapped FitsSaid Some (st.words word items) (words_fit word items)

statement_fits : (line : List ℕ) → IfSome (st.statement_of line) FitsSaid
unfolding st.statement_of
statement_fits line = line_words_fit (ends_in_space line) (items_of line)

abbrev pub AllFit : List NumberedLine → Type 0
AllFit lines = AllByRecursion (λ (line : NumberedLine). FitsSaid line.said) lines

numbered_one : (n : ℕ) (said : Option (Option Statement)) (more : List NumberedLine) → IfSome said FitsSaid → AllFit more → AllFit (numbered_as n said more)
numbered_one n None more p all = (tt, all)
numbered_one n (Some None) more p all = all
numbered_one n (Some (Some statement)) more p all = (p, all)

pub lines_fit : (n : ℕ) (lines : List (List ℕ)) → AllFit (numbered n lines)
lines_fit n [] = tt
lines_fit n (line ∷ more) = numbered_one n (st.statement_of line) (numbered (n + 1) more) (statement_fits line) (lines_fit (n + 1) more)
