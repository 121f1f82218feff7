-- What the texts of the prelude spell of the names that its hierarchy needs.
use Rattle.std.proofs.Common.{◌≡◌, ◌∙◌, ℕ, Bool, true, false, ◌||◌, List, [], ◌∷◌, ◌++◌, map, Option, Some, None, refl, ap}
use Rattle.std.specs.Prelude.{codes, is_none, is_some, nat_lt, ◌&&◌, ◌^◌, length, Result, Ok, Err}
use Rattle.std.specs.List.{flat_map, list_all}
use Rattle.std.proofs.lemmas.List.{map-append}
use Rattle.asm_text.specs.Words.{bytes_in, name_in, quoted_in, number_in}
use Rattle.asm_text.specs.Lines.{lines_of, pieces, items_of}
use Rattle.asm_text.specs.Statements.{words, statement_of}
use Rattle.jo_text.specs.Scan.{names_on, read_class, letter_base, read_base, read_field as read_desc}
use Rattle.jo_text.specs.Tests.{is_field_desc}
use Rattle.jo_insn.specs.ArrayKinds.{kind_names, name_of_kind, kind_named}
use Rattle.jo_insn.specs.Opcodes.{opcodes, row_of, opcode_named}
use Rattle.class_pool.specs.declared.entries.PoolEntry.{PoolEntry}
use Rattle.class_pool.specs.declared.entries.PoolEntry.TheVariants.{FieldRef, MethodRef, InterfaceMethodRef}
use Rattle.class_pool.specs.declared.classes.ClassFile.{ClassFile}
use Rattle.class_pool.specs.declared.classes.FieldInfo.{FieldInfo}
use Rattle.class_pool.specs.declared.classes.MethodInfo.{MethodInfo}
use Rattle.class_pool.specs.declared.classes.CodeInfo.{CodeInfo}
use Rattle.class_pool.specs.declared.faults.ClassCode.{ClassCode}
use Rattle.class_pool.specs.Code.{insns_of, insns_from, first_bad_jump, row_fault}
use Rattle.jo_insn.specs.declared.jumps.Placed.{Placed}
use Rattle.jo_insn.specs.Instructions.{decoded}
use Rattle.class_pool.specs.Pool.{class_name_at, desc_at}
use Rattle.class_asm.specs.Needs.{need, need_text, need_class, need_constant, need_member}
use Rattle.class_asm.specs.Assembly.{assembled, code_line, member_line, line_by}
use Rattle.class_asm.specs.Encoding.{need_operand, operation_bytes}
use Rattle.hierarchy.specs.Resolutions.{is_of_method}
use Rattle.prelude.specs.Texts.{object_text, string_text, runnable_text, thread_text, throwable_text, exception_text, exceptions, lower_texts}
use Rattle.prelude.specs.Classes.{class_of_text, object_classes, prelude_classes}
use Rattle.linker.specs.Linking.{this_name, text_at}

-- the descriptor of a method, or of a field
abbrev pub is_typed : Option (List ℕ) → Bool
is_typed None = false
is_typed (Some text) = is_of_method text || is_field_desc text

-- a member that an entry names has a descriptor
abbrev pub names_typed : List PoolEntry → PoolEntry → Bool
names_typed pool (FieldRef class type) = is_typed (desc_at pool type)
names_typed pool (MethodRef class type) = is_typed (desc_at pool type)
names_typed pool (InterfaceMethodRef class type) = is_typed (desc_at pool type)
names_typed pool _ = true

abbrev pub are_whole : List PoolEntry → CodeInfo → Result (List Placed) (ClassCode × ℕ) → Bool
are_whole pool c (Err fault) = false
are_whole pool c (Ok insns) = (nat_lt 0 (length c.bytes) && nat_lt (length c.bytes) (2 ^ 16)) && (is_none (first_bad_jump c.bytes insns insns) && is_none (row_fault pool (length c.bytes) insns 0 c.rows)) && list_all (λ byte. nat_lt byte (2 ^ 8)) c.bytes

-- the instructions of the code stand one behind another up to its end, and jump and are caught where one stands
abbrev pub is_whole_if_any : List PoolEntry → Option CodeInfo → Bool
is_whole_if_any pool None = true
is_whole_if_any pool (Some c) = are_whole pool c (insns_of pool c.bytes)

-- a method by its name, descriptor and flags, and whether it has code
pub record Head : Type 0 where
  pub name : List ℕ
  pub desc : List ℕ
  pub flags : ℕ
  pub coded : Bool

abbrev pub head_of : List PoolEntry → MethodInfo → Head
head_of pool info = record { name = text_at pool info.name; desc = text_at pool info.desc; flags = info.flags; coded = is_some info.code }

-- a class with the names of its superclass and interfaces, the constant of each of its fields, and whether its pool names members that
-- have descriptors and its code is whole, and its methods
pub record Spelled : Type 0 where
  pub name : List ℕ
  pub flags : ℕ
  pub superclass : Option (List ℕ)
  pub interfaces : List (Option (List ℕ))
  pub constants : List (Option ℕ)
  pub typed : Bool
  pub whole : Bool
  pub methods : List Head

abbrev pub spelled_of : ClassFile → Spelled
spelled_of file = record {
  name = this_name file;
  flags = file.flags;
  superclass = class_name_at file.pool file.super_class;
  interfaces = map (class_name_at file.pool) file.interfaces;
  constants = map (λ (field : FieldInfo). field.constant) file.fields;
  typed = list_all (names_typed file.pool) file.pool;
  whole = list_all (λ (method : MethodInfo). is_whole_if_any file.pool method.code) file.methods;
  methods = map (head_of file.pool) file.methods;
}

abbrev public : List ℕ → List ℕ → Head
public name desc = record { name = name; desc = desc; flags = 0x0001; coded = true }

-- one of the machine's
abbrev bodiless : List ℕ → Head
bodiless name = record { name = name; desc = codes "()V"; flags = 0x0001; coded = false }

abbrev exception_heads : List Head
exception_heads = public (codes "<init>") (codes "()V") ∷ public (codes "<init>") (codes "(Ljava/lang/String;)V") ∷ []

abbrev pub run_head : Head
run_head = public (codes "run") (codes "()V")

abbrev pub thread_heads : List Head
thread_heads = public (codes "<init>") (codes "()V") ∷ public (codes "<init>") (codes "(Ljava/lang/Runnable;)V") ∷ run_head ∷ bodiless (codes "start") ∷ bodiless (codes "join") ∷ []

abbrev pub below : List ℕ → List ℕ → Spelled
below name above = record { name = codes "java/lang/" ++ name; flags = 0x0021; superclass = Some (codes "java/lang/" ++ above); interfaces = []; constants = []; typed = true; whole = true; methods = exception_heads }

abbrev object_spelled : Spelled
object_spelled = record { name = codes "java/lang/Object"; flags = 0x0021; superclass = None; interfaces = []; constants = []; typed = true; whole = true; methods = public (codes "<init>") (codes "()V") ∷ public (codes "equals") (codes "(Ljava/lang/Object;)Z") ∷ [] }

abbrev string_spelled : Spelled
string_spelled = record { name = codes "java/lang/String"; flags = 0x0021; superclass = Some (codes "java/lang/Object"); interfaces = []; constants = []; typed = true; whole = true; methods = [] }

abbrev runnable_spelled : Spelled
runnable_spelled = record { name = codes "java/lang/Runnable"; flags = 0x0601; superclass = Some (codes "java/lang/Object"); interfaces = []; constants = []; typed = true; whole = true; methods = record { name = codes "run"; desc = codes "()V"; flags = 0x0401; coded = false } ∷ [] }

abbrev pub thread_spelled : Spelled
thread_spelled = record { name = codes "java/lang/Thread"; flags = 0x0021; superclass = Some (codes "java/lang/Object"); interfaces = Some (codes "java/lang/Runnable") ∷ []; constants = None ∷ []; typed = true; whole = true; methods = thread_heads }

abbrev throwable_spelled : Spelled
throwable_spelled = record { name = codes "java/lang/Throwable"; flags = 0x0021; superclass = Some (codes "java/lang/Object"); interfaces = []; constants = None ∷ []; typed = true; whole = true; methods = exception_heads ++ public (codes "getMessage") (codes "()Ljava/lang/String;") ∷ [] }

abbrev lower_spelled : List Spelled
lower_spelled =
    string_spelled ∷ runnable_spelled ∷ thread_spelled ∷ throwable_spelled
    ∷ below (codes "Exception") (codes "Throwable")
    ∷ below (codes "Error") (codes "Throwable")
    ∷ below (codes "RuntimeException") (codes "Exception")
    ∷ below (codes "ArithmeticException") (codes "RuntimeException")
    ∷ below (codes "NullPointerException") (codes "RuntimeException")
    ∷ below (codes "ClassCastException") (codes "RuntimeException")
    ∷ below (codes "IndexOutOfBoundsException") (codes "RuntimeException")
    ∷ below (codes "ArrayStoreException") (codes "RuntimeException")
    ∷ below (codes "NegativeArraySizeException") (codes "RuntimeException")
    ∷ below (codes "IllegalArgumentException") (codes "RuntimeException")
    ∷ below (codes "IllegalStateException") (codes "RuntimeException")
    ∷ below (codes "IllegalMonitorStateException") (codes "RuntimeException")
    ∷ below (codes "UnsupportedOperationException") (codes "RuntimeException")
    ∷ below (codes "ArrayIndexOutOfBoundsException") (codes "IndexOutOfBoundsException")
    ∷ below (codes "IllegalThreadStateException") (codes "IllegalArgumentException")
    ∷ below (codes "InterruptedException") (codes "Exception")
    ∷ below (codes "LinkageError") (codes "Error")
    ∷ below (codes "IncompatibleClassChangeError") (codes "LinkageError")
    ∷ []

abbrev pub prelude_spelled : List Spelled
prelude_spelled = object_spelled ∷ lower_spelled

-- the text says one class, spelled so
abbrev Spells : List ℕ → Spelled → Type 0
Spells text spelled = map spelled_of (class_of_text text) ≡ spelled ∷ []

spells-object : map spelled_of object_classes ≡ object_spelled ∷ []
unfolding class_of_text assembled need need_text need_class need_constant need_member code_line member_line line_by need_operand operation_bytes bytes_in name_in quoted_in number_in lines_of pieces items_of words statement_of names_on read_class letter_base read_base read_desc kind_names name_of_kind kind_named opcodes row_of opcode_named decoded insns_from object_text
spells-object = refl

spells-string : Spells string_text string_spelled
unfolding class_of_text assembled need need_text need_class need_constant need_member code_line member_line line_by need_operand operation_bytes bytes_in name_in quoted_in number_in lines_of pieces items_of words statement_of names_on read_class letter_base read_base read_desc kind_names name_of_kind kind_named opcodes row_of opcode_named decoded insns_from string_text
spells-string = refl

spells-runnable : Spells runnable_text runnable_spelled
unfolding class_of_text assembled need need_text need_class need_constant need_member code_line member_line line_by need_operand operation_bytes bytes_in name_in quoted_in number_in lines_of pieces items_of words statement_of names_on read_class letter_base read_base read_desc kind_names name_of_kind kind_named opcodes row_of opcode_named decoded insns_from runnable_text
spells-runnable = refl

spells-thread : Spells thread_text thread_spelled
unfolding class_of_text assembled need need_text need_class need_constant need_member code_line member_line line_by need_operand operation_bytes bytes_in name_in quoted_in number_in lines_of pieces items_of words statement_of names_on read_class letter_base read_base read_desc kind_names name_of_kind kind_named opcodes row_of opcode_named decoded insns_from thread_text
spells-thread = refl

spells-throwable : Spells throwable_text throwable_spelled
unfolding class_of_text assembled need need_text need_class need_constant need_member code_line member_line line_by need_operand operation_bytes bytes_in name_in quoted_in number_in lines_of pieces items_of words statement_of names_on read_class letter_base read_base read_desc kind_names name_of_kind kind_named opcodes row_of opcode_named decoded insns_from throwable_text
spells-throwable = refl

spells-Exception : Spells (exception_text (codes "Exception", codes "Throwable")) (below (codes "Exception") (codes "Throwable"))
unfolding class_of_text assembled need need_text need_class need_constant need_member code_line member_line line_by need_operand operation_bytes bytes_in name_in quoted_in number_in lines_of pieces items_of words statement_of names_on read_class letter_base read_base read_desc kind_names name_of_kind kind_named opcodes row_of opcode_named decoded insns_from exception_text
spells-Exception = refl

spells-Error : Spells (exception_text (codes "Error", codes "Throwable")) (below (codes "Error") (codes "Throwable"))
unfolding class_of_text assembled need need_text need_class need_constant need_member code_line member_line line_by need_operand operation_bytes bytes_in name_in quoted_in number_in lines_of pieces items_of words statement_of names_on read_class letter_base read_base read_desc kind_names name_of_kind kind_named opcodes row_of opcode_named decoded insns_from exception_text
spells-Error = refl

spells-RuntimeException : Spells (exception_text (codes "RuntimeException", codes "Exception")) (below (codes "RuntimeException") (codes "Exception"))
unfolding class_of_text assembled need need_text need_class need_constant need_member code_line member_line line_by need_operand operation_bytes bytes_in name_in quoted_in number_in lines_of pieces items_of words statement_of names_on read_class letter_base read_base read_desc kind_names name_of_kind kind_named opcodes row_of opcode_named decoded insns_from exception_text
spells-RuntimeException = refl

spells-ArithmeticException : Spells (exception_text (codes "ArithmeticException", codes "RuntimeException")) (below (codes "ArithmeticException") (codes "RuntimeException"))
unfolding class_of_text assembled need need_text need_class need_constant need_member code_line member_line line_by need_operand operation_bytes bytes_in name_in quoted_in number_in lines_of pieces items_of words statement_of names_on read_class letter_base read_base read_desc kind_names name_of_kind kind_named opcodes row_of opcode_named decoded insns_from exception_text
spells-ArithmeticException = refl

spells-NullPointerException : Spells (exception_text (codes "NullPointerException", codes "RuntimeException")) (below (codes "NullPointerException") (codes "RuntimeException"))
unfolding class_of_text assembled need need_text need_class need_constant need_member code_line member_line line_by need_operand operation_bytes bytes_in name_in quoted_in number_in lines_of pieces items_of words statement_of names_on read_class letter_base read_base read_desc kind_names name_of_kind kind_named opcodes row_of opcode_named decoded insns_from exception_text
spells-NullPointerException = refl

spells-ClassCastException : Spells (exception_text (codes "ClassCastException", codes "RuntimeException")) (below (codes "ClassCastException") (codes "RuntimeException"))
unfolding class_of_text assembled need need_text need_class need_constant need_member code_line member_line line_by need_operand operation_bytes bytes_in name_in quoted_in number_in lines_of pieces items_of words statement_of names_on read_class letter_base read_base read_desc kind_names name_of_kind kind_named opcodes row_of opcode_named decoded insns_from exception_text
spells-ClassCastException = refl

spells-IndexOutOfBoundsException : Spells (exception_text (codes "IndexOutOfBoundsException", codes "RuntimeException")) (below (codes "IndexOutOfBoundsException") (codes "RuntimeException"))
unfolding class_of_text assembled need need_text need_class need_constant need_member code_line member_line line_by need_operand operation_bytes bytes_in name_in quoted_in number_in lines_of pieces items_of words statement_of names_on read_class letter_base read_base read_desc kind_names name_of_kind kind_named opcodes row_of opcode_named decoded insns_from exception_text
spells-IndexOutOfBoundsException = refl

spells-ArrayStoreException : Spells (exception_text (codes "ArrayStoreException", codes "RuntimeException")) (below (codes "ArrayStoreException") (codes "RuntimeException"))
unfolding class_of_text assembled need need_text need_class need_constant need_member code_line member_line line_by need_operand operation_bytes bytes_in name_in quoted_in number_in lines_of pieces items_of words statement_of names_on read_class letter_base read_base read_desc kind_names name_of_kind kind_named opcodes row_of opcode_named decoded insns_from exception_text
spells-ArrayStoreException = refl

spells-NegativeArraySizeException : Spells (exception_text (codes "NegativeArraySizeException", codes "RuntimeException")) (below (codes "NegativeArraySizeException") (codes "RuntimeException"))
unfolding class_of_text assembled need need_text need_class need_constant need_member code_line member_line line_by need_operand operation_bytes bytes_in name_in quoted_in number_in lines_of pieces items_of words statement_of names_on read_class letter_base read_base read_desc kind_names name_of_kind kind_named opcodes row_of opcode_named decoded insns_from exception_text
spells-NegativeArraySizeException = refl

spells-IllegalArgumentException : Spells (exception_text (codes "IllegalArgumentException", codes "RuntimeException")) (below (codes "IllegalArgumentException") (codes "RuntimeException"))
unfolding class_of_text assembled need need_text need_class need_constant need_member code_line member_line line_by need_operand operation_bytes bytes_in name_in quoted_in number_in lines_of pieces items_of words statement_of names_on read_class letter_base read_base read_desc kind_names name_of_kind kind_named opcodes row_of opcode_named decoded insns_from exception_text
spells-IllegalArgumentException = refl

spells-IllegalStateException : Spells (exception_text (codes "IllegalStateException", codes "RuntimeException")) (below (codes "IllegalStateException") (codes "RuntimeException"))
unfolding class_of_text assembled need need_text need_class need_constant need_member code_line member_line line_by need_operand operation_bytes bytes_in name_in quoted_in number_in lines_of pieces items_of words statement_of names_on read_class letter_base read_base read_desc kind_names name_of_kind kind_named opcodes row_of opcode_named decoded insns_from exception_text
spells-IllegalStateException = refl

spells-IllegalMonitorStateException : Spells (exception_text (codes "IllegalMonitorStateException", codes "RuntimeException")) (below (codes "IllegalMonitorStateException") (codes "RuntimeException"))
unfolding class_of_text assembled need need_text need_class need_constant need_member code_line member_line line_by need_operand operation_bytes bytes_in name_in quoted_in number_in lines_of pieces items_of words statement_of names_on read_class letter_base read_base read_desc kind_names name_of_kind kind_named opcodes row_of opcode_named decoded insns_from exception_text
spells-IllegalMonitorStateException = refl

spells-UnsupportedOperationException : Spells (exception_text (codes "UnsupportedOperationException", codes "RuntimeException")) (below (codes "UnsupportedOperationException") (codes "RuntimeException"))
unfolding class_of_text assembled need need_text need_class need_constant need_member code_line member_line line_by need_operand operation_bytes bytes_in name_in quoted_in number_in lines_of pieces items_of words statement_of names_on read_class letter_base read_base read_desc kind_names name_of_kind kind_named opcodes row_of opcode_named decoded insns_from exception_text
spells-UnsupportedOperationException = refl

spells-ArrayIndexOutOfBoundsException : Spells (exception_text (codes "ArrayIndexOutOfBoundsException", codes "IndexOutOfBoundsException")) (below (codes "ArrayIndexOutOfBoundsException") (codes "IndexOutOfBoundsException"))
unfolding class_of_text assembled need need_text need_class need_constant need_member code_line member_line line_by need_operand operation_bytes bytes_in name_in quoted_in number_in lines_of pieces items_of words statement_of names_on read_class letter_base read_base read_desc kind_names name_of_kind kind_named opcodes row_of opcode_named decoded insns_from exception_text
spells-ArrayIndexOutOfBoundsException = refl

spells-IllegalThreadStateException : Spells (exception_text (codes "IllegalThreadStateException", codes "IllegalArgumentException")) (below (codes "IllegalThreadStateException") (codes "IllegalArgumentException"))
unfolding class_of_text assembled need need_text need_class need_constant need_member code_line member_line line_by need_operand operation_bytes bytes_in name_in quoted_in number_in lines_of pieces items_of words statement_of names_on read_class letter_base read_base read_desc kind_names name_of_kind kind_named opcodes row_of opcode_named decoded insns_from exception_text
spells-IllegalThreadStateException = refl

spells-InterruptedException : Spells (exception_text (codes "InterruptedException", codes "Exception")) (below (codes "InterruptedException") (codes "Exception"))
unfolding class_of_text assembled need need_text need_class need_constant need_member code_line member_line line_by need_operand operation_bytes bytes_in name_in quoted_in number_in lines_of pieces items_of words statement_of names_on read_class letter_base read_base read_desc kind_names name_of_kind kind_named opcodes row_of opcode_named decoded insns_from exception_text
spells-InterruptedException = refl

spells-LinkageError : Spells (exception_text (codes "LinkageError", codes "Error")) (below (codes "LinkageError") (codes "Error"))
unfolding class_of_text assembled need need_text need_class need_constant need_member code_line member_line line_by need_operand operation_bytes bytes_in name_in quoted_in number_in lines_of pieces items_of words statement_of names_on read_class letter_base read_base read_desc kind_names name_of_kind kind_named opcodes row_of opcode_named decoded insns_from exception_text
spells-LinkageError = refl

spells-IncompatibleClassChangeError : Spells (exception_text (codes "IncompatibleClassChangeError", codes "LinkageError")) (below (codes "IncompatibleClassChangeError") (codes "LinkageError"))
unfolding class_of_text assembled need need_text need_class need_constant need_member code_line member_line line_by need_operand operation_bytes bytes_in name_in quoted_in number_in lines_of pieces items_of words statement_of names_on read_class letter_base read_base read_desc kind_names name_of_kind kind_named opcodes row_of opcode_named decoded insns_from exception_text
spells-IncompatibleClassChangeError = refl

-- each text says its class
abbrev EachSpells : List (List ℕ) → List Spelled → Type 0
EachSpells [] [] = Unit {0}
EachSpells (text ∷ texts) (spelled ∷ more) = Spells text spelled × EachSpells texts more
EachSpells _ _ = ⊥

lower_spell : EachSpells lower_texts lower_spelled
unfolding exceptions
lower_spell = (spells-string, (spells-runnable, (spells-thread, (spells-throwable, (spells-Exception, (spells-Error, (spells-RuntimeException, (spells-ArithmeticException, (spells-NullPointerException, (spells-ClassCastException, (spells-IndexOutOfBoundsException, (spells-ArrayStoreException, (spells-NegativeArraySizeException, (spells-IllegalArgumentException, (spells-IllegalStateException, (spells-IllegalMonitorStateException, (spells-UnsupportedOperationException, (spells-ArrayIndexOutOfBoundsException, (spells-IllegalThreadStateException, (spells-InterruptedException, (spells-LinkageError, (spells-IncompatibleClassChangeError, tt))))))))))))))))))))))

are_spelled : (texts : List (List ℕ)) (spelled : List Spelled) → EachSpells texts spelled → map spelled_of (flat_map class_of_text texts) ≡ spelled
are_spelled [] [] e = refl
are_spelled [] (one ∷ more) e = absurd e
are_spelled (text ∷ texts) [] e = absurd e
are_spelled (text ∷ texts) (one ∷ more) e =
    map-append spelled_of (class_of_text text) (flat_map class_of_text texts) ∙ ap (λ (front : List Spelled). front ++ map spelled_of (flat_map class_of_text texts)) e.0
    ∙ ap (λ (back : List Spelled). one ∷ back) (are_spelled texts more e.1)

pub prelude_is_spelled : map spelled_of prelude_classes ≡ prelude_spelled
unfolding prelude_classes
prelude_is_spelled =
    map-append spelled_of object_classes (flat_map class_of_text lower_texts)
    ∙ ap (λ (front : List Spelled). front ++ map spelled_of (flat_map class_of_text lower_texts)) spells-object
    ∙ ap (λ (back : List Spelled). object_spelled ∷ back) (are_spelled lower_texts lower_spelled lower_spell)
