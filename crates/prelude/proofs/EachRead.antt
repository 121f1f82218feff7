-- Each class that a class file can hold is read from its canonical bytes.
use Rattle.std.proofs.Common.{◌≡◌, ◌<◌, ◌^◌, ℕ, Bool, true, false, List, [], ◌∷◌, ◌++◌, map, Ok, refl, arith}
use Rattle.std.specs.Prelude.{codes, ◌&&◌, nat_lt}
use Rattle.std.specs.List.{flat_map, list_all, AllByRecursion}
use Rattle.std.proofs.lemmas.Bool.Decides.{nat_tests}
use Rattle.asm_text.specs.Words.{bytes_in, name_in, quoted_in, number_in}
use Rattle.asm_text.specs.Lines.{lines_of, pieces, items_of}
use Rattle.asm_text.specs.Statements.{words, statement_of}
use Rattle.jo_text.specs.Scan.{names_on, read_class, letter_base, read_base, read_field as read_desc}
use Rattle.jo_insn.specs.ArrayKinds.{kind_names, name_of_kind, kind_named}
use Rattle.jo_insn.specs.Opcodes.{opcodes, row_of, opcode_named}
use Rattle.jo_insn.specs.Instructions.{decoded}
use Rattle.class_pool.specs.declared.classes.ClassFile.{ClassFile}
use Rattle.class_pool.specs.Items.{many}
use Rattle.class_pool.specs.Pool.{read_indices, read_tagged, read_entry, read_entries, reference_fault, read_pool_from}
use Rattle.class_pool.specs.Code.{insns_from}
use Rattle.class_pool.specs.ClassOrder.{read_head, skip_attribute, field_attribute, field_attributes, read_field, read_spelled, read_code, method_attributes, read_method, read_behind, class_of}
use Rattle.class_pool.specs.ClassGrammar.{IsClass}
use Rattle.class_pool.proofs.GrammarClass.{reading_is_the_grammar}
use Rattle.class_write.specs.Spelling.{spelled_class}
use Rattle.class_asm.specs.Needs.{need, need_text, need_class, need_constant, need_member}
use Rattle.class_asm.specs.Assembly.{assembled, code_line, member_line, line_by}
use Rattle.class_asm.specs.Encoding.{need_operand, operation_bytes}
use Rattle.prelude.specs.Texts.{string_text, runnable_text, throwable_text, exception_text, exceptions, file_texts}
use Rattle.prelude.specs.Classes.{class_of_text}

abbrev is_byte : ℕ → Bool
is_byte b = nat_lt b 256

-- what a text says is read from its bytes
record Reads (text : List ℕ) : Type 0 where
  again : map (λ class. class_of (spelled_class class)) (class_of_text text) ≡ map (λ class. Ok class) (class_of_text text)
  bytes : list_all (λ class. list_all is_byte (spelled_class class)) (class_of_text text) ≡ true

reads-string : Reads string_text
unfolding class_of_text assembled need need_text need_class need_constant need_member code_line member_line line_by need_operand operation_bytes bytes_in name_in quoted_in number_in lines_of pieces items_of words statement_of names_on read_class letter_base read_base read_desc kind_names name_of_kind kind_named opcodes row_of opcode_named decoded many read_indices read_tagged read_entry read_entries reference_fault read_pool_from insns_from read_head skip_attribute field_attribute field_attributes read_field read_spelled read_code method_attributes read_method read_behind class_of string_text
reads-string = record { again = refl; bytes = refl }

reads-runnable : Reads runnable_text
unfolding class_of_text assembled need need_text need_class need_constant need_member code_line member_line line_by need_operand operation_bytes bytes_in name_in quoted_in number_in lines_of pieces items_of words statement_of names_on read_class letter_base read_base read_desc kind_names name_of_kind kind_named opcodes row_of opcode_named decoded many read_indices read_tagged read_entry read_entries reference_fault read_pool_from insns_from read_head skip_attribute field_attribute field_attributes read_field read_spelled read_code method_attributes read_method read_behind class_of runnable_text
reads-runnable = record { again = refl; bytes = refl }

reads-throwable : Reads throwable_text
unfolding class_of_text assembled need need_text need_class need_constant need_member code_line member_line line_by need_operand operation_bytes bytes_in name_in quoted_in number_in lines_of pieces items_of words statement_of names_on read_class letter_base read_base read_desc kind_names name_of_kind kind_named opcodes row_of opcode_named decoded many read_indices read_tagged read_entry read_entries reference_fault read_pool_from insns_from read_head skip_attribute field_attribute field_attributes read_field read_spelled read_code method_attributes read_method read_behind class_of throwable_text
reads-throwable = record { again = refl; bytes = refl }

reads-Exception : Reads (exception_text (codes "Exception", codes "Throwable"))
unfolding class_of_text assembled need need_text need_class need_constant need_member code_line member_line line_by need_operand operation_bytes bytes_in name_in quoted_in number_in lines_of pieces items_of words statement_of names_on read_class letter_base read_base read_desc kind_names name_of_kind kind_named opcodes row_of opcode_named decoded many read_indices read_tagged read_entry read_entries reference_fault read_pool_from insns_from read_head skip_attribute field_attribute field_attributes read_field read_spelled read_code method_attributes read_method read_behind class_of exception_text
reads-Exception = record { again = refl; bytes = refl }

reads-Error : Reads (exception_text (codes "Error", codes "Throwable"))
unfolding class_of_text assembled need need_text need_class need_constant need_member code_line member_line line_by need_operand operation_bytes bytes_in name_in quoted_in number_in lines_of pieces items_of words statement_of names_on read_class letter_base read_base read_desc kind_names name_of_kind kind_named opcodes row_of opcode_named decoded many read_indices read_tagged read_entry read_entries reference_fault read_pool_from insns_from read_head skip_attribute field_attribute field_attributes read_field read_spelled read_code method_attributes read_method read_behind class_of exception_text
reads-Error = record { again = refl; bytes = refl }

reads-RuntimeException : Reads (exception_text (codes "RuntimeException", codes "Exception"))
unfolding class_of_text assembled need need_text need_class need_constant need_member code_line member_line line_by need_operand operation_bytes bytes_in name_in quoted_in number_in lines_of pieces items_of words statement_of names_on read_class letter_base read_base read_desc kind_names name_of_kind kind_named opcodes row_of opcode_named decoded many read_indices read_tagged read_entry read_entries reference_fault read_pool_from insns_from read_head skip_attribute field_attribute field_attributes read_field read_spelled read_code method_attributes read_method read_behind class_of exception_text
reads-RuntimeException = record { again = refl; bytes = refl }

reads-ArithmeticException : Reads (exception_text (codes "ArithmeticException", codes "RuntimeException"))
unfolding class_of_text assembled need need_text need_class need_constant need_member code_line member_line line_by need_operand operation_bytes bytes_in name_in quoted_in number_in lines_of pieces items_of words statement_of names_on read_class letter_base read_base read_desc kind_names name_of_kind kind_named opcodes row_of opcode_named decoded many read_indices read_tagged read_entry read_entries reference_fault read_pool_from insns_from read_head skip_attribute field_attribute field_attributes read_field read_spelled read_code method_attributes read_method read_behind class_of exception_text
reads-ArithmeticException = record { again = refl; bytes = refl }

reads-NullPointerException : Reads (exception_text (codes "NullPointerException", codes "RuntimeException"))
unfolding class_of_text assembled need need_text need_class need_constant need_member code_line member_line line_by need_operand operation_bytes bytes_in name_in quoted_in number_in lines_of pieces items_of words statement_of names_on read_class letter_base read_base read_desc kind_names name_of_kind kind_named opcodes row_of opcode_named decoded many read_indices read_tagged read_entry read_entries reference_fault read_pool_from insns_from read_head skip_attribute field_attribute field_attributes read_field read_spelled read_code method_attributes read_method read_behind class_of exception_text
reads-NullPointerException = record { again = refl; bytes = refl }

reads-ClassCastException : Reads (exception_text (codes "ClassCastException", codes "RuntimeException"))
unfolding class_of_text assembled need need_text need_class need_constant need_member code_line member_line line_by need_operand operation_bytes bytes_in name_in quoted_in number_in lines_of pieces items_of words statement_of names_on read_class letter_base read_base read_desc kind_names name_of_kind kind_named opcodes row_of opcode_named decoded many read_indices read_tagged read_entry read_entries reference_fault read_pool_from insns_from read_head skip_attribute field_attribute field_attributes read_field read_spelled read_code method_attributes read_method read_behind class_of exception_text
reads-ClassCastException = record { again = refl; bytes = refl }

reads-IndexOutOfBoundsException : Reads (exception_text (codes "IndexOutOfBoundsException", codes "RuntimeException"))
unfolding class_of_text assembled need need_text need_class need_constant need_member code_line member_line line_by need_operand operation_bytes bytes_in name_in quoted_in number_in lines_of pieces items_of words statement_of names_on read_class letter_base read_base read_desc kind_names name_of_kind kind_named opcodes row_of opcode_named decoded many read_indices read_tagged read_entry read_entries reference_fault read_pool_from insns_from read_head skip_attribute field_attribute field_attributes read_field read_spelled read_code method_attributes read_method read_behind class_of exception_text
reads-IndexOutOfBoundsException = record { again = refl; bytes = refl }

reads-ArrayStoreException : Reads (exception_text (codes "ArrayStoreException", codes "RuntimeException"))
unfolding class_of_text assembled need need_text need_class need_constant need_member code_line member_line line_by need_operand operation_bytes bytes_in name_in quoted_in number_in lines_of pieces items_of words statement_of names_on read_class letter_base read_base read_desc kind_names name_of_kind kind_named opcodes row_of opcode_named decoded many read_indices read_tagged read_entry read_entries reference_fault read_pool_from insns_from read_head skip_attribute field_attribute field_attributes read_field read_spelled read_code method_attributes read_method read_behind class_of exception_text
reads-ArrayStoreException = record { again = refl; bytes = refl }

reads-NegativeArraySizeException : Reads (exception_text (codes "NegativeArraySizeException", codes "RuntimeException"))
unfolding class_of_text assembled need need_text need_class need_constant need_member code_line member_line line_by need_operand operation_bytes bytes_in name_in quoted_in number_in lines_of pieces items_of words statement_of names_on read_class letter_base read_base read_desc kind_names name_of_kind kind_named opcodes row_of opcode_named decoded many read_indices read_tagged read_entry read_entries reference_fault read_pool_from insns_from read_head skip_attribute field_attribute field_attributes read_field read_spelled read_code method_attributes read_method read_behind class_of exception_text
reads-NegativeArraySizeException = record { again = refl; bytes = refl }

reads-IllegalArgumentException : Reads (exception_text (codes "IllegalArgumentException", codes "RuntimeException"))
unfolding class_of_text assembled need need_text need_class need_constant need_member code_line member_line line_by need_operand operation_bytes bytes_in name_in quoted_in number_in lines_of pieces items_of words statement_of names_on read_class letter_base read_base read_desc kind_names name_of_kind kind_named opcodes row_of opcode_named decoded many read_indices read_tagged read_entry read_entries reference_fault read_pool_from insns_from read_head skip_attribute field_attribute field_attributes read_field read_spelled read_code method_attributes read_method read_behind class_of exception_text
reads-IllegalArgumentException = record { again = refl; bytes = refl }

reads-IllegalStateException : Reads (exception_text (codes "IllegalStateException", codes "RuntimeException"))
unfolding class_of_text assembled need need_text need_class need_constant need_member code_line member_line line_by need_operand operation_bytes bytes_in name_in quoted_in number_in lines_of pieces items_of words statement_of names_on read_class letter_base read_base read_desc kind_names name_of_kind kind_named opcodes row_of opcode_named decoded many read_indices read_tagged read_entry read_entries reference_fault read_pool_from insns_from read_head skip_attribute field_attribute field_attributes read_field read_spelled read_code method_attributes read_method read_behind class_of exception_text
reads-IllegalStateException = record { again = refl; bytes = refl }

reads-IllegalMonitorStateException : Reads (exception_text (codes "IllegalMonitorStateException", codes "RuntimeException"))
unfolding class_of_text assembled need need_text need_class need_constant need_member code_line member_line line_by need_operand operation_bytes bytes_in name_in quoted_in number_in lines_of pieces items_of words statement_of names_on read_class letter_base read_base read_desc kind_names name_of_kind kind_named opcodes row_of opcode_named decoded many read_indices read_tagged read_entry read_entries reference_fault read_pool_from insns_from read_head skip_attribute field_attribute field_attributes read_field read_spelled read_code method_attributes read_method read_behind class_of exception_text
reads-IllegalMonitorStateException = record { again = refl; bytes = refl }

reads-UnsupportedOperationException : Reads (exception_text (codes "UnsupportedOperationException", codes "RuntimeException"))
unfolding class_of_text assembled need need_text need_class need_constant need_member code_line member_line line_by need_operand operation_bytes bytes_in name_in quoted_in number_in lines_of pieces items_of words statement_of names_on read_class letter_base read_base read_desc kind_names name_of_kind kind_named opcodes row_of opcode_named decoded many read_indices read_tagged read_entry read_entries reference_fault read_pool_from insns_from read_head skip_attribute field_attribute field_attributes read_field read_spelled read_code method_attributes read_method read_behind class_of exception_text
reads-UnsupportedOperationException = record { again = refl; bytes = refl }

reads-ArrayIndexOutOfBoundsException : Reads (exception_text (codes "ArrayIndexOutOfBoundsException", codes "IndexOutOfBoundsException"))
unfolding class_of_text assembled need need_text need_class need_constant need_member code_line member_line line_by need_operand operation_bytes bytes_in name_in quoted_in number_in lines_of pieces items_of words statement_of names_on read_class letter_base read_base read_desc kind_names name_of_kind kind_named opcodes row_of opcode_named decoded many read_indices read_tagged read_entry read_entries reference_fault read_pool_from insns_from read_head skip_attribute field_attribute field_attributes read_field read_spelled read_code method_attributes read_method read_behind class_of exception_text
reads-ArrayIndexOutOfBoundsException = record { again = refl; bytes = refl }

reads-IllegalThreadStateException : Reads (exception_text (codes "IllegalThreadStateException", codes "IllegalArgumentException"))
unfolding class_of_text assembled need need_text need_class need_constant need_member code_line member_line line_by need_operand operation_bytes bytes_in name_in quoted_in number_in lines_of pieces items_of words statement_of names_on read_class letter_base read_base read_desc kind_names name_of_kind kind_named opcodes row_of opcode_named decoded many read_indices read_tagged read_entry read_entries reference_fault read_pool_from insns_from read_head skip_attribute field_attribute field_attributes read_field read_spelled read_code method_attributes read_method read_behind class_of exception_text
reads-IllegalThreadStateException = record { again = refl; bytes = refl }

reads-InterruptedException : Reads (exception_text (codes "InterruptedException", codes "Exception"))
unfolding class_of_text assembled need need_text need_class need_constant need_member code_line member_line line_by need_operand operation_bytes bytes_in name_in quoted_in number_in lines_of pieces items_of words statement_of names_on read_class letter_base read_base read_desc kind_names name_of_kind kind_named opcodes row_of opcode_named decoded many read_indices read_tagged read_entry read_entries reference_fault read_pool_from insns_from read_head skip_attribute field_attribute field_attributes read_field read_spelled read_code method_attributes read_method read_behind class_of exception_text
reads-InterruptedException = record { again = refl; bytes = refl }

reads-LinkageError : Reads (exception_text (codes "LinkageError", codes "Error"))
unfolding class_of_text assembled need need_text need_class need_constant need_member code_line member_line line_by need_operand operation_bytes bytes_in name_in quoted_in number_in lines_of pieces items_of words statement_of names_on read_class letter_base read_base read_desc kind_names name_of_kind kind_named opcodes row_of opcode_named decoded many read_indices read_tagged read_entry read_entries reference_fault read_pool_from insns_from read_head skip_attribute field_attribute field_attributes read_field read_spelled read_code method_attributes read_method read_behind class_of exception_text
reads-LinkageError = record { again = refl; bytes = refl }

reads-IncompatibleClassChangeError : Reads (exception_text (codes "IncompatibleClassChangeError", codes "LinkageError"))
unfolding class_of_text assembled need need_text need_class need_constant need_member code_line member_line line_by need_operand operation_bytes bytes_in name_in quoted_in number_in lines_of pieces items_of words statement_of names_on read_class letter_base read_base read_desc kind_names name_of_kind kind_named opcodes row_of opcode_named decoded many read_indices read_tagged read_entry read_entries reference_fault read_pool_from insns_from read_head skip_attribute field_attribute field_attributes read_field read_spelled read_code method_attributes read_method read_behind class_of exception_text
reads-IncompatibleClassChangeError = record { again = refl; bytes = refl }

-- ---- all of them

all_read : AllByRecursion Reads file_texts
unfolding exceptions
all_read = (reads-string, (reads-runnable, (reads-throwable, (reads-Exception, (reads-Error, (reads-RuntimeException, (reads-ArithmeticException, (reads-NullPointerException, (reads-ClassCastException, (reads-IndexOutOfBoundsException, (reads-ArrayStoreException, (reads-NegativeArraySizeException, (reads-IllegalArgumentException, (reads-IllegalStateException, (reads-IllegalMonitorStateException, (reads-UnsupportedOperationException, (reads-ArrayIndexOutOfBoundsException, (reads-IllegalThreadStateException, (reads-InterruptedException, (reads-LinkageError, (reads-IncompatibleClassChangeError, tt)))))))))))))))))))))

split : (a b : Bool) → (a && b) ≡ true → (a ≡ true) × (b ≡ true)
split true b is = (refl, is)
split false b is = absurd (cc)

below : (b : ℕ) → is_byte b ≡ true → b < 2 ^ 8
below b is = grind (arith, nat_tests)

all_bytes : (bytes : List ℕ) → list_all is_byte bytes ≡ true → AllByRecursion (λ byte. byte < 2 ^ 8) bytes
all_bytes [] is = tt
all_bytes (b ∷ bytes) is =
    let parts = split (is_byte b) (list_all is_byte bytes) is in
    (below b parts.0, all_bytes bytes parts.1)

abbrev IsRead : ClassFile → Type 0
IsRead class = IsClass (spelled_class class) class

these_read : (classes : List ClassFile) → map (λ class. class_of (spelled_class class)) classes ≡ map (λ class. Ok class) classes
    → list_all (λ class. list_all is_byte (spelled_class class)) classes ≡ true → AllByRecursion IsRead classes
these_read [] again bytes = tt
these_read (class ∷ more) again bytes =
    let parts = split (list_all is_byte (spelled_class class)) (list_all (λ class. list_all is_byte (spelled_class class)) more) bytes in
    let first : class_of (spelled_class class) ≡ Ok class = cc in
    let others : map (λ class. class_of (spelled_class class)) more ≡ map (λ class. Ok class) more = cc in
    ((reading_is_the_grammar (spelled_class class) class (all_bytes (spelled_class class) parts.0)).0 first, these_read more others parts.1)

both_read : (front back : List ClassFile) → AllByRecursion IsRead front → AllByRecursion IsRead back → AllByRecursion IsRead (front ++ back)
both_read [] back f b = b
both_read (class ∷ more) back f b = (f.0, both_read more back f.1 b)

texts_read : (texts : List (List ℕ)) → AllByRecursion Reads texts → AllByRecursion IsRead (flat_map class_of_text texts)
texts_read [] r = tt
texts_read (text ∷ more) r = both_read (class_of_text text) (flat_map class_of_text more) (these_read (class_of_text text) r.0.again r.0.bytes) (texts_read more r.1)

pub files_read : AllByRecursion IsRead (flat_map class_of_text file_texts)
files_read = texts_read file_texts all_read
