-- Each text computes to a class, with its name.
use Rattle.std.proofs.Common.{◌≡◌, ◌∷◌, ◌++◌, ℕ, true, List, [], map, Some, Result, Ok, Err, refl, sym, ap, ◌∙◌}
use Rattle.std.specs.Prelude.{codes}
use Rattle.std.specs.List.{flat_map, AllByRecursion}
use Rattle.std.proofs.lemmas.List.{map-append}
use Rattle.asm_text.specs.Words.{bytes_in, name_in as name_spelled, quoted_in, number_in}
use Rattle.asm_text.specs.Lines.{lines_of, pieces, items_of}
use Rattle.asm_text.specs.Statements.{words, statement_of}
use Rattle.jo_text.specs.Scan.{names_on, read_class, letter_base, read_base, read_field}
use Rattle.jo_insn.specs.ArrayKinds.{kind_names, name_of_kind, kind_named}
use Rattle.jo_insn.specs.Opcodes.{opcodes, row_of, opcode_named}
use Rattle.class_pool.specs.declared.classes.ClassFile.{ClassFile}
use Rattle.class_asm.specs.declared.causes.Fault.{Fault}
use Rattle.class_asm.specs.Needs.{need, need_text, need_class, need_constant, need_member}
use Rattle.class_asm.specs.Assembly.{assembled, code_line, member_line, line_by}
use Rattle.class_asm.specs.Encoding.{need_operand, operation_bytes}
use Rattle.jo_prog.specs.PreludeClasses.{prelude_names}
use Rattle.prelude.specs.Texts.{object_text, string_text, runnable_text, thread_text, throwable_text, exception_text, exceptions, texts, lower_texts}
use Rattle.prelude.specs.Classes.{is_class, class_in, class_of_text, name_in, without_superclass, object_classes, prelude_classes}

-- the text says one class, of this name
abbrev Says : List ℕ → List ℕ → Type 0
Says text name = map name_in (class_of_text text) ≡ Some name ∷ []

says-object : Says object_text (codes "java/lang/Object")
unfolding class_of_text assembled need need_text need_class need_constant need_member code_line member_line line_by need_operand operation_bytes bytes_in name_spelled quoted_in number_in lines_of pieces items_of words statement_of names_on read_class letter_base read_base read_field kind_names name_of_kind kind_named opcodes row_of opcode_named object_text
says-object = refl

says-string : Says string_text (codes "java/lang/String")
unfolding class_of_text assembled need need_text need_class need_constant need_member code_line member_line line_by need_operand operation_bytes bytes_in name_spelled quoted_in number_in lines_of pieces items_of words statement_of names_on read_class letter_base read_base read_field kind_names name_of_kind kind_named opcodes row_of opcode_named string_text
says-string = refl

says-runnable : Says runnable_text (codes "java/lang/Runnable")
unfolding class_of_text assembled need need_text need_class need_constant need_member code_line member_line line_by need_operand operation_bytes bytes_in name_spelled quoted_in number_in lines_of pieces items_of words statement_of names_on read_class letter_base read_base read_field kind_names name_of_kind kind_named opcodes row_of opcode_named runnable_text
says-runnable = refl

says-thread : Says thread_text (codes "java/lang/Thread")
unfolding class_of_text assembled need need_text need_class need_constant need_member code_line member_line line_by need_operand operation_bytes bytes_in name_spelled quoted_in number_in lines_of pieces items_of words statement_of names_on read_class letter_base read_base read_field kind_names name_of_kind kind_named opcodes row_of opcode_named thread_text
says-thread = refl

says-throwable : Says throwable_text (codes "java/lang/Throwable")
unfolding class_of_text assembled need need_text need_class need_constant need_member code_line member_line line_by need_operand operation_bytes bytes_in name_spelled quoted_in number_in lines_of pieces items_of words statement_of names_on read_class letter_base read_base read_field kind_names name_of_kind kind_named opcodes row_of opcode_named throwable_text
says-throwable = refl

says-Exception : Says (exception_text (codes "Exception", codes "Throwable")) (codes "java/lang/Exception")
unfolding class_of_text assembled need need_text need_class need_constant need_member code_line member_line line_by need_operand operation_bytes bytes_in name_spelled quoted_in number_in lines_of pieces items_of words statement_of names_on read_class letter_base read_base read_field kind_names name_of_kind kind_named opcodes row_of opcode_named exception_text
says-Exception = refl

says-Error : Says (exception_text (codes "Error", codes "Throwable")) (codes "java/lang/Error")
unfolding class_of_text assembled need need_text need_class need_constant need_member code_line member_line line_by need_operand operation_bytes bytes_in name_spelled quoted_in number_in lines_of pieces items_of words statement_of names_on read_class letter_base read_base read_field kind_names name_of_kind kind_named opcodes row_of opcode_named exception_text
says-Error = refl

says-RuntimeException : Says (exception_text (codes "RuntimeException", codes "Exception")) (codes "java/lang/RuntimeException")
unfolding class_of_text assembled need need_text need_class need_constant need_member code_line member_line line_by need_operand operation_bytes bytes_in name_spelled quoted_in number_in lines_of pieces items_of words statement_of names_on read_class letter_base read_base read_field kind_names name_of_kind kind_named opcodes row_of opcode_named exception_text
says-RuntimeException = refl

says-ArithmeticException : Says (exception_text (codes "ArithmeticException", codes "RuntimeException")) (codes "java/lang/ArithmeticException")
unfolding class_of_text assembled need need_text need_class need_constant need_member code_line member_line line_by need_operand operation_bytes bytes_in name_spelled quoted_in number_in lines_of pieces items_of words statement_of names_on read_class letter_base read_base read_field kind_names name_of_kind kind_named opcodes row_of opcode_named exception_text
says-ArithmeticException = refl

says-NullPointerException : Says (exception_text (codes "NullPointerException", codes "RuntimeException")) (codes "java/lang/NullPointerException")
unfolding class_of_text assembled need need_text need_class need_constant need_member code_line member_line line_by need_operand operation_bytes bytes_in name_spelled quoted_in number_in lines_of pieces items_of words statement_of names_on read_class letter_base read_base read_field kind_names name_of_kind kind_named opcodes row_of opcode_named exception_text
says-NullPointerException = refl

says-ClassCastException : Says (exception_text (codes "ClassCastException", codes "RuntimeException")) (codes "java/lang/ClassCastException")
unfolding class_of_text assembled need need_text need_class need_constant need_member code_line member_line line_by need_operand operation_bytes bytes_in name_spelled quoted_in number_in lines_of pieces items_of words statement_of names_on read_class letter_base read_base read_field kind_names name_of_kind kind_named opcodes row_of opcode_named exception_text
says-ClassCastException = refl

says-IndexOutOfBoundsException : Says (exception_text (codes "IndexOutOfBoundsException", codes "RuntimeException")) (codes "java/lang/IndexOutOfBoundsException")
unfolding class_of_text assembled need need_text need_class need_constant need_member code_line member_line line_by need_operand operation_bytes bytes_in name_spelled quoted_in number_in lines_of pieces items_of words statement_of names_on read_class letter_base read_base read_field kind_names name_of_kind kind_named opcodes row_of opcode_named exception_text
says-IndexOutOfBoundsException = refl

says-ArrayStoreException : Says (exception_text (codes "ArrayStoreException", codes "RuntimeException")) (codes "java/lang/ArrayStoreException")
unfolding class_of_text assembled need need_text need_class need_constant need_member code_line member_line line_by need_operand operation_bytes bytes_in name_spelled quoted_in number_in lines_of pieces items_of words statement_of names_on read_class letter_base read_base read_field kind_names name_of_kind kind_named opcodes row_of opcode_named exception_text
says-ArrayStoreException = refl

says-NegativeArraySizeException : Says (exception_text (codes "NegativeArraySizeException", codes "RuntimeException")) (codes "java/lang/NegativeArraySizeException")
unfolding class_of_text assembled need need_text need_class need_constant need_member code_line member_line line_by need_operand operation_bytes bytes_in name_spelled quoted_in number_in lines_of pieces items_of words statement_of names_on read_class letter_base read_base read_field kind_names name_of_kind kind_named opcodes row_of opcode_named exception_text
says-NegativeArraySizeException = refl

says-IllegalArgumentException : Says (exception_text (codes "IllegalArgumentException", codes "RuntimeException")) (codes "java/lang/IllegalArgumentException")
unfolding class_of_text assembled need need_text need_class need_constant need_member code_line member_line line_by need_operand operation_bytes bytes_in name_spelled quoted_in number_in lines_of pieces items_of words statement_of names_on read_class letter_base read_base read_field kind_names name_of_kind kind_named opcodes row_of opcode_named exception_text
says-IllegalArgumentException = refl

says-IllegalStateException : Says (exception_text (codes "IllegalStateException", codes "RuntimeException")) (codes "java/lang/IllegalStateException")
unfolding class_of_text assembled need need_text need_class need_constant need_member code_line member_line line_by need_operand operation_bytes bytes_in name_spelled quoted_in number_in lines_of pieces items_of words statement_of names_on read_class letter_base read_base read_field kind_names name_of_kind kind_named opcodes row_of opcode_named exception_text
says-IllegalStateException = refl

says-IllegalMonitorStateException : Says (exception_text (codes "IllegalMonitorStateException", codes "RuntimeException")) (codes "java/lang/IllegalMonitorStateException")
unfolding class_of_text assembled need need_text need_class need_constant need_member code_line member_line line_by need_operand operation_bytes bytes_in name_spelled quoted_in number_in lines_of pieces items_of words statement_of names_on read_class letter_base read_base read_field kind_names name_of_kind kind_named opcodes row_of opcode_named exception_text
says-IllegalMonitorStateException = refl

says-UnsupportedOperationException : Says (exception_text (codes "UnsupportedOperationException", codes "RuntimeException")) (codes "java/lang/UnsupportedOperationException")
unfolding class_of_text assembled need need_text need_class need_constant need_member code_line member_line line_by need_operand operation_bytes bytes_in name_spelled quoted_in number_in lines_of pieces items_of words statement_of names_on read_class letter_base read_base read_field kind_names name_of_kind kind_named opcodes row_of opcode_named exception_text
says-UnsupportedOperationException = refl

says-ArrayIndexOutOfBoundsException : Says (exception_text (codes "ArrayIndexOutOfBoundsException", codes "IndexOutOfBoundsException")) (codes "java/lang/ArrayIndexOutOfBoundsException")
unfolding class_of_text assembled need need_text need_class need_constant need_member code_line member_line line_by need_operand operation_bytes bytes_in name_spelled quoted_in number_in lines_of pieces items_of words statement_of names_on read_class letter_base read_base read_field kind_names name_of_kind kind_named opcodes row_of opcode_named exception_text
says-ArrayIndexOutOfBoundsException = refl

says-IllegalThreadStateException : Says (exception_text (codes "IllegalThreadStateException", codes "IllegalArgumentException")) (codes "java/lang/IllegalThreadStateException")
unfolding class_of_text assembled need need_text need_class need_constant need_member code_line member_line line_by need_operand operation_bytes bytes_in name_spelled quoted_in number_in lines_of pieces items_of words statement_of names_on read_class letter_base read_base read_field kind_names name_of_kind kind_named opcodes row_of opcode_named exception_text
says-IllegalThreadStateException = refl

says-InterruptedException : Says (exception_text (codes "InterruptedException", codes "Exception")) (codes "java/lang/InterruptedException")
unfolding class_of_text assembled need need_text need_class need_constant need_member code_line member_line line_by need_operand operation_bytes bytes_in name_spelled quoted_in number_in lines_of pieces items_of words statement_of names_on read_class letter_base read_base read_field kind_names name_of_kind kind_named opcodes row_of opcode_named exception_text
says-InterruptedException = refl

says-LinkageError : Says (exception_text (codes "LinkageError", codes "Error")) (codes "java/lang/LinkageError")
unfolding class_of_text assembled need need_text need_class need_constant need_member code_line member_line line_by need_operand operation_bytes bytes_in name_spelled quoted_in number_in lines_of pieces items_of words statement_of names_on read_class letter_base read_base read_field kind_names name_of_kind kind_named opcodes row_of opcode_named exception_text
says-LinkageError = refl

says-IncompatibleClassChangeError : Says (exception_text (codes "IncompatibleClassChangeError", codes "LinkageError")) (codes "java/lang/IncompatibleClassChangeError")
unfolding class_of_text assembled need need_text need_class need_constant need_member code_line member_line line_by need_operand operation_bytes bytes_in name_spelled quoted_in number_in lines_of pieces items_of words statement_of names_on read_class letter_base read_base read_field kind_names name_of_kind kind_named opcodes row_of opcode_named exception_text
says-IncompatibleClassChangeError = refl

-- ---- all texts

-- the texts and names go together
EachSays : List (List ℕ) → List (List ℕ) → Type 0
EachSays [] [] = Unit {0}
EachSays (text ∷ more) (name ∷ names) = Says text name × EachSays more names
EachSays _ _ = ⊥

all_say : EachSays texts prelude_names
unfolding exceptions EachSays
all_say = (says-object, (says-string, (says-runnable, (says-thread, (says-throwable, (says-Exception, (says-Error, (says-RuntimeException, (says-ArithmeticException, (says-NullPointerException, (says-ClassCastException, (says-IndexOutOfBoundsException, (says-ArrayStoreException, (says-NegativeArraySizeException, (says-IllegalArgumentException, (says-IllegalStateException, (says-IllegalMonitorStateException, (says-UnsupportedOperationException, (says-ArrayIndexOutOfBoundsException, (says-IllegalThreadStateException, (says-InterruptedException, (says-LinkageError, (says-IncompatibleClassChangeError, tt)))))))))))))))))))))))

one_is_class : (read : Result ClassFile Fault) (name : List ℕ) → map name_in (class_in read) ≡ Some name ∷ [] → is_class read ≡ true
one_is_class (Ok class) name says = refl
one_is_class (Err fault) name says = absurd (cc)

are_classes : (ts names : List (List ℕ)) → EachSays ts names → AllByRecursion (λ text. is_class (assembled text) ≡ true) ts
unfolding class_of_text EachSays
are_classes [] [] e = tt
are_classes [] (name ∷ names) e = absurd e
are_classes (text ∷ more) [] e = absurd e
are_classes (text ∷ more) (name ∷ names) e = (one_is_class (assembled text) name e.0, are_classes more names e.1)

have_names : (ts names : List (List ℕ)) → EachSays ts names → map name_in (flat_map class_of_text ts) ≡ map Some names
unfolding EachSays
have_names [] [] e = refl
have_names [] (name ∷ names) e = absurd e
have_names (text ∷ more) [] e = absurd e
have_names (text ∷ more) (name ∷ names) e =
    map-append name_in (class_of_text text) (flat_map class_of_text more) ∙ ap (λ front. front ++ map name_in (flat_map class_of_text more)) e.0
    ∙ ap (λ back. Some name ∷ back) (have_names more names e.1)

same_names : (classes : List ClassFile) → map name_in (map without_superclass classes) ≡ map name_in classes
same_names [] = refl
same_names (class ∷ more) = ap (λ names. name_in class ∷ names) (same_names more)

pub texts_say_classes : AllByRecursion (λ text. is_class (assembled text) ≡ true) texts
texts_say_classes = are_classes texts prelude_names all_say

pub classes_named : map name_in prelude_classes ≡ map Some prelude_names
unfolding prelude_classes
classes_named =
    map-append name_in object_classes (flat_map class_of_text lower_texts)
    ∙ ap (λ front. front ++ map name_in (flat_map class_of_text lower_texts)) (same_names (class_of_text object_text))
    ∙ sym (map-append name_in (class_of_text object_text) (flat_map class_of_text lower_texts))
    ∙ have_names texts prelude_names all_say
