-- The classes of the prelude have no fault among themselves that needs no hierarchy.
use Rattle.std.proofs.Common.{◌≡◌, ℕ, Bool, true, false, List, [], ◌∷◌, ◌++◌, refl}
use Rattle.std.specs.Prelude.{codes, ◌||◌}
use Rattle.std.specs.List.{flat_map, list_any, AllByRecursion}
use Rattle.asm_text.specs.Words.{bytes_in, name_in, quoted_in, number_in}
use Rattle.asm_text.specs.Lines.{lines_of, pieces, items_of}
use Rattle.asm_text.specs.Statements.{words, statement_of}
use Rattle.jo_text.specs.Scan.{names_on, read_class, letter_base, read_base, read_field as read_desc}
use Rattle.jo_insn.specs.ArrayKinds.{kind_names, name_of_kind, kind_named}
use Rattle.jo_insn.specs.Opcodes.{opcodes, row_of, opcode_named}
use Rattle.jo_insn.specs.Instructions.{decoded}
use Rattle.class_pool.specs.declared.classes.ClassFile.{ClassFile}
use Rattle.class_asm.specs.Needs.{need, need_text, need_class, need_constant, need_member}
use Rattle.class_asm.specs.Assembly.{assembled, code_line, member_line, line_by}
use Rattle.class_asm.specs.Encoding.{need_operand, operation_bytes}
use Rattle.jo_prog.specs.PreludeClasses.{prelude_names}
use Rattle.jo_prog.specs.Sites.{insns_from}
use Rattle.prelude.specs.Texts.{object_text, string_text, runnable_text, thread_text, throwable_text, exception_text, exceptions, lower_texts}
use Rattle.prelude.specs.Classes.{class_of_text, object_classes, prelude_classes}
use Rattle.linker.specs.LinkFaults.{has_interface_body, has_static_init}
use Rattle.linker.specs.NeededClasses.{lacks_class}

-- no class has a fault
pub record AreWhole (classes : List ClassFile) : Type 0 where
  pub closed : list_any (lacks_class prelude_names) classes ≡ false
  pub bodies : list_any has_interface_body classes ≡ false
  pub inits : list_any has_static_init classes ≡ false

whole-object : AreWhole object_classes
unfolding class_of_text assembled need need_text need_class need_constant need_member code_line member_line line_by need_operand operation_bytes bytes_in name_in quoted_in number_in lines_of pieces items_of words statement_of names_on read_class letter_base read_base read_desc kind_names name_of_kind kind_named opcodes row_of opcode_named decoded insns_from object_text
whole-object = record { closed = refl; bodies = refl; inits = refl }

whole-string : AreWhole (class_of_text string_text)
unfolding class_of_text assembled need need_text need_class need_constant need_member code_line member_line line_by need_operand operation_bytes bytes_in name_in quoted_in number_in lines_of pieces items_of words statement_of names_on read_class letter_base read_base read_desc kind_names name_of_kind kind_named opcodes row_of opcode_named decoded insns_from string_text
whole-string = record { closed = refl; bodies = refl; inits = refl }

whole-runnable : AreWhole (class_of_text runnable_text)
unfolding class_of_text assembled need need_text need_class need_constant need_member code_line member_line line_by need_operand operation_bytes bytes_in name_in quoted_in number_in lines_of pieces items_of words statement_of names_on read_class letter_base read_base read_desc kind_names name_of_kind kind_named opcodes row_of opcode_named decoded insns_from runnable_text
whole-runnable = record { closed = refl; bodies = refl; inits = refl }

whole-thread : AreWhole (class_of_text thread_text)
unfolding class_of_text assembled need need_text need_class need_constant need_member code_line member_line line_by need_operand operation_bytes bytes_in name_in quoted_in number_in lines_of pieces items_of words statement_of names_on read_class letter_base read_base read_desc kind_names name_of_kind kind_named opcodes row_of opcode_named decoded insns_from thread_text
whole-thread = record { closed = refl; bodies = refl; inits = refl }

whole-throwable : AreWhole (class_of_text throwable_text)
unfolding class_of_text assembled need need_text need_class need_constant need_member code_line member_line line_by need_operand operation_bytes bytes_in name_in quoted_in number_in lines_of pieces items_of words statement_of names_on read_class letter_base read_base read_desc kind_names name_of_kind kind_named opcodes row_of opcode_named decoded insns_from throwable_text
whole-throwable = record { closed = refl; bodies = refl; inits = refl }

whole-Exception : AreWhole (class_of_text (exception_text (codes "Exception", codes "Throwable")))
unfolding class_of_text assembled need need_text need_class need_constant need_member code_line member_line line_by need_operand operation_bytes bytes_in name_in quoted_in number_in lines_of pieces items_of words statement_of names_on read_class letter_base read_base read_desc kind_names name_of_kind kind_named opcodes row_of opcode_named decoded insns_from exception_text
whole-Exception = record { closed = refl; bodies = refl; inits = refl }

whole-Error : AreWhole (class_of_text (exception_text (codes "Error", codes "Throwable")))
unfolding class_of_text assembled need need_text need_class need_constant need_member code_line member_line line_by need_operand operation_bytes bytes_in name_in quoted_in number_in lines_of pieces items_of words statement_of names_on read_class letter_base read_base read_desc kind_names name_of_kind kind_named opcodes row_of opcode_named decoded insns_from exception_text
whole-Error = record { closed = refl; bodies = refl; inits = refl }

whole-RuntimeException : AreWhole (class_of_text (exception_text (codes "RuntimeException", codes "Exception")))
unfolding class_of_text assembled need need_text need_class need_constant need_member code_line member_line line_by need_operand operation_bytes bytes_in name_in quoted_in number_in lines_of pieces items_of words statement_of names_on read_class letter_base read_base read_desc kind_names name_of_kind kind_named opcodes row_of opcode_named decoded insns_from exception_text
whole-RuntimeException = record { closed = refl; bodies = refl; inits = refl }

whole-ArithmeticException : AreWhole (class_of_text (exception_text (codes "ArithmeticException", codes "RuntimeException")))
unfolding class_of_text assembled need need_text need_class need_constant need_member code_line member_line line_by need_operand operation_bytes bytes_in name_in quoted_in number_in lines_of pieces items_of words statement_of names_on read_class letter_base read_base read_desc kind_names name_of_kind kind_named opcodes row_of opcode_named decoded insns_from exception_text
whole-ArithmeticException = record { closed = refl; bodies = refl; inits = refl }

whole-NullPointerException : AreWhole (class_of_text (exception_text (codes "NullPointerException", codes "RuntimeException")))
unfolding class_of_text assembled need need_text need_class need_constant need_member code_line member_line line_by need_operand operation_bytes bytes_in name_in quoted_in number_in lines_of pieces items_of words statement_of names_on read_class letter_base read_base read_desc kind_names name_of_kind kind_named opcodes row_of opcode_named decoded insns_from exception_text
whole-NullPointerException = record { closed = refl; bodies = refl; inits = refl }

whole-ClassCastException : AreWhole (class_of_text (exception_text (codes "ClassCastException", codes "RuntimeException")))
unfolding class_of_text assembled need need_text need_class need_constant need_member code_line member_line line_by need_operand operation_bytes bytes_in name_in quoted_in number_in lines_of pieces items_of words statement_of names_on read_class letter_base read_base read_desc kind_names name_of_kind kind_named opcodes row_of opcode_named decoded insns_from exception_text
whole-ClassCastException = record { closed = refl; bodies = refl; inits = refl }

whole-IndexOutOfBoundsException : AreWhole (class_of_text (exception_text (codes "IndexOutOfBoundsException", codes "RuntimeException")))
unfolding class_of_text assembled need need_text need_class need_constant need_member code_line member_line line_by need_operand operation_bytes bytes_in name_in quoted_in number_in lines_of pieces items_of words statement_of names_on read_class letter_base read_base read_desc kind_names name_of_kind kind_named opcodes row_of opcode_named decoded insns_from exception_text
whole-IndexOutOfBoundsException = record { closed = refl; bodies = refl; inits = refl }

whole-ArrayStoreException : AreWhole (class_of_text (exception_text (codes "ArrayStoreException", codes "RuntimeException")))
unfolding class_of_text assembled need need_text need_class need_constant need_member code_line member_line line_by need_operand operation_bytes bytes_in name_in quoted_in number_in lines_of pieces items_of words statement_of names_on read_class letter_base read_base read_desc kind_names name_of_kind kind_named opcodes row_of opcode_named decoded insns_from exception_text
whole-ArrayStoreException = record { closed = refl; bodies = refl; inits = refl }

whole-NegativeArraySizeException : AreWhole (class_of_text (exception_text (codes "NegativeArraySizeException", codes "RuntimeException")))
unfolding class_of_text assembled need need_text need_class need_constant need_member code_line member_line line_by need_operand operation_bytes bytes_in name_in quoted_in number_in lines_of pieces items_of words statement_of names_on read_class letter_base read_base read_desc kind_names name_of_kind kind_named opcodes row_of opcode_named decoded insns_from exception_text
whole-NegativeArraySizeException = record { closed = refl; bodies = refl; inits = refl }

whole-IllegalArgumentException : AreWhole (class_of_text (exception_text (codes "IllegalArgumentException", codes "RuntimeException")))
unfolding class_of_text assembled need need_text need_class need_constant need_member code_line member_line line_by need_operand operation_bytes bytes_in name_in quoted_in number_in lines_of pieces items_of words statement_of names_on read_class letter_base read_base read_desc kind_names name_of_kind kind_named opcodes row_of opcode_named decoded insns_from exception_text
whole-IllegalArgumentException = record { closed = refl; bodies = refl; inits = refl }

whole-IllegalStateException : AreWhole (class_of_text (exception_text (codes "IllegalStateException", codes "RuntimeException")))
unfolding class_of_text assembled need need_text need_class need_constant need_member code_line member_line line_by need_operand operation_bytes bytes_in name_in quoted_in number_in lines_of pieces items_of words statement_of names_on read_class letter_base read_base read_desc kind_names name_of_kind kind_named opcodes row_of opcode_named decoded insns_from exception_text
whole-IllegalStateException = record { closed = refl; bodies = refl; inits = refl }

whole-IllegalMonitorStateException : AreWhole (class_of_text (exception_text (codes "IllegalMonitorStateException", codes "RuntimeException")))
unfolding class_of_text assembled need need_text need_class need_constant need_member code_line member_line line_by need_operand operation_bytes bytes_in name_in quoted_in number_in lines_of pieces items_of words statement_of names_on read_class letter_base read_base read_desc kind_names name_of_kind kind_named opcodes row_of opcode_named decoded insns_from exception_text
whole-IllegalMonitorStateException = record { closed = refl; bodies = refl; inits = refl }

whole-UnsupportedOperationException : AreWhole (class_of_text (exception_text (codes "UnsupportedOperationException", codes "RuntimeException")))
unfolding class_of_text assembled need need_text need_class need_constant need_member code_line member_line line_by need_operand operation_bytes bytes_in name_in quoted_in number_in lines_of pieces items_of words statement_of names_on read_class letter_base read_base read_desc kind_names name_of_kind kind_named opcodes row_of opcode_named decoded insns_from exception_text
whole-UnsupportedOperationException = record { closed = refl; bodies = refl; inits = refl }

whole-ArrayIndexOutOfBoundsException : AreWhole (class_of_text (exception_text (codes "ArrayIndexOutOfBoundsException", codes "IndexOutOfBoundsException")))
unfolding class_of_text assembled need need_text need_class need_constant need_member code_line member_line line_by need_operand operation_bytes bytes_in name_in quoted_in number_in lines_of pieces items_of words statement_of names_on read_class letter_base read_base read_desc kind_names name_of_kind kind_named opcodes row_of opcode_named decoded insns_from exception_text
whole-ArrayIndexOutOfBoundsException = record { closed = refl; bodies = refl; inits = refl }

whole-IllegalThreadStateException : AreWhole (class_of_text (exception_text (codes "IllegalThreadStateException", codes "IllegalArgumentException")))
unfolding class_of_text assembled need need_text need_class need_constant need_member code_line member_line line_by need_operand operation_bytes bytes_in name_in quoted_in number_in lines_of pieces items_of words statement_of names_on read_class letter_base read_base read_desc kind_names name_of_kind kind_named opcodes row_of opcode_named decoded insns_from exception_text
whole-IllegalThreadStateException = record { closed = refl; bodies = refl; inits = refl }

whole-InterruptedException : AreWhole (class_of_text (exception_text (codes "InterruptedException", codes "Exception")))
unfolding class_of_text assembled need need_text need_class need_constant need_member code_line member_line line_by need_operand operation_bytes bytes_in name_in quoted_in number_in lines_of pieces items_of words statement_of names_on read_class letter_base read_base read_desc kind_names name_of_kind kind_named opcodes row_of opcode_named decoded insns_from exception_text
whole-InterruptedException = record { closed = refl; bodies = refl; inits = refl }

whole-LinkageError : AreWhole (class_of_text (exception_text (codes "LinkageError", codes "Error")))
unfolding class_of_text assembled need need_text need_class need_constant need_member code_line member_line line_by need_operand operation_bytes bytes_in name_in quoted_in number_in lines_of pieces items_of words statement_of names_on read_class letter_base read_base read_desc kind_names name_of_kind kind_named opcodes row_of opcode_named decoded insns_from exception_text
whole-LinkageError = record { closed = refl; bodies = refl; inits = refl }

whole-IncompatibleClassChangeError : AreWhole (class_of_text (exception_text (codes "IncompatibleClassChangeError", codes "LinkageError")))
unfolding class_of_text assembled need need_text need_class need_constant need_member code_line member_line line_by need_operand operation_bytes bytes_in name_in quoted_in number_in lines_of pieces items_of words statement_of names_on read_class letter_base read_base read_desc kind_names name_of_kind kind_named opcodes row_of opcode_named decoded insns_from exception_text
whole-IncompatibleClassChangeError = record { closed = refl; bodies = refl; inits = refl }

lower_whole : AllByRecursion (λ text. AreWhole (class_of_text text)) lower_texts
unfolding exceptions
lower_whole = (whole-string, (whole-runnable, (whole-thread, (whole-throwable, (whole-Exception, (whole-Error, (whole-RuntimeException, (whole-ArithmeticException, (whole-NullPointerException, (whole-ClassCastException, (whole-IndexOutOfBoundsException, (whole-ArrayStoreException, (whole-NegativeArraySizeException, (whole-IllegalArgumentException, (whole-IllegalStateException, (whole-IllegalMonitorStateException, (whole-UnsupportedOperationException, (whole-ArrayIndexOutOfBoundsException, (whole-IllegalThreadStateException, (whole-InterruptedException, (whole-LinkageError, (whole-IncompatibleClassChangeError, tt))))))))))))))))))))))

none_in_both : (test : ClassFile → Bool) (front back : List ClassFile) → list_any test front ≡ false → list_any test back ≡ false → list_any test (front ++ back) ≡ false
none_in_both test [] back f b = b
none_in_both test (class ∷ more) back f b = by_first (test class) (list_any test more) (list_any test (more ++ back)) f (λ rest. none_in_both test more back rest b)
  where
    by_first : (first rest both : Bool) → (first || rest) ≡ false → (rest ≡ false → both ≡ false) → (first || both) ≡ false
    by_first true rest both f goes = absurd (cc)
    by_first false rest both f goes = goes f

both_whole : (front back : List ClassFile) → AreWhole front → AreWhole back → AreWhole (front ++ back)
both_whole front back f b = record {
  closed = none_in_both (lacks_class prelude_names) front back f.closed b.closed;
  bodies = none_in_both has_interface_body front back f.bodies b.bodies;
  inits = none_in_both has_static_init front back f.inits b.inits;
}

texts_whole : (texts : List (List ℕ)) → AllByRecursion (λ text. AreWhole (class_of_text text)) texts → AreWhole (flat_map class_of_text texts)
texts_whole [] w = record { closed = refl; bodies = refl; inits = refl }
texts_whole (text ∷ more) w = both_whole (class_of_text text) (flat_map class_of_text more) w.0 (texts_whole more w.1)

pub prelude_whole : AreWhole prelude_classes
unfolding prelude_classes
prelude_whole = both_whole object_classes (flat_map class_of_text lower_texts) whole-object (texts_whole lower_texts lower_whole)
