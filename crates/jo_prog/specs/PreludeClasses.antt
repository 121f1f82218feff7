-- The classes of the prelude, which come first in each program: java/lang/Object, here without its members, and the names of
-- all of them (this project's own choice out of java/lang).
use Rattle.std.specs.Prelude.{ℕ, List, [], ◌∷◌, None, codes}
use Rattle.jo_prog.specs.declared.program.Class.{Class}

abbrev pub object_name : List ℕ
object_name = codes "java/lang/Object"

-- the number of java/lang/Object, its place among the names below
abbrev pub object_number : ℕ
object_number = 0

abbrev pub string_name : List ℕ
string_name = codes "java/lang/String"

-- the number of java/lang/String, its place among the names below
abbrev pub string_class : ℕ
string_class = 1

abbrev pub object_class : Class
object_class = record { name = object_name; flags = 0x0021; superclass = None; interfaces = []; fields = []; methods = []; operands = [] }

-- the number of java/lang/Thread
abbrev pub thread_number : ℕ
thread_number = 3

-- the names of the prelude's classes, all of them in java/lang
abbrev pub prelude_names : List (List ℕ)
prelude_names =
    object_name ∷ string_name ∷ codes "java/lang/Runnable" ∷ codes "java/lang/Thread"
    ∷ codes "java/lang/Throwable" ∷ codes "java/lang/Exception" ∷ codes "java/lang/Error" ∷ codes "java/lang/RuntimeException"
    ∷ codes "java/lang/ArithmeticException" ∷ codes "java/lang/NullPointerException" ∷ codes "java/lang/ClassCastException"
    ∷ codes "java/lang/IndexOutOfBoundsException" ∷ codes "java/lang/ArrayStoreException"
    ∷ codes "java/lang/NegativeArraySizeException" ∷ codes "java/lang/IllegalArgumentException"
    ∷ codes "java/lang/IllegalStateException" ∷ codes "java/lang/IllegalMonitorStateException"
    ∷ codes "java/lang/UnsupportedOperationException" ∷ codes "java/lang/ArrayIndexOutOfBoundsException"
    ∷ codes "java/lang/IllegalThreadStateException" ∷ codes "java/lang/InterruptedException"
    ∷ codes "java/lang/LinkageError" ∷ codes "java/lang/IncompatibleClassChangeError" ∷ []
