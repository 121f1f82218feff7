-- The classes of the prelude as assembly texts: a choice of this project's own out of the package java/lang, with only the
-- members that stand here.
use Rattle.std.specs.Prelude.{ℕ, List, [], ◌∷◌, map, codes}
use Rattle.std.specs.List.{flat_map}

-- pieces one behind another
abbrev pub joined : List (List ℕ) → List ℕ
joined pieces = flat_map (λ piece. piece) pieces

-- Its superclass stands for none.
unfoldable pub object_text : List ℕ
object_text = joined (
    codes "class java/lang/Object super java/lang/Object flags 0x0021\n"
    ∷ codes "method <init> ()V flags 0x0001 stack 0 locals 1\n"
    ∷ codes "return\n"
    ∷ codes "end\n"
    ∷ codes "method equals (Ljava/lang/Object;)Z flags 0x0001 stack 2 locals 2\n"
    ∷ codes "aload_0\n"
    ∷ codes "aload_1\n"
    ∷ codes "if_acmpne L9\n"
    ∷ codes "iconst_1\n"
    ∷ codes "goto L10\n"
    ∷ codes "L9:\n"
    ∷ codes "iconst_0\n"
    ∷ codes "L10:\n"
    ∷ codes "ireturn\n"
    ∷ codes "end\n"
    ∷ [])

unfoldable pub string_text : List ℕ
string_text = codes "class java/lang/String super java/lang/Object flags 0x0021\n"

unfoldable pub runnable_text : List ℕ
runnable_text = joined (
    codes "class java/lang/Runnable super java/lang/Object flags 0x0601\n"
    ∷ codes "method run ()V flags 0x0401\n"
    ∷ [])

-- `start` and `join` are the machine's: they have no code, and are neither native nor abstract.
unfoldable pub thread_text : List ℕ
thread_text = joined (
    codes "class java/lang/Thread super java/lang/Object flags 0x0021\n"
    ∷ codes "implements java/lang/Runnable\n"
    ∷ codes "field target Ljava/lang/Runnable; flags 0x0001\n"
    ∷ codes "method <init> ()V flags 0x0001 stack 1 locals 1\n"
    ∷ codes "aload_0\n"
    ∷ codes "invokespecial java/lang/Object.<init>()V\n"
    ∷ codes "return\n"
    ∷ codes "end\n"
    ∷ codes "method <init> (Ljava/lang/Runnable;)V flags 0x0001 stack 2 locals 2\n"
    ∷ codes "aload_0\n"
    ∷ codes "invokespecial java/lang/Object.<init>()V\n"
    ∷ codes "aload_0\n"
    ∷ codes "aload_1\n"
    ∷ codes "putfield java/lang/Thread.target:Ljava/lang/Runnable;\n"
    ∷ codes "return\n"
    ∷ codes "end\n"
    ∷ codes "method run ()V flags 0x0001 stack 1 locals 1\n"
    ∷ codes "aload_0\n"
    ∷ codes "getfield java/lang/Thread.target:Ljava/lang/Runnable;\n"
    ∷ codes "ifnull L16\n"
    ∷ codes "aload_0\n"
    ∷ codes "getfield java/lang/Thread.target:Ljava/lang/Runnable;\n"
    ∷ codes "invokeinterface java/lang/Runnable.run()V\n"
    ∷ codes "L16:\n"
    ∷ codes "return\n"
    ∷ codes "end\n"
    ∷ codes "method start ()V flags 0x0001\n"
    ∷ codes "method join ()V flags 0x0001\n"
    ∷ [])

unfoldable pub throwable_text : List ℕ
throwable_text = joined (
    codes "class java/lang/Throwable super java/lang/Object flags 0x0021\n"
    ∷ codes "field message Ljava/lang/String; flags 0x0001\n"
    ∷ codes "method <init> ()V flags 0x0001 stack 1 locals 1\n"
    ∷ codes "aload_0\n"
    ∷ codes "invokespecial java/lang/Object.<init>()V\n"
    ∷ codes "return\n"
    ∷ codes "end\n"
    ∷ codes "method <init> (Ljava/lang/String;)V flags 0x0001 stack 2 locals 2\n"
    ∷ codes "aload_0\n"
    ∷ codes "invokespecial java/lang/Object.<init>()V\n"
    ∷ codes "aload_0\n"
    ∷ codes "aload_1\n"
    ∷ codes "putfield java/lang/Throwable.message:Ljava/lang/String;\n"
    ∷ codes "return\n"
    ∷ codes "end\n"
    ∷ codes "method getMessage ()Ljava/lang/String; flags 0x0001 stack 1 locals 1\n"
    ∷ codes "aload_0\n"
    ∷ codes "getfield java/lang/Throwable.message:Ljava/lang/String;\n"
    ∷ codes "areturn\n"
    ∷ codes "end\n"
    ∷ [])

-- A class of exceptions or errors below java/lang/Throwable, and its superclass: it has both constructors, and each calls the
-- same constructor of the superclass.
unfoldable pub exception_text : List ℕ × List ℕ → List ℕ
exception_text (name, above) = joined (
    codes "class java/lang/" ∷ name ∷ codes " super java/lang/" ∷ above ∷ codes " flags 0x0021\n"
    ∷ codes "method <init> ()V flags 0x0001 stack 1 locals 1\n"
    ∷ codes "aload_0\n"
    ∷ codes "invokespecial java/lang/" ∷ above ∷ codes ".<init>()V\n"
    ∷ codes "return\n"
    ∷ codes "end\n"
    ∷ codes "method <init> (Ljava/lang/String;)V flags 0x0001 stack 2 locals 2\n"
    ∷ codes "aload_0\n"
    ∷ codes "aload_1\n"
    ∷ codes "invokespecial java/lang/" ∷ above ∷ codes ".<init>(Ljava/lang/String;)V\n"
    ∷ codes "return\n"
    ∷ codes "end\n"
    ∷ [])

unfoldable pub exceptions : List (List ℕ × List ℕ)
exceptions =
    (codes "Exception", codes "Throwable")
    ∷ (codes "Error", codes "Throwable")
    ∷ (codes "RuntimeException", codes "Exception")
    ∷ (codes "ArithmeticException", codes "RuntimeException")
    ∷ (codes "NullPointerException", codes "RuntimeException")
    ∷ (codes "ClassCastException", codes "RuntimeException")
    ∷ (codes "IndexOutOfBoundsException", codes "RuntimeException")
    ∷ (codes "ArrayStoreException", codes "RuntimeException")
    ∷ (codes "NegativeArraySizeException", codes "RuntimeException")
    ∷ (codes "IllegalArgumentException", codes "RuntimeException")
    ∷ (codes "IllegalStateException", codes "RuntimeException")
    ∷ (codes "IllegalMonitorStateException", codes "RuntimeException")
    ∷ (codes "UnsupportedOperationException", codes "RuntimeException")
    ∷ (codes "ArrayIndexOutOfBoundsException", codes "IndexOutOfBoundsException")
    ∷ (codes "IllegalThreadStateException", codes "IllegalArgumentException")
    ∷ (codes "InterruptedException", codes "Exception")
    ∷ (codes "LinkageError", codes "Error")
    ∷ (codes "IncompatibleClassChangeError", codes "LinkageError")
    ∷ []

-- those below java/lang/Object
abbrev pub lower_texts : List (List ℕ)
lower_texts = string_text ∷ runnable_text ∷ thread_text ∷ throwable_text ∷ map exception_text exceptions

-- in their order, which numbers them from 0
abbrev pub texts : List (List ℕ)
texts = object_text ∷ lower_texts

-- those that a class file can hold: java/lang/Object has no superclass, and two methods of java/lang/Thread have no body
abbrev pub file_texts : List (List ℕ)
file_texts = string_text ∷ runnable_text ∷ throwable_text ∷ map exception_text exceptions
