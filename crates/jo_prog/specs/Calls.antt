-- What a call takes for a receiver (JVM Specification SE 8, 6.5; by name and descriptor alone, as selection is).
use Rattle.std.specs.Prelude.{ℕ, Bool, ◌==◌, ◌&&◌, ◌||◌, if◌then◌else◌, List, Option, Some, None, option_and_then, is_some, codes}
use Rattle.std.specs.Str.{bytes_eq}
use Rattle.jo_insn.specs.AccessFlags.{has_flag, native_flag}
use Rattle.jo_prog.specs.declared.program.Program.{Program}
use Rattle.jo_prog.specs.declared.program.Class.{Class}
use Rattle.jo_prog.specs.declared.program.Method.{Method}
use Rattle.jo_prog.specs.declared.program.TypeRef.{TypeRef}
use Rattle.jo_prog.specs.declared.program.TypeRef.TheVariants.{Class as OfClass, Array as OfArray}
use Rattle.jo_prog.specs.declared.calls.Taken.{Taken}
use Rattle.jo_prog.specs.declared.calls.Taken.TheVariants.{Code, Start, Join, Native, Nothing}
use Rattle.jo_prog.specs.PreludeClasses.{object_number, thread_number}
use Rattle.jo_prog.specs.Program.{method_at, class_at}
use Rattle.jo_prog.specs.Hierarchy.{search_from, select}

-- ---- what a method is

-- one of java/lang/Thread that the machine runs itself
abbrev pub is_machine_method : List ℕ → Method → Bool
is_machine_method name method =
    method.class == thread_number && bytes_eq method.name name && bytes_eq method.desc (codes "()V")

-- an abstract method is nothing that can be taken
abbrev pub taken_as : ℕ → Method → Taken
taken_as m method =
    if is_some method.code then Code m
    else if is_machine_method (codes "start") method then Start
    else if is_machine_method (codes "join") method then Join
    else if has_flag native_flag method.flags then Native m
    else Nothing

abbrev pub taken_if : ℕ → Option Method → Taken
taken_if m None = Nothing
taken_if m (Some method) = taken_as m method

abbrev pub taken_from : Program → Option ℕ → Taken
taken_from program None = Nothing
taken_from program (Some m) = taken_if m (method_at program m)

-- ---- which method a call takes

-- ACC_PRIVATE (4.6)
abbrev pub private_flag : ℕ
private_flag = 0x0002

abbrev pub superclass_at : Program → ℕ → Option ℕ
superclass_at program c = option_and_then (λ (class : Class). class.superclass) (class_at program c)

-- `<init>`, a private method or one of the current class is taken as it was resolved
abbrev pub is_taken_as_resolved : ℕ → Method → Bool
is_taken_as_resolved current method =
    bytes_eq method.name (codes "<init>") || has_flag private_flag method.flags || method.class == current

-- for invokespecial: else the search begins at the direct superclass of the current class
abbrev pub special_in : Program → ℕ → ℕ → Option Method → Option ℕ
special_in program current m None = None
special_in program current m (Some method) =
    if is_taken_as_resolved current method then Some m
    else option_and_then (λ c. search_from program c method.name method.desc) (superclass_at program current)

abbrev pub special : Program → ℕ → ℕ → Option ℕ
special program current m = special_in program current m (method_at program m)

-- an array selects as java/lang/Object does
abbrev pub receiver_class : TypeRef → ℕ
receiver_class (OfClass c) = c
receiver_class (OfArray desc) = object_number

-- What a call with this opcode in a class takes for the method that it resolves to and the class of its receiver: invokestatic
-- (184) that method, invokespecial (183) what it finds without the receiver, invokevirtual and invokeinterface what the receiver's
-- class selects.
abbrev pub takes : Program → ℕ → ℕ → ℕ → ℕ → Taken
takes program op current m receiver =
    if op == 184 then taken_from program (Some m)
    else if op == 183 then taken_from program (special program current m)
    else taken_from program (select program receiver m)

-- the method `run` that a class selects for a thread that is started
abbrev pub run_of : Program → ℕ → Taken
run_of program c = taken_from program (search_from program c (codes "run") (codes "()V"))
