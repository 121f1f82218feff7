-- What the grammar of class files and linking give to the methods of a program, apart from the faults that are found in it (JVM
-- Specification SE 8, 4.1, 4.6 and 4.7.3).
use Rattle.std.specs.Prelude.{◌≡◌, ℕ, true, false, Contains, Some, codes}
use Rattle.jo_insn.specs.AccessFlags.{has_flag, static_flag, native_flag, abstract_flag}
use Rattle.jo_prog.specs.declared.calls.Taken.TheVariants.{Nothing}
use Rattle.jo_prog.specs.declared.program.Program.{Program}
use Rattle.jo_prog.specs.declared.program.Class.{Class}
use Rattle.jo_prog.specs.declared.program.Code.{Code}
use Rattle.jo_prog.specs.declared.program.Method.{Method}
use Rattle.jo_prog.specs.declared.program.TypeRef.TheVariants.{Class as OfClass}
use Rattle.jo_prog.specs.Calls.{taken_from}
use Rattle.jo_prog.specs.FileClasses.{is_of_files}
use Rattle.jo_prog.specs.Hierarchy.{own_method}
use Rattle.jo_prog.specs.PreludeClasses.{object_number, thread_number}
use Rattle.jo_prog.specs.Program.{class_at, method_at}
use Rattle.jo_prog.specs.Shapes.{is_interface}
use Rattle.step_laws.specs.TypedStates.{has_objects}

pub record HasSoundBodies (program : Program) : Type 0 where
  -- a method that a class lists is of that class
  pub of_class : (c m : ℕ) (class : Class) (method : Method) → class_at program c ≡ Some class → Contains class.methods m → method_at program m ≡ Some method → method.class ≡ c
  -- no method of an interface has code
  pub interfaces : (m : ℕ) (method : Method) (code : Code) → method_at program m ≡ Some method → method.code ≡ Some code → is_interface program (OfClass method.class) ≡ false
  -- a method that has no code, isn't native and isn't the machine's is abstract
  pub kinds : (m : ℕ) (method : Method) → method_at program m ≡ Some method → taken_from program (Some m) ≡ Nothing → has_flag abstract_flag method.flags ≡ true
  -- each class but java/lang/Object has a superclass
  pub superclasses : (c : ℕ) (class : Class) → class_at program c ≡ Some class → (c ≡ object_number → ⊥) → (s : ℕ) × (class.superclass ≡ Some s)
  -- java/lang/Object may have objects, and java/lang/Thread is a class
  pub object : (class : Class) × (class_at program object_number ≡ Some class) × (has_objects class ≡ true)
  pub thread : is_interface program (OfClass thread_number) ≡ false

-- the methods of the prelude's classes
pub record HasPreludeMethods (program : Program) : Type 0 where
  pub no_native : (m : ℕ) (method : Method) → method_at program m ≡ Some method → is_of_files program method ≡ false → has_flag native_flag method.flags ≡ false
  -- those of java/lang/Thread are of instances, and run is one
  pub thread_instances : (m : ℕ) (method : Method) → method_at program m ≡ Some method → method.class ≡ thread_number → has_flag static_flag method.flags ≡ false
  pub thread_run : (r : ℕ) × (own_method program (codes "run") (codes "()V") thread_number ≡ Some r)
