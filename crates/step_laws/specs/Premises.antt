-- What laws on steps ask of a program: each is so in a program that was linked from class files that were read, and was typed (JVM
-- Specification SE 8, 4.1, 4.4.1, 4.10.1.2 and 5.3.5).
use Rattle.std.specs.Prelude.{◌≡◌, ◌⊎◌, ℕ, true, false, [], Contains, Some}
use Rattle.jo_prog.specs.declared.program.Program.{Program}
use Rattle.jo_prog.specs.declared.program.Class.{Class}
use Rattle.jo_prog.specs.declared.program.TypeRef.{TypeRef}
use Rattle.jo_prog.specs.declared.program.TypeRef.TheVariants.{Class as OfClass}
use Rattle.jo_prog.specs.Program.{class_at}
use Rattle.jo_prog.specs.PreludeClasses.{object_name, object_number}
use Rattle.jo_prog.specs.Hierarchy.{parents_of, HasNoCycle, is_subtype}
use Rattle.jo_prog.specs.Types.{class_named, type_fits}
use Rattle.jo_prog.specs.Shapes.{is_interface}
use Rattle.jo_prog.specs.InsnTyping.{throwable}

-- Superclasses and interfaces of the classes of a program.
pub record HasSoundHierarchy (program : Program) : Type 0 where
  -- no class is above itself
  pub no_cycle : HasNoCycle program
  -- java/lang/Object has its number, and nothing above it
  pub object_named : class_named program object_name ≡ Some object_number
  pub object_first : parents_of program object_number ≡ []
  -- each class is below it
  pub below_object : (c : ℕ) (class : Class) → class_at program c ≡ Some class → is_subtype program c object_number ≡ true
  -- above an interface stand interfaces and java/lang/Object alone
  pub interfaces : (c p : ℕ) → is_interface program (OfClass c) ≡ true → Contains (parents_of program c) p
      → (is_interface program (OfClass p) ≡ true) ⊎ (p ≡ object_number)
  -- java/lang/Throwable is a class
  pub throwable_class : is_interface program throwable ≡ false

-- the type is a subtype of java/lang/Object, as each array type is
abbrev pub IsBelowObject : Program → TypeRef → Type 0
IsBelowObject program type = type_fits program type (OfClass object_number) ≡ true
