-- Superclasses and interfaces that can't stand where they do (JVM Specification SE 8, 4.1 and 5.3.5).
use Rattle.std.specs.Prelude.{◌≡◌, ◌⊎◌, ℕ, Bool, true, false, ◌==◌, ◌&&◌, ◌||◌, not, nat_lt, if◌then◌else◌, Option, Some, None}
use Rattle.std.specs.List.{Contains, list_any}
use Rattle.jo_insn.specs.AccessFlags.{has_flag}
use Rattle.jo_prog.specs.declared.program.Program.{Program}
use Rattle.jo_prog.specs.declared.program.Class.{Class}
use Rattle.jo_prog.specs.PreludeClasses.{object_number}
use Rattle.jo_prog.specs.Program.{class_at}
use Rattle.jo_prog.specs.Calls.{superclass_at}
use Rattle.jo_prog.specs.Hierarchy.{interfaces_of, IsAboveItself}
use Rattle.hierarchy.specs.declared.HierarchyFault.{HierarchyFault}
use Rattle.hierarchy.specs.declared.HierarchyFault.TheVariants.{Cyclic, Memory}
use Rattle.program_faults.specs.FirstFaults.{IsFirst}

-- ACC_INTERFACE (4.1)
abbrev pub interface_flag : ℕ
interface_flag = 0x0200

abbrev pub is_interface_in : Option Class → Bool
is_interface_in None = false
is_interface_in (Some class) = has_flag interface_flag class.flags

-- the class with that number is an interface
abbrev pub is_interface : Program → ℕ → Bool
is_interface program c = is_interface_in (class_at program c)

-- A class has an interface for its superclass, or a class among its interfaces; or it is an interface whose superclass isn't
-- java/lang/Object.
pub data HasMisplacedParent (program : Program) (c : ℕ) : Type 0 where
  extends_interface : (s : ℕ) → superclass_at program c ≡ Some s → is_interface program s ≡ true → HasMisplacedParent program c
  implements_class : (i : ℕ) → Contains (interfaces_of program c) i → is_interface program i ≡ false → HasMisplacedParent program c
  interface_elsewhere : is_interface program c ≡ true → (superclass_at program c ≡ Some object_number → ⊥) → HasMisplacedParent program c

-- or it is above itself
abbrev pub IsCyclicSuper : Program → ℕ → Type 0
IsCyclicSuper program c = IsAboveItself program c ⊎ HasMisplacedParent program c

-- the first such class, or no claim where memory is wanting
abbrev pub IsSuperFault : Program → HierarchyFault → Type 0
IsSuperFault program (Cyclic c) = IsFirst (IsCyclicSuper program) c
IsSuperFault program Memory = Unit {0}

-- ---- misplaced parents as a test

abbrev pub is_some_interface : Program → Option ℕ → Bool
is_some_interface program None = false
is_some_interface program (Some s) = is_interface program s

abbrev pub is_object : Option ℕ → Bool
is_object None = false
is_object (Some s) = s == object_number

abbrev pub is_no_interface : Program → ℕ → Bool
is_no_interface program i = not (is_interface program i)

abbrev pub misplaces_parent : Program → Option Class → Bool
misplaces_parent program None = false
misplaces_parent program (Some class) =
    is_some_interface program class.superclass || (list_any (is_no_interface program) class.interfaces
    || (has_flag interface_flag class.flags && not (is_object class.superclass)))

-- the earlier of two classes
abbrev pub earlier : ℕ → Option ℕ → ℕ
earlier a None = a
earlier a (Some b) = if nat_lt b a then b else a

abbrev pub earlier_fault : HierarchyFault → Option ℕ → HierarchyFault
earlier_fault (Cyclic c) other = Cyclic (earlier c other)
earlier_fault Memory other = Memory
