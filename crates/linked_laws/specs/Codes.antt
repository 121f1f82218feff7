-- What the grammar of class files and linking give to the pools, members and code of a program, apart from the faults that are found in
-- it (JVM Specification SE 8, 4.1, 4.3, 4.4, 4.7.3 and 4.9.1).
use Rattle.std.specs.Prelude.{◌≡◌, ℕ, true, false, ◌<◌, ◌^◌, [], length, Some, slice_get, FitsSigned, ℤ, pos, ◌⊎◌}
use Rattle.std.specs.Int.{w32}
use Rattle.std.specs.List.{Contains, AllByRecursion}
use Rattle.jo_text.specs.declared.descriptors.Base.{Base}
use Rattle.jo_text.specs.declared.descriptors.Base.TheVariants.{Class as OfName}
use Rattle.jo_text.specs.declared.descriptors.FieldDesc.{FieldDesc}
use Rattle.jo_insn.specs.AccessFlags.{has_flag, static_flag}
use Rattle.jo_insn.specs.declared.instructions.Insn.TheVariants.{Pooled}
use Rattle.jo_insn.specs.declared.jumps.Placed.{Placed}
use Rattle.jo_insn.specs.Jumps.{targets_of}
use Rattle.class_pool.specs.ClassGrammar.{IsStart}
use Rattle.jo_prog.specs.declared.program.Row.{Row}
use Rattle.jo_prog.specs.declared.program.Program.{Program}
use Rattle.jo_prog.specs.declared.program.Class.{Class}
use Rattle.jo_prog.specs.declared.program.Code.{Code}
use Rattle.jo_prog.specs.declared.program.Field.{Field}
use Rattle.jo_prog.specs.declared.program.Method.{Method}
use Rattle.jo_prog.specs.declared.program.MemberRef.{MemberRef}
use Rattle.jo_prog.specs.declared.program.Operand.{Operand}
use Rattle.jo_prog.specs.declared.program.Operand.TheVariants.{Int as IntOperand, OfType, Member}
use Rattle.jo_prog.specs.declared.program.TypeRef.{TypeRef}
use Rattle.jo_prog.specs.declared.program.TypeRef.TheVariants.{Class as OfClass, Array as OfArray}
use Rattle.jo_prog.specs.Program.{class_at, method_at, operand_at}
use Rattle.jo_prog.specs.PreludeClasses.{object_number}
use Rattle.jo_prog.specs.MethodTypes.{field_desc_in}
use Rattle.jo_prog.specs.Types.{class_named}
use Rattle.jo_prog.specs.Shapes.{is_interface}
use Rattle.jo_prog.specs.Sites.{insns_in}
use Rattle.hierarchy.specs.Resolutions.{is_of_method}
use Rattle.program_faults.specs.UsedOperands.{methods_of}

-- ---- pools

abbrev pub IsBaseThere : Program → Base → Type 0
IsBaseThere program (OfName name) = (c : ℕ) × (class_named program name ≡ Some c)
IsBaseThere program base = Unit {0}

-- a class of the program, or an array with a dimension whose elements are of primitive types or such a class
abbrev pub IsTypeThere : Program → TypeRef → Type 0
IsTypeThere program (OfClass c) = (class : Class) × (class_at program c ≡ Some class)
IsTypeThere program (OfArray desc) = (0 < desc.dims) × IsBaseThere program desc.base

-- a member that is no method has a type
abbrev pub HasItsType : MemberRef → Type 0
HasItsType ref = is_of_method ref.desc ≡ false → (type : FieldDesc) × (field_desc_in ref.desc ≡ Some type)

abbrev pub IsSoundEntry : Program → Operand → Type 0
IsSoundEntry program (IntOperand z) = FitsSigned w32 z
IsSoundEntry program (OfType type) = IsTypeThere program type
IsSoundEntry program (Member ref) = HasItsType ref
IsSoundEntry program operand = Unit {0}

-- each entry of the pool of each class is sound
abbrev pub HasSoundPools : Program → Type 0
HasSoundPools program = (c k : ℕ) (class : Class) (operand : Operand) → class_at program c ≡ Some class → slice_get class.operands k ≡ Some operand → IsSoundEntry program operand

-- ---- members

pub record HasSoundMembers (program : Program) : Type 0 where
  -- a method is listed by its class
  pub listed : (m : ℕ) (method : Method) → method_at program m ≡ Some method → Contains (methods_of program method.class) m
  -- the fields of interfaces are static
  pub interface_fields : (c f : ℕ) (class : Class) (field : Field) → class_at program c ≡ Some class → is_interface program (OfClass c) ≡ true
      → Contains class.fields f → slice_get program.fields f ≡ Some field → has_flag static_flag field.flags ≡ true
  -- java/lang/Object has no fields
  pub object_fields : (class : Class) → class_at program object_number ≡ Some class → class.fields ≡ []

-- ---- code

-- The instructions stand one behind another up to the end of the code, and where they go on, jump and are caught stand others.
pub record HasWholeInsns (code : Code) : Type 0 where
  pub short : length code.bytes < 2 ^ 16
  pub first : IsStart (insns_in code.bytes) (pos 0)
  pub behind : (placed : Placed) → Contains (insns_in code.bytes) placed → (placed.next ≡ length code.bytes) ⊎ IsStart (insns_in code.bytes) (pos placed.next)
  pub jumps : (placed : Placed) → Contains (insns_in code.bytes) placed → (target : ℤ) → Contains (targets_of code.bytes placed.pc placed.insn) target
      → IsStart (insns_in code.bytes) target
  pub handlers : (k : ℕ) (row : Row) → slice_get code.rows k ≡ Some row → IsStart (insns_in code.bytes) (pos row.handler)

pub record HasSoundInsns (program : Program) (m : ℕ) (code : Code) : Type 0 where
  pub bytes : AllByRecursion (λ byte. byte < 2 ^ 8) code.bytes
  pub whole : HasWholeInsns code
  -- a new (187) names no array
  pub new_classes : (pc next index : ℕ) (type : TypeRef) → Contains (insns_in code.bytes) (record { pc = pc; insn = Pooled 187 index; next = next })
      → operand_at program m index ≡ Some (OfType type) → (c : ℕ) × (type ≡ OfClass c)
