-- Instructions of the class file with the effects that typing gives them (JVM Specification SE 8, 4.9.1, 4.10.1 and 6.5). What their
-- operands must be is so in a program that was linked from class files that were read.
use Rattle.std.specs.Prelude.{◌≡◌, ℕ, Bool, true, false, ◌==◌, ◌||◌, ◌<◌, ◌^◌, List, Option, Some, Ok, FitsSigned}
use Rattle.std.specs.Int.{w32}
use Rattle.std.specs.List.{list_any, AllByRecursion}
use Rattle.jo_text.specs.declared.descriptors.FieldDesc.{FieldDesc}
use Rattle.jo_text.specs.declared.descriptors.MethodDesc.{MethodDesc}
use Rattle.jo_insn.specs.Instructions.{decoded}
use Rattle.jo_insn.specs.declared.instructions.Insn.{Insn}
use Rattle.jo_insn.specs.declared.instructions.Insn.TheVariants.{Pooled}
use Rattle.jo_prog.specs.declared.program.Class.{Class}
use Rattle.jo_prog.specs.declared.program.Code.{Code}
use Rattle.jo_prog.specs.declared.program.TypeRef.{TypeRef}
use Rattle.jo_prog.specs.declared.program.TypeRef.TheVariants.{Class as OfClass}
use Rattle.jo_prog.specs.declared.program.MemberRef.{MemberRef}
use Rattle.jo_prog.specs.declared.program.Operand.{Operand}
use Rattle.jo_prog.specs.declared.program.Operand.TheVariants.{Int as IntOperand, Text, OfType, Member}
use Rattle.jo_prog.specs.Program.{class_at, operand_at}
use Rattle.jo_prog.specs.Constants.{string_address}
use Rattle.jo_prog.specs.MethodTypes.{field_desc_in}
use Rattle.jo_prog.specs.Operations.{within}
use Rattle.jo_prog.specs.Values.{array}
use Rattle.machine.specs.Invocation.{type_of}
use Rattle.step_laws.specs.TypedStates.{has_dims, has_objects}
use Rattle.jo_prog.specs.declared.program.Program.{Program}
use Rattle.jo_prog.specs.Shapes.{Need, Nothing, Effect, takes_type}
use Rattle.jo_prog.specs.InsnTyping.{result_kind_of, plain_effect}
use Rattle.jo_prog.specs.TypingPaths.{Typable, Step, IsTypable, TypingPath, arrives_at}
use Rattle.machine.specs.Instructions.{Instruction, plain_instruction, element_type, field_named}
use Rattle.step_laws.specs.Effects.{HasEffect, HasType, HasField, IsStaticOf}

abbrev pub is_nothing : Need → Bool
is_nothing Nothing = true
is_nothing _ = false

-- some place is asked for what no place has, as by a return that isn't the method's
abbrev pub asks_nothing : List Need → Bool
asks_nothing needs = list_any is_nothing needs

-- the opcode without operands, in a method of that type, is an instruction whose effect is that of typing
pub record HasPlainEffect (program : Program) (type : Option MethodDesc) (op : ℕ) : Type 0 where
  pub instruction : Instruction
  pub is : plain_instruction type op ≡ Some instruction
  pub has : HasEffect program instruction (plain_effect (result_kind_of program type) op)

-- it is an instruction with that effect
pub record IsInstructionWith (program : Program) (found : Option Instruction) (effect : Effect) : Type 0 where
  pub instruction : Instruction
  pub is : found ≡ Some instruction
  pub has : HasEffect program instruction effect

-- ---- operands

-- what a new (187) makes is a class of the program that may have objects, the array type that an anewarray (189) makes is a subtype of itself, and an array
-- type has a dimension
pub record IsSoundType (program : Program) (op : ℕ) (type : TypeRef) : Type 0 where
  pub made : op ≡ 187 → (c : ℕ) × (class : Class) × (type ≡ OfClass c) × (class_at program c ≡ Some class) × (has_objects class ≡ true)
  pub elements : op ≡ 189 → takes_type program (type_of (array (element_type program type) 0)) (type_of (array (element_type program type) 0)) ≡ true
  pub dims : has_dims type ≡ true

-- The field that a reference names is there: a static one for getstatic and putstatic (178, 179), else one that each object of the named
-- type has.
pub record IsSoundField (program : Program) (op : ℕ) (ref : MemberRef) : Type 0 where
  pub field : ℕ
  pub type : FieldDesc
  pub is_named : field_named program ref ≡ Some field
  pub is_typed : field_desc_in ref.desc ≡ Some type
  pub static : (op == 178 || op == 179) ≡ true → IsStaticOf program field type
  pub own : (op == 178 || op == 179) ≡ false → HasType program field type
  pub held : (op == 178 || op == 179) ≡ false → HasField program ref.owner field

-- an int is one of 32 bits, a text has an object, and what 178 to 181 name is such a field
abbrev pub IsSoundOperand : Program → ℕ → Option Operand → Type 0
IsSoundOperand program op (Some (IntOperand z)) = FitsSigned w32 z
IsSoundOperand program op (Some (Text text)) = (a : ℕ) × (string_address program text ≡ Some a)
IsSoundOperand program op (Some (OfType type)) = IsSoundType program op type
IsSoundOperand program op (Some (Member ref)) = within 178 181 op ≡ true → IsSoundField program op ref
IsSoundOperand program op operand = Unit {0}

abbrev pub IsSoundInsn : Program → ℕ → Insn → Type 0
IsSoundInsn program m (Pooled op index) = IsSoundOperand program op (operand_at program m index)
IsSoundInsn program m insn = Unit {0}

-- one of the four calls
abbrev pub is_call : Insn → Bool
is_call (Pooled op index) = within 182 185 op
is_call insn = false

-- a typing path arrives at a pc of a method
pub record IsReached (program : Program) (m pc : ℕ) : Type 0 where
  pub typable : Typable
  pub is_typable : IsTypable program m typable
  pub path : List Step
  pub is_path : TypingPath program typable path
  pub arrives : arrives_at path ≡ pc

-- code of bytes, whose instructions have sound operands where typing's paths arrive at them
pub record HasSoundCode (program : Program) (m : ℕ) (code : Code) : Type 0 where
  pub bytes : AllByRecursion (λ byte. byte < 2 ^ 8) code.bytes
  pub operands : (pc next : ℕ) (insn : Insn) → IsReached program m pc → decoded code.bytes pc ≡ Ok (insn, next) → IsSoundInsn program m insn
