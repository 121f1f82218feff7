-- What stands in a program: its parts by their numbers, the instruction at a pc, and the method that it names.
use Rattle.std.specs.Prelude.{ℕ, ◌^◌, ◌<◌, refl, Bool, false, ◌&&◌, nat_lt, if◌then◌else◌, List, [], ◌∷◌, length, Option, Some, None, Result, Ok, Err, option_and_then, slice_get}
use Rattle.std.specs.List.{position_from}
use Rattle.std.specs.Str.{bytes_eq}
use Rattle.jo_insn.specs.Instructions.{decoded}
use Rattle.jo_insn.specs.declared.instructions.Insn.{Insn}
use Rattle.jo_insn.specs.declared.instructions.InsnFault.{InsnFault}
use Rattle.jo_prog.specs.declared.operations.Operation.{Operation}
use Rattle.jo_prog.specs.declared.operations.Operation.TheVariants.{InvokeStatic}
use Rattle.jo_prog.specs.Operations.{operation_of}
use Rattle.jo_prog.specs.Sites.{sites_of}
use Rattle.jo_prog.specs.declared.program.Program.{Program}
use Rattle.jo_prog.specs.declared.program.Class.{Class}
use Rattle.jo_prog.specs.declared.program.Field.{Field}
use Rattle.jo_prog.specs.declared.program.Method.{Method}
use Rattle.jo_prog.specs.declared.program.Code.{Code}
use Rattle.jo_prog.specs.declared.program.TypeRef.{TypeRef}
use Rattle.jo_prog.specs.declared.program.TypeRef.TheVariants.{Class as OfClass, Array as OfArray}
use Rattle.jo_prog.specs.declared.program.Operand.{Operand}
use Rattle.jo_prog.specs.declared.program.Operand.TheVariants.{Member}

-- the program with these parts; they alone determine its sites
abbrev pub program_with : List Class → List Field → List Method → Program
program_with classes fields methods = record { classes = classes; fields = fields; methods = methods; sites = sites_of methods; sites_are = refl }

-- each part has a number
pub record HasNumbers (program : Program) : Type 0 where
  pub classes : length program.classes < 2 ^ 32
  pub fields : length program.fields < 2 ^ 32
  pub methods : length program.methods < 2 ^ 32
  pub sites : length program.sites < 2 ^ 32

abbrev pub method_at : Program → ℕ → Option Method
method_at program m = slice_get program.methods m

abbrev pub class_at : Program → ℕ → Option Class
class_at program c = slice_get program.classes c

abbrev pub code_at : Program → ℕ → Option Code
code_at program m = option_and_then (λ (method : Method). method.code) (method_at program m)

-- what the instruction at a pc of a method does, and the next pc
abbrev pub as_operation : Result (Insn × ℕ) InsnFault → Option (Operation × ℕ)
as_operation (Ok found) = Some (operation_of found.0, found.1)
as_operation (Err fault) = None

-- code has fewer than 65,536 bytes (JVMS 4.7.3), so longer code has no instructions
abbrev pub operation_in : Option Code → ℕ → Option (Operation × ℕ)
operation_in None pc = None
operation_in (Some code) pc = if nat_lt (length code.bytes) (2 ^ 16) then as_operation (decoded code.bytes pc) else None

abbrev pub operation_at : Program → ℕ → ℕ → Option (Operation × ℕ)
operation_at program m pc = operation_in (code_at program m) pc

-- ---- the method that a call names (JVMS 5.4.3.3)

-- the first of these methods with that name and descriptor
abbrev pub has_signature : List ℕ → List ℕ → Option Method → Bool
has_signature name desc None = false
has_signature name desc (Some method) = bytes_eq method.name name && bytes_eq method.desc desc

abbrev pub first_with : Program → List ℕ → List ℕ → List ℕ → Option ℕ
first_with program name desc [] = None
first_with program name desc (m ∷ ms) = if has_signature name desc (method_at program m) then Some m else first_with program name desc ms

-- the method that a class resolves. Here no superclass has a member, so it is one of the class itself.
abbrev pub resolve : Program → ℕ → List ℕ → List ℕ → Option ℕ
resolve program c name desc = option_and_then (λ (class : Class). first_with program name desc class.methods) (class_at program c)

abbrev pub resolve_owned : Program → TypeRef → List ℕ → List ℕ → Option ℕ
resolve_owned program (OfClass c) name desc = resolve program c name desc
resolve_owned program (OfArray desc) name d = None

abbrev pub resolve_operand : Program → Option Operand → Option ℕ
resolve_operand program (Some (Member ref)) = resolve_owned program ref.owner ref.name ref.desc
resolve_operand program _ = None

-- the operand with that pool index in the class of a method
abbrev pub operand_at : Program → ℕ → ℕ → Option Operand
operand_at program m index = option_and_then (λ (class : Class). slice_get class.operands index)
    (option_and_then (λ (method : Method). class_at program method.class) (method_at program m))

-- the method that the call at a pc of a method names
abbrev pub callee_of : Program → ℕ → Option (Operation × ℕ) → Option ℕ
callee_of program m (Some (InvokeStatic index, next)) = resolve_operand program (operand_at program m index)
callee_of program m _ = None

abbrev pub callee_at : Program → ℕ → ℕ → Option ℕ
callee_at program m pc = callee_of program m (operation_at program m pc)

-- ---- a method by its spelling

abbrev pub is_class_named : List ℕ → Class → Bool
is_class_named name class = bytes_eq class.name name

-- the first class with that name
abbrev pub class_named : Program → List ℕ → Option ℕ
class_named program name = position_from (is_class_named name) 0 program.classes

-- the first method of that class with that name and descriptor
abbrev pub find : Program → List ℕ → List ℕ → List ℕ → Option ℕ
find program class name desc = option_and_then (λ c. resolve program c name desc) (class_named program class)
