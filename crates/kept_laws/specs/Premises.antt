-- What laws on calls and on whole states ask of a program, of its labels and of inputs: each is so in a program that was linked from class
-- files and typed, under a policy without a fault (JVM Specification SE 8, 4.6, 5.4.3.3, 5.4.6 and 6.5; labels and inputs are this
-- project's own).
use Rattle.std.specs.Prelude.{◌≡◌, ℕ, true, false, ◌==◌, ◌||◌, List, Contains, Some, Ok, FitsSigned}
use Rattle.std.specs.Int.{w32}
use Rattle.jo_insn.specs.AccessFlags.{has_flag, static_flag}
use Rattle.jo_insn.specs.Instructions.{decoded}
use Rattle.jo_insn.specs.declared.instructions.Insn.TheVariants.{Pooled}
use Rattle.jo_prog.specs.declared.calls.Taken.TheVariants.{Code as TakesCode, Start, Join, Native, Nothing}
use Rattle.jo_prog.specs.declared.labels.Label.{Label}
use Rattle.jo_prog.specs.declared.labels.Labels.{Labels}
use Rattle.jo_prog.specs.declared.program.Program.{Program}
use Rattle.jo_prog.specs.declared.program.Class.{Class}
use Rattle.jo_prog.specs.declared.program.Code.{Code}
use Rattle.jo_prog.specs.declared.program.Method.{Method}
use Rattle.jo_prog.specs.declared.program.MemberRef.{MemberRef}
use Rattle.jo_prog.specs.declared.program.Operand.TheVariants.{Member}
use Rattle.jo_prog.specs.declared.program.TypeRef.TheVariants.{Class as OfClass}
use Rattle.jo_prog.specs.declared.runs.SourceInput.{SourceInput}
use Rattle.jo_prog.specs.Calls.{taken_from, takes, run_of}
use Rattle.jo_prog.specs.Hierarchy.{is_subtype, own_method, is_static_method, select}
use Rattle.jo_prog.specs.Labels.{label_of}
use Rattle.jo_prog.specs.Machine.{input_at}
use Rattle.jo_prog.specs.Operations.{within}
use Rattle.jo_prog.specs.PlainCode.{desc_for}
use Rattle.jo_prog.specs.PreludeClasses.{object_number, thread_number}
use Rattle.jo_prog.specs.Program.{class_at, method_at, code_at, operand_at}
use Rattle.jo_prog.specs.Shapes.{is_interface}
use Rattle.machine.specs.Instructions.{method_named}
use Rattle.machine.specs.Steps.{class_of_method}
use Rattle.step_laws.specs.Premises.{HasSoundHierarchy}
use Rattle.step_laws.specs.Tables.{IsReached, HasSoundCode}
use Rattle.step_laws.specs.TypedStates.{has_objects}
use Rattle.kept_laws.specs.Going.{HasRaisedClasses}
use Rattle.kept_laws.specs.Paths.{AreAllTyped}

-- ---- calls

-- What a call in a class names, by its opcode: a static method for invokestatic (184) alone, a method of no interface for invokevirtual
-- and invokespecial (182, 183); and where the receiver plays no part (183, 184), one that can be taken.
pub record IsSoundCall (program : Program) (current op : ℕ) (ref : MemberRef) : Type 0 where
  pub named : ℕ
  pub is_named : method_named program ref ≡ Some named
  pub static : is_static_method (method_at program named) ≡ (op == 184)
  pub of_class : (op == 182 || op == 183) ≡ true → is_interface program ref.owner ≡ false
  pub body : (op == 183 || op == 184) ≡ true → (receiver : ℕ) → takes program op current named receiver ≡ Nothing → ⊥

-- each call of a method at which a typing path arrives
pub record HasSoundCalls (program : Program) (m : ℕ) (code : Code) : Type 0 where
  pub calls : (pc next op index : ℕ) (ref : MemberRef) → IsReached program m pc → decoded code.bytes pc ≡ Ok (Pooled op index, next) → within 182 185 op ≡ true
      → operand_at program m index ≡ Some (Member ref) → IsSoundCall program (class_of_method (method_at program m)) op ref

-- ---- methods

pub record HasSoundMethods (program : Program) : Type 0 where
  -- a method that a class lists is of that class
  pub of_class : (c m : ℕ) (class : Class) (method : Method) → class_at program c ≡ Some class → Contains class.methods m → method_at program m ≡ Some method → method.class ≡ c
  -- no method of an interface has code
  pub bodies : (m : ℕ) (code : Code) → code_at program m ≡ Some code → is_interface program (OfClass (class_of_method (method_at program m))) ≡ false
  -- a class that may have objects selects one that can be taken for each instance method that it or a class above it declares
  pub selected : (c above m : ℕ) (class : Class) (method : Method) → class_at program c ≡ Some class → has_objects class ≡ true → is_subtype program c above ≡ true
      → own_method program method.name method.desc above ≡ Some m → method_at program m ≡ Some method → is_static_method (method_at program m) ≡ false
      → taken_from program (select program c m) ≡ Nothing → ⊥
  -- java/lang/Object may have objects
  pub object : (class : Class) × (class_at program object_number ≡ Some class) × (has_objects class ≡ true)

-- java/lang/Thread is a class whose start and join are instance methods, and a class of threads has a method run with code
pub record HasThreadMethods (program : Program) : Type 0 where
  pub thread_class : is_interface program (OfClass thread_number) ≡ false
  pub start : (m : ℕ) → taken_from program (Some m) ≡ Start → is_static_method (method_at program m) ≡ false
  pub join : (m : ℕ) → taken_from program (Some m) ≡ Join → is_static_method (method_at program m) ≡ false
  pub run : (c : ℕ) (class : Class) → class_at program c ≡ Some class → has_objects class ≡ true → is_subtype program c thread_number ≡ true → (m : ℕ) × (run_of program c ≡ TakesCode m)

-- ---- labels and inputs

-- a native method is static, and has a label and the descriptor of that
pub record IsLabelled (program : Program) (labels : Labels) (m : ℕ) : Type 0 where
  pub method : Method
  pub is_method : method_at program m ≡ Some method
  pub is_static : has_flag static_flag method.flags ≡ true
  pub label : Label
  pub is_labelled : label_of labels m ≡ Some label
  pub shape : method.desc ≡ desc_for label

abbrev pub AreNativesLabelled : Program → Labels → Type 0
AreNativesLabelled program labels = (m : ℕ) → taken_from program (Some m) ≡ Native m → IsLabelled program labels m

-- what a source gives is an int of 32 bits
abbrev pub AreInts : List SourceInput → Type 0
AreInts inputs = (source place : ℕ) → FitsSigned w32 (input_at inputs source place)

-- ---- all

pub record HasPremises (program : Program) (labels : Labels) (inputs : List SourceInput) : Type 0 where
  pub hierarchy : HasSoundHierarchy program
  pub raised : HasRaisedClasses program
  pub all_typed : AreAllTyped program
  pub code : (m : ℕ) (code : Code) → code_at program m ≡ Some code → HasSoundCode program m code
  pub calls : (m : ℕ) (code : Code) → code_at program m ≡ Some code → HasSoundCalls program m code
  pub methods : HasSoundMethods program
  pub threads : HasThreadMethods program
  pub natives : AreNativesLabelled program labels
  pub ints : AreInts inputs
